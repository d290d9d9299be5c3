use Rattle.std.proofs.Common.{◌≡◌}
use Rattle.jsonpath_core.specs.declared.fault.PathFault.TheVariants.{BadPath}
use Rattle.jsonpath_core.specs.Views.{steps_view}
use Rattle.jsonpath_core.proofs.Read.{fails_a_path, reads_steps, fails_where_bad}
use Rattle.jsonpath_core.proofs.Sound.{path_sound}
use Rattle.jsonpath_core.proofs.path.Path.read.Goals as goal

pub returns-in-Err-clause-only : goal.returns-in-Err-clause-only
returns-in-Err-clause-only c = λ steps p. fails_a_path c.args.text.now steps c.in-Err.fault c.in-Err.ensures.gives p

pub returns-in-Err-clause-refused : goal.returns-in-Err-clause-refused
returns-in-Err-clause-refused c = λ at e. let same : c.in-Err.fault ≡ BadPath at = cc in fails_where_bad c.args.text.now at c.in-Err.fault c.in-Err.ensures.gives same

pub returns-in-Ok-clause-spelled : goal.returns-in-Ok-clause-spelled
returns-in-Ok-clause-spelled c = path_sound c.args.text.now (steps_view c.in-Ok.steps.items) c.in-Ok.ensures.gives

pub returns-in-Ok-clause-only : goal.returns-in-Ok-clause-only
returns-in-Ok-clause-only c = λ steps p. reads_steps c.args.text.now (steps_view c.in-Ok.steps.items) steps c.in-Ok.ensures.gives p
