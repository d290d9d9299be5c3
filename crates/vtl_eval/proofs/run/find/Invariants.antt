use Rattle.std.proofs.Common.{◌≡◌, drop}
use Rattle.vtl_eval.specs.Views.{names_of}
use Rattle.vtl_eval.proofs.run.find.Given as goal

abbrev pub invariant-loop-entry : goal.invariant-loop-entry
invariant-loop-entry l = names_of l.run.names.items l.name ≡ names_of (drop l.entry-index l.run.names.items) l.name
