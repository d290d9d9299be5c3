use Rattle.std.proofs.Common.{Err, sym, ap, ◌∙◌}
use Rattle.schema_draft4.specs.Reading.{ref_missing}
use Rattle.schema_draft4.proofs.Targets.{target_found, target_missing}
use Rattle.schema_draft4.proofs.reference.target_of.Goals as goal

pub returns-in-Some-clause-gives : goal.returns-in-Some-clause-gives
returns-in-Some-clause-gives c = target_found c.args.defs.now.list.items c.args.name.now c.in-Some.t (sym c.in-Some.ensures)

pub returns-in_ok-named_text-in-None-clause-gives : goal.returns-in_ok-named_text-in-None-clause-gives
returns-in_ok-named_text-in-None-clause-gives c = (target_missing c.args.defs.now.list.items c.args.name.now (sym c.in-None.ensures) ∙ ap (λ z. Err (ref_missing z)) (sym c.in_ok-named_text-in-None.ensures.ok), tt)
