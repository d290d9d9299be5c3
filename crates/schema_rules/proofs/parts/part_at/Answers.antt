use Rattle.std.proofs.Common.{refl, subst}
use Rattle.std.proofs.lemmas.Option.{slice_get_read}
use Rattle.json_subset.specs.Documents.{IsPart}
use Rattle.json_values.specs.declared.value.Value.{Value}
use Rattle.schema_rules.proofs.parts.part_at.Goals as goal

pub returns-clause-part : goal.returns-clause-part
returns-clause-part c =
    let P : Value → Type 0 = λ x. IsPart c.args.case.now.doc.now x.id in
    subst P c.index-case-i.is (c.requires.sound.mirror c.args.i c.index-case-i.result (slice_get_read _ _ _ _ refl c.requires.stands c.index-case-i.is)).stands
