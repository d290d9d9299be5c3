use Rattle.std.proofs.Common.{arith, sym}
use Rattle.std.proofs.lemmas.Bool.{eqb-false}
use Rattle.vtl_texts.specs.Patterns.{literal_of}
use Rattle.vtl_texts.proofs.Plain.{literal_some, each_some}
use Rattle.vtl_texts.proofs.patterns.literal.Goals as goal

pub returns-then-is_empty-clause-value : goal.returns-then-is_empty-clause-value
unfolding literal_of
returns-then-is_empty-clause-value c = rw (← c.if-is_empty.ensures)

pub returns-clause-value : goal.returns-clause-value
unfolding literal_of
returns-clause-value c = simp (sym c.if-is_empty.ensures) c.plain.ensures

pub returns-clause-some : goal.returns-clause-some
returns-clause-some c =
    let full = eqb-false _ 0 (sym c.if-is_empty.ensures) in
    each_some c.plain.result _ (λ bs. literal_some c.args.pattern.now bs c.utf8.pattern (omega (arith, full))) c.plain.ensures
