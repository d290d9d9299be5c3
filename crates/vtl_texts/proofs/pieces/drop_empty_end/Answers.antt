use Rattle.std.proofs.Common.{◌∙◌, sym, eqb-true}
use Rattle.std.proofs.lemmas.Bool.{eqb-false}
use Rattle.vtl_texts.proofs.Ends.{full_end, empty_end}
use Rattle.vtl_texts.proofs.pieces.drop_empty_end.Goals as goal

pub returns-then-not-is_empty : goal.returns-then-not-is_empty
returns-then-not-is_empty c =
    let at = c.in-Some.ensures.item in
    full_end _ _ c.in-Some.last.now c.deref.ensures.value at.3.0 at.1 (eqb-false _ 0 (sym c.if-not-is_empty.ensures)) ∙ c.loop-last.invariant

pub loop-last-preserved : goal.loop-last-preserved
loop-last-preserved c =
    let at = c.in-Some.ensures.item in
    empty_end _ _ _ c.in-Some.last.now _ c.deref.ensures.value at.3.0 at.1 (eqb-true _ 0 (sym c.if-not-is_empty.ensures)) c.deref.ensures.len c.pop.ensures.rest ∙ c.loop-last.invariant
