use Rattle.std.proofs.Common.{◌∙◌, ◌<◌, length, sym, arith, leb, ◌≡◌, false, ℕ}
use Rattle.std.proofs.lemmas.Bool.Decides.{nat_tests}
use Rattle.resource_tree.proofs.Fronts.{front_step, front_short}
use Rattle.resource_tree.proofs.matching.takes_last.Goals as goal

pub returns-then-count-segments : goal.returns-then-count-segments
returns-then-count-segments c =
    c.takes.ensures
    ∙ front_step c.args.count c.args.parts.now c.args.segments.now c.index-parts-count.result c.index-segments-count.result c.if-count-eq0.false c.requires.within c.if-count-segments.true c.requires.others c.index-parts-count.is c.index-segments-count.is

not_upto : (a b : ℕ) → b < a → leb a b ≡ false
not_upto a b less = grind (arith, nat_tests)

pub returns-else-count-segments : goal.returns-else-count-segments
returns-else-count-segments c =
    not_upto c.args.count (length c.args.segments.now) c.if-count-segments.false
    ∙ sym (front_short c.args.count c.args.parts.now c.args.segments.now c.if-count-segments.false)
