use Rattle.std.proofs.Common.{◌≡◌, ℕ, ◌-◌, [], length, map, drop, sym, ap, subst, ◌∙◌, arith}
use Rattle.std.proofs.Math.Seq.{drop-length}
use Rattle.json_subset.specs.Tree.{Tree, trees_of}
use Rattle.json_values.specs.Values.{plain_of}
use Rattle.json_distinct.specs.Distinct.{are_distinct}
use Rattle.json_distinct.specs.Seeing.{AreSeen}
use Rattle.json_distinct.proofs.Behind.{found_behind, once_at}
use Rattle.json_distinct.proofs.distinct.are_distinct_by_codes.Goals as goal

pub loop-left-init : goal.loop-left-init
loop-left-init c =
    let f : ℕ → Tree = plain_of c.args.values.now in
    let none : drop (length c.args.ids.now) c.args.ids.now ≡ [] = drop-length c.args.ids.now in
    record {
      left = omega arith;
      seen = subst (λ z. AreSeen f c.none_seen-seen.result.by_code c.none_seen-seen.result.others.items z) (sym none) (c.none_seen-seen.ensures.seen f);
      below = c.none_seen-seen.ensures.below (length c.args.values.now);
      so_far = ap (λ z. are_distinct (trees_of (map f z))) none;
    }

pub is_seen-requires-clause-once : goal.is_seen-requires-clause-once
is_seen-requires-clause-once c =
    let stands = c.loop-left.invariant.left in
    let more = c.loop-left-test.true in
    once_at (plain_of c.args.values.now) c.args.ids.now (c.loop-left.left - 1) (omega (arith, stands, more)) c.requires.once

pub returns-then-is_seen : goal.returns-then-is_seen
returns-then-is_seen c =
    let stands = c.loop-left.invariant.left in
    let more = c.loop-left-test.true in
    let found = sym (c.is_seen.ensures (drop c.loop-left.left c.args.ids.now) c.loop-left.invariant.seen) ∙ c.if-is_seen.true in
    sym (found_behind (plain_of c.args.values.now) c.args.ids.now (c.loop-left.left - 1) c.loop-left.left (omega (arith, more)) (omega (arith, stands, more)) found)
