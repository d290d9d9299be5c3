use Rattle.std.proofs.Common.{◌∙◌, ◌≢◌, length, arith}
use Rattle.std.proofs.lemmas.Bool.Decides.{nat_tests}
use Rattle.resource_tree.proofs.Fronts.{ends_last}
use Rattle.resource_tree.proofs.matching.ends_greedy.Goals as goal

pub returns-then-not-is_empty : goal.returns-then-not-is_empty
returns-then-not-is_empty c =
    let some : length c.args.parts.now ≢ 0 = grind (arith, nat_tests) in
    c.is_greedy.ensures ∙ ends_last c.args.parts.now c.index-parts-parts.result some c.index-parts-parts.is
