use Rattle.std.proofs.Common.{rules, of_calls}
use Rattle.std.specs.Cmp.Lexicographic.{slice_cmp}
use Rattle.std.specs.Ordering.{nat_cmp, ordering_then}
use Rattle.std.proofs.lemmas.Fn.{always_returns_same}
use Rattle.keeper_core.proofs.Keys.{placed_join}
use Rattle.keeper_core.proofs.searches.place_of_join.Goals as goal

pub returns : goal.returns
returns c =
    let found = c.binary_search_by.ensures in
    rw c.place_of.ensures (placed_join c.args.plan.now c.args.key.now c.args.rows.now c.requires c.binary_search_by.result found.bound (found.position (λ row. ordering_then (slice_cmp nat_cmp row.plan c.args.plan.now) (slice_cmp nat_cmp row.key c.args.key.now)) (always_returns_same _ _ _ (λ a r f called. search (rules, of_calls)))))
