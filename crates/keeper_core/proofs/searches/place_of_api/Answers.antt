use Rattle.std.proofs.Common.{rules, of_calls}
use Rattle.std.specs.Cmp.Lexicographic.{slice_cmp}
use Rattle.std.specs.Ordering.{nat_cmp}
use Rattle.std.proofs.lemmas.Fn.{always_returns_same}
use Rattle.keeper_core.proofs.Keys.{placed_api}
use Rattle.keeper_core.proofs.searches.place_of_api.Goals as goal

pub returns : goal.returns
returns c =
    let found = c.binary_search_by.ensures in
    rw c.place_of.ensures (placed_api c.args.api.now c.args.rows.now c.requires c.binary_search_by.result found.bound (found.position (λ row. slice_cmp nat_cmp row.api c.args.api.now) (always_returns_same _ _ _ (λ a r f called. search (rules, of_calls)))))
