use Rattle.std.proofs.Common.{rules, of_calls}
use Rattle.std.specs.Ordering.{nat_cmp}
use Rattle.std.proofs.lemmas.Fn.{always_returns_same}
use Rattle.keeper_core.proofs.Keys.{placed_meta}
use Rattle.keeper_core.proofs.searches.place_of_meta.Goals as goal

pub returns : goal.returns
returns c =
    let found = c.binary_search_by.ensures in
    rw c.place_of.ensures (placed_meta c.args.id c.args.rows.now c.requires c.binary_search_by.result found.bound (found.position (λ row. nat_cmp row.id c.args.id) (always_returns_same _ _ _ (λ a r f called. search (rules, of_calls)))))
