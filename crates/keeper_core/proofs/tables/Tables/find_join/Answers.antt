use Rattle.std.proofs.Common.{rules, ◌≡◌, ◌∙◌, sym, subst, slice_get, Some}
use Rattle.std.proofs.lemmas.Option.{slice_get-get_or}
use Rattle.keeper_core.specs.Joins.{no_join}
use Rattle.keeper_core.specs.Lists.{is_join, join_behind}
use Rattle.keeper_core.specs.Places.{IsPlace, IsRowAt}
use Rattle.keeper_core.specs.declared.place.Place.TheVariants.{At}
use Rattle.keeper_core.proofs.Putting.{found_at}
use Rattle.keeper_core.proofs.tables.Tables.find_join.Goals as goal

pub returns-in-At-clause-row : goal.returns-in-At-clause-row
returns-in-At-clause-row c =
    let plan = c.args.plan.now in
    let key = c.args.key.now in
    let rows = c.args.self.now.lists.joins in
    let at = c.in-At.at in
    let is : IsRowAt (is_join plan key) rows at = search rules in
    sym (found_at (is_join plan key) (join_behind plan key) rows (At at) is) ∙ slice_get-get_or rows at no_join is.inside
