use Rattle.std.proofs.Common.{◌≡◌, ◌∙◌, ap, set, rules, sym, subst}
use Rattle.keeper_core.specs.Joins.{with_numbers}
use Rattle.keeper_core.specs.Lists.{Ascends, put_by, is_join, join_behind}
use Rattle.keeper_core.specs.Places.{IsRowAt}
use Rattle.keeper_core.proofs.Keys.{join_kept}
use Rattle.keeper_core.proofs.Rewriting.{rewritten}
use Rattle.keeper_core.proofs.puts.rewrite_join.Goals as goal

pub returns-in-At-clause-rows : goal.returns-in-At-clause-rows
returns-in-At-clause-rows c =
    let place : IsRowAt (is_join c.args.row.now.plan c.args.row.now.key) c.args.rows.now.items c.in-At.i = search rules in
    rewritten c.args.row.now c.index_mut.result.now c.write_numbers.new.self c.args.rows.now.items c.in-At.i place.first c.index_mut.ensures.value (c.write_numbers.ensures ∙ ap (with_numbers c.index_mut.result.now) c.numbers.ensures)

pub returns-in-At-clause-order : goal.returns-in-At-clause-order
returns-in-At-clause-order c =
    let place : IsRowAt (is_join c.args.row.now.plan c.args.row.now.key) c.args.rows.now.items c.in-At.i = search rules in
    let rows : set c.args.rows.now.items c.in-At.i c.write_numbers.new.self
    ≡ put_by (is_join c.args.row.now.plan c.args.row.now.key) (join_behind c.args.row.now.plan c.args.row.now.key) c.args.row.now c.args.rows.now.items =
    rewritten c.args.row.now c.index_mut.result.now c.write_numbers.new.self c.args.rows.now.items c.in-At.i place.first c.index_mut.ensures.value (c.write_numbers.ensures ∙ ap (with_numbers c.index_mut.result.now) c.numbers.ensures) in
    subst (Ascends (λ row. join_behind row.plan row.key)) (sym rows) (join_kept c.args.row.now c.args.rows.now.items c.requires.order)
