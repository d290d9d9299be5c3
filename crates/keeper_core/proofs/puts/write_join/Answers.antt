use Rattle.std.proofs.Common.{◌≡◌, ◌∙◌, get_or, set, ap, subst, sym}
use Rattle.std.proofs.lemmas.List.{get_or_default}
use Rattle.keeper_core.specs.Joins.{join_in, no_join, put_join, with_numbers}
use Rattle.keeper_core.specs.Lists.{Ascends, join_behind}
use Rattle.keeper_core.proofs.Keys.{join_kept}
use Rattle.keeper_core.proofs.Rewriting.{written_in_place}
use Rattle.keeper_core.proofs.puts.write_join.Goals as goal

pub returns-clause-rows : goal.returns-clause-rows
returns-clause-rows c =
    ap (set c.args.rows.now.items c.args.at)
    (c.write_numbers.ensures ∙ ap (λ row. with_numbers row c.args.numbers) (c.index_mut.ensures.value ∙ get_or_default c.args.rows.now.items c.args.at _ no_join c.requires.inside))

pub returns-clause-put : goal.returns-clause-put
returns-clause-put c =
    let rows = c.args.rows.now.items in
    ap (set rows c.args.at)
    (c.write_numbers.ensures ∙ ap (λ row. with_numbers row c.args.numbers) (c.index_mut.ensures.value ∙ get_or_default rows c.args.at _ no_join c.requires.inside))
    ∙ written_in_place rows c.args.at no_join c.args.numbers c.requires.order c.requires.inside

pub returns-clause-order : goal.returns-clause-order
returns-clause-order c =
    let rows = c.args.rows.now.items in
    let same : set rows c.args.at c.write_numbers.new.self ≡ put_join (with_numbers (join_in rows c.args.at) c.args.numbers) rows =
    ap (set rows c.args.at)
    (c.write_numbers.ensures ∙ ap (λ row. with_numbers row c.args.numbers) (c.index_mut.ensures.value ∙ get_or_default rows c.args.at _ no_join c.requires.inside))
    ∙ written_in_place rows c.args.at no_join c.args.numbers c.requires.order c.requires.inside in
    subst (Ascends (λ row. join_behind row.plan row.key)) (sym same) (join_kept (with_numbers (join_in rows c.args.at) c.args.numbers) rows c.requires.order)
