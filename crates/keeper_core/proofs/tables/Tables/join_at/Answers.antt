use Rattle.std.proofs.Common.{rules, ◌≡◌, get_or, sym, subst}
use Rattle.std.specs.Prelude.{IsSome}
use Rattle.keeper_core.specs.Joins.{join_at}
use Rattle.keeper_core.specs.Lists.{Ascends, join_behind, join_row}
use Rattle.keeper_core.specs.declared.rows.JoinRow.{JoinRow}
use Rattle.keeper_core.proofs.Rewriting.{found_there}
use Rattle.keeper_core.proofs.tables.Tables.join_at.Goals as goal

pub returns-clause-there : goal.returns-clause-there
returns-clause-there c =
    let lists = c.args.self.now.lists in
    let is : c.index.result.now ≡ get_or lists.joins c.args.at c.index.result.now = search rules in
    let up : Ascends (λ row. join_behind row.plan row.key) lists.joins = search rules in
    subst (λ (row : JoinRow). IsSome (join_row lists row.plan row.key)) (sym is) (found_there lists.joins c.args.at c.index.result.now up c.requires)
