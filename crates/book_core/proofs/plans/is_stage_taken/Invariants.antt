use Rattle.std.proofs.Common.{◌≡◌, ◌&&◌, drop}
use Rattle.std.specs.List.{list_any}
use Rattle.std.specs.Str.{bytes_eq}
use Rattle.keeper_core.specs.declared.rows.JoinRow.{JoinRow}
use Rattle.book_rules.specs.PlanCommands.{has_other_plan}
use Rattle.book_core.proofs.plans.is_stage_taken.Given as goal

-- whether there is one is whether the rest has one
abbrev pub invariant-loop-row : goal.invariant-loop-row
invariant-loop-row l =
    list_any (λ (row : JoinRow). bytes_eq row.plan l.plan && has_other_plan l.tables.lists l.plan l.stages row.key) l.tables.lists.joins
    ≡ list_any (λ (row : JoinRow). bytes_eq row.plan l.plan && has_other_plan l.tables.lists l.plan l.stages row.key) (drop l.row-index l.tables.lists.joins)
