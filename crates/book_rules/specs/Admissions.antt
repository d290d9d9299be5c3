-- What a call comes to that asks to be admitted by the value of a key.
use Rattle.std.specs.Prelude.{ℕ, ◌==◌, Bool, ◌&&◌, List, find, Option, Some, None, is_some, option_map, if◌then◌else◌}
use Rattle.std.specs.List.{list_any}
use Rattle.usage_plans.specs.Rows.{row_with, tally_in, terms_in}
use Rattle.usage_plans.specs.Tallies.{admission_of}
use Rattle.usage_plans.specs.declared.tally.Admission.{Admission}
use Rattle.usage_plans.specs.declared.tally.Admission.TheVariants as admission
use Rattle.keeper_core.specs.Lists.{Lists, plan_row, join_row}
use Rattle.keeper_core.specs.declared.rows.Row.TheVariants.{Join}
use Rattle.keeper_core.specs.declared.rows.KeyRow.{KeyRow}
use Rattle.keeper_core.specs.declared.rows.PlanRow.{PlanRow}
use Rattle.keeper_core.specs.declared.rows.JoinRow.{JoinRow}
use Rattle.book_rules.specs.Outcomes.{Outcome, says, writes}
use Rattle.book_rules.specs.PlanCommands.{key_with}
use Rattle.book_rules.specs.PlanStages.{same_stage, stages_of}
use Rattle.book_rules.specs.declared.replies.Reply.TheVariants.{Admitted, InvalidKey, Throttled, QuotaExceeded}

-- the key joined the plan, which has the stage
abbrev pub allows : Lists → List ℕ × List ℕ → List ℕ → PlanRow → Bool
allows lists stage key plan = list_any (same_stage stage) (stages_of plan) && is_some (join_row lists plan.plan key)

-- the name of the plan by which the key calls the stage
abbrev pub plan_for : Lists → List ℕ × List ℕ → List ℕ → Option (List ℕ)
plan_for lists stage key = option_map (λ (plan : PlanRow). plan.plan) (find (allows lists stage key) lists.plans)

-- an admission writes the row; a refusal spends nothing
abbrev pub decided : List ℕ → PlanRow → JoinRow → Admission → Outcome
decided key plan row (admission.Admitted tally) = writes (Join (row_with row tally)) (Admitted key plan.plan)
decided key plan row (admission.Throttled level) = says (Throttled level)
decided key plan row (admission.QuotaExceeded allowance used) = says (QuotaExceeded allowance used)

abbrev pub admitted_by : List ℕ → Option PlanRow → Option JoinRow → ℕ → Outcome
admitted_by key None row t = says InvalidKey
admitted_by key (Some plan) None t = says InvalidKey
admitted_by key (Some plan) (Some row) t = decided key plan row (admission_of (terms_in plan) (tally_in row) t)

abbrev pub admitted_under : Lists → ℕ → List ℕ → Option (List ℕ) → Outcome
admitted_under lists t key None = says InvalidKey
admitted_under lists t key (Some plan) = admitted_by key (plan_row lists plan) (join_row lists plan key) t

-- a key that is enabled calls by the plan that it joined for the stage
abbrev pub admitted_with : Lists → ℕ → List ℕ × List ℕ → Option KeyRow → Outcome
admitted_with lists t stage None = says InvalidKey
admitted_with lists t stage (Some row) = if row.enabled == 1 then admitted_under lists t row.key (plan_for lists stage row.key) else says InvalidKey

-- WHAT A CALL OF THIS STAGE COMES TO AT t
abbrev pub admitted : Lists → ℕ → List ℕ × List ℕ → List ℕ → Outcome
admitted lists t stage value = admitted_with lists t stage (key_with lists value)
