-- What the commands on keys and plans come to: their tests in their order, and the rows that they write.
use Rattle.std.specs.Prelude.{ℕ, ◌==◌, nat_lt, nat_le, Bool, true, false, not, ◌&&◌, ◌||◌, List, [], ◌∷◌, length, find, Option, Some, None, is_none, is_some, Result, Ok, Err, if◌then◌else◌}
use Rattle.std.specs.List.{list_all, list_any}
use Rattle.std.specs.Str.{bytes_eq}
use Rattle.gw_base.specs.Names.{is_name}
use Rattle.call_facts.specs.Pairs.{Pairs}
use Rattle.usage_meter.specs.Allowances.{allowance_at}
use Rattle.usage_meter.specs.declared.throttle.Throttle.{Throttle}
use Rattle.usage_meter.specs.declared.allowance.Allowance.{Allowance}
use Rattle.usage_meter.specs.declared.allowance.Quota.{Quota}
use Rattle.usage_meter.specs.declared.period.Period.{Period}
use Rattle.usage_plans.specs.Deeds.{kind_number, terms_put}
use Rattle.usage_plans.specs.Rows.{row_with, tally_in, terms_in}
use Rattle.usage_plans.specs.Tallies.{grant_of, joined_at}
use Rattle.usage_plans.specs.declared.tally.GrantRefusal.{GrantRefusal}
use Rattle.usage_plans.specs.declared.tally.GrantRefusal.TheVariants as refusal
use Rattle.usage_plans.specs.declared.tally.Tally.{Tally}
use Rattle.usage_plans.specs.declared.terms.TheConstants.{MOST_UNITS}
use Rattle.keeper_core.specs.Lists.{Lists, stage_row, key_row, plan_row, join_row}
use Rattle.keeper_core.specs.declared.rows.Row.TheVariants.{Key, Plan, Join}
use Rattle.keeper_core.specs.declared.rows.KeyRow.{KeyRow}
use Rattle.keeper_core.specs.declared.rows.PlanRow.{PlanRow}
use Rattle.keeper_core.specs.declared.rows.JoinRow.{JoinRow}
use Rattle.book_rules.specs.Limits.{most_keys, most_plans, most_joins, most_plan_stages, most_per_second, most_versions}
use Rattle.book_rules.specs.Names.{is_key_value}
use Rattle.book_rules.specs.Outcomes.{Outcome, says, writes, unless_refused}
use Rattle.book_rules.specs.PlanStages.{are_stage_names, stages_of, share_a_stage, each_stage_once, stages_column}
use Rattle.book_rules.specs.declared.replies.Refusal.{Refusal}
use Rattle.book_rules.specs.declared.replies.Refusal.TheVariants.{BadName, NoStage, NoKey, NoPlan, NoJoin, NoQuota, BadThrottle, BadQuota, BadKey, ValueTaken, StageTaken, TooLarge, Full}
use Rattle.book_rules.specs.declared.replies.Reply.TheVariants.{Done, Refused}
use Rattle.book_rules.specs.declared.replies.Reply.TheVariants.{Usage as Used}

-- KEYS
-- the key of a value
abbrev pub has_value : List ℕ → KeyRow → Bool
has_value value row = bytes_eq row.value value

abbrev pub key_with : Lists → List ℕ → Option KeyRow
key_with lists value = find (has_value value) lists.keys

abbrev pub is_of_another : List ℕ → Option KeyRow → Bool
is_of_another key None = false
is_of_another key (Some row) = not (bytes_eq row.key key)

abbrev pub put_key_tests : Lists → List ℕ → List ℕ → List (Bool × Refusal)
put_key_tests lists key value =
    (not (is_name key), BadName)
    ∷ (not (is_key_value value), BadKey)
    ∷ (is_of_another key (key_with lists value), ValueTaken)
    ∷ (is_none (key_row lists key) && nat_le most_keys (length lists.keys), Full)
    ∷ []

abbrev pub key_of : List ℕ → List ℕ → Bool → KeyRow
key_of key value enabled = record { key = key; value = value; enabled = if enabled then 1 else 0 }

abbrev pub put_key : Lists → List ℕ → List ℕ → Bool → Outcome
put_key lists key value enabled = unless_refused (put_key_tests lists key value) (writes (Key (key_of key value enabled)) Done)

-- PLANS
abbrev pub is_throttle : Option Throttle → Bool
is_throttle None = true
is_throttle (Some throttle) =
    nat_le 1 throttle.rate && nat_le throttle.rate most_per_second && nat_le 1 throttle.burst && nat_le throttle.burst most_per_second

abbrev pub is_quota : Option Quota → Bool
is_quota None = true
is_quota (Some quota) = nat_le quota.limit MOST_UNITS && nat_le quota.offset quota.limit

-- all of these stages stand
abbrev pub all_stand : Lists → Pairs → Bool
all_stand lists stages = list_all (λ (stage : List ℕ × List ℕ). is_some (stage_row lists stage.0 stage.1)) stages

-- the key joined another plan that has one of these stages
abbrev pub is_other_plan : Lists → List ℕ → Pairs → List ℕ → PlanRow → Bool
is_other_plan lists plan stages key other = not (bytes_eq other.plan plan) && share_a_stage stages (stages_of other) && is_some (join_row lists other.plan key)

abbrev pub has_other_plan : Lists → List ℕ → Pairs → List ℕ → Bool
has_other_plan lists plan stages key = list_any (is_other_plan lists plan stages key) lists.plans

-- so has a key that joined the plan
abbrev pub is_stage_taken : Lists → List ℕ → Pairs → Bool
is_stage_taken lists plan stages = list_any (λ (row : JoinRow). bytes_eq row.plan plan && has_other_plan lists plan stages row.key) lists.joins

-- a throttle that differs raises the version, which is 0 at first
abbrev pub version_with : Option PlanRow → Option Throttle → ℕ
version_with None throttle = 0
version_with (Some row) throttle = (terms_put (terms_in row) throttle None).version

abbrev pub put_plan_tests : Lists → List ℕ → Option Throttle → Option Quota → Pairs → List (Bool × Refusal)
put_plan_tests lists plan throttle quota stages =
    (not (is_name plan && are_stage_names stages), BadName)
    ∷ (not (is_throttle throttle), BadThrottle)
    ∷ (not (is_quota quota), BadQuota)
    ∷ (not (all_stand lists stages), NoStage)
    ∷ (is_stage_taken lists plan stages, StageTaken)
    ∷ (
      nat_lt most_plan_stages (length stages) || is_none (plan_row lists plan) && nat_le most_plans (length lists.plans)
          || nat_lt most_versions (version_with (plan_row lists plan) throttle),
      Full,
    )
    ∷ []

abbrev pub rate_in : Option Throttle → ℕ
rate_in None = 0
rate_in (Some throttle) = throttle.rate

abbrev pub burst_in : Option Throttle → ℕ
burst_in None = 0
burst_in (Some throttle) = throttle.burst

abbrev pub limit_in : Option Quota → ℕ
limit_in None = 0
limit_in (Some quota) = quota.limit

abbrev pub offset_in : Option Quota → ℕ
offset_in None = 0
offset_in (Some quota) = quota.offset

abbrev pub kind_of_quota : Option Quota → ℕ
kind_of_quota None = 0
kind_of_quota (Some quota) = kind_number quota.kind

-- the row of a plan, which had this row before
abbrev pub plan_of : Option PlanRow → List ℕ → Option Throttle → Option Quota → Pairs → PlanRow
plan_of before plan throttle quota stages =
    record {
      plan = plan;
      rate = rate_in throttle;
      burst = burst_in throttle;
      tversion = version_with before throttle;
      qlimit = limit_in quota;
      qoffset = offset_in quota;
      qkind = kind_of_quota quota;
      stages = stages_column (each_stage_once stages);
    }

abbrev pub put_plan : Lists → List ℕ → Option Throttle → Option Quota → Pairs → Outcome
put_plan lists plan throttle quota stages =
    unless_refused (put_plan_tests lists plan throttle quota stages) (writes (Plan (plan_of (plan_row lists plan) plan throttle quota stages)) Done)

-- JOINS
-- the row of a plan and key, before it has any number
abbrev pub unused : List ℕ → List ℕ → JoinRow
unused plan key = record { plan = plan; key = key; level = 0; at = 0; tversion = 0; pkind = 0; pnumber = 0; allowance = 0; used = 0; first = 1 }

abbrev pub join_tests : Lists → List ℕ → List ℕ → PlanRow → List (Bool × Refusal)
join_tests lists plan key row = (has_other_plan lists plan (stages_of row) key, StageTaken) ∷ (nat_le most_joins (length lists.joins), Full) ∷ []

-- a key that joined already stays as it is; else it has a full bucket and no period
abbrev pub join_anew : Lists → ℕ → List ℕ → List ℕ → PlanRow → Option JoinRow → Outcome
join_anew lists t plan key row (Some joined) = says Done
join_anew lists t plan key row None = unless_refused (join_tests lists plan key row) (writes (Join (row_with (unused plan key) (joined_at (terms_in row) t))) Done)

abbrev pub join_by : Lists → ℕ → List ℕ → List ℕ → Option PlanRow → Option KeyRow → Outcome
join_by lists t plan key None found = says (Refused NoPlan)
join_by lists t plan key (Some row) None = says (Refused NoKey)
join_by lists t plan key (Some row) (Some found) = join_anew lists t plan key row (join_row lists plan key)

abbrev pub join_key : Lists → ℕ → List ℕ → List ℕ → Outcome
join_key lists t plan key = join_by lists t plan key (plan_row lists plan) (key_row lists key)

-- GRANTS: the period that stands allows more
abbrev pub refusal_of : GrantRefusal → Refusal
refusal_of refusal.NoQuota = NoQuota
refusal_of refusal.TooLarge = TooLarge

abbrev pub granted : JoinRow → Result Tally GrantRefusal → Outcome
granted row (Ok tally) = writes (Join (row_with row tally)) Done
granted row (Err why) = says (Refused (refusal_of why))

abbrev pub grant_by : Option JoinRow → Option PlanRow → ℕ → ℕ → Outcome
grant_by None plan amount t = says (Refused NoJoin)
grant_by (Some row) None amount t = says (Refused NoJoin)
grant_by (Some row) (Some plan) amount t = granted row (grant_of (terms_in plan) (tally_in row) amount t)

abbrev pub grant : Lists → ℕ → List ℕ → List ℕ → ℕ → Outcome
grant lists t plan key amount = grant_by (join_row lists plan key) (plan_row lists plan) amount t

-- USAGE: of the period that stands
abbrev pub used_of : Option Period → Allowance → Outcome
used_of None standing = says (Refused NoQuota)
used_of (Some period) standing = says (Used (record { period = period; allowance = standing.allowance; used = standing.used }))

abbrev pub usage_shown : Option Allowance → Outcome
usage_shown None = says (Refused NoQuota)
usage_shown (Some standing) = used_of standing.period standing

abbrev pub usage_by : Option JoinRow → Option PlanRow → ℕ → Outcome
usage_by None plan t = says (Refused NoJoin)
usage_by (Some row) None t = says (Refused NoJoin)
usage_by (Some row) (Some plan) t = usage_shown (allowance_at (tally_in row).allowance (terms_in plan).quota t)

abbrev pub usage : Lists → ℕ → List ℕ → List ℕ → Outcome
usage lists t plan key = usage_by (join_row lists plan key) (plan_row lists plan) t
