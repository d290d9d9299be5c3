-- The tables that a book starts from: the first row that is refused, by table in the store's order and by key.
use Rattle.std.specs.Prelude.{ℕ, ◌+◌, ◌*◌, ◌==◌, nat_lt, nat_le, Bool, true, false, not, ◌&&◌, ◌||◌, List, [], ◌∷◌, length, Option, Some, None, is_ok, is_none, is_some, if◌then◌else◌}
use Rattle.std.specs.List.{list_all, list_any}
use Rattle.std.specs.Str.{bytes_eq}
use Rattle.gw_base.specs.Names.{is_name}
use Rattle.record_fields.specs.Columns.{column_pairs}
use Rattle.call_facts.specs.Pairs.{Pairs}
use Rattle.api_model.specs.Definition.{Definition, stated}
use Rattle.usage_meter.specs.Periods.{number_at}
use Rattle.usage_meter.specs.declared.period.PeriodKind.{PeriodKind}
use Rattle.keeper_core.specs.Lists.{Lists, api_row, deployment_row, stage_row, key_row, plan_row}
use Rattle.keeper_core.specs.declared.table.Table.{Table}
use Rattle.keeper_core.specs.declared.table.Table.TheVariants as table
use Rattle.keeper_core.specs.declared.rows.MetaRow.{MetaRow}
use Rattle.keeper_core.specs.declared.rows.ApiRow.{ApiRow}
use Rattle.keeper_core.specs.declared.rows.DeploymentRow.{DeploymentRow}
use Rattle.keeper_core.specs.declared.rows.StageRow.{StageRow}
use Rattle.keeper_core.specs.declared.rows.KeyRow.{KeyRow}
use Rattle.keeper_core.specs.declared.rows.PlanRow.{PlanRow}
use Rattle.keeper_core.specs.declared.rows.JoinRow.{JoinRow}
use Rattle.usage_plans.specs.Rows.{kind_in}
use Rattle.usage_plans.specs.declared.terms.TheConstants.{MOST_UNITS}
use Rattle.book_rules.specs.Limits.{most_apis, most_deployments, most_stages, most_variables, most_keys, most_plans, most_joins, most_plan_stages, most_per_second, most_versions}
use Rattle.book_rules.specs.Names.{are_variables, is_key_value}
use Rattle.book_rules.specs.PlanStages.{stages_in, same_stage, stages_differ, stages_of, share_a_stage}
use Rattle.book_rules.specs.Stored.{definition_of, deployed_of}

-- the version of the store
unfoldable pub store_version : ℕ
store_version = 1

-- the first of the rows that is refused, of rows behind some others, the newest of these first
abbrev pub first_refused : {R : Type 0} → (List R → R → Bool) → List R → List R → Option ℕ
first_refused refuses before [] = None
first_refused refuses before (row ∷ rows) = if refuses before row then Some (length before) else first_refused refuses (row ∷ before) rows

-- a flag
abbrev pub is_flag : ℕ → Bool
is_flag n = nat_le n 1

-- a definition that is read
unfoldable pub is_stated : Definition → Bool
is_stated definition = is_ok (stated definition)

-- META: one row at most, of id 0 and this version
abbrev pub takes_meta : List MetaRow → MetaRow → Bool
takes_meta before row = (length before == 0) && (row.id == 0) && (row.version == store_version)

-- APIS
abbrev pub takes_api : List ApiRow → ApiRow → Bool
takes_api before row = nat_lt (length before) most_apis && is_name row.api && is_flag row.text && is_stated (definition_of row)

-- DEPLOYMENTS: those of an API, which stands, are numbered from 1 without gaps
abbrev pub next_number : List ℕ → List DeploymentRow → ℕ
next_number api [] = 1
next_number api (row ∷ rows) = if bytes_eq row.api api then row.number + 1 else 1

abbrev pub takes_deployment : Lists → List DeploymentRow → DeploymentRow → Bool
takes_deployment lists before row =
    is_some (api_row lists row.api) && (row.number == next_number row.api before) && nat_le row.number most_deployments
    && is_flag row.text && is_stated (deployed_of row)

-- the pairs of a column are variables of different names, not more than a stage may have
abbrev pub names_differ : Pairs → Bool
names_differ [] = true
names_differ (pair ∷ pairs) = not (list_any (λ (other : List ℕ × List ℕ). bytes_eq other.0 pair.0) pairs) && names_differ pairs

abbrev pub are_stage_variables : Option Pairs → Bool
are_stage_variables None = false
are_stage_variables (Some pairs) = nat_le (length pairs) most_variables && are_variables pairs && names_differ pairs

abbrev pub is_vars_column : List ℕ → Bool
is_vars_column text = are_stage_variables (column_pairs text)

-- a deployment of a stage stands
abbrev pub is_deployed : Lists → List ℕ → ℕ → Bool
is_deployed lists api number = nat_le number most_deployments && is_some (deployment_row lists api number)

-- a canary, or none: then nothing is said of one
abbrev pub takes_canary : Lists → StageRow → Bool
takes_canary lists row =
    if row.canary == 0 then (row.share == 0) && (length row.canary_vars == 0)
    else is_deployed lists row.api row.canary && nat_le row.share 10000 && is_vars_column row.canary_vars

-- STAGES
abbrev pub takes_stage : Lists → List StageRow → StageRow → Bool
takes_stage lists before row =
    nat_lt (length before) most_stages && is_name row.stage && is_deployed lists row.api row.deployment && is_vars_column row.vars
    && takes_canary lists row

-- KEYS: their values differ
abbrev pub takes_key : List KeyRow → KeyRow → Bool
takes_key before row =
    nat_lt (length before) most_keys && is_name row.key && is_key_value row.value && is_flag row.enabled
    && not (list_any (λ (other : KeyRow). bytes_eq other.value row.value) before)

abbrev pub are_plan_stages : Lists → Option Pairs → Bool
are_plan_stages lists None = false
are_plan_stages lists (Some stages) =
    nat_le (length stages) most_plan_stages && stages_differ stages && list_all (λ (stage : List ℕ × List ℕ). is_some (stage_row lists stage.0 stage.1)) stages

-- no throttle, or a rate and a burst
abbrev pub takes_throttle : PlanRow → Bool
takes_throttle row =
    (row.rate == 0) && (row.burst == 0)
    || nat_le 1 row.rate && nat_le row.rate most_per_second && nat_le 1 row.burst && nat_le row.burst most_per_second

-- PLANS
abbrev pub takes_plan : Lists → List PlanRow → PlanRow → Bool
takes_plan lists before row =
    nat_lt (length before) most_plans && is_name row.plan && takes_throttle row && nat_le row.tversion most_versions
    && nat_le row.qkind 3 && nat_le row.qlimit MOST_UNITS && nat_le row.qoffset row.qlimit && are_plan_stages lists (stages_in row.stages)

-- a row without a period has had none; the period of a row does not begin behind its moment
abbrev pub takes_period : JoinRow → Option PeriodKind → Bool
takes_period row None = (row.pkind == 0) && (row.first == 1) && (row.pnumber == 0) && (row.allowance == 0) && (row.used == 0)
takes_period row (Some kind) = is_flag row.first && nat_le row.pnumber (number_at kind row.at) && nat_le row.allowance MOST_UNITS && nat_le row.used row.allowance

-- a level of this version of the plan's throttle is at most full
abbrev pub takes_level : JoinRow → PlanRow → Bool
takes_level row plan = nat_le row.tversion plan.tversion && (not (row.tversion == plan.tversion) || nat_le row.level (1000 * plan.burst))

abbrev pub stages_by : Option PlanRow → Pairs
stages_by None = []
stages_by (Some plan) = stages_of plan

-- a key has at most one plan for a stage
abbrev pub joined_already : Lists → List JoinRow → JoinRow → Bool
joined_already lists before row =
    list_any (λ (other : JoinRow). bytes_eq other.key row.key && share_a_stage (stages_by (plan_row lists row.plan)) (stages_by (plan_row lists other.plan))) before

abbrev pub takes_of_plan : JoinRow → Option PlanRow → Bool
takes_of_plan row None = false
takes_of_plan row (Some plan) = takes_level row plan

-- JOINS
abbrev pub takes_join : Lists → List JoinRow → JoinRow → Bool
takes_join lists before row =
    nat_lt (length before) most_joins && is_some (key_row lists row.key) && takes_of_plan row (plan_row lists row.plan)
    && nat_lt row.at 4102444800000 && takes_period row (kind_in row.pkind) && not (joined_already lists before row)

abbrev pub refused_by : {R : Type 0} → (List R → R → Bool) → List R → Option ℕ
refused_by takes rows = first_refused (λ before row. not (takes before row)) [] rows

abbrev pub first_bad : List (Table × Option ℕ) → Option (Table × ℕ)
first_bad [] = None
first_bad (found ∷ more) = elim found.1 [ None ↦ first_bad more | Some row ↦ Some (found.0, row) ]

-- THE FIRST ROW THAT IS REFUSED, in the store's order of tables and by key, counted from 0
unfoldable pub bad_row : Lists → Option (Table × ℕ)
bad_row lists =
    first_bad
    ((table.Meta, refused_by takes_meta lists.metas)
    ∷ (table.Apis, refused_by takes_api lists.apis)
    ∷ (table.Deployments, refused_by (takes_deployment lists) lists.deployments)
    ∷ (table.Stages, refused_by (takes_stage lists) lists.stages)
    ∷ (table.Keys, refused_by takes_key lists.keys)
    ∷ (table.Plans, refused_by (takes_plan lists) lists.plans)
    ∷ (table.Joins, refused_by (takes_join lists) lists.joins)
    ∷ [])
