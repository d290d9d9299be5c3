-- What is known of tables that a book starts from, table by table.
use Rattle.std.proofs.Common.{◌≡◌, ℕ, ◌<◌, ◌≤◌, ◌==◌, Bool, true, false, not, ◌&&◌, ◌||◌, List, [], ◌∷◌, length, cond, Option, Some, None, refl, sym, ap, ◌∙◌, arith}
use Rattle.std.specs.Prelude.{⊤, is_some, nat_le, nat_lt}
use Rattle.std.specs.List.{AllByRecursion, list_any}
use Rattle.std.specs.Str.{bytes_eq}
use Rattle.std.proofs.lemmas.Bool.{and_parts}
use Rattle.std.proofs.lemmas.Bool.Decides.{nat_tests}
use Rattle.gw_base.specs.Names.{is_name}
use Rattle.usage_plans.specs.Rows.{kind_in}
use Rattle.usage_plans.specs.declared.terms.TheConstants.{MOST_UNITS}
use Rattle.keeper_core.specs.Lists.{Lists, key_row, plan_row}
use Rattle.keeper_core.specs.declared.rows.ApiRow.{ApiRow}
use Rattle.keeper_core.specs.declared.rows.StageRow.{StageRow}
use Rattle.keeper_core.specs.declared.rows.KeyRow.{KeyRow}
use Rattle.keeper_core.specs.declared.rows.PlanRow.{PlanRow}
use Rattle.keeper_core.specs.declared.rows.JoinRow.{JoinRow}
use Rattle.keeper_core.specs.declared.table.Table.{Table}
use Rattle.keeper_core.specs.declared.table.Table.TheVariants as table
use Rattle.book_rules.specs.Good.{are_plan_stages, bad_row, first_bad, is_deployed, is_flag, is_stated, is_vars_column, joined_already, refused_by, stages_by, takes_api, takes_canary, takes_deployment, takes_join, takes_key, takes_meta, takes_of_plan, takes_period, takes_plan, takes_stage, takes_throttle}
use Rattle.book_rules.specs.Limits.{most_apis, most_joins, most_keys, most_plans, most_stages, most_versions}
use Rattle.book_rules.specs.Names.{is_key_value}
use Rattle.book_rules.specs.PlanStages.{share_a_stage, stages_in}
use Rattle.book_rules.specs.Stored.{definition_of}
use Rattle.good_tables.proofs.Numbers.{AreNumbered, IsDeployment, numbered_of, of_numbered}
use Rattle.good_tables.proofs.Onces.{both_are, is_not}
use Rattle.good_tables.proofs.Walks.{AreTaken, taken_by, takes_all}

-- each row by itself, and with what it names
pub record IsApi (row : ApiRow) : Type 0 where
  pub named : is_name row.api ≡ true
  pub flag : is_flag row.text ≡ true
  pub said : is_stated (definition_of row) ≡ true

pub record IsStage (lists : Lists) (row : StageRow) : Type 0 where
  pub named : is_name row.stage ≡ true
  pub points : is_deployed lists row.api row.deployment ≡ true
  pub variables : is_vars_column row.vars ≡ true
  pub canary : takes_canary lists row ≡ true

pub record IsKey (row : KeyRow) : Type 0 where
  pub named : is_name row.key ≡ true
  pub valued : is_key_value row.value ≡ true
  pub flag : is_flag row.enabled ≡ true

pub record IsPlan (lists : Lists) (row : PlanRow) : Type 0 where
  pub named : is_name row.plan ≡ true
  pub throttle : takes_throttle row ≡ true
  pub version : nat_le row.tversion most_versions ≡ true
  pub kind : nat_le row.qkind 3 ≡ true
  pub limit : nat_le row.qlimit MOST_UNITS ≡ true
  pub offset : nat_le row.qoffset row.qlimit ≡ true
  pub stages : are_plan_stages lists (stages_in row.stages) ≡ true

pub record IsJoin (lists : Lists) (row : JoinRow) : Type 0 where
  pub owner : is_some (key_row lists row.key) ≡ true
  pub plan : takes_of_plan row (plan_row lists row.plan) ≡ true
  pub early : nat_lt row.at 4102444800000 ≡ true
  pub period : takes_period row (kind_in row.pkind) ≡ true

-- two keys of one value, and two joins of one key whose plans share a stage, clash
abbrev pub never : {R : Type 0} → R → R → Bool
never row other = false

abbrev pub same_value : KeyRow → KeyRow → Bool
same_value other row = bytes_eq other.value row.value

abbrev pub clash : Lists → JoinRow → JoinRow → Bool
clash lists other row = bytes_eq other.key row.key && share_a_stage (stages_by (plan_row lists row.plan)) (stages_by (plan_row lists other.plan))

pub record AreGood (lists : Lists) : Type 0 where
  pub metas : refused_by takes_meta lists.metas ≡ None
  pub apis : AreTaken most_apis IsApi never lists.apis
  pub deployments : AllByRecursion (IsDeployment lists) lists.deployments
  pub numbered : AreNumbered [] lists.deployments
  pub stages : AreTaken most_stages (IsStage lists) never lists.stages
  pub keys : AreTaken most_keys IsKey same_value lists.keys
  pub plans : AreTaken most_plans (IsPlan lists) never lists.plans
  pub joins : AreTaken most_joins (IsJoin lists) (clash lists) lists.joins

less_of : (x y : ℕ) → nat_lt x y ≡ true → x < y
less_of x y e = grind (arith, nat_tests)

of_less : (x y : ℕ) → x < y → nat_lt x y ≡ true
of_less x y e = grind (arith, nat_tests)

none_any : {R : Type 0} (rows : List R) → list_any (λ (row : R). false) rows ≡ false
none_any [] = refl
none_any (row ∷ rows) = none_any rows

no_more : (b : Bool) → b ≡ false → not b ≡ true
no_more b e = ap not e

-- APIS
api_split : (before : List ApiRow) (row : ApiRow) → takes_api before row ≡ true → (length before < most_apis) × IsApi row × (list_any (λ other. never other row) before ≡ false)
api_split before row h =
    let a = nat_lt (length before) most_apis in
    let b = is_name row.api in
    let c = is_flag row.text in
    let at_d = and_parts (a && b && c) (is_stated (definition_of row)) h in
    let at_c = and_parts (a && b) c at_d.0 in
    let at_b = and_parts a b at_c.0 in
    (less_of (length before) most_apis at_b.0, record { named = at_b.1; flag = at_c.1; said = at_d.1 }, none_any before)

api_join : (before : List ApiRow) (row : ApiRow) → length before < most_apis → IsApi row → list_any (λ other. never other row) before ≡ false → takes_api before row ≡ true
api_join before row less is none = both_are _ _ (both_are _ _ (both_are _ _ (of_less (length before) most_apis less) is.named) is.flag) is.said

-- STAGES
stage_split : (lists : Lists) (before : List StageRow) (row : StageRow) → takes_stage lists before row ≡ true → (length before < most_stages) × IsStage lists row × (list_any (λ other. never other row) before ≡ false)
stage_split lists before row h =
    let a = nat_lt (length before) most_stages in
    let b = is_name row.stage in
    let c = is_deployed lists row.api row.deployment in
    let d = is_vars_column row.vars in
    let at_e = and_parts (a && b && c && d) (takes_canary lists row) h in
    let at_d = and_parts (a && b && c) d at_e.0 in
    let at_c = and_parts (a && b) c at_d.0 in
    let at_b = and_parts a b at_c.0 in
    (less_of (length before) most_stages at_b.0, record { named = at_b.1; points = at_c.1; variables = at_d.1; canary = at_e.1 }, none_any before)

stage_join : (lists : Lists) (before : List StageRow) (row : StageRow) → length before < most_stages → IsStage lists row → list_any (λ other. never other row) before ≡ false → takes_stage lists before row ≡ true
stage_join lists before row less is none =
    both_are _ _ (both_are _ _ (both_are _ _ (both_are _ _ (of_less (length before) most_stages less) is.named) is.points) is.variables) is.canary

-- KEYS
key_split : (before : List KeyRow) (row : KeyRow) → takes_key before row ≡ true → (length before < most_keys) × IsKey row × (list_any (λ other. same_value other row) before ≡ false)
key_split before row h =
    let a = nat_lt (length before) most_keys in
    let b = is_name row.key in
    let c = is_key_value row.value in
    let d = is_flag row.enabled in
    let at_e = and_parts (a && b && c && d) (not (list_any (λ (other : KeyRow). bytes_eq other.value row.value) before)) h in
    let at_d = and_parts (a && b && c) d at_e.0 in
    let at_c = and_parts (a && b) c at_d.0 in
    let at_b = and_parts a b at_c.0 in
    (less_of (length before) most_keys at_b.0, record { named = at_b.1; valued = at_c.1; flag = at_d.1 }, is_not _ at_e.1)

key_join : (before : List KeyRow) (row : KeyRow) → length before < most_keys → IsKey row → list_any (λ other. same_value other row) before ≡ false → takes_key before row ≡ true
key_join before row less is none =
    both_are _ _ (both_are _ _ (both_are _ _ (both_are _ _ (of_less (length before) most_keys less) is.named) is.valued) is.flag) (no_more _ none)

-- PLANS
plan_split : (lists : Lists) (before : List PlanRow) (row : PlanRow) → takes_plan lists before row ≡ true → (length before < most_plans) × IsPlan lists row × (list_any (λ other. never other row) before ≡ false)
plan_split lists before row h =
    let a = nat_lt (length before) most_plans in
    let b = is_name row.plan in
    let c = takes_throttle row in
    let d = nat_le row.tversion most_versions in
    let e = nat_le row.qkind 3 in
    let f = nat_le row.qlimit MOST_UNITS in
    let g = nat_le row.qoffset row.qlimit in
    let at_i = and_parts (a && b && c && d && e && f && g) (are_plan_stages lists (stages_in row.stages)) h in
    let at_g = and_parts (a && b && c && d && e && f) g at_i.0 in
    let at_f = and_parts (a && b && c && d && e) f at_g.0 in
    let at_e = and_parts (a && b && c && d) e at_f.0 in
    let at_d = and_parts (a && b && c) d at_e.0 in
    let at_c = and_parts (a && b) c at_d.0 in
    let at_b = and_parts a b at_c.0 in (
      less_of (length before) most_plans at_b.0,
      record { named = at_b.1; throttle = at_c.1; version = at_d.1; kind = at_e.1; limit = at_f.1; offset = at_g.1; stages = at_i.1 },
      none_any before,
    )

plan_join : (lists : Lists) (before : List PlanRow) (row : PlanRow) → length before < most_plans → IsPlan lists row → list_any (λ other. never other row) before ≡ false → takes_plan lists before row ≡ true
plan_join lists before row less is none =
    both_are _ _
    (both_are _ _ (both_are _ _ (both_are _ _ (both_are _ _ (both_are _ _ (both_are _ _ (of_less (length before) most_plans less) is.named) is.throttle) is.version) is.kind) is.limit) is.offset)
    is.stages

-- JOINS
join_split : (lists : Lists) (before : List JoinRow) (row : JoinRow) → takes_join lists before row ≡ true → (length before < most_joins) × IsJoin lists row × (list_any (λ other. clash lists other row) before ≡ false)
join_split lists before row h =
    let a = nat_lt (length before) most_joins in
    let b = is_some (key_row lists row.key) in
    let c = takes_of_plan row (plan_row lists row.plan) in
    let d = nat_lt row.at 4102444800000 in
    let e = takes_period row (kind_in row.pkind) in
    let at_f = and_parts (a && b && c && d && e) (not (joined_already lists before row)) h in
    let at_e = and_parts (a && b && c && d) e at_f.0 in
    let at_d = and_parts (a && b && c) d at_e.0 in
    let at_c = and_parts (a && b) c at_d.0 in
    let at_b = and_parts a b at_c.0 in
    (less_of (length before) most_joins at_b.0, record { owner = at_b.1; plan = at_c.1; early = at_d.1; period = at_e.1 }, is_not _ at_f.1)

join_join : (lists : Lists) (before : List JoinRow) (row : JoinRow) → length before < most_joins → IsJoin lists row → list_any (λ other. clash lists other row) before ≡ false → takes_join lists before row ≡ true
join_join lists before row less is none =
    both_are _ _ (both_are _ _ (both_are _ _ (both_are _ _ (both_are _ _ (of_less (length before) most_joins less) is.owner) is.plan) is.early) is.period) (no_more _ none)

-- ALL TABLES
first_good : (table : Table) (found : Option ℕ) (more : List (Table × Option ℕ)) → first_bad ((table, found) ∷ more) ≡ None → (found ≡ None) × (first_bad more ≡ None)
first_good table None more e = (refl, e)
first_good table (Some row) more e = absurd cc

good_first : (table : Table) (found : Option ℕ) (more : List (Table × Option ℕ)) → found ≡ None → first_bad more ≡ None → first_bad ((table, found) ∷ more) ≡ None
good_first table None more e f = f
good_first table (Some row) more e f = absurd cc

-- the tables from one of them on
abbrev from_joins : Lists → List (Table × Option ℕ)
from_joins lists = (table.Joins, refused_by (takes_join lists) lists.joins) ∷ []

abbrev from_plans : Lists → List (Table × Option ℕ)
from_plans lists = (table.Plans, refused_by (takes_plan lists) lists.plans) ∷ from_joins lists

abbrev from_keys : Lists → List (Table × Option ℕ)
from_keys lists = (table.Keys, refused_by takes_key lists.keys) ∷ from_plans lists

abbrev from_stages : Lists → List (Table × Option ℕ)
from_stages lists = (table.Stages, refused_by (takes_stage lists) lists.stages) ∷ from_keys lists

abbrev from_deployments : Lists → List (Table × Option ℕ)
from_deployments lists = (table.Deployments, refused_by (takes_deployment lists) lists.deployments) ∷ from_stages lists

abbrev from_apis : Lists → List (Table × Option ℕ)
from_apis lists = (table.Apis, refused_by takes_api lists.apis) ∷ from_deployments lists

pub to_good : (lists : Lists) → bad_row lists ≡ None → AreGood lists
unfolding bad_row
to_good lists e =
    let metas = first_good table.Meta (refused_by takes_meta lists.metas) (from_apis lists) e in
    let apis = first_good table.Apis (refused_by takes_api lists.apis) (from_deployments lists) metas.1 in
    let deployments = first_good table.Deployments (refused_by (takes_deployment lists) lists.deployments) (from_stages lists) apis.1 in
    let stages = first_good table.Stages (refused_by (takes_stage lists) lists.stages) (from_keys lists) deployments.1 in
    let keys = first_good table.Keys (refused_by takes_key lists.keys) (from_plans lists) stages.1 in
    let plans = first_good table.Plans (refused_by (takes_plan lists) lists.plans) (from_joins lists) keys.1 in
    let joins = first_good table.Joins (refused_by (takes_join lists) lists.joins) [] plans.1 in
    let numbered = numbered_of lists [] lists.deployments deployments.0 in
    record {
      metas = metas.0;
      apis = taken_by most_apis IsApi never takes_api api_split lists.apis apis.0;
      deployments = numbered.0;
      numbered = numbered.1;
      stages = taken_by most_stages (IsStage lists) never (takes_stage lists) (stage_split lists) lists.stages stages.0;
      keys = taken_by most_keys IsKey same_value takes_key key_split lists.keys keys.0;
      plans = taken_by most_plans (IsPlan lists) never (takes_plan lists) (plan_split lists) lists.plans plans.0;
      joins = taken_by most_joins (IsJoin lists) (clash lists) (takes_join lists) (join_split lists) lists.joins joins.0;
    }

pub of_good : (lists : Lists) → AreGood lists → bad_row lists ≡ None
unfolding bad_row
of_good lists h =
    let joins = good_first table.Joins (refused_by (takes_join lists) lists.joins) [] (takes_all most_joins (IsJoin lists) (clash lists) (takes_join lists) (join_join lists) lists.joins h.joins) refl in
    let plans = good_first table.Plans (refused_by (takes_plan lists) lists.plans) (from_joins lists) (takes_all most_plans (IsPlan lists) never (takes_plan lists) (plan_join lists) lists.plans h.plans) joins in
    let keys = good_first table.Keys (refused_by takes_key lists.keys) (from_plans lists) (takes_all most_keys IsKey same_value takes_key key_join lists.keys h.keys) plans in
    let stages = good_first table.Stages (refused_by (takes_stage lists) lists.stages) (from_keys lists) (takes_all most_stages (IsStage lists) never (takes_stage lists) (stage_join lists) lists.stages h.stages) keys in
    let deployments = good_first table.Deployments (refused_by (takes_deployment lists) lists.deployments) (from_stages lists) (of_numbered lists [] lists.deployments h.deployments h.numbered) stages in
    let apis = good_first table.Apis (refused_by takes_api lists.apis) (from_deployments lists) (takes_all most_apis IsApi never takes_api api_join lists.apis h.apis) deployments in
    good_first table.Meta (refused_by takes_meta lists.metas) (from_apis lists) h.metas apis
