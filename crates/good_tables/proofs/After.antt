-- What each event writes is good, so good tables stay good.
use Rattle.std.proofs.Common.{◌≡◌, ℕ, suc, ◌+◌, ◌*◌, ◌<◌, ◌≤◌, ◌==◌, Bool, true, false, not, ◌&&◌, ◌||◌, List, [], ◌∷◌, ◌++◌, length, reverse, cond, find, is_none, count_by, Option, Some, None, IfSome, Result, Ok, Err, option_map, unwrap_or, refl, sym, ap, subst, ◌∙◌, arith}
use Rattle.std.specs.Prelude.{⊤, is_some, nat_le, nat_lt}
use Rattle.std.specs.List.{AllByRecursion, list_all, list_any}
use Rattle.std.specs.Str.{bytes_eq}
use Rattle.std.proofs.lemmas.Bool.{and_parts}
use Rattle.std.proofs.lemmas.Bool.Decides.{nat_tests}
use Rattle.std.proofs.lemmas.List.{reverse-append}
use Rattle.gw_base.specs.Names.{is_name}
use Rattle.api_model.specs.Definition.{Definition}
use Rattle.call_facts.specs.Pairs.{Pairs, once}
use Rattle.call_facts.specs.declared.vars.Vars.{Vars}
use Rattle.stage_canary.specs.Canaries.{merged_pairs}
use Rattle.usage_meter.specs.declared.allowance.Quota.{Quota}
use Rattle.usage_meter.specs.declared.allowance.Allowance.{Allowance}
use Rattle.usage_meter.specs.declared.period.Period.{Period}
use Rattle.usage_meter.specs.declared.throttle.Throttle.{Throttle}
use Rattle.usage_meter.specs.declared.period.PeriodKind.{PeriodKind}
use Rattle.usage_meter.specs.declared.period.PeriodKind.TheVariants.{Day, Week, Month}
use Rattle.usage_meter.specs.Allowances.{allowance_at}
use Rattle.usage_meter.specs.Levels.{capacity}
use Rattle.usage_plans.proofs.Showing.{throttle-same}
use Rattle.usage_plans.specs.Deeds.{kind_number, same_throttle, terms_put}
use Rattle.usage_plans.specs.Rows.{row_with, tally_in, terms_in, throttle_in}
use Rattle.usage_plans.specs.Tallies.{admission_of, grant_of, joined_at}
use Rattle.usage_plans.specs.declared.tally.Admission.{Admission}
use Rattle.usage_plans.specs.declared.tally.Admission.TheVariants as admission
use Rattle.usage_plans.specs.declared.tally.GrantRefusal.{GrantRefusal}
use Rattle.usage_plans.specs.declared.tally.Tally.{Tally}
use Rattle.usage_plans.specs.declared.terms.TheConstants.{MOST_UNITS}
use Rattle.keeper_core.proofs.Keys.{in_order}
use Rattle.keeper_core.specs.Lists.{AreInOrder, Lists, api_row, deployment_row, is_api, is_deployment, is_join, is_key, is_plan, is_stage, join_row, key_row, plan_row, put, stage_row}
use Rattle.keeper_core.specs.declared.rows.ApiRow.{ApiRow}
use Rattle.keeper_core.specs.declared.rows.DeploymentRow.{DeploymentRow}
use Rattle.keeper_core.specs.declared.rows.StageRow.{StageRow}
use Rattle.keeper_core.specs.declared.rows.KeyRow.{KeyRow}
use Rattle.keeper_core.specs.declared.rows.PlanRow.{PlanRow}
use Rattle.keeper_core.specs.declared.rows.JoinRow.{JoinRow}
use Rattle.keeper_core.specs.declared.rows.Row.{Row}
use Rattle.keeper_core.specs.declared.rows.Row.TheVariants.{Api, Deployment, Stage, Key, Plan, Join}
use Rattle.book_rules.proofs.Viewing.{found_holds}
use Rattle.book_rules.specs.Admissions.{admitted, admitted_by, admitted_under, admitted_with, decided, plan_for}
use Rattle.book_rules.specs.Commands.{commanded}
use Rattle.book_rules.specs.Fits.{AreFit}
use Rattle.book_rules.specs.Good.{are_plan_stages, bad_row, is_deployed, is_flag, is_stated, is_vars_column, next_number, stages_by, takes_canary, takes_level, takes_of_plan, takes_throttle}
use Rattle.book_rules.specs.History.{state_of, state_after, tables_after}
use Rattle.book_rules.specs.Limits.{most_apis, most_deployments, most_joins, most_keys, most_per_second, most_plan_stages, most_plans, most_stages, most_variables, most_versions}
use Rattle.book_rules.specs.Machine.{State, after, opened, put_kept, row_of, time_at, time_of}
use Rattle.book_rules.specs.Names.{are_variables, is_key_value}
use Rattle.book_rules.specs.Outcomes.{Outcome, first_refusal, says, unless, writes}
use Rattle.book_rules.specs.PlanCommands.{all_stand, grant_by, granted, has_other_plan, has_value, is_of_another, is_other_plan, is_quota, is_stage_taken, is_throttle, join_anew, join_by, join_tests, key_of, key_with, kind_of_quota, plan_of, put_key_tests, put_plan_tests, unused, usage_by, usage_shown, used_of, version_with}
use Rattle.book_rules.specs.PlanStages.{are_stage_names, each_stage_once, same_stage, share_a_stage, stages_column, stages_in, stages_of}
use Rattle.book_rules.specs.StageCommands.{api_of, canary_for, deployed, deployment_by, flush, next_deployment, promote, promote_tests, promoted, put_api_tests, put_canary_tests, put_stage_tests, stage_of, with_canary}
use Rattle.book_rules.specs.Stored.{column_of, definition_of, form_of, merged_in, variables_in}
use Rattle.book_rules.specs.declared.events.Command.{Command}
use Rattle.book_rules.specs.declared.events.Command.TheVariants.{PutApi, Deploy, PutStage, PutCanary, PromoteCanary, PutKey, PutPlan, JoinKey, Grant, Flush, Usage, Shutdown}
use Rattle.book_rules.specs.declared.events.Entry.{Entry}
use Rattle.book_rules.specs.declared.events.Event.{Event}
use Rattle.book_rules.specs.declared.events.Event.TheVariants.{Enter, Recall, Learn, Admit, Admin, Leave}
use Rattle.book_rules.specs.declared.replies.Refusal.{Refusal}
use Rattle.book_rules.specs.declared.replies.Refusal.TheVariants.{BadName, BadKey, BadQuota, BadShare, BadThrottle, Full, NoApi, NoCanary, NoDeployment, NoStage, StageTaken, ValueTaken}
use Rattle.book_rules.specs.declared.replies.Reply.TheVariants.{Deployed, InvalidKey, Refused}
use Rattle.fit_rows.proofs.FitsAfter.{fits_after, fits_at}
use Rattle.fit_rows.proofs.FitsOn.{admitted_fits, grant_fits, AdmittedFits, GrantedFits, no_refusal, not_false}
use Rattle.fit_rows.proofs.Fitting.{opens_fit}
use Rattle.good_tables.proofs.Joined.{AdmittedIs, GrantedIs, admitted_is, granted_is, written_join}
use Rattle.good_tables.proofs.Numbers.{AreNumbered, IsDeployment}
use Rattle.good_tables.proofs.Onces.{AreVars, both_are, is_not, itself, last_all, last_few, last_none, merged_are, once_are, same_text, stages_once_differ, turned, vars_column, vars_of}
use Rattle.good_tables.proofs.Puts.{IsGoodRow, put_good}
use Rattle.good_tables.proofs.Stages.{share_turned, stages_back}
use Rattle.good_tables.proofs.Tables.{AreGood, IsApi, IsJoin, IsKey, IsPlan, IsStage, clash, of_good, same_value, to_good}
use Rattle.good_tables.proofs.Walks.{Apart, all_map, found_is, members}
use Rattle.good_tables.specs.Laws.{GoodTablesStayGood, is_stated_in, puts_stated}

abbrev RowGood : Lists → Outcome → Type 0
RowGood lists outcome = IfSome outcome.row (IsGoodRow lists)

unless_good : (lists : Lists) (refusal : Option Refusal) (outcome : Outcome) → (refusal ≡ None → RowGood lists outcome) → RowGood lists (unless refusal outcome)
unless_good lists None outcome h = h refl
unless_good lists (Some refusal) outcome h = tt

-- room for one more where none is replaced
room : (none : Bool) (most n : ℕ) → (none && nat_le most n) ≡ false → none ≡ true → n < most
room true most n e f = less
  where
    less : n < most
    less = grind (arith, nat_tests)
room false most n e f = absurd cc

le_of : (x y : ℕ) → nat_le x y ≡ true → x ≤ y
le_of x y e = grind (arith, nat_tests)

le_is : (x y : ℕ) → x ≤ y → nat_le x y ≡ true
le_is x y e = grind (arith, nat_tests)

not_less : (x y : ℕ) → nat_lt x y ≡ false → y ≤ x
not_less x y e = grind (arith, nat_tests)

first_no : (a b : Bool) → (a || b) ≡ false → (a ≡ false) × (b ≡ false)
first_no true b e = absurd cc
first_no false b e = (refl, e)

some_of : {R : Type 0} (found : Option R) → is_none found ≡ false → is_some found ≡ true
some_of None e = absurd cc
some_of (Some x) e = refl

one_or_none : {A : Type 0} (found : Option A) (x : A) → found ≡ Some x → is_none found ≡ true → ⊥
one_or_none found x e none = let bad : true ≡ false = sym none ∙ ap is_none e in cc

-- a row under its own key
api_named : (lists : Lists) (api : List ℕ) (row : ApiRow) → api_row lists api ≡ Some row → row.api ≡ api
api_named lists api row e = same_text row.api api (found_holds (is_api api) lists.apis row e)

stage_named : (lists : Lists) (api stage : List ℕ) (row : StageRow) → stage_row lists api stage ≡ Some row → (row.api ≡ api) × (row.stage ≡ stage)
stage_named lists api stage row e =
    let parts = and_parts (bytes_eq row.api api) (bytes_eq row.stage stage) (found_holds (is_stage api stage) lists.stages row e) in
    (same_text row.api api parts.0, same_text row.stage stage parts.1)

plan_named : (lists : Lists) (plan : List ℕ) (row : PlanRow) → plan_row lists plan ≡ Some row → row.plan ≡ plan
plan_named lists plan row e = same_text row.plan plan (found_holds (is_plan plan) lists.plans row e)

join_named : (lists : Lists) (plan key : List ℕ) (row : JoinRow) → join_row lists plan key ≡ Some row → (row.plan ≡ plan) × (row.key ≡ key)
join_named lists plan key row e =
    let parts = and_parts (bytes_eq row.plan plan) (bytes_eq row.key key) (found_holds (is_join plan key) lists.joins row e) in
    (same_text row.plan plan parts.0, same_text row.key key parts.1)

-- APIS
form_flag : (d : Definition) → is_flag (form_of d) ≡ true
form_flag d = elim d.is_text as (λ b. nat_le (cond b 1 0) 1 ≡ true) [ true ↦ refl | false ↦ refl ]

form_back : (api : List ℕ) (d : Definition) → definition_of (api_of api d) ≡ d
form_back api d = elim d.is_text as (λ b. d.is_text ≡ b → definition_of (api_of api d) ≡ d) [
  | true ↦ λ e. ap (λ b. record { is_text = cond b 1 0 == 1; source = d.source }) e ∙ ap (λ b. record { is_text = b; source = d.source }) (sym e)
  | false ↦ λ e. ap (λ b. record { is_text = cond b 1 0 == 1; source = d.source }) e ∙ ap (λ b. record { is_text = b; source = d.source }) (sym e)
] refl

api_good : (lists : Lists) (api : List ℕ) (d : Definition) → is_stated d ≡ true → first_refusal (put_api_tests lists api) ≡ None → IsGoodRow lists (Api (api_of api d))
api_good lists api d said none =
    let full : List (Bool × Refusal) = (is_none (api_row lists api) && nat_le most_apis (length lists.apis), Full) ∷ [] in
    let a = no_refusal (not (is_name api)) BadName full none in
    let b = no_refusal (is_none (api_row lists api) && nat_le most_apis (length lists.apis)) Full [] a.1 in (
      record { named = not_false (is_name api) a.0; flag = form_flag d; said = subst (λ (x : Definition). is_stated x ≡ true) (sym (form_back api d)) said },
      room (is_none (api_row lists api)) most_apis (length lists.apis) b.0,
    )

-- DEPLOYMENTS
deployment_good : (lists : Lists) (api : List ℕ) (found : Option ApiRow) → AreGood lists → api_row lists api ≡ found → RowGood lists (deployment_by found (deployed lists api))
unfolding deployed
deployment_good lists api None h e = tt
deployment_good lists api (Some row) h e =
    elim (nat_le most_deployments (deployed lists api)) as (λ b. nat_le most_deployments (deployed lists api) ≡ b
    → RowGood lists (cond b (says (Refused Full)) (writes (Deployment (next_deployment row (deployed lists api))) (Deployed (deployed lists api + 1))))) [
      | true ↦ λ f. tt
      | false ↦ λ f. (
        record {
          owner = ap (λ a. is_some (api_row lists a)) name ∙ ap is_some e;
          many = more most_deployments (deployed lists api) f;
          flag = is.flag;
          said = is.said;
        },
        counts,
      )
    ] refl
  where
    name : row.api ≡ api
    name = api_named lists api row e

    is : IsApi row
    is = found_is IsApi (is_api api) lists.apis row h.apis.each e

    more : (most n : ℕ) → nat_le most n ≡ false → nat_le (n + 1) most ≡ true
    more most n f = grind (arith, nat_tests)

    counts : deployed lists api + 1 ≡ count_by (λ (other : DeploymentRow). bytes_eq other.api row.api) lists.deployments + 1
    counts = ap (λ (a : List ℕ). count_by (λ (other : DeploymentRow). bytes_eq other.api a) lists.deployments + 1) (sym name)

-- a deployment that stands may be pointed to, and its number is not 0
numbers_begin : (before rows : List DeploymentRow) → AreNumbered before rows → AllByRecursion (λ (row : DeploymentRow). 1 ≤ row.number) rows
numbers_begin before [] h = tt
numbers_begin before (row ∷ rows) h = (let n = h.0 in let l = least before in omega (arith, n, l), numbers_begin (row ∷ before) rows h.1)
  where
    least : (before : List DeploymentRow) → 1 ≤ next_number row.api before
    least [] = omega arith
    least (last ∷ older) = elim (bytes_eq last.api row.api) as (λ b. 1 ≤ cond b (last.number + 1) 1) [ true ↦ omega arith | false ↦ omega arith ]

record Stands (lists : Lists) (api : List ℕ) (number : ℕ) : Type 0 where
  points : is_deployed lists api number ≡ true
  first : (number == 0) ≡ false

stands : (lists : Lists) (api : List ℕ) (number : ℕ) (found : Option DeploymentRow) → AreGood lists → deployment_row lists api number ≡ found → is_none found ≡ false → Stands lists api number
stands lists api number None h e some = absurd cc
stands lists api number (Some row) h e some =
    let holds = found_holds (is_deployment api number) lists.deployments row e in
    let same = number_is row.number number (and_parts (bytes_eq row.api api) (row.number == number) holds).1 in
    let is : IsDeployment lists row = found_is (IsDeployment lists) (is_deployment api number) lists.deployments row h.deployments e in
    let least = found_is (λ (r : DeploymentRow). 1 ≤ r.number) (is_deployment api number) lists.deployments row (numbers_begin [] lists.deployments h.numbered) e in
    record {
      points = both_are _ _ (subst (λ n. nat_le n most_deployments ≡ true) same is.many) (ap is_some e);
      first = not_none number (subst (λ n. 1 ≤ n) same least);
    }
  where
    number_is : (x y : ℕ) → (x == y) ≡ true → x ≡ y
    number_is x y e = grind (arith, nat_tests)

    not_none : (n : ℕ) → 1 ≤ n → (n == 0) ≡ false
    not_none n l = grind (arith, nat_tests)

-- STAGES
record IsStageTaken (lists : Lists) (api stage : List ℕ) (number : ℕ) (variables : Vars) : Type 0 where
  named : is_name stage ≡ true
  points : is_deployed lists api number ≡ true
  column : is_vars_column (column_of (once variables)) ≡ true
  more : is_none (stage_row lists api stage) ≡ true → length lists.stages < most_stages

stage_taken : (lists : Lists) (api stage : List ℕ) (number : ℕ) (variables : Vars) → AreGood lists → first_refusal (put_stage_tests lists api stage number variables) ≡ None → IsStageTaken lists api stage number variables
unfolding most_variables
stage_taken lists api stage number variables h none =
    let full = nat_lt 64 (length variables.pairs) || is_none (stage_row lists api stage) && nat_le most_stages (length lists.stages) in
    let at_full : List (Bool × Refusal) = (full, Full) ∷ [] in
    let at_deployment : List (Bool × Refusal) = (is_none (deployment_row lists api number), NoDeployment) ∷ at_full in
    let at_api : List (Bool × Refusal) = (is_none (api_row lists api), NoApi) ∷ at_deployment in
    let a = no_refusal (not (is_name api && is_name stage && are_variables variables.pairs)) BadName at_api none in
    let b = no_refusal (is_none (api_row lists api)) NoApi at_deployment a.1 in
    let c = no_refusal (is_none (deployment_row lists api number)) NoDeployment at_full b.1 in
    let d = no_refusal full Full [] c.1 in
    let parts = first_no (nat_lt 64 (length variables.pairs)) (is_none (stage_row lists api stage) && nat_le most_stages (length lists.stages)) d.0 in
    let names = and_parts (is_name api && is_name stage) (are_variables variables.pairs) (not_false (is_name api && is_name stage && are_variables variables.pairs) a.0) in
    record {
      named = (and_parts (is_name api) (is_name stage) names.0).1;
      points = (stands lists api number (deployment_row lists api number) h refl c.0).points;
      column = vars_column (once variables).pairs (once_are variables names.1 (not_less 64 (length variables.pairs) parts.0));
      more = room (is_none (stage_row lists api stage)) most_stages (length lists.stages) parts.1;
    }

stage_good : (lists : Lists) (api stage : List ℕ) (number : ℕ) (variables : Vars) → AreGood lists → IsStageTaken lists api stage number variables
    → IsGoodRow lists (Stage (stage_of (stage_row lists api stage) api stage number (column_of (once variables))))
stage_good lists api stage number variables h t = by_found (stage_row lists api stage) refl
  where
    by_found : (found : Option StageRow) → stage_row lists api stage ≡ found → IsGoodRow lists (Stage (stage_of found api stage number (column_of (once variables))))
    by_found None e = (record { named = t.named; points = t.points; variables = t.column; canary = refl }, t.more)
    by_found (Some row) e =
        let is : IsStage lists row = found_is (IsStage lists) (is_stage api stage) lists.stages row h.stages.each e in
        let same = (stage_named lists api stage row e).0 in (
          record {
            named = t.named;
            points = t.points;
            variables = t.column;
            canary = subst (λ (a : List ℕ). cond (row.canary == 0) ((row.share == 0) && (length row.canary_vars == 0)) (is_deployed lists a row.canary && nat_le row.share 10000 && is_vars_column row.canary_vars) ≡ true) same is.canary;
          },
          t.more,
        )

-- a stage that stands is replaced
replaced : (lists : Lists) (api stage : List ℕ) (row made : StageRow) → stage_row lists api stage ≡ Some row → made.api ≡ row.api → made.stage ≡ row.stage → is_none (stage_row lists made.api made.stage) ≡ true → length lists.stages < most_stages
replaced lists api stage row made e a s none =
    let same = stage_named lists api stage row e in
    absurd (one_or_none (stage_row lists api stage) row e (sym (ap (λ (x : List ℕ). is_none (stage_row lists x made.stage)) (a ∙ same.0) ∙ ap (λ (y : List ℕ). is_none (stage_row lists api y)) (s ∙ same.1)) ∙ none))

record CanaryTaken (lists : Lists) (api stage : List ℕ) (number share : ℕ) (variables : Vars) : Type 0 where
  stood : Stands lists api number
  small : nat_le share 10000 ≡ true
  column : is_vars_column (column_of (once variables)) ≡ true

canary_taken : (lists : Lists) (api stage : List ℕ) (number share : ℕ) (variables : Vars) → AreGood lists → first_refusal (put_canary_tests lists api stage number share variables) ≡ None
    → CanaryTaken lists api stage number share variables
unfolding most_variables
canary_taken lists api stage number share variables h none =
    let at_full : List (Bool × Refusal) = (nat_lt 64 (length variables.pairs), Full) ∷ [] in
    let at_share : List (Bool × Refusal) = (nat_lt 10000 share, BadShare) ∷ at_full in
    let at_deployment : List (Bool × Refusal) = (is_none (deployment_row lists api number), NoDeployment) ∷ at_share in
    let at_stage : List (Bool × Refusal) = (is_none (stage_row lists api stage), NoStage) ∷ at_deployment in
    let a = no_refusal (not (is_name api && is_name stage && are_variables variables.pairs)) BadName at_stage none in
    let b = no_refusal (is_none (stage_row lists api stage)) NoStage at_deployment a.1 in
    let c = no_refusal (is_none (deployment_row lists api number)) NoDeployment at_share b.1 in
    let d = no_refusal (nat_lt 10000 share) BadShare at_full c.1 in
    let f = no_refusal (nat_lt 64 (length variables.pairs)) Full [] d.1 in
    let names = and_parts (is_name api && is_name stage) (are_variables variables.pairs) (not_false (is_name api && is_name stage && are_variables variables.pairs) a.0) in
    record {
      stood = stands lists api number (deployment_row lists api number) h refl c.0;
      small = le_is share 10000 (not_less 10000 share d.0);
      column = vars_column (once variables).pairs (once_are variables names.1 (not_less 64 (length variables.pairs) f.0));
    }

canary_good : (lists : Lists) (api stage : List ℕ) (number share : ℕ) (variables : Vars) (found : Option StageRow) → AreGood lists → stage_row lists api stage ≡ found
    → CanaryTaken lists api stage number share variables → RowGood lists (canary_for found number share (column_of (once variables)))
canary_good lists api stage number share variables None h e t = tt
canary_good lists api stage number share variables (Some row) h e t =
    let is : IsStage lists row = found_is (IsStage lists) (is_stage api stage) lists.stages row h.stages.each e in
    let same = (stage_named lists api stage row e).0 in (
      record {
        named = is.named;
        points = is.points;
        variables = is.variables;
        canary = ap (λ z. cond z ((share == 0) && (length (column_of (once variables)) == 0)) (is_deployed lists row.api number && nat_le share 10000 && is_vars_column (column_of (once variables)))) t.stood.first
            ∙ both_are _ _ (both_are _ _ (subst (λ (x : List ℕ). is_deployed lists x number ≡ true) (sym same) t.stood.points) t.small) t.column;
      },
      replaced lists api stage row (with_canary number share (column_of (once variables)) row) e refl refl,
    )

promoted_good : (lists : Lists) (api stage : List ℕ) (found : Option StageRow) → AreGood lists → stage_row lists api stage ≡ found → RowGood lists (promote found)
unfolding most_variables
promoted_good lists api stage None h e = tt
promoted_good lists api stage (Some row) h e = unless_good lists (first_refusal (promote_tests row)) _ taken
  where
    is : IsStage lists row
    is = found_is (IsStage lists) (is_stage api stage) lists.stages row h.stages.each e

    taken : first_refusal (promote_tests row) ≡ None → IsGoodRow lists (Stage (promoted row))
    taken none =
        let full : List (Bool × Refusal) = (nat_lt 64 (length (merged_in row).pairs), Full) ∷ [] in
        let a = no_refusal (row.canary == 0) NoCanary full none in
        let b = no_refusal (nat_lt 64 (length (merged_in row).pairs)) Full [] a.1 in
        let said : (is_deployed lists row.api row.canary && nat_le row.share 10000 && is_vars_column row.canary_vars) ≡ true =
        sym (ap (λ z. cond z ((row.share == 0) && (length row.canary_vars == 0)) (is_deployed lists row.api row.canary && nat_le row.share 10000 && is_vars_column row.canary_vars)) a.0) ∙ is.canary in
        let last = and_parts (is_deployed lists row.api row.canary && nat_le row.share 10000) (is_vars_column row.canary_vars) said in (
          record {
            named = is.named;
            points = (and_parts (is_deployed lists row.api row.canary) (nat_le row.share 10000) last.0).0;
            variables = vars_column (merged_in row).pairs (merged_are (variables_in row.vars).pairs (variables_in row.canary_vars).pairs (vars_of row.vars is.variables) (vars_of row.canary_vars last.1) (not_less 64 (length (merged_in row).pairs) b.0));
            canary = refl;
          },
          replaced lists api stage row (promoted row) e refl refl,
        )

flush_good : (lists : Lists) (found : Option StageRow) → RowGood lists (flush found)
flush_good lists None = tt
flush_good lists (Some row) = tt

-- KEYS
-- where no other key has the value, none clashes
value_free : (key value : List ℕ) (rows : List KeyRow) → Apart same_value rows → is_of_another key (find (has_value value) rows) ≡ false
    → AllByRecursion (λ (y : KeyRow). is_key key y ≡ false → bytes_eq y.value value ≡ false) rows
value_free key value [] apart e = tt
value_free key value (y ∷ ys) apart e =
    elim (bytes_eq y.value value) as (λ b. bytes_eq y.value value ≡ b → AllByRecursion (λ (y : KeyRow). is_key key y ≡ false → bytes_eq y.value value ≡ false) (y ∷ ys)) [
      | true ↦ λ has.
          let own : not (bytes_eq y.key key) ≡ false = sym (ap (λ b. is_of_another key (cond b (Some y) (find (has_value value) ys))) has) ∙ e in
          let same = same_text y.value value has in (
            (λ other. absurd (let bad : true ≡ false = sym (ap not other) ∙ own in cc)),
            all_map (λ (z : KeyRow). same_value y z ≡ false) (λ (z : KeyRow). is_key key z ≡ false → bytes_eq z.value value ≡ false)
                (λ z none other. turned value z.value (subst (λ v. bytes_eq v z.value ≡ false) same none)) ys apart.0,
          )
      | false ↦ λ has. (
        (λ other. has),
        value_free key value ys apart.1 (sym (ap (λ b. is_of_another key (cond b (Some y) (find (has_value value) ys))) has) ∙ e),
      )
    ] refl

key_good : (lists : Lists) (key value : List ℕ) (enabled : Bool) → AreGood lists → first_refusal (put_key_tests lists key value) ≡ None → IsGoodRow lists (Key (key_of key value enabled))
key_good lists key value enabled h none =
    let at_full : List (Bool × Refusal) = (is_none (key_row lists key) && nat_le most_keys (length lists.keys), Full) ∷ [] in
    let at_taken : List (Bool × Refusal) = (is_of_another key (key_with lists value), ValueTaken) ∷ at_full in
    let at_key : List (Bool × Refusal) = (not (is_key_value value), BadKey) ∷ at_taken in
    let a = no_refusal (not (is_name key)) BadName at_key none in
    let b = no_refusal (not (is_key_value value)) BadKey at_taken a.1 in
    let c = no_refusal (is_of_another key (key_with lists value)) ValueTaken at_full b.1 in
    let d = no_refusal (is_none (key_row lists key) && nat_le most_keys (length lists.keys)) Full [] c.1 in (
      record { named = not_false (is_name key) a.0; valued = not_false (is_key_value value) b.0; flag = elim enabled as (λ b. nat_le (cond b 1 0) 1 ≡ true) [ true ↦ refl | false ↦ refl ] },
      room (is_none (key_row lists key)) most_keys (length lists.keys) d.0,
      all_map (λ (y : KeyRow). is_key key y ≡ false → bytes_eq y.value value ≡ false)
          (λ (y : KeyRow). is_key key y ≡ false → (bytes_eq y.value value ≡ false) × (bytes_eq value y.value ≡ false))
          (λ y free other. (free other, turned y.value value (free other))) lists.keys (value_free key value lists.keys h.keys.apart c.0),
    )

-- PLANS
throttle_good : (throttle : Option Throttle) (plan : PlanRow) → is_throttle throttle ≡ true → plan.rate ≡ Rattle.book_rules.specs.PlanCommands.rate_in throttle → plan.burst ≡ Rattle.book_rules.specs.PlanCommands.burst_in throttle → takes_throttle plan ≡ true
throttle_good None plan h r b = ap (λ (n : ℕ). (n == 0) && (plan.burst == 0) || nat_le 1 n && nat_le n most_per_second && nat_le 1 plan.burst && nat_le plan.burst most_per_second) r
    ∙ ap (λ (n : ℕ). (n == 0) || nat_le 1 0 && nat_le 0 most_per_second && nat_le 1 n && nat_le n most_per_second) b
throttle_good (Some th) plan h r b =
    ap (λ (n : ℕ). (n == 0) && (plan.burst == 0) || nat_le 1 n && nat_le n most_per_second && nat_le 1 plan.burst && nat_le plan.burst most_per_second) r
    ∙ ap (λ (n : ℕ). (th.rate == 0) && (n == 0) || nat_le 1 th.rate && nat_le th.rate most_per_second && nat_le 1 n && nat_le n most_per_second) b
    ∙ or_right ((th.rate == 0) && (th.burst == 0)) _ h
  where
    or_right : (a b : Bool) → b ≡ true → (a || b) ≡ true
    or_right true b e = refl
    or_right false b e = e

kind_small : (quota : Option Quota) → nat_le (kind_of_quota quota) 3 ≡ true
kind_small None = refl
kind_small (Some quota) = elim quota.kind as (λ k. nat_le (kind_number k) 3 ≡ true) [ Day ↦ refl | Week ↦ refl | Month ↦ refl ]

quota_parts : (quota : Option Quota) → is_quota quota ≡ true
    → (nat_le (Rattle.book_rules.specs.PlanCommands.limit_in quota) MOST_UNITS ≡ true) × (nat_le (Rattle.book_rules.specs.PlanCommands.offset_in quota) (Rattle.book_rules.specs.PlanCommands.limit_in quota) ≡ true)
quota_parts None h = (refl, refl)
quota_parts (Some quota) h = and_parts (nat_le quota.limit MOST_UNITS) (nat_le quota.offset quota.limit) h

-- what is known of a plan that is not refused
record IsPlanTaken (lists : Lists) (plan : List ℕ) (throttle : Option Throttle) (quota : Option Quota) (stages : Pairs) : Type 0 where
  named : is_name plan ≡ true
  parts : are_stage_names stages ≡ true
  speed : is_throttle throttle ≡ true
  meter : is_quota quota ≡ true
  stood : all_stand lists stages ≡ true
  apart : is_stage_taken lists plan stages ≡ false
  few : length stages ≤ most_plan_stages
  more : is_none (plan_row lists plan) ≡ true → length lists.plans < most_plans
  version : nat_le (version_with (plan_row lists plan) throttle) most_versions ≡ true

plan_taken_all : (lists : Lists) (plan : List ℕ) (throttle : Option Throttle) (quota : Option Quota) (stages : Pairs) → first_refusal (put_plan_tests lists plan throttle quota stages) ≡ None
    → IsPlanTaken lists plan throttle quota stages
plan_taken_all lists plan throttle quota stages none =
    let many = nat_lt most_plan_stages (length stages) in
    let no_room = is_none (plan_row lists plan) && nat_le most_plans (length lists.plans) in
    let late = nat_lt most_versions (version_with (plan_row lists plan) throttle) in
    let at_full : List (Bool × Refusal) = (many || no_room || late, Full) ∷ [] in
    let at_taken : List (Bool × Refusal) = (is_stage_taken lists plan stages, StageTaken) ∷ at_full in
    let at_stand : List (Bool × Refusal) = (not (all_stand lists stages), NoStage) ∷ at_taken in
    let at_quota : List (Bool × Refusal) = (not (is_quota quota), BadQuota) ∷ at_stand in
    let at_throttle : List (Bool × Refusal) = (not (is_throttle throttle), BadThrottle) ∷ at_quota in
    let a = no_refusal (not (is_name plan && are_stage_names stages)) BadName at_throttle none in
    let b = no_refusal (not (is_throttle throttle)) BadThrottle at_quota a.1 in
    let c = no_refusal (not (is_quota quota)) BadQuota at_stand b.1 in
    let d = no_refusal (not (all_stand lists stages)) NoStage at_taken c.1 in
    let e = no_refusal (is_stage_taken lists plan stages) StageTaken at_full d.1 in
    let f = no_refusal (many || no_room || late) Full [] e.1 in
    let g = first_no (many || no_room) late f.0 in
    let i = first_no many no_room g.0 in
    let names = and_parts (is_name plan) (are_stage_names stages) (not_false (is_name plan && are_stage_names stages) a.0) in
    record {
      named = names.0;
      parts = names.1;
      speed = not_false (is_throttle throttle) b.0;
      meter = not_false (is_quota quota) c.0;
      stood = not_false (all_stand lists stages) d.0;
      apart = e.0;
      few = not_less most_plan_stages (length stages) i.0;
      more = room (is_none (plan_row lists plan)) most_plans (length lists.plans) i.1;
      version = le_is (version_with (plan_row lists plan) throttle) most_versions (not_less most_versions (version_with (plan_row lists plan) throttle) g.1);
    }

-- another plan that the key joined shares none of the stages
none_at : {R : Type 0} (p q : R → Bool) (rows : List R) (row : R) → list_any q rows ≡ false → find p rows ≡ Some row → q row ≡ false
none_at p q [] row none e = absurd cc
none_at {R} p q (y ∷ ys) row none e = pick (p y) e (none_at p q ys row parts.1)
  where
    parts : (q y ≡ false) × (list_any q ys ≡ false)
    parts = first_no (q y) (list_any q ys) none

    same : (a b : R) → Some a ≡ Some b → a ≡ b
    same a b s = cc

    pick : (b : Bool) → cond b (Some y) (find p ys) ≡ Some row → (find p ys ≡ Some row → q row ≡ false) → q row ≡ false
    pick true f more = subst (λ r. q r ≡ false) (same y row f) parts.0
    pick false f more = more f

share_none : (stages : Pairs) → share_a_stage stages [] ≡ false
share_none [] = refl
share_none (s ∷ ss) = share_none ss

others_apart : (lists : Lists) (plan : List ℕ) (stages : Pairs) (key other : List ℕ) → has_other_plan lists plan stages key ≡ false → bytes_eq plan other ≡ false → is_some (join_row lists other key) ≡ true
    → share_a_stage stages (stages_by (plan_row lists other)) ≡ false
others_apart lists plan stages key other none differs joined = by_found (plan_row lists other) refl
  where
    by_found : (found : Option PlanRow) → plan_row lists other ≡ found → share_a_stage stages (stages_by found) ≡ false
    by_found None e = share_none stages
    by_found (Some of) e =
        let same = plan_named lists other of e in
        let said : is_other_plan lists plan stages key of ≡ false = none_at (is_plan other) (is_other_plan lists plan stages key) lists.plans of none e in
        let apart : not (bytes_eq of.plan plan) ≡ true = ap not (subst (λ (p : List ℕ). bytes_eq p plan ≡ false) (sym same) (turned plan other differs)) in
        let stood : is_some (join_row lists of.plan key) ≡ true = subst (λ (p : List ℕ). is_some (join_row lists p key) ≡ true) (sym same) joined in
        sym (ap (λ b. b && share_a_stage stages (stages_of of) && is_some (join_row lists of.plan key)) apart ∙ ap (λ b. share_a_stage stages (stages_of of) && b) stood ∙ and_true (share_a_stage stages (stages_of of)))
        ∙ said
      where
        and_true : (b : Bool) → (b && true) ≡ b
        and_true true = refl
        and_true false = refl

-- a level stays within what its plan allows
level_on : (plan : List ℕ) (throttle : Option Throttle) (quota : Option Quota) (stages : Pairs) (join : JoinRow) (found : Option PlanRow) → takes_of_plan join found ≡ true
    → takes_level join (plan_of found plan throttle quota stages) ≡ true
level_on plan throttle quota stages join None h = absurd cc
level_on plan throttle quota stages join (Some of) h = pick (same_throttle (throttle_in of) throttle) refl
  where
    bursts : (b : Bool) → (of.burst == 0) ≡ b → Rattle.book_rules.specs.PlanCommands.burst_in (cond b None (Some (record { rate = of.rate; burst = of.burst }))) ≡ of.burst
    bursts true e = zero_is of.burst e
      where
        zero_is : (n : ℕ) → (n == 0) ≡ true → 0 ≡ n
        zero_is n e = grind (arith, nat_tests)
    bursts false e = refl

    burst : Bool → ℕ
    burst b = Rattle.book_rules.specs.PlanCommands.burst_in throttle

    takes : ℕ → ℕ → Bool
    takes version burst = nat_le join.tversion version && (not (join.tversion == version) || nat_le join.level (1000 * burst))

    greater : (v w level burst new : ℕ) → (nat_le v w && (not (v == w) || nat_le level (1000 * burst))) ≡ true → (nat_le v (w + 1) && (not (v == w + 1) || nat_le level (1000 * new))) ≡ true
    greater v w level burst new e =
        let parts = and_parts (nat_le v w) (not (v == w) || nat_le level (1000 * burst)) e in
        both_are _ _ (le_is v (w + 1) (let l = le_of v w parts.0 in omega (arith, l))) (ap (λ b. not b || nat_le level (1000 * new)) (not_same v w (le_of v w parts.0)))
      where
        not_same : (v w : ℕ) → v ≤ w → (v == w + 1) ≡ false
        not_same v w l = grind (arith, nat_tests)

    pick : (b : Bool) → same_throttle (throttle_in of) throttle ≡ b → takes_level join (plan_of (Some of) plan throttle quota stages) ≡ true
    pick true e =
        ap (λ c. takes (cond c of.tversion (of.tversion + 1)) (Rattle.book_rules.specs.PlanCommands.burst_in throttle)) e
        ∙ ap (λ n. takes of.tversion n) (ap Rattle.book_rules.specs.PlanCommands.burst_in (sym (throttle-same (throttle_in of) throttle e)) ∙ bursts (of.burst == 0) refl)
        ∙ h
    pick false e = ap (λ c. takes (cond c of.tversion (of.tversion + 1)) (Rattle.book_rules.specs.PlanCommands.burst_in throttle)) e ∙ greater join.tversion of.tversion join.level of.burst (Rattle.book_rules.specs.PlanCommands.burst_in throttle) h

plan_good : (lists : Lists) (plan : List ℕ) (throttle : Option Throttle) (quota : Option Quota) (stages : Pairs) → IsPlanTaken lists plan throttle quota stages
    → IsGoodRow lists (Plan (plan_of (plan_row lists plan) plan throttle quota stages))
unfolding most_plan_stages
plan_good lists plan throttle quota stages t = (
  record {
    named = t.named;
    throttle = throttle_good throttle (plan_of (plan_row lists plan) plan throttle quota stages) t.speed refl refl;
    version = t.version;
    kind = kind_small quota;
    limit = meter.0;
    offset = meter.1;
    stages = ap (are_plan_stages lists) back
        ∙ both_are _ _ (both_are _ _ (le_is (length (each_stage_once stages)) 64 (let l = last_few same_stage stages in let few = t.few in omega (arith, l, few))) (stages_once_differ stages))
        (last_all same_stage (λ (stage : List ℕ × List ℕ). is_some (stage_row lists stage.0 stage.1)) stages t.stood);
  },
  t.more,
  (λ join h. level_on plan throttle quota stages join (plan_row lists plan) h),
  shares,
)
  where
    meter : (nat_le (Rattle.book_rules.specs.PlanCommands.limit_in quota) MOST_UNITS ≡ true) × (nat_le (Rattle.book_rules.specs.PlanCommands.offset_in quota) (Rattle.book_rules.specs.PlanCommands.limit_in quota) ≡ true)
    meter = quota_parts quota t.meter

    back : stages_in (stages_column (each_stage_once stages)) ≡ Some (each_stage_once stages)
    back = stages_back (each_stage_once stages) (last_all same_stage (λ (stage : List ℕ × List ℕ). is_name stage.0 && is_name stage.1) stages t.parts)

    shares : (other key : List ℕ) → is_some (join_row lists plan key) ≡ true → bytes_eq plan other ≡ false → is_some (join_row lists other key) ≡ true
        → share_a_stage (stages_of (plan_of (plan_row lists plan) plan throttle quota stages)) (stages_by (plan_row lists other)) ≡ false
    shares other key joined differs stood =
        ap (λ found. share_a_stage (Rattle.book_rules.specs.PlanStages.or_none found) (stages_by (plan_row lists other))) back
        ∙ last_none same_stage (λ stage. list_any (same_stage stage) (stages_by (plan_row lists other))) stages (others_apart lists plan stages key other (none_has (join_row lists plan key) refl joined) differs stood)
      where
        none_has : (found : Option JoinRow) → join_row lists plan key ≡ found → is_some found ≡ true → has_other_plan lists plan stages key ≡ false
        none_has None e some = absurd cc
        none_has (Some row) e some =
            let names = join_named lists plan key row e in
            let said = none_at (is_join plan key) (λ (r : JoinRow). bytes_eq r.plan plan && has_other_plan lists plan stages r.key) lists.joins row t.apart e in
            sym (ap (λ b. b && has_other_plan lists plan stages row.key) (ap (λ (p : List ℕ). bytes_eq p plan) names.0 ∙ itself plan) ∙ ap (has_other_plan lists plan stages) names.1) ∙ said

-- JOINS
-- rows of one key that do not clash with a row of another plan
clash_turned : (lists : Lists) (x y : JoinRow) → clash lists x y ≡ false → clash lists y x ≡ false
clash_turned lists x y h = pick (bytes_eq x.key y.key) refl
  where
    pick : (b : Bool) → bytes_eq x.key y.key ≡ b → clash lists y x ≡ false
    pick true e =
        let apart : share_a_stage (stages_by (plan_row lists y.plan)) (stages_by (plan_row lists x.plan)) ≡ false =
        sym (ap (λ b. b && share_a_stage (stages_by (plan_row lists y.plan)) (stages_by (plan_row lists x.plan))) e) ∙ h in
        no_both (bytes_eq y.key x.key) _ (share_turned (stages_by (plan_row lists y.plan)) (stages_by (plan_row lists x.plan)) apart)
      where
        no_both : (a b : Bool) → b ≡ false → (a && b) ≡ false
        no_both true b e = e
        no_both false b e = refl
    pick false e = ap (λ b. b && share_a_stage (stages_by (plan_row lists x.plan)) (stages_by (plan_row lists y.plan))) (turned x.key y.key e)

-- a join that stands clashes with no other
stood_free : (lists : Lists) (p : JoinRow → Bool) (rows : List JoinRow) (row : JoinRow) → Apart (clash lists) rows → find p rows ≡ Some row
    → AllByRecursion (λ (y : JoinRow). p y ≡ false → (clash lists y row ≡ false) × (clash lists row y ≡ false)) rows
stood_free lists p [] row apart e = tt
stood_free lists p (y ∷ ys) row apart e = pick (p y) refl (stood_free lists p ys row apart.1)
  where
    same : (a b : JoinRow) → Some a ≡ Some b → a ≡ b
    same a b s = cc

    pick : (b : Bool) → p y ≡ b → (find p ys ≡ Some row → AllByRecursion (λ (z : JoinRow). p z ≡ false → (clash lists z row ≡ false) × (clash lists row z ≡ false)) ys)
        → AllByRecursion (λ (z : JoinRow). p z ≡ false → (clash lists z row ≡ false) × (clash lists row z ≡ false)) (y ∷ ys)
    pick true has more =
        let is = same y row (sym (ap (λ b. cond b (Some y) (find p ys)) has) ∙ e) in (
          (λ other. absurd (let bad : true ≡ false = sym has ∙ other in cc)),
          all_map (λ (z : JoinRow). clash lists y z ≡ false) (λ (z : JoinRow). p z ≡ false → (clash lists z row ≡ false) × (clash lists row z ≡ false))
              (λ z none other. subst (λ (r : JoinRow). (clash lists z r ≡ false) × (clash lists r z ≡ false)) is (clash_turned lists y z none, none)) ys apart.0,
        )
    pick false has more =
        let found : find p ys ≡ Some row = sym (ap (λ b. cond b (Some y) (find p ys)) has) ∙ e in
        let none = found_is (λ (z : JoinRow). clash lists y z ≡ false) p ys row apart.0 found in
        ((λ other. (none, clash_turned lists y row none)), more found)

-- the row of a join that stands, with other numbers
rewritten_good : (lists : Lists) (t : ℕ) (plan key : List ℕ) (of : PlanRow) (row : JoinRow) (tally : Tally) → AreGood lists → t < 4102444800000 → plan_row lists plan ≡ Some of → join_row lists plan key ≡ Some row
    → Rattle.good_tables.proofs.Joined.IsWritten of (tally_in row).allowance tally t → Rattle.book_rules.specs.Fits.IsFitJoin of (row_with row tally) t → IsGoodRow lists (Join (row_with row tally))
rewritten_good lists t plan key of row tally h early p j is fit =
    let names = join_named lists plan key row j in
    let was : IsJoin lists row = found_is (IsJoin lists) (is_join plan key) lists.joins row h.joins.each j in (
      written_join lists of row tally t early (ap (plan_row lists) names.0 ∙ p) was is fit,
      (λ none. absurd (one_or_none (join_row lists plan key) row j (sym (ap (λ (a : List ℕ). is_none (join_row lists a row.key)) names.0 ∙ ap (λ (b : List ℕ). is_none (join_row lists plan b)) names.1) ∙ none))),
      subst (λ (a : List ℕ). AllByRecursion (λ (y : JoinRow). is_join a row.key y ≡ false → (clash lists y row ≡ false) × (clash lists row y ≡ false)) lists.joins) (sym names.0)
          (subst (λ (b : List ℕ). AllByRecursion (λ (y : JoinRow). is_join plan b y ≡ false → (clash lists y row ≡ false) × (clash lists row y ≡ false)) lists.joins) (sym names.1)
          (stood_free lists (is_join plan key) lists.joins row h.joins.apart j)),
    )

granted_good : (lists : Lists) (t : ℕ) (plan key : List ℕ) (of : PlanRow) (row : JoinRow) (made : Result Tally GrantRefusal) → AreGood lists → t < 4102444800000 → plan_row lists plan ≡ Some of → join_row lists plan key ≡ Some row
    → GrantedIs of (tally_in row).allowance t made → GrantedFits of row t made → RowGood lists (granted row made)
granted_good lists t plan key of row (Ok tally) h early p j is fit = rewritten_good lists t plan key of row tally h early p j is fit
granted_good lists t plan key of row (Err refusal) h early p j is fit = tt

grant_good : (lists : Lists) (t : ℕ) (plan key : List ℕ) (amount : ℕ) (row : Option JoinRow) (of : Option PlanRow) → AreGood lists → AreFit lists t → join_row lists plan key ≡ row → plan_row lists plan ≡ of
    → RowGood lists (grant_by row of amount t)
grant_good lists t plan key amount None of h fit j p = tt
grant_good lists t plan key amount (Some row) None h fit j p = tt
grant_good lists t plan key amount (Some row) (Some of) h fit j p =
    granted_good lists t plan key of row (grant_of (terms_in of) (tally_in row) amount t) h fit.early p j (granted_is of (tally_in row) amount t)
    (grant_fits of row t fit.early (fit.plans plan of p) (fit.joins plan key of row p j) amount)

admission_good : (lists : Lists) (t : ℕ) (plan key : List ℕ) (of : PlanRow) (row : JoinRow) (made : Admission) → AreGood lists → t < 4102444800000 → plan_row lists plan ≡ Some of → join_row lists plan key ≡ Some row
    → AdmittedIs of (tally_in row).allowance t made → AdmittedFits of row t made → RowGood lists (decided key of row made)
admission_good lists t plan key of row (admission.Admitted tally) h early p j is fit = rewritten_good lists t plan key of row tally h early p j is fit
admission_good lists t plan key of row (admission.Throttled level) h early p j is fit = tt
admission_good lists t plan key of row (admission.QuotaExceeded allowance used) h early p j is fit = tt

admitted_good : (lists : Lists) (t : ℕ) (plan key : List ℕ) (of : Option PlanRow) (row : Option JoinRow) → AreGood lists → AreFit lists t → plan_row lists plan ≡ of → join_row lists plan key ≡ row → RowGood lists (admitted_by key of row t)
admitted_good lists t plan key None row h fit p j = tt
admitted_good lists t plan key (Some of) None h fit p j = tt
admitted_good lists t plan key (Some of) (Some row) h fit p j =
    admission_good lists t plan key of row (admission_of (terms_in of) (tally_in row) t) h fit.early p j (admitted_is of (tally_in row) t)
    (admitted_fits of row t fit.early (fit.plans plan of p) (fit.joins plan key of row p j))

under_good : (lists : Lists) (t : ℕ) (key : List ℕ) (plan : Option (List ℕ)) → AreGood lists → AreFit lists t → RowGood lists (admitted_under lists t key plan)
under_good lists t key None h fit = tt
under_good lists t key (Some plan) h fit = admitted_good lists t plan key (plan_row lists plan) (join_row lists plan key) h fit refl refl

call_good : (lists : Lists) (t : ℕ) (stage : List ℕ × List ℕ) (found : Option KeyRow) → AreGood lists → AreFit lists t → RowGood lists (admitted_with lists t stage found)
call_good lists t stage None h fit = tt
call_good lists t stage (Some row) h fit =
    elim (row.enabled == 1) as (λ b. RowGood lists (cond b (admitted_under lists t row.key (plan_for lists stage row.key)) (says InvalidKey))) [
      | true ↦ under_good lists t row.key (plan_for lists stage row.key) h fit
      | false ↦ tt
    ]

-- A KEY THAT JOINS
joined_level : (of : PlanRow) (plan key : List ℕ) (t : ℕ) → takes_level (row_with (unused plan key) (joined_at (terms_in of) t)) of ≡ true
joined_level of plan key t = both_are _ _ (le_is of.tversion of.tversion (omega arith)) (or_right _ _ (le_is (unwrap_or (option_map capacity (throttle_in of)) 0) (1000 * of.burst) (full (of.burst == 0))))
  where
    or_right : (a b : Bool) → b ≡ true → (a || b) ≡ true
    or_right true b e = refl
    or_right false b e = e

    full : (b : Bool) → unwrap_or (option_map capacity (cond b None (Some (record { rate = of.rate; burst = of.burst })))) 0 ≤ 1000 * of.burst
    full true = omega arith
    full false = omega arith

join_good : (lists : Lists) (t : ℕ) (plan key : List ℕ) (of : PlanRow) → AreGood lists → t < 4102444800000 → plan_row lists plan ≡ Some of → is_some (key_row lists key) ≡ true → join_row lists plan key ≡ None
    → first_refusal (join_tests lists plan key of) ≡ None → IsGoodRow lists (Join (row_with (unused plan key) (joined_at (terms_in of) t)))
join_good lists t plan key of h early p k j none = (
  record {
    owner = k;
    plan = ap (takes_of_plan made) p ∙ joined_level of plan key t;
    early = is_early t early;
    period = refl;
  },
  (λ _. less most_joins (length lists.joins) full.0),
  all_map (λ (y : JoinRow). is_none (join_row lists y.plan y.key) ≡ false) (λ (y : JoinRow). is_join plan key y ≡ false → (clash lists y made ≡ false) × (clash lists made y ≡ false)) free lists.joins
      (members (λ (y : JoinRow). is_join y.plan y.key) (λ y. both_are _ _ (itself y.plan) (itself y.key)) lists.joins),
)
  where
    made : JoinRow
    made = row_with (unused plan key) (joined_at (terms_in of) t)

    at_full : List (Bool × Refusal)
    at_full = (nat_le most_joins (length lists.joins), Full) ∷ []

    other : (has_other_plan lists plan (stages_of of) key ≡ false) × (first_refusal at_full ≡ None)
    other = no_refusal (has_other_plan lists plan (stages_of of) key) StageTaken at_full none

    full : (nat_le most_joins (length lists.joins) ≡ false) × (first_refusal [] ≡ None)
    full = no_refusal (nat_le most_joins (length lists.joins)) Full [] other.1

    less : (most n : ℕ) → nat_le most n ≡ false → n < most
    less most n e = grind (arith, nat_tests)

    is_early : (x : ℕ) → x < 4102444800000 → nat_lt x 4102444800000 ≡ true
    is_early x e = grind (arith, nat_tests)

    by_key : (y : JoinRow) → is_none (join_row lists y.plan y.key) ≡ false → is_join plan key y ≡ false → (b : Bool) → bytes_eq made.key y.key ≡ b → clash lists made y ≡ false
    by_key y stood differs false e = ap (λ b. b && share_a_stage (stages_by (plan_row lists y.plan)) (stages_by (plan_row lists plan))) e
    by_key y stood differs true e =
        let same : key ≡ y.key = same_text key y.key e in
        let plans : bytes_eq y.plan plan ≡ false = first_false (bytes_eq y.plan plan) (bytes_eq y.key key) (subst (λ (x : List ℕ). bytes_eq x key ≡ true) same (itself key)) differs in
        let joined : is_some (join_row lists y.plan key) ≡ true = subst (λ (x : List ℕ). is_some (join_row lists y.plan x) ≡ true) (sym same) (some_of (join_row lists y.plan y.key) stood) in
        ap (λ b. b && share_a_stage (stages_by (plan_row lists y.plan)) (stages_by (plan_row lists plan))) e
        ∙ ap (λ found. share_a_stage (stages_by (plan_row lists y.plan)) (stages_by found)) p
        ∙ share_turned (stages_of of) (stages_by (plan_row lists y.plan)) (others_apart lists plan (stages_of of) key y.plan other.0 (turned y.plan plan plans) joined)
      where
        first_false : (a b : Bool) → b ≡ true → (a && b) ≡ false → a ≡ false
        first_false true b e f = absurd (let bad : true ≡ false = sym e ∙ f in cc)
        first_false false b e f = refl

    free : (y : JoinRow) → is_none (join_row lists y.plan y.key) ≡ false → is_join plan key y ≡ false → (clash lists y made ≡ false) × (clash lists made y ≡ false)
    free y stood differs = let one = by_key y stood differs (bytes_eq made.key y.key) refl in (clash_turned lists made y one, one)

joins_anew : (lists : Lists) (t : ℕ) (plan key : List ℕ) (of : PlanRow) (found : Option JoinRow) → AreGood lists → t < 4102444800000 → plan_row lists plan ≡ Some of → is_some (key_row lists key) ≡ true → join_row lists plan key ≡ found
    → RowGood lists (join_anew lists t plan key of found)
joins_anew lists t plan key of (Some row) h early p k j = tt
joins_anew lists t plan key of None h early p k j = unless_good lists (first_refusal (join_tests lists plan key of)) _ (λ none. join_good lists t plan key of h early p k j none)

joins_by : (lists : Lists) (t : ℕ) (plan key : List ℕ) (of : Option PlanRow) (found : Option KeyRow) → AreGood lists → t < 4102444800000 → plan_row lists plan ≡ of → key_row lists key ≡ found → RowGood lists (join_by lists t plan key of found)
joins_by lists t plan key None found h early p k = tt
joins_by lists t plan key (Some of) None h early p k = tt
joins_by lists t plan key (Some of) (Some row) h early p k = joins_anew lists t plan key of (join_row lists plan key) h early p (ap is_some k) refl

usage_good : (lists : Lists) (t : ℕ) (row : Option JoinRow) (plan : Option PlanRow) → RowGood lists (usage_by row plan t)
usage_good lists t None plan = tt
usage_good lists t (Some row) None = tt
usage_good lists t (Some row) (Some plan) = shown (allowance_at (tally_in row).allowance (terms_in plan).quota t)
  where
    by_period : (p : Option Period) (s : Allowance) → RowGood lists (used_of p s)
    by_period None s = tt
    by_period (Some p) s = tt

    shown : (standing : Option Allowance) → RowGood lists (usage_shown standing)
    shown None = tt
    shown (Some s) = by_period s.period s

-- EACH COMMAND
command_good : (lists : Lists) (t : ℕ) (command : Command) → AreGood lists → AreFit lists t → puts_stated command ≡ true → RowGood lists (commanded lists t command)
command_good lists t (PutApi api definition) h fit said = unless_good lists (first_refusal (put_api_tests lists api)) _ (λ none. api_good lists api definition said none)
command_good lists t (Deploy api) h fit said = deployment_good lists api (api_row lists api) h refl
command_good lists t (PutStage api stage number variables) h fit said =
    unless_good lists (first_refusal (put_stage_tests lists api stage number variables)) _ (λ none. stage_good lists api stage number variables h (stage_taken lists api stage number variables h none))
command_good lists t (PutCanary api stage number share variables) h fit said =
    unless_good lists (first_refusal (put_canary_tests lists api stage number share variables)) _
    (λ none. canary_good lists api stage number share variables (stage_row lists api stage) h refl (canary_taken lists api stage number share variables h none))
command_good lists t (PromoteCanary api stage) h fit said = promoted_good lists api stage (stage_row lists api stage) h refl
command_good lists t (PutKey key value enabled) h fit said = unless_good lists (first_refusal (put_key_tests lists key value)) _ (λ none. key_good lists key value enabled h none)
command_good lists t (PutPlan plan throttle quota stages) h fit said =
    unless_good lists (first_refusal (put_plan_tests lists plan throttle quota stages)) _ (λ none. plan_good lists plan throttle quota stages (plan_taken_all lists plan throttle quota stages none))
command_good lists t (JoinKey plan key) h fit said = joins_by lists t plan key (plan_row lists plan) (key_row lists key) h fit.early refl refl
command_good lists t (Grant plan key amount) h fit said = grant_good lists t plan key amount (join_row lists plan key) (plan_row lists plan) h fit refl refl
command_good lists t (Flush api stage) h fit said = flush_good lists (stage_row lists api stage)
command_good lists t (Usage plan key) h fit said = usage_good lists t (join_row lists plan key) (plan_row lists plan)
command_good lists t Shutdown h fit said = tt

kept_good : (lists : Lists) (row : Option Row) (kept : Bool) → AreInOrder lists → AreGood lists → IfSome row (IsGoodRow lists) → AreGood (put_kept row kept lists)
kept_good lists None kept order h is = h
kept_good lists (Some row) true order h is = put_good row lists order h is
kept_good lists (Some row) false order h is = h

kept_in_order : (lists : Lists) (row : Option Row) (kept : Bool) → AreInOrder lists → AreInOrder (put_kept row kept lists)
kept_in_order lists None kept order = order
kept_in_order lists (Some row) true order = in_order.put row lists order
kept_in_order lists (Some row) false order = order

event_good : (s : State) (event : Event) → AreGood s.lists → AreFit s.lists s.latest → is_stated_in event ≡ true → IfSome (row_of s event) (IsGoodRow s.lists)
event_good s (Enter moment word api stage) h fit said = entered_none (stage_row s.lists api stage)
  where
    viewed_none : (place at : ℕ) (canary : Bool) (number : ℕ) (vars : Vars) (found : Option DeploymentRow) → IfSome (says (Rattle.book_rules.specs.Machine.viewed place at canary number vars found)).row (IsGoodRow s.lists)
    viewed_none place at canary number vars found = tt

    entered_none : (found : Option StageRow) → IfSome (says (Rattle.book_rules.specs.Machine.entered s.lists 0 (time_of s moment) word found)).row (IsGoodRow s.lists)
    entered_none found = tt
event_good s (Recall moment name) h fit said = tt
event_good s (Learn moment name policy ttl) h fit said = tt
event_good s (Admit moment api stage value) h fit said = call_good s.lists (time_of s moment) (api, stage) (key_with s.lists value) h (fits_at s moment fit)
event_good s (Admin moment command) h fit said = command_good s.lists (time_of s moment) command h (fits_at s moment fit) said
event_good s (Leave status cause) h fit said = tt

-- GOOD TABLES STAY GOOD
record AreKept (s : State) : Type 0 where
  order : AreInOrder s.lists
  good : AreGood s.lists
  fit : AreFit s.lists s.latest

kept_after : (s : State) (entry : Entry) → AreKept s → is_stated_in entry.event ≡ true → AreKept (after s entry)
kept_after s entry h said =
    record {
      order = kept_in_order s.lists (row_of s entry.event) entry.kept h.order;
      good = kept_good s.lists (row_of s entry.event) entry.kept h.order h.good (event_good s entry.event h.good h.fit said);
      fit = fits_after s entry.event entry.kept h.fit;
    }

kept_of : (opening : Lists) (entries : List Entry) → AreInOrder opening → bad_row opening ≡ None → AllByRecursion (λ (entry : Entry). is_stated_in entry.event ≡ true) entries → AreKept (state_of (opened opening) entries)
kept_of opening [] order good said = record { order = order; good = to_good opening good; fit = opens_fit opening good }
kept_of opening (newest ∷ older) order good said = kept_after (state_of (opened opening) older) newest (kept_of opening older order good said.1) said.0

all_joined : (P : Entry → Type 0) (xs ys : List Entry) → AllByRecursion P xs → AllByRecursion P ys → AllByRecursion P (xs ++ ys)
all_joined P [] ys a b = b
all_joined P (x ∷ xs) ys a b = (a.0, all_joined P xs ys a.1 b)

all_reversed : (P : Entry → Type 0) (entries : List Entry) → AllByRecursion P entries → AllByRecursion P (reverse entries)
all_reversed P [] all = tt
all_reversed P (x ∷ xs) all = subst (AllByRecursion P) (sym (reverse-append (x ∷ []) xs)) (all_joined P (reverse xs) (x ∷ []) (all_reversed P xs all.1) (all.0, tt))

pub tables_stay_good : GoodTablesStayGood
unfolding state_after
tables_stay_good opening history order good said =
    of_good (tables_after opening history) (kept_of opening (reverse history) order good (all_reversed (λ (entry : Entry). is_stated_in entry.event ≡ true) history said)).good
