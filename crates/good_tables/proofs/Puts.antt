-- A good row that is put leaves good tables.
use Rattle.std.proofs.Common.{◌≡◌, ℕ, ◌+◌, ◌<◌, ◌≤◌, ◌==◌, Bool, true, false, not, ◌&&◌, ◌||◌, List, [], ◌∷◌, length, cond, find, is_none, count_by, Option, Some, None, refl, sym, ap, subst, ◌∙◌, arith}
use Rattle.std.specs.Prelude.{⊤, is_some, nat_le, nat_lt}
use Rattle.std.specs.List.{AllByRecursion, list_all, list_any}
use Rattle.std.specs.Str.{bytes_eq}
use Rattle.std.proofs.lemmas.Bool.{and_parts}
use Rattle.call_facts.specs.Pairs.{Pairs}
use Rattle.keeper_core.proofs.Finding.{find_beside_put, find_put}
use Rattle.keeper_core.specs.Lists.{AreInOrder, Lists, adjust, api_behind, api_row, deployment_behind, deployment_row, insert_before, is_api, is_behind, is_deployment, is_join, is_key, is_plan, is_stage, join_behind, join_row, key_behind, key_row, plan_behind, plan_row, put, put_by, stage_behind, stage_row}
use Rattle.keeper_core.specs.declared.rows.ApiRow.{ApiRow}
use Rattle.keeper_core.specs.declared.rows.DeploymentRow.{DeploymentRow}
use Rattle.keeper_core.specs.declared.rows.StageRow.{StageRow}
use Rattle.keeper_core.specs.declared.rows.KeyRow.{KeyRow}
use Rattle.keeper_core.specs.declared.rows.PlanRow.{PlanRow}
use Rattle.keeper_core.specs.declared.rows.JoinRow.{JoinRow}
use Rattle.keeper_core.specs.declared.rows.Row.{Row}
use Rattle.keeper_core.specs.declared.rows.Row.TheVariants.{Meta, Api, Deployment, Stage, Key, Plan, Join}
use Rattle.book_rules.specs.Good.{are_plan_stages, is_deployed, is_vars_column, stages_by, takes_canary, takes_level, takes_of_plan}
use Rattle.book_rules.specs.Limits.{most_apis, most_deployments, most_joins, most_keys, most_plan_stages, most_plans, most_stages}
use Rattle.book_rules.specs.PlanStages.{share_a_stage, stages_differ, stages_in, stages_of}
use Rattle.good_tables.proofs.Numbers.{IsDeployment, behind_back, next_put, opposed}
use Rattle.good_tables.proofs.Onces.{both_are, itself, same_text, turned}
use Rattle.good_tables.proofs.Stages.{share_turned}
use Rattle.good_tables.proofs.Tables.{AreGood, IsApi, IsJoin, IsKey, IsPlan, IsStage, clash, never, same_value}
use Rattle.good_tables.proofs.Walks.{AreTaken, Apart, all_map, apart_map, apart_put, each_put, few_put, members, none_apart}

-- WHAT IS FOUND stays
module _ {R : Type 0} (p q r : R → Bool) (x : R) (keeps : (y : R) → p y ≡ true → r y ≡ true → r x ≡ true) where
  inserted_some : (rows : List R) → is_some (find r rows) ≡ true → is_some (find r (insert_before q x rows)) ≡ true
  inserted_some [] e = absurd cc
  inserted_some (y ∷ ys) e =
      elim (q y) as (λ b. is_some (find r (cond b (x ∷ y ∷ ys) (y ∷ insert_before q x ys))) ≡ true) [
        | true ↦ elim (r x) as (λ b. is_some (cond b (Some x) (find r (y ∷ ys))) ≡ true) [ true ↦ refl | false ↦ e ]
        | false ↦ elim (r y) as (λ b. is_some (cond b (Some y) (find r ys)) ≡ true → is_some (cond b (Some y) (find r (insert_before q x ys))) ≡ true) [
          | true ↦ λ _. refl
          | false ↦ λ f. inserted_some ys f
        ] e
      ]

  adjusted_some : (rows : List R) → is_some (find r rows) ≡ true → is_some (find r (adjust p (λ old. x) rows)) ≡ true
  adjusted_some [] e = absurd cc
  adjusted_some (y ∷ ys) e =
      elim (p y) as (λ b. p y ≡ b → is_some (find r (cond b (x ∷ ys) (y ∷ adjust p (λ old. x) ys))) ≡ true) [
        | true ↦ λ has. by_found (r y) refl has
        | false ↦ λ has. elim (r y) as (λ b. is_some (cond b (Some y) (find r ys)) ≡ true → is_some (cond b (Some y) (find r (adjust p (λ old. x) ys))) ≡ true) [
          | true ↦ λ _. refl
          | false ↦ λ f. adjusted_some ys f
        ] e
      ] refl
    where
      by_found : (b : Bool) → r y ≡ b → p y ≡ true → is_some (cond (r x) (Some x) (find r ys)) ≡ true
      by_found true f has = ap (λ t. is_some (cond t (Some x) (find r ys))) (keeps y has f)
      by_found false f has =
          let rest : is_some (find r ys) ≡ true = sym (ap (λ t. is_some (cond t (Some y) (find r ys))) f) ∙ e in
          elim (r x) as (λ t. is_some (cond t (Some x) (find r ys)) ≡ true) [ true ↦ refl | false ↦ rest ]

  pub put_some : (rows : List R) → is_some (find r rows) ≡ true → is_some (find r (put_by p q x rows)) ≡ true
  put_some rows e =
      elim (is_none (find p rows)) as (λ b. is_some (find r (cond b (insert_before q x rows) (adjust p (λ old. x) rows))) ≡ true) [
        | true ↦ inserted_some rows e
        | false ↦ adjusted_some rows e
      ]

-- the tables have what others had, beside plans and joins
record Grows (before now : Lists) : Type 0 where
  apis : (api : List ℕ) → is_some (api_row before api) ≡ true → is_some (api_row now api) ≡ true
  deployments : (api : List ℕ) (number : ℕ) → is_some (deployment_row before api number) ≡ true → is_some (deployment_row now api number) ≡ true
  stages : (api stage : List ℕ) → is_some (stage_row before api stage) ≡ true → is_some (stage_row now api stage) ≡ true
  keys : (key : List ℕ) → is_some (key_row before key) ≡ true → is_some (key_row now key) ≡ true

one_key : (a b c : List ℕ) → bytes_eq a b ≡ true → bytes_eq a c ≡ true → bytes_eq b c ≡ true
one_key a b c e f = subst (λ x. bytes_eq x c ≡ true) (same_text a b e) f

grows : (row : Row) (lists : Lists) → Grows lists (put row lists)
grows (Meta row) lists = record { apis = λ api e. e; deployments = λ api number e. e; stages = λ api stage e. e; keys = λ key e. e }
grows (Api row) lists =
    record {
      apis = λ api. put_some (is_api row.api) (api_behind row.api) (is_api api) row (λ y e f. one_key y.api row.api api e f) lists.apis;
      deployments = λ api number e. e;
      stages = λ api stage e. e;
      keys = λ key e. e;
    }
grows (Deployment row) lists =
    record {
      apis = λ api e. e;
      deployments = λ api number. put_some (is_deployment row.api row.number) (deployment_behind row.api row.number) (is_deployment api number) row (same api number) lists.deployments;
      stages = λ api stage e. e;
      keys = λ key e. e;
    }
  where
    number_same : (a b c : ℕ) → (a == b) ≡ true → (a == c) ≡ true → (b == c) ≡ true
    number_same a b c e f = grind arith

    same : (api : List ℕ) (number : ℕ) (y : DeploymentRow) → is_deployment row.api row.number y ≡ true → is_deployment api number y ≡ true → is_deployment api number row ≡ true
    same api number y e f =
        let first = and_parts (bytes_eq y.api row.api) (y.number == row.number) e in
        let second = and_parts (bytes_eq y.api api) (y.number == number) f in
        both_are _ _ (one_key y.api row.api api first.0 second.0) (number_same y.number row.number number first.1 second.1)
grows (Stage row) lists =
    record {
      apis = λ api e. e;
      deployments = λ api number e. e;
      stages = λ api stage. put_some (is_stage row.api row.stage) (stage_behind row.api row.stage) (is_stage api stage) row (same api stage) lists.stages;
      keys = λ key e. e;
    }
  where
    same : (api stage : List ℕ) (y : StageRow) → is_stage row.api row.stage y ≡ true → is_stage api stage y ≡ true → is_stage api stage row ≡ true
    same api stage y e f =
        let first = and_parts (bytes_eq y.api row.api) (bytes_eq y.stage row.stage) e in
        let second = and_parts (bytes_eq y.api api) (bytes_eq y.stage stage) f in
        both_are _ _ (one_key y.api row.api api first.0 second.0) (one_key y.stage row.stage stage first.1 second.1)
grows (Key row) lists =
    record {
      apis = λ api e. e;
      deployments = λ api number e. e;
      stages = λ api stage e. e;
      keys = λ key. put_some (is_key row.key) (key_behind row.key) (is_key key) row (λ y e f. one_key y.key row.key key e f) lists.keys;
    }
grows (Plan row) lists = record { apis = λ api e. e; deployments = λ api number e. e; stages = λ api stage e. e; keys = λ key e. e }
grows (Join row) lists = record { apis = λ api e. e; deployments = λ api number e. e; stages = λ api stage e. e; keys = λ key e. e }

-- so rows that name others stay good
module _ (before now : Lists) (g : Grows before now) where
  deployment_on : (row : DeploymentRow) → IsDeployment before row → IsDeployment now row
  deployment_on row h = record { owner = g.apis row.api h.owner; many = h.many; flag = h.flag; said = h.said }

  deployed_on : (api : List ℕ) (number : ℕ) → is_deployed before api number ≡ true → is_deployed now api number ≡ true
  deployed_on api number h =
      let parts = and_parts (nat_le number most_deployments) (is_some (deployment_row before api number)) h in
      both_are _ _ parts.0 (g.deployments api number parts.1)

  stage_on : (row : StageRow) → IsStage before row → IsStage now row
  stage_on row h = record { named = h.named; points = deployed_on row.api row.deployment h.points; variables = h.variables; canary = canary (row.canary == 0) h.canary }
    where
      canary : (b : Bool) → cond b ((row.share == 0) && (length row.canary_vars == 0)) (is_deployed before row.api row.canary && nat_le row.share 10000 && is_vars_column row.canary_vars) ≡ true
          → cond b ((row.share == 0) && (length row.canary_vars == 0)) (is_deployed now row.api row.canary && nat_le row.share 10000 && is_vars_column row.canary_vars) ≡ true
      canary true e = e
      canary false e =
          let last = and_parts (is_deployed before row.api row.canary && nat_le row.share 10000) (is_vars_column row.canary_vars) e in
          let first = and_parts (is_deployed before row.api row.canary) (nat_le row.share 10000) last.0 in
          both_are _ _ (both_are _ _ (deployed_on row.api row.canary first.0) first.1) last.1

  all_stages_on : (stages : Pairs) → list_all (λ (stage : List ℕ × List ℕ). is_some (stage_row before stage.0 stage.1)) stages ≡ true
      → list_all (λ (stage : List ℕ × List ℕ). is_some (stage_row now stage.0 stage.1)) stages ≡ true
  all_stages_on [] e = refl
  all_stages_on (s ∷ ss) e =
      let parts = and_parts (is_some (stage_row before s.0 s.1)) (list_all (λ (stage : List ℕ × List ℕ). is_some (stage_row before stage.0 stage.1)) ss) e in
      both_are _ _ (g.stages s.0 s.1 parts.0) (all_stages_on ss parts.1)

  plan_stages_on : (stages : Option Pairs) → are_plan_stages before stages ≡ true → are_plan_stages now stages ≡ true
  plan_stages_on None e = absurd cc
  plan_stages_on (Some stages) e =
      let parts = and_parts (nat_le (length stages) most_plan_stages && stages_differ stages) (list_all (λ (stage : List ℕ × List ℕ). is_some (stage_row before stage.0 stage.1)) stages) e in
      both_are _ _ parts.0 (all_stages_on stages parts.1)

  plan_on : (row : PlanRow) → IsPlan before row → IsPlan now row
  plan_on row h =
      record { named = h.named; throttle = h.throttle; version = h.version; kind = h.kind; limit = h.limit; offset = h.offset; stages = plan_stages_on (stages_in row.stages) h.stages }

  join_on : (row : JoinRow) → plan_row now row.plan ≡ plan_row before row.plan → IsJoin before row → IsJoin now row
  join_on row same h = record { owner = g.keys row.key h.owner; plan = ap (takes_of_plan row) same ∙ h.plan; early = h.early; period = h.period }

taken_map : {R : Type 0} (most : ℕ) (P Q : R → Type 0) (clashes : R → R → Bool) (rows : List R) → ((row : R) → P row → Q row) → AreTaken most P clashes rows → AreTaken most Q clashes rows
taken_map most P Q clashes rows f h = record { few = h.few; each = all_map P Q f rows h.each; apart = h.apart }

-- A GOOD ROW, with what the tables must say of it
abbrev pub IsGoodRow : Lists → Row → Type 0
IsGoodRow lists (Meta row) = ⊥
IsGoodRow lists (Api row) = IsApi row × (is_none (api_row lists row.api) ≡ true → length lists.apis < most_apis)
IsGoodRow lists (Deployment row) = IsDeployment lists row × (row.number ≡ count_by (λ (other : DeploymentRow). bytes_eq other.api row.api) lists.deployments + 1)
IsGoodRow lists (Stage row) = IsStage lists row × (is_none (stage_row lists row.api row.stage) ≡ true → length lists.stages < most_stages)
IsGoodRow lists (Key row) =
    IsKey row × (is_none (key_row lists row.key) ≡ true → length lists.keys < most_keys)
    × AllByRecursion (λ (y : KeyRow). is_key row.key y ≡ false → (same_value y row ≡ false) × (same_value row y ≡ false)) lists.keys
IsGoodRow lists (Plan row) =
    IsPlan lists row × (is_none (plan_row lists row.plan) ≡ true → length lists.plans < most_plans)
    × ((join : JoinRow) → takes_of_plan join (plan_row lists row.plan) ≡ true → takes_level join row ≡ true)
    × ((other key : List ℕ) → is_some (join_row lists row.plan key) ≡ true → bytes_eq row.plan other ≡ false → is_some (join_row lists other key) ≡ true
    → share_a_stage (stages_of row) (stages_by (plan_row lists other)) ≡ false)
IsGoodRow lists (Join row) =
    IsJoin lists row × (is_none (join_row lists row.plan row.key) ≡ true → length lists.joins < most_joins)
    × AllByRecursion (λ (y : JoinRow). is_join row.plan row.key y ≡ false → (clash lists y row ≡ false) × (clash lists row y ≡ false)) lists.joins

-- the order of keys tells them apart
apart_keys : (x y : List ℕ) → is_behind y x ≡ true → bytes_eq x y ≡ true → ⊥
apart_keys x y up e = let same : is_behind x x ≡ true = subst (λ (z : List ℕ). is_behind z x ≡ true) (sym (same_text x y e)) up in opposed (is_behind x x) same (behind_back x x same)

key_differs : (key : List ℕ) (y z : KeyRow) → key_behind y.key z ≡ true → is_key key y ≡ true → is_key key z ≡ false
key_differs key y z up e =
    elim (bytes_eq z.key key) as (λ t. bytes_eq z.key key ≡ t → t ≡ false) [
      | true ↦ λ f. absurd (apart_keys y.key z.key up (subst (λ x. bytes_eq x z.key ≡ true) (sym (same_text y.key key e)) (subst (λ x. bytes_eq key x ≡ true) (sym (same_text z.key key f)) (itself key))))
      | false ↦ λ f. refl
    ] refl

-- two joins in order are of two keys
joins_differ : (x y : JoinRow) → join_behind x.plan x.key y ≡ true → bytes_eq x.plan y.plan ≡ true → bytes_eq x.key y.key ≡ true → ⊥
joins_differ x y up p k = by_plan (is_behind y.plan x.plan) refl
  where
    by_plan : (b : Bool) → is_behind y.plan x.plan ≡ b → ⊥
    by_plan true e = apart_keys x.plan y.plan e p
    by_plan false e =
        let rest : (bytes_eq y.plan x.plan && is_behind y.key x.key) ≡ true = sym (ap (λ b. b || bytes_eq y.plan x.plan && is_behind y.key x.key) e) ∙ up in
        apart_keys x.key y.key (and_parts (bytes_eq y.plan x.plan) (is_behind y.key x.key) rest).1 k

join_differs : (plan key : List ℕ) (y z : JoinRow) → join_behind y.plan y.key z ≡ true → is_join plan key y ≡ true → is_join plan key z ≡ false
join_differs plan key y z up e =
    elim (is_join plan key z) as (λ t. is_join plan key z ≡ t → t ≡ false) [
      | true ↦ λ f.
          let first = and_parts (bytes_eq y.plan plan) (bytes_eq y.key key) e in
          let second = and_parts (bytes_eq z.plan plan) (bytes_eq z.key key) f in
          absurd (joins_differ y z up (joined y.plan z.plan plan first.0 second.0) (joined y.key z.key key first.1 second.1))
      | false ↦ λ f. refl
    ] refl
  where
    joined : (a b c : List ℕ) → bytes_eq a c ≡ true → bytes_eq b c ≡ true → bytes_eq a b ≡ true
    joined a b c e f = subst (λ x. bytes_eq x b ≡ true) (sym (same_text a c e)) (subst (λ x. bytes_eq c x ≡ true) (sym (same_text b c f)) (itself c))

plan_found : (rows : List PlanRow) (row : PlanRow) (plan : List ℕ) (b : Bool) → bytes_eq row.plan plan ≡ b
    → find (is_plan plan) (put_by (is_plan row.plan) (plan_behind row.plan) row rows) ≡ cond b (Some row) (find (is_plan plan) rows)
plan_found rows row plan true e =
    subst (λ p. find (is_plan p) (put_by (is_plan row.plan) (plan_behind row.plan) row rows) ≡ Some row) (same_text row.plan plan e) (find_put (is_plan row.plan) (plan_behind row.plan) row (itself row.plan) rows)
plan_found rows row plan false e = find_beside_put (is_plan row.plan) (plan_behind row.plan) (is_plan plan) row e (λ y h. ap (λ p. bytes_eq p plan) (same_text y.plan row.plan h) ∙ e) rows

there : {R : Type 0} (found : Option R) → is_none found ≡ false → is_some found ≡ true
there None e = absurd cc
there (Some x) e = refl

pub put_good : (row : Row) (lists : Lists) → AreInOrder lists → AreGood lists → IsGoodRow lists row → AreGood (put row lists)
put_good (Meta row) lists order h is = absurd is
put_good (Api row) lists order h is =
    let now = put (Api row) lists in
    let g = grows (Api row) lists in
    record {
      metas = h.metas;
      apis = record {
        few = few_put (is_api row.api) (api_behind row.api) row most_apis lists.apis is.1 h.apis.few;
        each = each_put (is_api row.api) (api_behind row.api) row IsApi lists.apis is.0 h.apis.each;
        apart = none_apart (put_by (is_api row.api) (api_behind row.api) row lists.apis);
      };
      deployments = all_map (IsDeployment lists) (IsDeployment now) (deployment_on lists now g) lists.deployments h.deployments;
      numbered = h.numbered;
      stages = taken_map most_stages (IsStage lists) (IsStage now) never lists.stages (stage_on lists now g) h.stages;
      keys = h.keys;
      plans = taken_map most_plans (IsPlan lists) (IsPlan now) never lists.plans (plan_on lists now g) h.plans;
      joins = taken_map most_joins (IsJoin lists) (IsJoin now) (clash lists) lists.joins (λ j. join_on lists now g j refl) h.joins;
    }
put_good (Deployment row) lists order h is =
    let now = put (Deployment row) lists in
    let g = grows (Deployment row) lists in
    record {
      metas = h.metas;
      apis = h.apis;
      deployments = each_put (is_deployment row.api row.number) (deployment_behind row.api row.number) row (IsDeployment now) lists.deployments (deployment_on lists now g row is.0)
          (all_map (IsDeployment lists) (IsDeployment now) (deployment_on lists now g) lists.deployments h.deployments);
      numbered = next_put row lists.deployments order.deployments h.numbered is.1;
      stages = taken_map most_stages (IsStage lists) (IsStage now) never lists.stages (stage_on lists now g) h.stages;
      keys = h.keys;
      plans = taken_map most_plans (IsPlan lists) (IsPlan now) never lists.plans (plan_on lists now g) h.plans;
      joins = taken_map most_joins (IsJoin lists) (IsJoin now) (clash lists) lists.joins (λ j. join_on lists now g j refl) h.joins;
    }
put_good (Stage row) lists order h is =
    let now = put (Stage row) lists in
    let g = grows (Stage row) lists in
    record {
      metas = h.metas;
      apis = h.apis;
      deployments = all_map (IsDeployment lists) (IsDeployment now) (deployment_on lists now g) lists.deployments h.deployments;
      numbered = h.numbered;
      stages = record {
        few = few_put (is_stage row.api row.stage) (stage_behind row.api row.stage) row most_stages lists.stages is.1 h.stages.few;
        each = each_put (is_stage row.api row.stage) (stage_behind row.api row.stage) row (IsStage now) lists.stages (stage_on lists now g row is.0)
            (all_map (IsStage lists) (IsStage now) (stage_on lists now g) lists.stages h.stages.each);
        apart = none_apart (put_by (is_stage row.api row.stage) (stage_behind row.api row.stage) row lists.stages);
      };
      keys = h.keys;
      plans = taken_map most_plans (IsPlan lists) (IsPlan now) never lists.plans (plan_on lists now g) h.plans;
      joins = taken_map most_joins (IsJoin lists) (IsJoin now) (clash lists) lists.joins (λ j. join_on lists now g j refl) h.joins;
    }
put_good (Key row) lists order h is =
    let now = put (Key row) lists in
    let g = grows (Key row) lists in
    record {
      metas = h.metas;
      apis = h.apis;
      deployments = all_map (IsDeployment lists) (IsDeployment now) (deployment_on lists now g) lists.deployments h.deployments;
      numbered = h.numbered;
      stages = taken_map most_stages (IsStage lists) (IsStage now) never lists.stages (stage_on lists now g) h.stages;
      keys = record {
        few = few_put (is_key row.key) (key_behind row.key) row most_keys lists.keys is.1 h.keys.few;
        each = each_put (is_key row.key) (key_behind row.key) row IsKey lists.keys is.0 h.keys.each;
        apart = apart_put (is_key row.key) (key_behind row.key) row same_value (λ r. key_behind r.key) (key_differs row.key) lists.keys order.keys is.2 h.keys.apart;
      };
      plans = taken_map most_plans (IsPlan lists) (IsPlan now) never lists.plans (plan_on lists now g) h.plans;
      joins = taken_map most_joins (IsJoin lists) (IsJoin now) (clash lists) lists.joins (λ j. join_on lists now g j refl) h.joins;
    }
put_good (Plan row) lists order h is =
    record {
      metas = h.metas;
      apis = h.apis;
      deployments = all_map (IsDeployment lists) (IsDeployment now) (deployment_on lists now g) lists.deployments h.deployments;
      numbered = h.numbered;
      stages = taken_map most_stages (IsStage lists) (IsStage now) never lists.stages (stage_on lists now g) h.stages;
      keys = h.keys;
      plans = record {
        few = few_put (is_plan row.plan) (plan_behind row.plan) row most_plans lists.plans is.1 h.plans.few;
        each = each_put (is_plan row.plan) (plan_behind row.plan) row (IsPlan now) lists.plans (plan_on lists now g row is.0)
            (all_map (IsPlan lists) (IsPlan now) (plan_on lists now g) lists.plans h.plans.each);
        apart = none_apart (put_by (is_plan row.plan) (plan_behind row.plan) row lists.plans);
      };
      joins = record {
        few = h.joins.few;
        each = all_map (IsJoin lists) (IsJoin now) (λ j was. record { owner = was.owner; plan = level j (bytes_eq row.plan j.plan) refl was.plan; early = was.early; period = was.period }) lists.joins h.joins.each;
        apart = apart_map (clash lists) (clash now) (λ r. join_behind r.plan r.key) (λ j. is_none (join_row lists j.plan j.key) ≡ false) unclashed lists.joins order.joins
            (members (λ (j : JoinRow). is_join j.plan j.key) (λ j. both_are _ _ (itself j.plan) (itself j.key)) lists.joins) h.joins.apart;
      };
    }
  where
    now : Lists
    now = put (Plan row) lists

    g : Grows lists now
    g = grows (Plan row) lists

    level : (j : JoinRow) (b : Bool) → bytes_eq row.plan j.plan ≡ b → takes_of_plan j (plan_row lists j.plan) ≡ true → takes_of_plan j (plan_row now j.plan) ≡ true
    level j true e was =
        ap (takes_of_plan j) (plan_found lists.plans row j.plan true e) ∙ is.2 j (subst (λ p. takes_of_plan j (plan_row lists p) ≡ true) (sym (same_text row.plan j.plan e)) was)
    level j false e was = ap (takes_of_plan j) (plan_found lists.plans row j.plan false e) ∙ was

    stands : (j : JoinRow) → is_none (join_row lists j.plan j.key) ≡ false → is_some (join_row lists j.plan j.key) ≡ true
    stands j m = there (join_row lists j.plan j.key) m

    by_plans : (x y : JoinRow) → is_none (join_row lists x.plan x.key) ≡ false → is_none (join_row lists y.plan y.key) ≡ false → join_behind x.plan x.key y ≡ true → bytes_eq x.key y.key ≡ true
        → share_a_stage (stages_by (plan_row lists y.plan)) (stages_by (plan_row lists x.plan)) ≡ false → (b c : Bool) → bytes_eq row.plan x.plan ≡ b → bytes_eq row.plan y.plan ≡ c
        → share_a_stage (stages_by (plan_row now y.plan)) (stages_by (plan_row now x.plan)) ≡ false
    by_plans x y mx my up k none true true e f =
        absurd (joins_differ x y up (subst (λ p. bytes_eq p y.plan ≡ true) (same_text row.plan x.plan e) f) k)
    by_plans x y mx my up k none true false e f =
        ap (λ found. share_a_stage (stages_by found) (stages_by (plan_row now x.plan))) (plan_found lists.plans row y.plan false f)
        ∙ ap (λ found. share_a_stage (stages_by (plan_row lists y.plan)) (stages_by found)) (plan_found lists.plans row x.plan true e)
        ∙ share_turned (stages_of row) (stages_by (plan_row lists y.plan))
        (is.3 y.plan x.key (subst (λ p. is_some (join_row lists p x.key) ≡ true) (sym (same_text row.plan x.plan e)) (stands x mx)) f
        (subst (λ key. is_some (join_row lists y.plan key) ≡ true) (sym (same_text x.key y.key k)) (stands y my)))
    by_plans x y mx my up k none false true e f =
        ap (λ found. share_a_stage (stages_by found) (stages_by (plan_row now x.plan))) (plan_found lists.plans row y.plan true f)
        ∙ ap (λ found. share_a_stage (stages_of row) (stages_by found)) (plan_found lists.plans row x.plan false e)
        ∙ is.3 x.plan x.key (subst (λ p. is_some (join_row lists p x.key) ≡ true) (sym (same_text row.plan y.plan f)) (subst (λ key. is_some (join_row lists y.plan key) ≡ true) (sym (same_text x.key y.key k)) (stands y my))) e (stands x mx)
    by_plans x y mx my up k none false false e f =
        ap (λ found. share_a_stage (stages_by found) (stages_by (plan_row now x.plan))) (plan_found lists.plans row y.plan false f)
        ∙ ap (λ found. share_a_stage (stages_by (plan_row lists y.plan)) (stages_by found)) (plan_found lists.plans row x.plan false e) ∙ none

    unclashed : (x y : JoinRow) → is_none (join_row lists x.plan x.key) ≡ false → is_none (join_row lists y.plan y.key) ≡ false → join_behind x.plan x.key y ≡ true → clash lists x y ≡ false → clash now x y ≡ false
    unclashed x y mx my up none = by_key (bytes_eq x.key y.key) refl
      where
        by_key : (b : Bool) → bytes_eq x.key y.key ≡ b → clash now x y ≡ false
        by_key false e = ap (λ b. b && share_a_stage (stages_by (plan_row now y.plan)) (stages_by (plan_row now x.plan))) e
        by_key true e =
            ap (λ b. b && share_a_stage (stages_by (plan_row now y.plan)) (stages_by (plan_row now x.plan))) e
            ∙ by_plans x y mx my up e (sym (ap (λ b. b && share_a_stage (stages_by (plan_row lists y.plan)) (stages_by (plan_row lists x.plan))) e) ∙ none)
            (bytes_eq row.plan x.plan) (bytes_eq row.plan y.plan) refl refl
put_good (Join row) lists order h is =
    let now = put (Join row) lists in
    let g = grows (Join row) lists in
    record {
      metas = h.metas;
      apis = h.apis;
      deployments = all_map (IsDeployment lists) (IsDeployment now) (deployment_on lists now g) lists.deployments h.deployments;
      numbered = h.numbered;
      stages = taken_map most_stages (IsStage lists) (IsStage now) never lists.stages (stage_on lists now g) h.stages;
      keys = h.keys;
      plans = taken_map most_plans (IsPlan lists) (IsPlan now) never lists.plans (plan_on lists now g) h.plans;
      joins = record {
        few = few_put (is_join row.plan row.key) (join_behind row.plan row.key) row most_joins lists.joins is.1 h.joins.few;
        each = each_put (is_join row.plan row.key) (join_behind row.plan row.key) row (IsJoin now) lists.joins (join_on lists now g row refl is.0)
            (all_map (IsJoin lists) (IsJoin now) (λ j. join_on lists now g j refl) lists.joins h.joins.each);
        apart = apart_put (is_join row.plan row.key) (join_behind row.plan row.key) row (clash lists) (λ r. join_behind r.plan r.key) (join_differs row.plan row.key) lists.joins order.joins is.2 h.joins.apart;
      };
    }
