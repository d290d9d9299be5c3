-- The stages of tables that a book starts from have variables.
use Rattle.std.proofs.Common.{◌≡◌, subst, refl, ℕ, ◌==◌, Bool, true, false, not, ◌&&◌, List, [], ◌∷◌, length, find, Option, Some, None, IfSome, option_map, cond, unwrap_or, arith}
use Rattle.std.specs.Prelude.{nat_le, nat_lt}
use Rattle.std.proofs.lemmas.Bool.{and_parts}
use Rattle.gw_base.specs.Names.{is_name}
use Rattle.call_facts.specs.Pairs.{Pairs}
use Rattle.record_fields.specs.Columns.{column_pairs}
use Rattle.keeper_core.specs.Lists.{Lists, is_stage, stage_row}
use Rattle.keeper_core.specs.declared.rows.StageRow.{StageRow}
use Rattle.keeper_core.specs.declared.table.Table.{Table}
use Rattle.keeper_core.specs.declared.table.Table.TheVariants as table
use Rattle.book_rules.specs.Good.{bad_row, first_bad, first_refused, refused_by, takes_meta, takes_api, takes_deployment, takes_stage, takes_key, takes_plan, takes_join}
use Rattle.book_rules.specs.Good.{takes_canary, are_stage_variables, is_deployed, is_vars_column, names_differ}
use Rattle.book_rules.specs.Limits.{most_stages, most_variables}
use Rattle.book_rules.specs.Names.{are_variables}
use Rattle.book_rules.specs.Stored.{variables_in}
use Rattle.book_rules.specs.Views.{staged_of}
use Rattle.promoted_stages.specs.Laws.{HasVariables}

-- a row that is found in a walk that refused none was taken
taken_first : (b : Bool) (n : ℕ) (rest : Option ℕ) → cond (not b) (Some n) rest ≡ None → (b ≡ true) × (rest ≡ None)
taken_first true n rest e = (refl, e)
taken_first false n rest e = absurd cc

some_same : {A : Type 0} (a b : A) → Some a ≡ Some b → a ≡ b
some_same a b same = cc

module _ {R : Type 0} (takes : List R → R → Bool) (p : R → Bool) where
  taken_found : (before rows : List R) (row : R) → first_refused (λ b r. not (takes b r)) before rows ≡ None → find p rows ≡ Some row → (b : List R) × (takes b row ≡ true)
  taken_found before [] row e found = absurd cc
  taken_found before (y ∷ ys) row e found =
      let here = taken_first (takes before y) (length before) (first_refused (λ b r. not (takes b r)) (y ∷ before) ys) e in
      pick (p y) found here.0 (taken_found (y ∷ before) ys row here.1)
    where
      pick : (b : Bool) → cond b (Some y) (find p ys) ≡ Some row → takes before y ≡ true → (find p ys ≡ Some row → (b : List R) × (takes b row ≡ true))
          → (b : List R) × (takes b row ≡ true)
      pick true f here more = (before, subst (λ r. takes before r ≡ true) (some_same y row f) here)
      pick false f here more = more f

later_bad : (table : Table) (found : Option ℕ) (more : List (Table × Option ℕ)) → first_bad ((table, found) ∷ more) ≡ None → (found ≡ None) × (first_bad more ≡ None)
later_bad table None more e = (refl, e)
later_bad table (Some row) more e = absurd cc

-- no stage is refused
stages_taken : (lists : Lists) → bad_row lists ≡ None → refused_by (takes_stage lists) lists.stages ≡ None
unfolding bad_row
stages_taken lists e =
    let from_joins : List (Table × Option ℕ) = (table.Joins, refused_by (takes_join lists) lists.joins) ∷ [] in
    let from_plans : List (Table × Option ℕ) = (table.Plans, refused_by (takes_plan lists) lists.plans) ∷ from_joins in
    let from_keys : List (Table × Option ℕ) = (table.Keys, refused_by takes_key lists.keys) ∷ from_plans in
    let from_stages : List (Table × Option ℕ) = (table.Stages, refused_by (takes_stage lists) lists.stages) ∷ from_keys in
    let from_deployments : List (Table × Option ℕ) = (table.Deployments, refused_by (takes_deployment lists) lists.deployments) ∷ from_stages in
    let from_apis : List (Table × Option ℕ) = (table.Apis, refused_by takes_api lists.apis) ∷ from_deployments in
    let apis = (later_bad table.Meta (refused_by takes_meta lists.metas) from_apis e).1 in
    let deployments = (later_bad table.Apis (refused_by takes_api lists.apis) from_deployments apis).1 in
    let stages = (later_bad table.Deployments (refused_by (takes_deployment lists) lists.deployments) from_stages deployments).1 in
    (later_bad table.Stages (refused_by (takes_stage lists) lists.stages) from_keys stages).0

-- a column that is taken is of variables
column_taken : (text : List ℕ) → is_vars_column text ≡ true → are_variables (variables_in text).pairs ≡ true
unfolding variables_in
column_taken text h = of_read (column_pairs text) h
  where
    of_read : (read : Option Pairs) → are_stage_variables read ≡ true → are_variables (unwrap_or read []) ≡ true
    of_read None e = absurd cc
    of_read (Some pairs) e =
        let few = nat_le (length pairs) most_variables in
        (and_parts few (are_variables pairs) (and_parts (few && are_variables pairs) (names_differ pairs) e).0).1

-- and an empty one is of none
column_empty : (text : List ℕ) → (length text == 0) ≡ true → are_variables (variables_in text).pairs ≡ true
unfolding variables_in column_pairs
column_empty [] h = refl
column_empty (b ∷ bs) h = let none = zero_of (length (b ∷ bs)) h in absurd (omega arith)
  where
    zero_of : (n : ℕ) → (n == 0) ≡ true → n ≡ 0
    zero_of n e = grind arith

canary_taken : (lists : Lists) (row : StageRow) → takes_canary lists row ≡ true → are_variables (variables_in row.canary_vars).pairs ≡ true
canary_taken lists row h = pick (row.canary == 0) h
  where
    pick : (none : Bool)
        → cond none ((row.share == 0) && (length row.canary_vars == 0)) (is_deployed lists row.api row.canary && nat_le row.share 10000 && is_vars_column row.canary_vars) ≡ true
        → are_variables (variables_in row.canary_vars).pairs ≡ true
    pick true e = column_empty row.canary_vars (and_parts (row.share == 0) (length row.canary_vars == 0) e).1
    pick false e = column_taken row.canary_vars (and_parts (is_deployed lists row.api row.canary && nat_le row.share 10000) (is_vars_column row.canary_vars) e).1

row_taken : (lists : Lists) (before : List StageRow) (row : StageRow) → takes_stage lists before row ≡ true → HasVariables (staged_of row)
row_taken lists before row h =
    let a = nat_lt (length before) most_stages in
    let b = is_name row.stage in
    let c = is_deployed lists row.api row.deployment in
    let d = is_vars_column row.vars in
    let outer = and_parts (a && b && c && d) (takes_canary lists row) h in
    (column_taken row.vars (and_parts (a && b && c) d outer.0).1, canary_taken lists row outer.1)

-- a stage of the opening tables has variables
pub opens_with : (opening : Lists) (api stage : List ℕ) → bad_row opening ≡ None → IfSome (option_map staged_of (stage_row opening api stage)) HasVariables
opens_with opening api stage good = of_found (stage_row opening api stage) refl
  where
    of_found : (found : Option StageRow) → stage_row opening api stage ≡ found → IfSome (option_map staged_of found) HasVariables
    of_found None e = tt
    of_found (Some row) e =
        let taken = taken_found (takes_stage opening) (is_stage api stage) [] opening.stages row (stages_taken opening good) e in
        row_taken opening taken.0 row taken.1
