-- Where a key stands among rows in order.
use Rattle.std.specs.Prelude.{◌≡◌, ℕ, ◌<◌, ◌≤◌, Bool, List, length, find, slice_get, slice_set, Option, Some, None, Result, Ok, Err}
use Rattle.std.specs.List.{position, insert}
use Rattle.keeper_core.specs.Lists.{Lists, insert_before, is_meta, is_api, is_deployment, is_stage, is_key, is_plan, is_join, meta_behind, api_behind, deployment_behind, stage_behind, key_behind, plan_behind, join_behind}
use Rattle.keeper_core.specs.declared.place.Place.{Place}
use Rattle.keeper_core.specs.declared.place.Place.TheVariants.{At, Before}
use Rattle.keeper_core.specs.declared.rows.Row.{Row}
use Rattle.keeper_core.specs.declared.rows.Row.TheVariants.{Meta, Api, Deployment, Stage, Key, Plan, Join}

-- the row of the key is row i
pub record IsRowAt {R : Type 0} (has_key : R → Bool) (rows : List R) (i : ℕ) : Type 0 where
  pub inside : i < length rows
  pub first : position has_key rows ≡ Some i

-- no row has the key, and a new one goes before row i, or to the end
pub record IsGapAt {R : Type 0} (has_key has_greater : R → Bool) (rows : List R) (i : ℕ) : Type 0 where
  pub inside : i ≤ length rows
  pub none : find has_key rows ≡ None
  pub before : (row : R) → insert_before has_greater row rows ≡ insert rows i row

abbrev pub IsPlace : {R : Type 0} → (R → Bool) → (R → Bool) → List R → Place → Type 0
IsPlace has_key has_greater rows (At i) = IsRowAt has_key rows i
IsPlace has_key has_greater rows (Before i) = IsGapAt has_key has_greater rows i

-- the place of a row's key in its table
abbrev pub IsPlaceOf : Row → Lists → Place → Type 0
IsPlaceOf (Meta row) lists place = IsPlace (is_meta row.id) (meta_behind row.id) lists.metas place
IsPlaceOf (Api row) lists place = IsPlace (is_api row.api) (api_behind row.api) lists.apis place
IsPlaceOf (Deployment row) lists place = IsPlace (is_deployment row.api row.number) (deployment_behind row.api row.number) lists.deployments place
IsPlaceOf (Stage row) lists place = IsPlace (is_stage row.api row.stage) (stage_behind row.api row.stage) lists.stages place
IsPlaceOf (Key row) lists place = IsPlace (is_key row.key) (key_behind row.key) lists.keys place
IsPlaceOf (Plan row) lists place = IsPlace (is_plan row.plan) (plan_behind row.plan) lists.plans place
IsPlaceOf (Join row) lists place = IsPlace (is_join row.plan row.key) (join_behind row.plan row.key) lists.joins place

-- the place is among so many rows
abbrev pub IsWithin : Place → ℕ → Type 0
IsWithin (At i) n = i < n
IsWithin (Before i) n = i ≤ n

-- the rows with this one at the place
abbrev pub put_at : {R : Type 0} → Place → R → List R → List R
put_at (At i) row rows = slice_set rows i row
put_at (Before i) row rows = insert rows i row

-- the row that stands at the place
abbrev pub row_at : {R : Type 0} → Place → List R → Option R
row_at (At i) rows = slice_get rows i
row_at (Before i) rows = None

-- what a binary search found
abbrev pub place_of : Result ℕ ℕ → Place
place_of (Ok i) = At i
place_of (Err i) = Before i
