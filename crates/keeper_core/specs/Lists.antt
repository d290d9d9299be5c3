-- The seven tables as lists of rows, the keys of their rows, and what a row that is put leaves.
use Rattle.std.specs.Prelude.{◌≡◌, ℕ, ◌==◌, nat_lt, Bool, true, ◌&&◌, ◌||◌, List, [], ◌∷◌, length, find, Option, is_none, if◌then◌else◌}
use Rattle.std.specs.List.{AllByRecursion}
use Rattle.std.specs.Str.{bytes_eq}
use Rattle.std.specs.Cmp.Lexicographic.{slice_cmp}
use Rattle.std.specs.Ordering.{nat_cmp, is_gt}
use Rattle.keeper_core.specs.declared.rows.MetaRow.{MetaRow}
use Rattle.keeper_core.specs.declared.rows.ApiRow.{ApiRow}
use Rattle.keeper_core.specs.declared.rows.DeploymentRow.{DeploymentRow}
use Rattle.keeper_core.specs.declared.rows.StageRow.{StageRow}
use Rattle.keeper_core.specs.declared.rows.KeyRow.{KeyRow}
use Rattle.keeper_core.specs.declared.rows.PlanRow.{PlanRow}
use Rattle.keeper_core.specs.declared.rows.JoinRow.{JoinRow}
use Rattle.keeper_core.specs.declared.rows.Row.{Row}
use Rattle.keeper_core.specs.declared.rows.Row.TheVariants.{Meta, Api, Deployment, Stage, Key, Plan, Join}
use Rattle.keeper_core.specs.declared.table.Table.{Table}
use Rattle.keeper_core.specs.declared.table.Table.TheVariants.{Apis, Deployments, Stages, Keys, Plans, Joins}
use Rattle.keeper_core.specs.declared.table.Table.TheVariants.{Meta as Metas}

-- the rows of each table
pub record Lists : Type 0 where
  pub metas : List MetaRow
  pub apis : List ApiRow
  pub deployments : List DeploymentRow
  pub stages : List StageRow
  pub keys : List KeyRow
  pub plans : List PlanRow
  pub joins : List JoinRow

abbrev pub no_rows : Lists
no_rows = record { metas = []; apis = []; deployments = []; stages = []; keys = []; plans = []; joins = [] }

-- the text stands behind another in the order of their bytes
abbrev pub is_behind : List ℕ → List ℕ → Bool
is_behind a b = is_gt (slice_cmp nat_cmp a b)

-- the row has this key
abbrev pub is_meta : ℕ → MetaRow → Bool
is_meta id row = row.id == id

abbrev pub is_api : List ℕ → ApiRow → Bool
is_api name row = bytes_eq row.api name

abbrev pub is_deployment : List ℕ → ℕ → DeploymentRow → Bool
is_deployment api number row = bytes_eq row.api api && row.number == number

abbrev pub is_stage : List ℕ → List ℕ → StageRow → Bool
is_stage api stage row = bytes_eq row.api api && bytes_eq row.stage stage

abbrev pub is_key : List ℕ → KeyRow → Bool
is_key key row = bytes_eq row.key key

abbrev pub is_plan : List ℕ → PlanRow → Bool
is_plan plan row = bytes_eq row.plan plan

abbrev pub is_join : List ℕ → List ℕ → JoinRow → Bool
is_join plan key row = bytes_eq row.plan plan && bytes_eq row.key key

-- the row's key is greater: keys compare column by column
abbrev pub meta_behind : ℕ → MetaRow → Bool
meta_behind id row = nat_lt id row.id

abbrev pub api_behind : List ℕ → ApiRow → Bool
api_behind name row = is_behind row.api name

abbrev pub deployment_behind : List ℕ → ℕ → DeploymentRow → Bool
deployment_behind api number row = is_behind row.api api || bytes_eq row.api api && nat_lt number row.number

abbrev pub stage_behind : List ℕ → List ℕ → StageRow → Bool
stage_behind api stage row = is_behind row.api api || bytes_eq row.api api && is_behind row.stage stage

abbrev pub key_behind : List ℕ → KeyRow → Bool
key_behind key row = is_behind row.key key

abbrev pub plan_behind : List ℕ → PlanRow → Bool
plan_behind plan row = is_behind row.plan plan

abbrev pub join_behind : List ℕ → List ℕ → JoinRow → Bool
join_behind plan key row = is_behind row.plan plan || bytes_eq row.plan plan && is_behind row.key key

-- the row of a key
abbrev pub meta_row : Lists → ℕ → Option MetaRow
meta_row lists id = find (is_meta id) lists.metas

abbrev pub api_row : Lists → List ℕ → Option ApiRow
api_row lists api = find (is_api api) lists.apis

abbrev pub deployment_row : Lists → List ℕ → ℕ → Option DeploymentRow
deployment_row lists api number = find (is_deployment api number) lists.deployments

abbrev pub stage_row : Lists → List ℕ → List ℕ → Option StageRow
stage_row lists api stage = find (is_stage api stage) lists.stages

abbrev pub key_row : Lists → List ℕ → Option KeyRow
key_row lists key = find (is_key key) lists.keys

abbrev pub plan_row : Lists → List ℕ → Option PlanRow
plan_row lists plan = find (is_plan plan) lists.plans

abbrev pub join_row : Lists → List ℕ → List ℕ → Option JoinRow
join_row lists plan key = find (is_join plan key) lists.joins

-- the first row that passes is changed so
abbrev pub adjust : {R : Type 0} → (R → Bool) → (R → R) → List R → List R
adjust p f [] = []
adjust p f (y ∷ ys) = if p y then f y ∷ ys else y ∷ adjust p f ys

-- a row is added before the first that passes, or at the end
abbrev pub insert_before : {R : Type 0} → (R → Bool) → R → List R → List R
insert_before q x [] = x ∷ []
insert_before q x (y ∷ ys) = if q y then x ∷ y ∷ ys else y ∷ insert_before q x ys

-- a new row before the first of a greater key, or in the place of the row of its key
abbrev pub put_by : {R : Type 0} → (R → Bool) → (R → Bool) → R → List R → List R
put_by has_key has_greater row rows = if is_none (find has_key rows) then insert_before has_greater row rows else adjust has_key (λ old. row) rows

abbrev pub put : Row → Lists → Lists
put (Meta row) lists = record lists { metas = put_by (is_meta row.id) (meta_behind row.id) row lists.metas }
put (Api row) lists = record lists { apis = put_by (is_api row.api) (api_behind row.api) row lists.apis }
put (Deployment row) lists = record lists { deployments = put_by (is_deployment row.api row.number) (deployment_behind row.api row.number) row lists.deployments }
put (Stage row) lists = record lists { stages = put_by (is_stage row.api row.stage) (stage_behind row.api row.stage) row lists.stages }
put (Key row) lists = record lists { keys = put_by (is_key row.key) (key_behind row.key) row lists.keys }
put (Plan row) lists = record lists { plans = put_by (is_plan row.plan) (plan_behind row.plan) row lists.plans }
put (Join row) lists = record lists { joins = put_by (is_join row.plan row.key) (join_behind row.plan row.key) row lists.joins }

-- the first row first
abbrev pub put_all : List Row → Lists → Lists
put_all [] lists = lists
put_all (row ∷ rows) lists = put_all rows (put row lists)

-- each row's key is greater than that of every row before it: behind row other says that other's key is greater than row's
abbrev pub Ascends : {R : Type 0} → (R → R → Bool) → List R → Type 0
Ascends behind [] = Unit {0}
Ascends behind (row ∷ rows) = AllByRecursion (λ other. behind row other ≡ true) rows × Ascends behind rows

pub record AreInOrder (lists : Lists) : Type 0 where
  pub metas : Ascends (λ row. meta_behind row.id) lists.metas
  pub apis : Ascends (λ row. api_behind row.api) lists.apis
  pub deployments : Ascends (λ row. deployment_behind row.api row.number) lists.deployments
  pub stages : Ascends (λ row. stage_behind row.api row.stage) lists.stages
  pub keys : Ascends (λ row. key_behind row.key) lists.keys
  pub plans : Ascends (λ row. plan_behind row.plan) lists.plans
  pub joins : Ascends (λ row. join_behind row.plan row.key) lists.joins

-- no rows are in order, and a row that is put keeps the order
pub record ListsStayInOrder : Type 0 where
  pub first : AreInOrder no_rows
  pub put : (row : Row) (lists : Lists) → AreInOrder lists → AreInOrder (put row lists)
  pub put_all : (rows : List Row) (lists : Lists) → AreInOrder lists → AreInOrder (put_all rows lists)

abbrev pub table_of : Row → Table
table_of (Meta row) = Metas
table_of (Api row) = Apis
table_of (Deployment row) = Deployments
table_of (Stage row) = Stages
table_of (Key row) = Keys
table_of (Plan row) = Plans
table_of (Join row) = Joins

-- how many rows a table has
abbrev pub rows_in : Table → Lists → ℕ
rows_in Metas lists = length lists.metas
rows_in Apis lists = length lists.apis
rows_in Deployments lists = length lists.deployments
rows_in Stages lists = length lists.stages
rows_in Keys lists = length lists.keys
rows_in Plans lists = length lists.plans
rows_in Joins lists = length lists.joins
