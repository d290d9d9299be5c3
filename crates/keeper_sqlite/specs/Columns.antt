-- How the rows of the tables stand in the columns of the file: a text as TEXT, a number as INTEGER, which has a sign and 64 bits.
use Rattle.std.specs.Prelude.{◌≡◌, ℕ, ◌+◌, ◌<◌, ◌^◌, nat_lt, pos, negsuc, Bool, true, false, List, [], ◌∷◌, length, take, ⊤}
use Rattle.std.specs.List.{list_all}
use Rattle.std.specs.Str.{IsUtf8}
use Rattle.sqlite_value.specs.declared.value.Value.{Value}
use Rattle.sqlite_value.specs.declared.value.Value.TheVariants.{Null, Int, Real, Text, Blob}
use Rattle.sqlite_value.specs.Order.{column}
use Rattle.keeper_core.specs.Lists.{table_of}
use Rattle.keeper_core.specs.declared.rows.MetaRow.{MetaRow}
use Rattle.keeper_core.specs.declared.rows.ApiRow.{ApiRow}
use Rattle.keeper_core.specs.declared.rows.DeploymentRow.{DeploymentRow}
use Rattle.keeper_core.specs.declared.rows.StageRow.{StageRow}
use Rattle.keeper_core.specs.declared.rows.KeyRow.{KeyRow}
use Rattle.keeper_core.specs.declared.rows.PlanRow.{PlanRow}
use Rattle.keeper_core.specs.declared.rows.JoinRow.{JoinRow}
use Rattle.keeper_core.specs.declared.rows.Row.{Row}
use Rattle.keeper_core.specs.declared.rows.Row.TheVariants.{Meta, Api, Deployment, Stage, Key, Plan, Join}
use Rattle.keeper_core.specs.declared.table.Table.{Table}
use Rattle.keeper_core.specs.declared.table.Table.TheVariants.{Apis, Deployments, Stages, Keys, Plans, Joins}
use Rattle.keeper_core.specs.declared.table.Table.TheVariants.{Meta as Metas}

-- the value of a number
abbrev pub number : ℕ → Value
number n = Int (pos n)

-- the values of a row, in the order of the columns of its table
abbrev pub meta_columns : MetaRow → List Value
meta_columns row = number row.id ∷ number row.version ∷ []

abbrev pub api_columns : ApiRow → List Value
api_columns row = Text row.api ∷ number row.text ∷ Text row.source ∷ []

abbrev pub deployment_columns : DeploymentRow → List Value
deployment_columns row = Text row.api ∷ number row.number ∷ number row.text ∷ Text row.source ∷ []

abbrev pub stage_columns : StageRow → List Value
stage_columns row = Text row.api ∷ Text row.stage ∷ number row.deployment ∷ Text row.vars ∷ number row.canary ∷ number row.share ∷ Text row.canary_vars ∷ []

abbrev pub key_columns : KeyRow → List Value
key_columns row = Text row.key ∷ Text row.value ∷ number row.enabled ∷ []

abbrev pub plan_columns : PlanRow → List Value
plan_columns row =
    Text row.plan ∷ number row.rate ∷ number row.burst ∷ number row.tversion ∷ number row.qlimit ∷ number row.qoffset ∷ number row.qkind ∷ Text row.stages ∷ []

abbrev pub join_columns : JoinRow → List Value
join_columns row =
    Text row.plan ∷ Text row.key ∷ number row.level ∷ number row.at ∷ number row.tversion ∷ number row.pkind ∷ number row.pnumber ∷ number row.allowance ∷ number row.used ∷ number row.first ∷ []

abbrev pub columns : Row → List Value
columns (Meta row) = meta_columns row
columns (Api row) = api_columns row
columns (Deployment row) = deployment_columns row
columns (Stage row) = stage_columns row
columns (Key row) = key_columns row
columns (Plan row) = plan_columns row
columns (Join row) = join_columns row

-- how many of the columns, from the first on, are the key
abbrev pub key_width : Table → ℕ
key_width Metas = 1
key_width Apis = 1
key_width Deployments = 2
key_width Stages = 2
key_width Keys = 1
key_width Plans = 1
key_width Joins = 2

-- the values of the row's key
abbrev pub key_values : Row → List Value
key_values row = take (key_width (table_of row)) (columns row)

-- INTEGER takes the number: it is at most 9,223,372,036,854,775,807
abbrev pub takes : Value → Bool
takes (Int (pos n)) = nat_lt n (2 ^ 63)
takes (Int (negsuc n)) = false
takes Null = false
takes (Real x) = false
takes (Text t) = true
takes (Blob b) = false

-- every number of the row can be written
abbrev pub can_be_written : Row → Bool
can_be_written row = list_all takes (columns row)

-- from this column on the values are these
abbrev pub Holds : List Value → ℕ → List Value → Type 0
Holds values at [] = ⊤
Holds values at (v ∷ vs) = (column values at ≡ v) × Holds values (at + 1) vs

-- a column holds a text, or a number from 0 on
abbrev pub HoldsText : List Value → ℕ → Type 0
HoldsText values at = (at < length values) × ((t : List ℕ) × (column values at ≡ Text t) × IsUtf8 t)

abbrev pub HoldsNumber : List Value → ℕ → Type 0
HoldsNumber values at = (at < length values) × ((n : ℕ) × (column values at ≡ number n))

-- what a column of a table is for
pub data Form : Type 0 where
  Word : Form
  Number : Form

abbrev pub forms : Table → List Form
forms Metas = Number ∷ Number ∷ []
forms Apis = Word ∷ Number ∷ Word ∷ []
forms Deployments = Word ∷ Number ∷ Number ∷ Word ∷ []
forms Stages = Word ∷ Word ∷ Number ∷ Word ∷ Number ∷ Number ∷ Word ∷ []
forms Keys = Word ∷ Word ∷ Number ∷ []
forms Plans = Word ∷ Number ∷ Number ∷ Number ∷ Number ∷ Number ∷ Number ∷ Word ∷ []
forms Joins = Word ∷ Word ∷ Number ∷ Number ∷ Number ∷ Number ∷ Number ∷ Number ∷ Number ∷ Number ∷ []

-- from this column on the values are of these forms
abbrev pub AreOf : List Value → ℕ → List Form → Type 0
AreOf values at [] = ⊤
AreOf values at (Word ∷ rest) = HoldsText values at × AreOf values (at + 1) rest
AreOf values at (Number ∷ rest) = HoldsNumber values at × AreOf values (at + 1) rest

-- the values can be a row of the table
abbrev pub FitIn : Table → List Value → Type 0
FitIn table values = AreOf values 0 (forms table)
