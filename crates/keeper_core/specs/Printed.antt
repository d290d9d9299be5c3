-- How the names of tables are printed.
use Rattle.std.specs.Prelude.{ℕ, List, codes}
use Rattle.keeper_core.specs.declared.table.Table.{Table}
use Rattle.keeper_core.specs.declared.table.Table.TheVariants.{Meta, Apis, Deployments, Stages, Keys, Plans, Joins}

abbrev pub table_name : Table → List ℕ
table_name Meta = codes "meta"
table_name Apis = codes "apis"
table_name Deployments = codes "deployments"
table_name Stages = codes "stages"
table_name Keys = codes "keys"
table_name Plans = codes "plans"
table_name Joins = codes "joins"
