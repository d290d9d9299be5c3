-- The schema of a store: its seven tables, as the texts that make them define them, each in the order in which it is made.
use Rattle.std.specs.Prelude.{ℕ, true, false, List, [], ◌∷◌, map, fold, codes, Option, Some, None}
use Rattle.sqlite_value.specs.declared.value.Value.TheVariants.{Null}
use Rattle.sqlite_value.specs.declared.keys.Collation.TheVariants.{Binary}
use Rattle.sqlite_value.specs.Keys.{plain}
use Rattle.sqlite_schema.specs.declared.schema.Kind.{Kind}
use Rattle.sqlite_schema.specs.declared.schema.Kind.TheVariants.{Integer, Text}
use Rattle.sqlite_schema.specs.declared.schema.Column.{Column}
use Rattle.sqlite_schema.specs.declared.schema.Table.{Table}
use Rattle.sqlite_schema.specs.declared.schema.Index.{Index}
use Rattle.sqlite_schema.specs.declared.schema.Schema.{Schema}
use Rattle.sqlite_catalog.specs.Change.{created}
use Rattle.keeper_core.specs.declared.table.Table.{Table as StoreTable}
use Rattle.keeper_core.specs.declared.table.Table.TheVariants.{Apis, Deployments, Stages, Keys, Plans, Joins}
use Rattle.keeper_core.specs.declared.table.Table.TheVariants.{Meta as Metas}

-- a column that is NOT NULL
abbrev pub column : Kind → List ℕ → Column
column kind name = record { name = name; kind = kind; is_strict = true; not_null = true; default = Null; collation = Binary }

-- a table with no CHECK, no reference and no AUTOINCREMENT
abbrev pub table : List ℕ → ℕ → List Column → Option ℕ → List ℕ → List (List ℕ) → Table
table name tree columns key primary uniques = record {
  name = name;
  tree = tree;
  columns = columns;
  key = key;
  primary = primary;
  uniques = uniques;
  orders = map (λ _. plain) uniques;
  checks = [];
  references = [];
  computed = [];
  stamps = record { places = []; terms = []; formats = [] };
  is_counted = false;
}

-- the index of a UNIQUE or of a PRIMARY KEY
abbrev pub index : List ℕ → ℕ → ℕ → List ℕ → Index
index name tree of columns = record { name = name; tree = tree; table = of; columns = columns; order = plain; is_unique = true }

-- the text that makes the table
unfoldable pub table_text : StoreTable → List ℕ
table_text Metas = codes "CREATE TABLE meta (id INTEGER PRIMARY KEY, version INTEGER NOT NULL) STRICT"
table_text Apis = codes "CREATE TABLE apis (api TEXT NOT NULL PRIMARY KEY, text INTEGER NOT NULL, source TEXT NOT NULL) STRICT"
table_text Deployments = codes "CREATE TABLE deployments (api TEXT NOT NULL, number INTEGER NOT NULL, text INTEGER NOT NULL, source TEXT NOT NULL, PRIMARY KEY (api, number)) STRICT"
table_text Stages = codes "CREATE TABLE stages (api TEXT NOT NULL, stage TEXT NOT NULL, deployment INTEGER NOT NULL, vars TEXT NOT NULL, canary INTEGER NOT NULL, share INTEGER NOT NULL, canary_vars TEXT NOT NULL, PRIMARY KEY (api, stage)) STRICT"
table_text Keys = codes "CREATE TABLE keys (key TEXT NOT NULL PRIMARY KEY, value TEXT NOT NULL UNIQUE, enabled INTEGER NOT NULL) STRICT"
table_text Plans = codes "CREATE TABLE plans (plan TEXT NOT NULL PRIMARY KEY, rate INTEGER NOT NULL, burst INTEGER NOT NULL, tversion INTEGER NOT NULL, qlimit INTEGER NOT NULL, qoffset INTEGER NOT NULL, qkind INTEGER NOT NULL, stages TEXT NOT NULL) STRICT"
table_text Joins = codes "CREATE TABLE joins (plan TEXT NOT NULL, key TEXT NOT NULL, level INTEGER NOT NULL, at INTEGER NOT NULL, tversion INTEGER NOT NULL, pkind INTEGER NOT NULL, pnumber INTEGER NOT NULL, allowance INTEGER NOT NULL, used INTEGER NOT NULL, first INTEGER NOT NULL, PRIMARY KEY (plan, key)) STRICT"

-- the table, whose rows are in a tree of their own
unfoldable pub table_in : StoreTable → Table
table_in Metas = table (codes "meta") 0 (record (column Integer (codes "id")) { not_null = false } ∷ column Integer (codes "version") ∷ []) (Some 0) (0 ∷ []) []
table_in Apis = table (codes "apis") 1 (column Text (codes "api") ∷ column Integer (codes "text") ∷ column Text (codes "source") ∷ []) None (1 ∷ []) ((1 ∷ []) ∷ [])
table_in Deployments = table (codes "deployments") 3 (column Text (codes "api") ∷ column Integer (codes "number") ∷ column Integer (codes "text") ∷ column Text (codes "source") ∷ []) None (1 ∷ 2 ∷ []) ((1 ∷ 2 ∷ []) ∷ [])
table_in Stages = table (codes "stages") 5 (column Text (codes "api") ∷ column Text (codes "stage") ∷ column Integer (codes "deployment") ∷ column Text (codes "vars") ∷ column Integer (codes "canary") ∷ column Integer (codes "share") ∷ column Text (codes "canary_vars") ∷ []) None (1 ∷ 2 ∷ []) ((1 ∷ 2 ∷ []) ∷ [])
table_in Keys = table (codes "keys") 7 (column Text (codes "key") ∷ column Text (codes "value") ∷ column Integer (codes "enabled") ∷ []) None (1 ∷ []) ((1 ∷ []) ∷ (2 ∷ []) ∷ [])
table_in Plans = table (codes "plans") 10 (column Text (codes "plan") ∷ column Integer (codes "rate") ∷ column Integer (codes "burst") ∷ column Integer (codes "tversion") ∷ column Integer (codes "qlimit") ∷ column Integer (codes "qoffset") ∷ column Integer (codes "qkind") ∷ column Text (codes "stages") ∷ []) None (1 ∷ []) ((1 ∷ []) ∷ [])
table_in Joins = table (codes "joins") 12 (column Text (codes "plan") ∷ column Text (codes "key") ∷ column Integer (codes "level") ∷ column Integer (codes "at") ∷ column Integer (codes "tversion") ∷ column Integer (codes "pkind") ∷ column Integer (codes "pnumber") ∷ column Integer (codes "allowance") ∷ column Integer (codes "used") ∷ column Integer (codes "first") ∷ []) None (1 ∷ 2 ∷ []) ((1 ∷ 2 ∷ []) ∷ [])

unfoldable pub store_schema : Schema
store_schema = record {
  tables = table_in Metas ∷ table_in Apis ∷ table_in Deployments ∷ table_in Stages ∷ table_in Keys ∷ table_in Plans ∷ table_in Joins ∷ [];
  indexes =
      index (codes "sqlite_autoindex_apis_1") 2 1 (1 ∷ [])
      ∷ index (codes "sqlite_autoindex_deployments_1") 4 3 (1 ∷ 2 ∷ [])
      ∷ index (codes "sqlite_autoindex_stages_1") 6 5 (1 ∷ 2 ∷ [])
      ∷ index (codes "sqlite_autoindex_keys_1") 8 7 (1 ∷ [])
      ∷ index (codes "sqlite_autoindex_keys_2") 9 7 (2 ∷ [])
      ∷ index (codes "sqlite_autoindex_plans_1") 11 10 (1 ∷ [])
      ∷ index (codes "sqlite_autoindex_joins_1") 13 12 (1 ∷ 2 ∷ [])
      ∷ [];
  views = [];
}

-- the schema of a new file in which the tables were made, one after another
unfoldable pub made_of : Schema
made_of = fold created (record { tables = []; indexes = []; views = [] }) (table_in Metas ∷ table_in Apis ∷ table_in Deployments ∷ table_in Stages ∷ table_in Keys ∷ table_in Plans ∷ table_in Joins ∷ [])
