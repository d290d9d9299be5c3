-- What the texts of the store's statements mean over its schema.
use Rattle.std.proofs.Common.{◌≡◌, ℕ, pos, negsuc, false, List, [], ◌∷◌, Some, None, codes, refl}
use Rattle.sqlite_value.specs.declared.value.Value.TheVariants.{Null, Int}
use Rattle.sqlite_value.specs.declared.keys.Collation.TheVariants.{Binary}
use Rattle.sqlite_sql.specs.declared.ops.BinaryOp.TheVariants.{Compare}
use Rattle.sqlite_sql.specs.declared.ops.CompareOp.TheVariants.{Eq}
use Rattle.sqlite_sql.specs.Term.{Term, lit, col, op2}
use Rattle.sqlite_sql.specs.Query.{Query, end, inner}
use Rattle.sqlite_schema.specs.declared.program.Program.{Program}
use Rattle.sqlite_schema.specs.declared.command.Command.{Command}
use Rattle.sqlite_schema.specs.declared.command.Command.TheVariants.{Select, InsertOr}
use Rattle.sqlite_schema.specs.declared.command.Source.TheVariants.{Values}
use Rattle.sqlite_schema.specs.declared.command.Conflict.TheVariants.{Abort}
use Rattle.sqlite_schema.specs.declared.command.Upsert.{Upsert}
use Rattle.sqlite.specs.Listing.{understood, reads_listing}
use Rattle.sqlite.proofs.Callers.{IsPlain, command_of}
use Rattle.sqlite_tied.specs.Compute.{everything}
use Rattle.keeper_core.specs.declared.table.Table.{Table}
use Rattle.keeper_core.specs.declared.table.Table.TheVariants.{Apis, Deployments, Stages, Keys, Plans, Joins}
use Rattle.keeper_core.specs.declared.table.Table.TheVariants.{Meta as Metas}
use Rattle.keeper_sqlite.specs.Texts.{upsert_text, find_text}
use Rattle.kept_rows.specs.Store.{store_schema, table_in}

-- a query over one table, with no order and no limit
abbrev pub query : ℕ → List Term → List Term → Query
query tree filter project = record {
  from = inner tree end;
  filter = filter;
  group = None;
  project = project;
  distinct = false;
  collations = [];
  order = [];
  limit = lit (Int (negsuc 0));
  offset = lit (Int (pos 0));
}

abbrev pub program : Query → Program
program q = record { lets = []; body = q }

-- the column of the row equals the parameter
abbrev pub equals : ℕ → ℕ → Term
equals at parameter = op2 (Compare Eq Binary) (col 1 at) (col 0 parameter)

-- the number of the table in the schema, and its tree
abbrev pub number_of : Table → ℕ
number_of Metas = 0
number_of Apis = 1
number_of Deployments = 2
number_of Stages = 3
number_of Keys = 4
number_of Plans = 5
number_of Joins = 6

abbrev pub tree_of : Table → ℕ
tree_of Metas = 0
tree_of Apis = 1
tree_of Deployments = 3
tree_of Stages = 5
tree_of Keys = 7
tree_of Plans = 10
tree_of Joins = 12

-- how many columns the table has
abbrev pub width_of : Table → ℕ
width_of Metas = 2
width_of Apis = 3
width_of Deployments = 4
width_of Stages = 7
width_of Keys = 3
width_of Plans = 8
width_of Joins = 10

-- the places of the key
abbrev pub key_of : Table → List ℕ
key_of Metas = 0 ∷ []
key_of Apis = 1 ∷ []
key_of Deployments = 1 ∷ 2 ∷ []
key_of Stages = 1 ∷ 2 ∷ []
key_of Keys = 1 ∷ []
key_of Plans = 1 ∷ []
key_of Joins = 1 ∷ 2 ∷ []

-- the values that a row is made of: its rowid, and then its columns
abbrev pub terms_of : Table → List Term
terms_of Metas = col 0 0 ∷ lit Null ∷ col 0 1 ∷ []
terms_of Apis = lit Null ∷ col 0 0 ∷ col 0 1 ∷ col 0 2 ∷ []
terms_of Deployments = lit Null ∷ col 0 0 ∷ col 0 1 ∷ col 0 2 ∷ col 0 3 ∷ []
terms_of Stages = lit Null ∷ col 0 0 ∷ col 0 1 ∷ col 0 2 ∷ col 0 3 ∷ col 0 4 ∷ col 0 5 ∷ col 0 6 ∷ []
terms_of Keys = lit Null ∷ col 0 0 ∷ col 0 1 ∷ col 0 2 ∷ []
terms_of Plans = lit Null ∷ col 0 0 ∷ col 0 1 ∷ col 0 2 ∷ col 0 3 ∷ col 0 4 ∷ col 0 5 ∷ col 0 6 ∷ col 0 7 ∷ []
terms_of Joins = lit Null ∷ col 0 0 ∷ col 0 1 ∷ col 0 2 ∷ col 0 3 ∷ col 0 4 ∷ col 0 5 ∷ col 0 6 ∷ col 0 7 ∷ col 0 8 ∷ col 0 9 ∷ []

-- which rows of the table have the key
abbrev pub filter_of : Table → List Term
filter_of Metas = equals 0 0 ∷ []
filter_of Apis = equals 1 0 ∷ []
filter_of Deployments = equals 1 0 ∷ equals 2 1 ∷ []
filter_of Stages = equals 1 0 ∷ equals 2 1 ∷ []
filter_of Keys = equals 1 0 ∷ []
filter_of Plans = equals 1 0 ∷ []
filter_of Joins = equals 1 0 ∷ equals 2 1 ∷ []

-- what is shown of a row
abbrev pub shown_of : Table → List Term
shown_of Metas = col 1 0 ∷ col 1 2 ∷ []
shown_of Apis = col 1 1 ∷ col 1 2 ∷ col 1 3 ∷ []
shown_of Deployments = col 1 1 ∷ col 1 2 ∷ col 1 3 ∷ col 1 4 ∷ []
shown_of Stages = col 1 1 ∷ col 1 2 ∷ col 1 3 ∷ col 1 4 ∷ col 1 5 ∷ col 1 6 ∷ col 1 7 ∷ []
shown_of Keys = col 1 1 ∷ col 1 2 ∷ col 1 3 ∷ []
shown_of Plans = col 1 1 ∷ col 1 2 ∷ col 1 3 ∷ col 1 4 ∷ col 1 5 ∷ col 1 6 ∷ col 1 7 ∷ col 1 8 ∷ []
shown_of Joins = col 1 1 ∷ col 1 2 ∷ col 1 3 ∷ col 1 4 ∷ col 1 5 ∷ col 1 6 ∷ col 1 7 ∷ col 1 8 ∷ col 1 9 ∷ col 1 10 ∷ []

-- the row that is written over one that has the key, behind the rowid of that one
abbrev pub over_of : Table → List Term
over_of Metas = col 1 0 ∷ col 1 0 ∷ lit Null ∷ col 0 5 ∷ []
over_of Apis = col 1 0 ∷ col 1 0 ∷ col 1 1 ∷ col 0 6 ∷ col 0 7 ∷ []
over_of Deployments = col 1 0 ∷ col 1 0 ∷ col 1 1 ∷ col 1 2 ∷ col 0 8 ∷ col 0 9 ∷ []
over_of Stages = col 1 0 ∷ col 1 0 ∷ col 1 1 ∷ col 1 2 ∷ col 0 11 ∷ col 0 12 ∷ col 0 13 ∷ col 0 14 ∷ col 0 15 ∷ []
over_of Keys = col 1 0 ∷ col 1 0 ∷ col 1 1 ∷ col 0 6 ∷ col 0 7 ∷ []
over_of Plans = col 1 0 ∷ col 1 0 ∷ col 1 1 ∷ col 0 11 ∷ col 0 12 ∷ col 0 13 ∷ col 0 14 ∷ col 0 15 ∷ col 0 16 ∷ col 0 17 ∷ []
over_of Joins = col 1 0 ∷ col 1 0 ∷ col 1 1 ∷ col 1 2 ∷ col 0 14 ∷ col 0 15 ∷ col 0 16 ∷ col 0 17 ∷ col 0 18 ∷ col 0 19 ∷ col 0 20 ∷ col 0 21 ∷ []

abbrev pub over : Table → Program
over t = program (query (tree_of t) (equals 0 (width_of t) ∷ []) (over_of t))

abbrev pub clause : Table → Upsert
clause t = record { target = Some (key_of t); update = Some (over t) }

abbrev pub terms_width : Table → ℕ
terms_width Metas = 3
terms_width Apis = 4
terms_width Deployments = 5
terms_width Stages = 8
terms_width Keys = 4
terms_width Plans = 9
terms_width Joins = 11

abbrev pub upsert : Table → Command
upsert t = InsertOr (number_of t) Abort (Values (terms_of t) (terms_width t)) (clause t ∷ [])

abbrev pub find : Table → List (List ℕ) → Command
find t names = Select (program (query (tree_of t) (filter_of t) (shown_of t))) names

abbrev pub names_of : Table → List (List ℕ)
names_of Metas = codes "id" ∷ codes "version" ∷ []
names_of Apis = codes "api" ∷ codes "text" ∷ codes "source" ∷ []
names_of Deployments = codes "api" ∷ codes "number" ∷ codes "text" ∷ codes "source" ∷ []
names_of Stages = codes "api" ∷ codes "stage" ∷ codes "deployment" ∷ codes "vars" ∷ codes "canary" ∷ codes "share" ∷ codes "canary_vars" ∷ []
names_of Keys = codes "key" ∷ codes "value" ∷ codes "enabled" ∷ []
names_of Plans = codes "plan" ∷ codes "rate" ∷ codes "burst" ∷ codes "tversion" ∷ codes "qlimit" ∷ codes "qoffset" ∷ codes "qkind" ∷ codes "stages" ∷ []
names_of Joins = codes "plan" ∷ codes "key" ∷ codes "level" ∷ codes "at" ∷ codes "tversion" ∷ codes "pkind" ∷ codes "pnumber" ∷ codes "allowance" ∷ codes "used" ∷ codes "first" ∷ []

pub upsert_is : (t : Table) → command_of (understood store_schema (upsert_text t)) ≡ upsert t
unfolding understood everything store_schema table_in upsert_text
upsert_is Metas = refl
upsert_is Apis = refl
upsert_is Deployments = refl
upsert_is Stages = refl
upsert_is Keys = refl
upsert_is Plans = refl
upsert_is Joins = refl

pub upsert_plain : (t : Table) → IsPlain (understood store_schema (upsert_text t))
unfolding understood everything store_schema table_in upsert_text
upsert_plain Metas = (refl, refl)
upsert_plain Apis = (refl, refl)
upsert_plain Deployments = (refl, refl)
upsert_plain Stages = (refl, refl)
upsert_plain Keys = (refl, refl)
upsert_plain Plans = (refl, refl)
upsert_plain Joins = (refl, refl)

pub find_is : (t : Table) → command_of (understood store_schema (find_text t)) ≡ find t (names_of t)
unfolding understood everything store_schema table_in find_text
find_is Metas = refl
find_is Apis = refl
find_is Deployments = refl
find_is Stages = refl
find_is Keys = refl
find_is Plans = refl
find_is Joins = refl

pub find_plain : (t : Table) → IsPlain (understood store_schema (find_text t))
unfolding understood everything store_schema table_in find_text
find_plain Metas = (refl, refl)
find_plain Apis = (refl, refl)
find_plain Deployments = (refl, refl)
find_plain Stages = (refl, refl)
find_plain Keys = (refl, refl)
find_plain Plans = (refl, refl)
find_plain Joins = (refl, refl)

pub find_unlisted : (t : Table) → reads_listing store_schema (find_text t) ≡ false
unfolding everything store_schema table_in find_text
find_unlisted Metas = refl
find_unlisted Apis = refl
find_unlisted Deployments = refl
find_unlisted Stages = refl
find_unlisted Keys = refl
find_unlisted Plans = refl
find_unlisted Joins = refl
