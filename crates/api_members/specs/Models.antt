-- A model: a schema of draft 4, of which no reference comes back.
use Rattle.std.specs.Prelude.{ℕ, ◌==◌, nat_le, Bool, ◌&&◌, ◌||◌, List, [], ◌∷◌, ◌++◌, length, Option, Some, None, Result, Ok, Err, if◌then◌else◌}
use Rattle.std.specs.List.{list_any}
use Rattle.json_subset.specs.Tree.{Tree}
use Rattle.schema_order.specs.Leads.{edges_of}
use Rattle.schema_rules.specs.Rules.{Schemas, target}
use Rattle.schema_draft4.specs.Cycles.{Reference, reading_order, steps, target_name, up_from}
use Rattle.schema_draft4.specs.Compiled.{Compiled, compiled_schemas, linked_schemas}
use Rattle.schema_draft4.specs.Reading.{Fault, bad_keyword, bad_pattern, unsupported, ref_missing, definitions_of}
use Rattle.api_parts.specs.Reading.{Text, Read, ◌>>=◌, each, here, bad, unknown}
use Rattle.api_parts.specs.declared.fault.ApiCause.TheVariants.{Model}
use Rattle.api_parts.specs.declared.fault.ModelFault.{ModelFault}
use Rattle.api_parts.specs.declared.fault.ModelFault.TheVariants as model
use Rattle.gw_base.specs.Names.{is_name}
use Rattle.api_reading.specs.Values.{object_in}

-- a stands on c
abbrev pub stands_on : List (List ℕ) → ℕ → ℕ → Bool
stands_on es a c = list_any (λ x. c == x) (edges_of es a)

-- a is c, or leads to it by steps, all but the last of which end at these
abbrev pub leads_by : List (List ℕ) → List ℕ → ℕ → ℕ → Bool
leads_by es [] a c = (a == c) || stands_on es a c
leads_by es (k ∷ ks) a c = leads_by es ks a c || (leads_by es ks a k && leads_by es ks k c)

-- what a `$ref` names leads back to it
unfoldable pub comes_back : Schemas → Reference → Bool
comes_back ss r = leads_by (steps ss) (up_from 0 (length (steps ss))) (target ss r.1) r.0

-- what the first of these names that comes back, if one does
abbrev pub first_back : Schemas → List Reference → Option ℕ
first_back ss [] = None
first_back ss (r ∷ rs) = if comes_back ss r then Some r.1 else first_back ss rs

abbrev pub fault_of : Fault → ModelFault
fault_of (bad_keyword at) = model.BadKeyword at
fault_of (bad_pattern at) = model.BadPattern at
fault_of (unsupported x) = model.Unsupported x
fault_of (ref_missing x) = model.RefMissing x

abbrev pub unless_back : Tree → Schemas × ℕ → Option ℕ → Read (Schemas × ℕ)
unless_back t s None = Ok s
unless_back t s (Some n) = Err (here (Model (model.RefCycle (target_name (definitions_of t) n))))

abbrev pub model_by : Tree → Result (Schemas × ℕ) Fault → Read (Schemas × ℕ)
model_by t (Err fault) = Err (here (Model (fault_of fault)))
model_by t (Ok s) = unless_back t s (first_back s.0 (reading_order s.0))

-- the schemas that a model is, and its own number among them
unfoldable pub model_in : Tree → Read (Schemas × ℕ)
model_in t = model_by t (linked_schemas t)

-- a model that was read, as its schemas
abbrev pub schemas_in : Compiled → Schemas × ℕ
schemas_in s = (compiled_schemas s, s.root)

-- the models by their names
abbrev pub Models : Type 0
Models = List (Text × (Schemas × ℕ))

abbrev pub models_member : Models → Text → Tree → Read Models
models_member all x t = if is_name x then (model_in t >>= λ s. Ok (all ++ (x, s) ∷ [])) else unknown x

abbrev pub models_from : Text → List (Text × Tree) → Read Models
models_from name ms = if nat_le (length ms) 300 then each models_member [] ms else bad name

abbrev pub models_in : Text → Tree → Read Models
models_in name t = object_in name t >>= models_from name

-- models that were read, each as its schemas
abbrev pub model_seen : Text × Compiled → Text × (Schemas × ℕ)
model_seen m = (m.0, schemas_in m.1)
