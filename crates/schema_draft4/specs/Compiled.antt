-- A schema that was read, with all that it names.
use Rattle.std.specs.Prelude.{◌≡◌, ℕ, List, Result, Ok, Err}
use Rattle.json_subset.specs.Tree.{Tree}
use Rattle.json_subset.specs.Documents.{Document, part}
use Rattle.schema_draft4.specs.Cycles.{linked, ComesBackBy}
use Rattle.schema_draft4.specs.Reading.{Fault, bad_keyword, bad_pattern, unsupported, ref_missing, read_schemas, definitions_of}
use Rattle.schema_rules.specs.Verdict.{place_of}
use Rattle.schema_draft4.specs.declared.fault.SchemaFault.{SchemaFault}
use Rattle.schema_draft4.specs.declared.fault.SchemaFault.TheVariants as faults
use Rattle.schema_rules.specs.Rules.{Rule, Schemas}
use Rattle.schema_rules.specs.Views.{schemas_of}
use Rattle.schema_rules.specs.declared.rule.Node.{Node}

-- the schemas by their numbers, the numbers of what a `$ref` can name, and the schema's own number
pub record Compiled : Type 0 where
  pub nodes : List Node
  pub targets : List ℕ
  pub root : ℕ

abbrev pub compiled_schemas : Compiled → Schemas
compiled_schemas c = schemas_of c.nodes c.targets

-- the schemas that a part is with all that it names, and its own number
abbrev pub link_all : Result (ℕ × List (List Rule)) Fault → Result (Schemas × ℕ) Fault
link_all (Ok r) = Ok (linked r.1 r.0, r.0)
link_all (Err e) = Err e

abbrev pub linked_schemas : Tree → Result (Schemas × ℕ) Fault
linked_schemas t = link_all (read_schemas t)

-- the part has this fault; a `$ref` that comes back stands behind all others
abbrev pub IsFaultOf : Document → SchemaFault → Tree → Type 0
IsFaultOf d (faults.BadKeyword id) t = linked_schemas t ≡ Err (bad_keyword (place_of (part d id)))
IsFaultOf d (faults.BadPattern id) t = linked_schemas t ≡ Err (bad_pattern (place_of (part d id)))
IsFaultOf d (faults.Unsupported x) t = linked_schemas t ≡ Err (unsupported x)
IsFaultOf d (faults.RefMissing x) t = linked_schemas t ≡ Err (ref_missing x)
IsFaultOf d (faults.RefCycle x) t = (r : Schemas × ℕ) × (linked_schemas t ≡ Ok r) × ComesBackBy r.0 (definitions_of t) x
IsFaultOf d faults.Memory t = Unit {0}
