-- What is judged, and what is known of it.
use Rattle.std.specs.Prelude.{◌≡◌, ℕ, List, Some, String}
use Rattle.std.specs.Ordering.{nat_cmp, ordering_then}
use Rattle.std.specs.declared.cmp.Ordering.{Ordering}
use Rattle.std.specs.BTreeMap.{BTreeMap, get}
use Rattle.std.specs.String.{string_bytes}
use Rattle.std.specs.declared.alloc.Global.{Global}
use Rattle.json_subset.specs.Tree.{Tree}
use Rattle.json_subset.specs.Documents.{form}
use Rattle.json_values.specs.Values.{AreSound, Mirror, source_of}
use Rattle.schema_rules.specs.Rules.{Schemas}
use Rattle.schema_rules.specs.Verdict as says
use Rattle.schema_rules.specs.Views.{schemas_of, AreSoundNodes, NamesPart, verdict_of}
use Rattle.schema_rules.specs.declared.case.Case.{Case}
use Rattle.schema_rules.specs.declared.verdict.Verdict.{Verdict}

abbrev pub schemas_in : Case → Schemas
schemas_in c = schemas_of c.nodes.now c.targets.now

-- the tree of a value
abbrev pub tree_in : Case → ℕ → Tree
tree_in c i = source_of c.doc.now c.values.now i

pub record IsSoundCase (c : Case) : Type 0 where
  pub nodes : AreSoundNodes c.nodes.now c.targets.now
  pub values : AreSound c.values.now
  pub mirror : Mirror c.doc.now c.values.now

-- what a schema says of a value
abbrev pub said : Case → ℕ → says.Judge
said c i = says.verdict (schemas_in c) (tree_in c i)

abbrev pub seen : Case → Verdict → says.Verdict
seen c v = verdict_of c.doc.now v

abbrev pub part_in : Case → ℕ → says.Part
part_in c i = record { at = says.place_of (tree_in c i); judge = said c i }

abbrev pub member_in : Case → String Global × ℕ → List ℕ × says.Part
member_in c m = (string_bytes m.0, part_in c m.1)

-- a value with its parts
abbrev pub value_of : Schemas → Tree → says.Value
value_of ss t = record { at = says.place_of t; form = form t; items = says.item_parts ss (form t); members = says.member_parts ss (form t) }

abbrev pub value_in : Case → ℕ → says.Value
value_in c i = value_of (schemas_in c) (tree_in c i)

abbrev pub pair_cmp : ℕ × ℕ → ℕ × ℕ → Ordering
pair_cmp p q = ordering_then (nat_cmp p.0 q.0) (nat_cmp p.1 q.1)

abbrev pub Says : Case → Verdict → ℕ → ℕ → Type 0
Says c v i k = seen c v ≡ said c i k

-- a verdict is what the definition says, and names a part
pub record IsRight (c : Case) (v : Verdict) (i k : ℕ) : Type 0 where
  pub says : Says c v i k
  pub part : NamesPart c.doc.now v

-- each verdict that is kept, by value and schema, is right
abbrev pub IsKnown : Case → BTreeMap (ℕ × ℕ) Verdict → Type 0
IsKnown c memo = (q : ℕ × ℕ) (v : Verdict) → get pair_cmp memo q ≡ Some v → IsRight c v q.0 q.1
