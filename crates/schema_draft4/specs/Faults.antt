-- What the program's faults stand for, and what is left of a value's parts.
use Rattle.std.specs.Prelude.{◌≡◌, ℕ, zero, suc, Result, Ok, Err}
use Rattle.json_subset.specs.Tree.{Form, null, bool, number, text, list, object, Trees, no_trees, tree, Members, no_members, member}
use Rattle.json_subset.specs.Documents.{Document, IsPart, part}
use Rattle.schema_rules.specs.Verdict.{place_of}
use Rattle.schema_draft4.specs.Reading.{Fault, bad_keyword, bad_pattern, unsupported, ref_missing}
use Rattle.schema_draft4.specs.declared.fault.SchemaFault.{SchemaFault}
use Rattle.schema_draft4.specs.declared.fault.SchemaFault.TheVariants as code

-- Reading met this fault, which names a part of the document by its first byte; or memory ran out.
abbrev pub Fails : {Y : Type 0} → Document → SchemaFault → Result Y Fault → Type 0
Fails d (code.BadKeyword id) r = r ≡ Err (bad_keyword (place_of (part d id)))
Fails d (code.BadPattern id) r = r ≡ Err (bad_pattern (place_of (part d id)))
Fails d (code.Unsupported x) r = r ≡ Err (unsupported x)
Fails d (code.RefMissing x) r = r ≡ Err (ref_missing x)
Fails d (code.RefCycle x) r = ⊥
Fails d code.Memory r = Unit {0}

-- what a fault names is a part of the document
abbrev pub FaultNamesPart : Document → SchemaFault → Type 0
FaultNamesPart d (code.BadKeyword id) = IsPart d id
FaultNamesPart d (code.BadPattern id) = IsPart d id
FaultNamesPart d (code.Unsupported x) = Unit {0}
FaultNamesPart d (code.RefMissing x) = Unit {0}
FaultNamesPart d (code.RefCycle x) = Unit {0}
FaultNamesPart d code.Memory = Unit {0}

-- What a function returned, seen by view, is what reading gives, unless memory ran out.
abbrev pub Gives : {X Y : Type 0} → Document → (X → Y) → Result X SchemaFault → Result Y Fault → Type 0
Gives d view (Ok x) r = r ≡ Ok (view x)
Gives d view (Err e) r = Fails d e r × FaultNamesPart d e

abbrev pub trees_from : Trees → ℕ → Trees
trees_from ts zero = ts
trees_from no_trees (suc i) = no_trees
trees_from (tree t ts) (suc i) = trees_from ts i

abbrev pub members_from : Members → ℕ → Members
members_from ms zero = ms
members_from no_members (suc i) = no_members
members_from (member x t ms) (suc i) = members_from ms i

-- the items from this place on
abbrev pub rest_items : Form → ℕ → Trees
rest_items null i = no_trees
rest_items (bool b) i = no_trees
rest_items (number x s) i = no_trees
rest_items (text t) i = no_trees
rest_items (list ts) i = trees_from ts i
rest_items (object ms) i = no_trees

-- the members from this place on
abbrev pub rest_members : Form → ℕ → Members
rest_members null i = no_members
rest_members (bool b) i = no_members
rest_members (number x s) i = no_members
rest_members (text t) i = no_members
rest_members (list ts) i = no_members
rest_members (object ms) i = members_from ms i
