-- What is known of references that come back.
use Rattle.std.specs.Prelude.{◌≡◌, ℕ, Bool, true, false, List, Option, Some, None}
use Rattle.schema_order.specs.Leads.{lists_of}
use Rattle.schema_draft4.specs.Cycles.{Reference, ComesBack, ComesBackBy, FirstBack, NoneBack, steps}
use Rattle.schema_draft4.specs.Reading.{Definitions}
use Rattle.schema_rules.specs.Rules.{Schemas}
use Rattle.schema_rules.specs.Views.{schemas_of}
use Rattle.schema_draft4.specs.declared.cycle.Links.{Links}
use Rattle.schema_draft4.specs.declared.fault.SchemaFault.{SchemaFault}
use Rattle.schema_draft4.specs.declared.fault.SchemaFault.TheVariants as faults

abbrev pub linked_by : Links → Schemas
linked_by l = schemas_of l.nodes.now l.targets.now

abbrev pub AreLinked : Links → Type 0
AreLinked l = lists_of l.steps.now ≡ steps (linked_by l)

-- whether the reference comes back
abbrev pub IsBack : Schemas → Reference → Bool → Type 0
IsBack ss r true = ComesBack ss r
IsBack ss r false = ComesBack ss r → ⊥

-- what the first that comes back names, if one does
abbrev pub IsFirst : Schemas → List Reference → Option ℕ → Type 0
IsFirst ss rs None = NoneBack ss rs
IsFirst ss rs (Some t) = FirstBack ss rs t

-- the fault names the first that comes back, or memory ran out
abbrev pub IsBackFault : Schemas → Definitions → SchemaFault → Type 0
IsBackFault ss defs (faults.BadKeyword id) = ⊥
IsBackFault ss defs (faults.BadPattern id) = ⊥
IsBackFault ss defs (faults.Unsupported x) = ⊥
IsBackFault ss defs (faults.RefMissing x) = ⊥
IsBackFault ss defs (faults.RefCycle x) = ComesBackBy ss defs x
IsBackFault ss defs faults.Memory = Unit {0}
