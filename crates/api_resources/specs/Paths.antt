-- The tree of the resources' paths, and the first fault of theirs.
use Rattle.std.specs.Prelude.{◌≡◌, ◌≢◌, ℕ, ◌<◌, ◌==◌, List, map, Option, Some, None, if◌then◌else◌}
use Rattle.resource_tree.specs.Faults.{HasNoFault, IsFirstFault}
use Rattle.resource_tree.specs.Reading.{parts_of}
use Rattle.resource_tree.specs.declared.part.Part.{Part}
use Rattle.resource_tree.specs.declared.fault.TreeFault.{TreeFault}
use Rattle.resource_tree.specs.declared.fault.TreeFault.TheVariants.{BadPart, Clash, GreedyNotLast, Memory}
use Rattle.api_parts.specs.Reading.{Text, Waiting}

abbrev pub at_place : ℕ → ℕ → TreeFault → Option TreeFault
at_place at i fault = if at == i then Some fault else None

-- the first fault, at its own place alone
abbrev pub own_fault : Option TreeFault → ℕ → Option TreeFault
own_fault None i = None
own_fault (Some (BadPart at)) i = at_place at i (BadPart at)
own_fault (Some (Clash at)) i = at_place at i (Clash at)
own_fault (Some (GreedyNotLast at)) i = at_place at i (GreedyNotLast at)
own_fault (Some Memory) i = None

-- these are the parts of the paths
abbrev pub IsTree : List Text → List (List Part) → Type 0
IsTree paths tree = map (λ parts. Some parts) tree ≡ map parts_of paths

-- the tree of the paths, of which none has a fault; or their first fault
abbrev pub IsTreeFor : List Text → Option (List (List Part)) → Option TreeFault → Type 0
IsTreeFor paths (Some tree) None = IsTree paths tree × HasNoFault paths
IsTreeFor paths None (Some fault) = IsFirstFault paths fault
IsTreeFor paths (Some tree) (Some fault) = ⊥
IsTreeFor paths None None = ⊥

-- where the first fault is passed, some fault waits
abbrev pub IsTold : List Text → Option TreeFault → ℕ → Waiting → Type 0
IsTold paths None i waiting = HasNoFault paths
IsTold paths (Some fault) i waiting = (first : IsFirstFault paths fault) × (first.at < i → waiting ≢ None)

-- a tree that is not there: a fault waits
abbrev pub HasTree : List Text → Waiting → Option (List (List Part)) → Type 0
HasTree paths waiting None = waiting ≢ None
HasTree paths waiting (Some tree) = IsTree paths tree
