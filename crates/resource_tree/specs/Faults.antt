-- Which paths may not stand beside those before them.
use Rattle.std.specs.Prelude.{◌≡◌, ℕ, ◌<◌, not, List, [], length, take, Option, Some, None, if◌then◌else◌, slice_index_or}
use Rattle.std.specs.List.{list_any, filter_map}
use Rattle.resource_tree.specs.declared.part.Part.{Part}
use Rattle.resource_tree.specs.declared.fault.TreeFault.{TreeFault}
use Rattle.resource_tree.specs.declared.fault.TreeFault.TheVariants.{BadPart, Clash, GreedyNotLast}
use Rattle.resource_tree.specs.Reading.{parts_of}
use Rattle.resource_tree.specs.Sharing.{clashes, greedy_last}

-- the fault of a path of these parts, which stands at this place behind paths of those parts
unfoldable pub fault_of_parts : List (List Part) → ℕ → List Part → Option TreeFault
fault_of_parts earlier at parts =
    if not (greedy_last parts) then Some (GreedyNotLast at)
    else if list_any (λ other. clashes other parts) earlier then Some (Clash at)
    else None

abbrev pub fault_behind : List (List Part) → ℕ → Option (List Part) → Option TreeFault
fault_behind earlier at None = Some (BadPart at)
fault_behind earlier at (Some parts) = fault_of_parts earlier at parts

-- the parts of those that are paths
abbrev pub parts_of_each : List (List ℕ) → List (List Part)
parts_of_each paths = filter_map parts_of paths

-- the fault of the path at this place of a list
abbrev pub fault_at : List (List ℕ) → ℕ → Option TreeFault
fault_at paths at = fault_behind (parts_of_each (take at paths)) at (parts_of (slice_index_or paths at []))

-- no path of the list has a fault
abbrev pub HasNoFault : List (List ℕ) → Type 0
HasNoFault paths = (at : ℕ) → at < length paths → fault_at paths at ≡ None

-- it is the fault of the first path of the list that has one
pub record IsFirstFault (paths : List (List ℕ)) (fault : TreeFault) : Type 0 where
  pub at : ℕ
  pub within : at < length paths
  pub is : fault_at paths at ≡ Some fault
  pub before : (k : ℕ) → k < at → fault_at paths k ≡ None
