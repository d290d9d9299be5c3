-- Trees that stand while members are read.
use Rattle.std.proofs.Common.{◌≡◌, ◌≢◌, ◌⊎◌, inl, inr, List, map, Option, Some, None, Bool, true, false, refl}
use Rattle.resource_tree.specs.declared.part.Part.{Part}
use Rattle.api_parts.specs.declared.fault.ApiFault.{ApiFault}
use Rattle.api_parts.specs.Reading.{Text, Waiting, first_of, waiting_below}
use Rattle.api_resources.specs.Paths.{HasTree, IsTree}

some_waits : (e : ApiFault) → ◌≡◌ {A = Waiting} (Some e) None → ⊥
some_waits e h = cc

first_waits : (w later : Waiting) → w ≢ None → first_of w later ≢ None
first_waits None later h = absurd (h refl)
first_waits (Some e) later h = some_waits e

later_waits : (w later : Waiting) (x : Text) → later ≢ None → first_of w (waiting_below x later) ≢ None
later_waits (Some e) later x h = some_waits e
later_waits None None x h = absurd (h refl)
later_waits None (Some e) x h = some_waits _

-- another fault that waits changes nothing
pub planted_waits : (listed : Bool) (paths : List Text) (w later : Waiting) (tree : Option (List (List Part))) → (listed ≡ false) ⊎ HasTree paths w tree → (listed ≡ false) ⊎ HasTree paths (first_of w later) tree
planted_waits listed paths w later tree (inl none) = inl none
planted_waits listed paths w later (Some tree) (inr h) = inr h
planted_waits listed paths w later None (inr h) = inr (first_waits w later h)

-- and neither does one before
pub planted_more : (paths : List Text) (w later : Waiting) (x : Text) (tree : Option (List (List Part))) → HasTree paths later tree → HasTree paths (first_of w (waiting_below x later)) tree
planted_more paths w later x (Some tree) h = h
planted_more paths w later x None h = later_waits w later x h
