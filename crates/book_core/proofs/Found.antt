-- What stands at a place that was found.
use Rattle.std.proofs.Common.{◌≡◌, ℕ, Bool, List, map, Option, Some, None, find, slice_get, ap, sym, ◌∙◌}
use Rattle.std.specs.Option.{option_map}
use Rattle.std.proofs.lemmas.Option.{slice_get-map}
use Rattle.keeper_core.specs.Places.{IsPlace, row_at}
use Rattle.keeper_core.specs.declared.place.Place.{Place}
use Rattle.keeper_core.specs.declared.place.Place.TheVariants.{At, Before}
use Rattle.keeper_core.proofs.Putting.{found_at}

-- what a list that goes beside the rows has at the place of a key is what its row holds
pub held_at : {R S : Type 0} (f : R → S) (has_key has_greater : R → Bool) (rows : List R) (beside : List S) (place : Place)
    → IsPlace has_key has_greater rows place → beside ≡ map f rows → row_at place beside ≡ option_map f (find has_key rows)
held_at f has_key has_greater rows beside (At i) is same =
    ap (λ xs. slice_get xs i) same ∙ slice_get-map f rows i ∙ ap (option_map f) (found_at has_key has_greater rows (At i) is)
held_at f has_key has_greater rows beside (Before i) is same = sym (ap (option_map f) is.none)
