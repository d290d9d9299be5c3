-- What is put at the place of a key, and what stands there.
use Rattle.std.proofs.Common.{◌≡◌, ℕ, nat_lt, Bool, true, false, List, ◌∷◌, length, cond, Some, None, Result, Ok, Err, OnOk, OnErr, map, take, drop, is_none, slice_get, refl, sym, ap, subst, ◌∙◌, find}
use Rattle.std.specs.List.{position_or_len}
use Rattle.std.proofs.lemmas.List.{map-set, map-append, take-map, drop-map}
use Rattle.std.proofs.lemmas.List.Folds.{find_at}
use Rattle.keeper_core.specs.Lists.{Ascends, put_by, adjust, insert_before}
use Rattle.keeper_core.specs.Places.{IsPlace, IsWithin, put_at, row_at}
use Rattle.keeper_core.specs.declared.place.Place.{Place}
use Rattle.keeper_core.specs.declared.place.Place.TheVariants.{At, Before}
use Rattle.keeper_core.proofs.Placing.{put_there}

-- a place is among the rows
pub within : {R : Type 0} (has_key has_greater : R → Bool) (rows : List R) (place : Place) → IsPlace has_key has_greater rows place → IsWithin place (length rows)
within has_key has_greater rows (At i) is = is.inside
within has_key has_greater rows (Before i) is = is.inside

-- a row is put at the place of its key
pub put_by_at : {R : Type 0} (has_key has_greater : R → Bool) (row : R) (rows : List R) (place : Place) → IsPlace has_key has_greater rows place
    → put_by has_key has_greater row rows ≡ put_at place row rows
put_by_at has_key has_greater row rows (At i) is = sym (put_there has_key has_greater (λ old. row) row row rows i is.first)
put_by_at has_key has_greater row rows (Before i) is =
    ap (λ found. cond (is_none found) (insert_before has_greater row rows) (adjust has_key (λ old. row) rows)) is.none ∙ is.before row

-- what is put at a place is put there in any list that goes beside the rows
pub map_put_at : {R S : Type 0} (f : R → S) (place : Place) (row : R) (rows : List R) → map f (put_at place row rows) ≡ put_at place (f row) (map f rows)
map_put_at f (At i) row rows = map-set f rows i row
map_put_at f (Before i) row rows = map-append f (take i rows) (row ∷ drop i rows) ∙ rw (take-map, drop-map) refl

pub map_put_by : {R S : Type 0} (f : R → S) (has_key has_greater : R → Bool) (row : R) (rows : List R) (place : Place) → IsPlace has_key has_greater rows place
    → map f (put_by has_key has_greater row rows) ≡ put_at place (f row) (map f rows)
map_put_by f has_key has_greater row rows place is = ap (map f) (put_by_at has_key has_greater row rows place is) ∙ map_put_at f place row rows

first_place : (k i : ℕ) (b : Bool) → cond b (Some k) None ≡ Some i → k ≡ i
first_place k i true e = cc
first_place k i false e = absurd cc

-- the row of the key is the one that stands at its place
pub found_at : {R : Type 0} (has_key has_greater : R → Bool) (rows : List R) (place : Place) → IsPlace has_key has_greater rows place → row_at place rows ≡ find has_key rows
found_at has_key has_greater rows (At i) is =
    sym (find_at has_key rows ∙ ap (slice_get rows) (first_place (position_or_len has_key rows) i (nat_lt (position_or_len has_key rows) (length rows)) is.first))
found_at has_key has_greater rows (Before i) is = sym is.none

-- what a put left, seen through the answer
pub on_ok_put : {R T E : Type 0} (new put at : List R) (answer : Result T E) → put ≡ at → OnOk answer (new ≡ at) → OnOk answer (new ≡ put)
on_ok_put new put at (Ok v) same e = e ∙ sym same
on_ok_put new put at (Err e) same h = tt

pub kept_by : {R T E : Type 0} (behind : R → R → Bool) (old new put : List R) (answer : Result T E) → Ascends behind old → Ascends behind put
    → OnOk answer (new ≡ put) → OnErr answer (new ≡ old) → Ascends behind new
kept_by behind old new put (Ok v) before after ok err = subst (Ascends behind) (sym ok) after
kept_by behind old new put (Err e) before after ok err = subst (Ascends behind) (sym err) before
