-- A join row that is rewritten in the place of its key's.
use Rattle.std.proofs.Common.{◌≡◌, ℕ, zero, suc, ◌<◌, length, Bool, true, false, not, ◌&&◌, List, [], ◌∷◌, Option, Some, None, cond, find, is_none, get_or, set, bytes_eq, refl, ap, ◌∙◌}
use Rattle.std.specs.Prelude.{IsSome}
use Rattle.std.proofs.lemmas.List.{get_or-set_same, set-get_or}
use Rattle.std.proofs.lemmas.Slice.Eq.{bytes_eq-Decides}
use Rattle.std.proofs.lemmas.List.Quantifiers.{position-Some}
use Rattle.std.specs.List.{position, prefix_len}
use Rattle.keeper_core.specs.Joins.{join_at, no_join, numbers_in, with_numbers}
use Rattle.keeper_core.specs.Lists.{Ascends, Lists, put_by, is_join, join_behind}
use Rattle.keeper_core.specs.declared.numbers.JoinNumbers.{JoinNumbers}
use Rattle.keeper_core.proofs.Keys.{join_found}
use Rattle.keeper_core.specs.declared.rows.JoinRow.{JoinRow}
use Rattle.keeper_core.proofs.Placing.{find_inside, put_there}

both : (a b : Bool) → (a && b) ≡ true → (a ≡ true) × (b ≡ true)
both true true e = (refl, refl)
both true false e = absurd cc
both false b e = absurd cc

own_key : (old row : JoinRow) → is_join row.plan row.key old ≡ true → record row { plan = old.plan; key = old.key } ≡ row
own_key old row e =
    let parts = both (bytes_eq old.plan row.plan) (bytes_eq old.key row.key) e in
    let plan : old.plan ≡ row.plan = (bytes_eq-Decides old.plan row.plan).0 parts.0 in
    let key : old.key ≡ row.key = (bytes_eq-Decides old.key row.key).0 parts.1 in
    ap (λ (p : List ℕ). record row { plan = p; key = old.key }) plan ∙ ap (λ (k : List ℕ). record row { key = k }) key

-- the row at a place with other numbers, as a row that is put
pub written_in_place : (rows : List JoinRow) (i : ℕ) (d : JoinRow) (numbers : JoinNumbers) → Ascends (λ row. join_behind row.plan row.key) rows → i < length rows
    → set rows i (with_numbers (get_or rows i d) numbers)
    ≡ put_by (is_join (get_or rows i d).plan (get_or rows i d).key) (join_behind (get_or rows i d).plan (get_or rows i d).key) (with_numbers (get_or rows i d) numbers) rows
written_in_place rows i d numbers up inside =
    let row : JoinRow = get_or rows i d in
    put_there (is_join row.plan row.key) (join_behind row.plan row.key) (λ previous. with_numbers row numbers) (with_numbers row numbers) d rows i (join_found rows i d up inside)

passes : (k i : ℕ) (b : Bool) → cond b (Some k) None ≡ Some i → b ≡ true
passes k i true e = refl
passes k i false e = absurd cc

is_there : {X : Type 0} (found : Option X) → is_none found ≡ false → IsSome found
is_there None e = absurd cc
is_there (Some x) e = refl

-- a join that stands at a place is found under its own key
pub found_there : (rows : List JoinRow) (i : ℕ) (d : JoinRow) → Ascends (λ row. join_behind row.plan row.key) rows → i < length rows
    → IsSome (find (is_join (get_or rows i d).plan (get_or rows i d).key) rows)
found_there rows i d up inside =
    let row : JoinRow = get_or rows i d in
    is_there (find (is_join row.plan row.key) rows)
    (find_inside (is_join row.plan row.key) rows ∙ ap not (passes (prefix_len (λ x. not (is_join row.plan row.key x)) rows) i _ (join_found rows i d up inside)))

set_again : {X : Type 0} (xs : List X) (i : ℕ) (x y : X) → set (set xs i x) i y ≡ set xs i y
set_again [] i x y = refl
set_again (z ∷ zs) zero x y = refl
set_again (z ∷ zs) (suc i) x y = ap (λ l. z ∷ l) (set_again zs i x y)

-- the earlier numbers are written back
pub written_back : (lists : Lists) (at : ℕ) (numbers earlier : JoinNumbers) → at < length lists.joins → earlier ≡ numbers_in (join_at lists at) → (one two : Lists)
    → one ≡ record lists { joins = set lists.joins at (with_numbers (join_at lists at) numbers) }
    → two ≡ record one { joins = set one.joins at (with_numbers (join_at one at) earlier) } → two ≡ lists
written_back lists at numbers earlier inside own one two first then =
    let row : JoinRow = join_at lists at in
    let written : JoinRow = with_numbers row numbers in
    let read : get_or (set lists.joins at written) at no_join ≡ written = get_or-set_same lists.joins at written no_join inside in
    then
    ∙ ap (λ (l : Lists). record l { joins = set l.joins at (with_numbers (join_at l at) earlier) }) first
    ∙ ap (λ (r : JoinRow). record lists { joins = set (set lists.joins at written) at (with_numbers r earlier) }) read
    ∙ ap (λ (n : JoinNumbers). record lists { joins = set (set lists.joins at written) at (with_numbers written n) }) own
    ∙ ap (λ (rows : List JoinRow). record lists { joins = rows }) (set_again lists.joins at written row ∙ set-get_or lists.joins at no_join)

-- the row of the key with the new numbers is the new row
pub rewritten : (row old new : JoinRow) (rows : List JoinRow) (i : ℕ) → position (is_join row.plan row.key) rows ≡ Some i → old ≡ get_or rows i old
    → new ≡ record row { plan = old.plan; key = old.key } → set rows i new ≡ put_by (is_join row.plan row.key) (join_behind row.plan row.key) row rows
rewritten row old new rows i at is written =
    let has = (position-Some (is_join row.plan row.key) rows i old at).1 in
    ap (set rows i) (written ∙ own_key old row (ap (is_join row.plan row.key) is ∙ has))
    ∙ put_there (is_join row.plan row.key) (join_behind row.plan row.key) (λ previous. row) row row rows i at
