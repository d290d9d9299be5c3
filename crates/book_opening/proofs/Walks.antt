-- A walk over the rows of a table, up to the first that is refused.
use Rattle.std.proofs.Common.{◌≡◌, ℕ, ◌+◌, ◌<◌, ◌≤◌, Bool, true, false, not, List, [], ◌∷◌, ◌++◌, length, take, drop, map, get_or, reverse, cond, Some, None, refl, sym, ap, ◌∙◌, arith}
use Rattle.std.proofs.lemmas.List.{drop_more, take_more, map_more, drop_all, reverse-append, length-reverse, length-take-le}
use Rattle.book_rules.specs.Good.{first_refused, refused_by}
use Rattle.book_opening.specs.Ready.{if_taken}

-- the first n rows are taken, and what is refused of all is what is refused of the rest behind them
pub record IsWalked {R : Type 0} (takes : List R → R → Bool) (rows : List R) (n : ℕ) : Type 0 where
  pub rest : refused_by takes rows ≡ first_refused (λ before row. not (takes before row)) (reverse (take n rows)) (drop n rows)

pub walk_begins : {R : Type 0} (takes : List R → R → Bool) (rows : List R) → IsWalked takes rows 0
walk_begins takes rows = record { rest = refl }

-- what is refused of the rest, by the row that comes next
at_next : {R : Type 0} (takes : List R → R → Bool) (rows : List R) (n : ℕ) (row d : R) → n < length rows → row ≡ get_or rows n d → IsWalked takes rows n
    → refused_by takes rows
    ≡ cond (not (takes (reverse (take n rows)) row)) (Some (length (reverse (take n rows)))) (first_refused (λ before row. not (takes before row)) (row ∷ reverse (take n rows)) (drop (n + 1) rows))
at_next takes rows n row d inside is walked =
    walked.rest
    ∙ ap (first_refused (λ before row. not (takes before row)) (reverse (take n rows))) (drop_more rows n d inside ∙ ap (λ r. r ∷ drop (n + 1) rows) (sym is))

-- the rows before the one behind the next, the newest first
before_more : {R : Type 0} (rows : List R) (n : ℕ) (row d : R) → n < length rows → row ≡ get_or rows n d → reverse (take (n + 1) rows) ≡ row ∷ reverse (take n rows)
before_more rows n row d inside is =
    ap reverse (take_more rows n d inside ∙ ap (λ r. take n rows ++ r ∷ []) (sym is)) ∙ reverse-append (take n rows) (row ∷ [])

-- a row that is taken is passed
pub walk_goes_on : {R : Type 0} (takes : List R → R → Bool) (rows : List R) (n : ℕ) (row d : R) → n < length rows → row ≡ get_or rows n d
    → takes (reverse (take n rows)) row ≡ true → IsWalked takes rows n → IsWalked takes rows (n + 1)
walk_goes_on takes rows n row d inside is taken walked =
    record {
      rest =
          at_next takes rows n row d inside is walked
          ∙ ap (λ b. cond (not b) (Some (length (reverse (take n rows)))) (first_refused (λ before row. not (takes before row)) (row ∷ reverse (take n rows)) (drop (n + 1) rows))) taken
          ∙ ap (λ before. first_refused (λ before row. not (takes before row)) before (drop (n + 1) rows)) (sym (before_more rows n row d inside is));
    }

-- a row that is not is the first that is refused
pub walk_stops : {R : Type 0} (takes : List R → R → Bool) (rows : List R) (n : ℕ) (row d : R) → n < length rows → row ≡ get_or rows n d
    → takes (reverse (take n rows)) row ≡ false → IsWalked takes rows n → refused_by takes rows ≡ Some n
walk_stops takes rows n row d inside is refused walked =
    at_next takes rows n row d inside is walked
    ∙ ap (λ b. cond (not b) (Some (length (reverse (take n rows)))) (first_refused (λ before row. not (takes before row)) (row ∷ reverse (take n rows)) (drop (n + 1) rows))) refused
    ∙ ap Some (length-reverse (take n rows) ∙ length-take-le n rows (omega arith))

-- where all are passed, none is refused
pub walk_ends : {R : Type 0} (takes : List R → R → Bool) (rows : List R) (n : ℕ) → length rows ≤ n → IsWalked takes rows n → refused_by takes rows ≡ None
walk_ends takes rows n past walked = walked.rest ∙ ap (first_refused (λ before row. not (takes before row)) (reverse (take n rows))) (drop_all n rows past)

-- the first n rows are taken, and what was read of them is this
pub record IsRead {R S : Type 0} (takes : List R → R → Bool) (reads : R → S) (rows : List R) (n : ℕ) (made : List S) : Type 0 where
  pub walked : IsWalked takes rows n
  pub read : made ≡ map reads (take n rows)

pub read_begins : {R S : Type 0} (takes : List R → R → Bool) (reads : R → S) (rows : List R) → IsRead takes reads rows 0 []
read_begins takes reads rows = record { walked = walk_begins takes rows; read = refl }

is_taken : {S : Type 0} (taken : Bool) (read x : S) → Some x ≡ if_taken taken read → taken ≡ true
is_taken true read x e = refl
is_taken false read x e = absurd cc

is_read : {S : Type 0} (taken : Bool) (read x : S) → Some x ≡ if_taken taken read → x ≡ read
is_read true read x e = cc
is_read false read x e = absurd cc

is_refused : {S : Type 0} (taken : Bool) (read : S) → None ≡ if_taken taken read → taken ≡ false
is_refused true read e = absurd cc
is_refused false read e = refl

-- a row that is taken is read
pub read_goes_on : {R S : Type 0} (takes : List R → R → Bool) (reads : R → S) (rows : List R) (n : ℕ) (made : List S) (row : R) (x : S) → n < length rows → row ≡ get_or rows n row
    → Some x ≡ if_taken (takes (reverse (take n rows)) row) (reads row) → IsRead takes reads rows n made → IsRead takes reads rows (n + 1) (made ++ x ∷ [])
read_goes_on takes reads rows n made row x inside is answer so_far =
    let taken = takes (reverse (take n rows)) row in
    record {
      walked = walk_goes_on takes rows n row row inside is (is_taken taken (reads row) x answer) so_far.walked;
      read =
          ap (λ l. l ++ x ∷ []) so_far.read
          ∙ ap (λ y. map reads (take n rows) ++ y ∷ []) (is_read taken (reads row) x answer ∙ ap reads is)
          ∙ sym (map_more reads rows n row inside);
    }

-- a row that is not is the first that is refused
pub read_stops : {R S : Type 0} (takes : List R → R → Bool) (reads : R → S) (rows : List R) (n : ℕ) (made : List S) (row : R) → n < length rows → row ≡ get_or rows n row
    → None ≡ if_taken (takes (reverse (take n rows)) row) (reads row) → IsRead takes reads rows n made → refused_by takes rows ≡ Some n
read_stops takes reads rows n made row inside is answer so_far =
    walk_stops takes rows n row row inside is (is_refused (takes (reverse (take n rows)) row) (reads row) answer) so_far.walked
