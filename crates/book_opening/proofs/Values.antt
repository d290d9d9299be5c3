-- The values of keys, in a set.
use Rattle.std.proofs.Common.{◌≡◌, ℕ, ◌+◌, ◌<◌, Bool, true, false, not, ◌||◌, List, [], ◌∷◌, length, take, get_or, reverse, cond, refl, sym, ap, ◌∙◌, Bor}
use Rattle.std.specs.List.{list_any}
use Rattle.std.specs.Str.{bytes_eq}
use Rattle.std.specs.Ordering.{nat_cmp}
use Rattle.std.specs.Cmp.Lexicographic.{slice_cmp}
use Rattle.std.specs.BTreeSet.{BTreeSet, contains_by, contains, Updates}
use Rattle.std.proofs.lemmas.List.{reverse-append}
use Rattle.std.proofs.lemmas.List.Folds.{list_any_more, list_any-append}
use Rattle.std.proofs.lemmas.Map.Text.{is_eq-slice_cmp}
use Rattle.keeper_core.specs.declared.rows.KeyRow.{KeyRow}

-- the set has just the values of the rows
pub record HoldsValues (values : BTreeSet (Bor (List ℕ))) (rows : List KeyRow) : Type 0 where
  pub held : (value : List ℕ) → contains_by (λ k. slice_cmp nat_cmp value k.now) values ≡ list_any (λ (row : KeyRow). bytes_eq row.value value) rows

or_last : (b c : Bool) → cond b true c ≡ (c || b)
or_last true true = refl
or_last true false = refl
or_last false true = refl
or_last false false = refl

or_swapped : (b c : Bool) → (b || (c || false)) ≡ (c || b)
or_swapped true true = refl
or_swapped true false = refl
or_swapped false true = refl
or_swapped false false = refl

-- a test passes somewhere in a list, read from either end
pub list_any-reverse : {X : Type 0} (p : X → Bool) → (xs : List X) → list_any p (reverse xs) ≡ list_any p xs
list_any-reverse p [] = refl
list_any-reverse p (x ∷ xs) =
    ap (list_any p) (reverse-append (x ∷ []) xs) ∙ list_any-append p (reverse xs) (x ∷ []) ∙ ap (λ b. b || (p x || false)) (list_any-reverse p xs)
    ∙ or_swapped (list_any p xs) (p x) ∙ refl

-- with the value of one row more
pub values_more : (old new : BTreeSet (Bor (List ℕ))) (rows : List KeyRow) (n : ℕ) (row : KeyRow) (lent : Bor (List ℕ)) → n < length rows → row ≡ get_or rows n row → lent.now ≡ row.value
    → Updates (λ x y. slice_cmp nat_cmp x.now y.now) old new lent true → HoldsValues old (take n rows) → HoldsValues new (take (n + 1) rows)
values_more old new rows n row lent inside is same updates so_far =
    record {
      held = λ value.
          updates.0 (record { ref_ptr = (0, 0); now = value })
          ∙ ap (λ b. cond b true (contains_by (λ k. slice_cmp nat_cmp value k.now) old)) (is_eq-slice_cmp lent.now value ∙ ap (λ v. bytes_eq v value) (same ∙ ap (λ (r : KeyRow). r.value) is))
          ∙ ap (λ c. cond (bytes_eq (get_or rows n row).value value) true c) (so_far.held value)
          ∙ or_last (bytes_eq (get_or rows n row).value value) (list_any (λ (r : KeyRow). bytes_eq r.value value) (take n rows))
          ∙ sym (list_any_more (λ (r : KeyRow). bytes_eq r.value value) rows n row inside);
    }

-- a value that was added is of none of the rows, the newest of which comes first
pub added_new : (old : BTreeSet (Bor (List ℕ))) (rows : List KeyRow) (row : KeyRow) (lent : Bor (List ℕ)) (added : Bool) → lent.now ≡ row.value
    → added ≡ not (contains (λ x y. slice_cmp nat_cmp x.now y.now) old lent) → HoldsValues old rows
    → added ≡ not (list_any (λ (other : KeyRow). bytes_eq other.value row.value) (reverse rows))
added_new old rows row lent added same is so_far =
    is ∙ ap not (so_far.held lent.now ∙ ap (λ v. list_any (λ (other : KeyRow). bytes_eq other.value v) rows) same ∙ sym (list_any-reverse (λ (other : KeyRow). bytes_eq other.value row.value) rows))
