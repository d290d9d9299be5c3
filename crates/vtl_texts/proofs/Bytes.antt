-- One byte in the place of another.
use Rattle.std.proofs.Common.{◌≡◌, ◌≢◌, ℕ, ◌<◌, List, [], ◌∷◌, length, map, Option, Some, None, if◌then◌else◌, ◌==◌, refl, sym, ap, ◌∙◌, arith, inl, inr, eq-eqb, ne_eqb, slice_index, zero, suc, IsAscii, IsUtf8, subst, ◌≤◌, ◌++◌, take, drop, append-nil, ◌+◌, get_or, set}
use Rattle.std.specs.Option.{option_map}
use Rattle.std.proofs.lemmas.Bool.Decides.{eqb_tells}
use Rattle.std.proofs.lemmas.List.{take_all, drop_all, get_or_default, take-append-le}
use Rattle.std.proofs.lemmas.List.Edits.{map_over_more}
use Rattle.std.proofs.lemmas.Str.{IsUtf8-from_ascii}
use Rattle.vtl_texts.specs.Places.{cut, exchanged}
use Rattle.vtl_texts.proofs.Rounds.{exchanged_cut, exchanged_whole}

-- a byte with r in the place of f
abbrev pub changed : ℕ → ℕ → ℕ → ℕ
changed f r b = if b == f then r else b

cut_here : (b f : ℕ) (t : List ℕ) → b ≡ f → cut (b ∷ t) (f ∷ []) ≡ Some ([], t)
cut_here b f t e = rw (eq-eqb b f e)

cut_later : (b f : ℕ) (t : List ℕ) (o : Option (List ℕ × List ℕ)) → b ≢ f → cut t (f ∷ []) ≡ o → cut (b ∷ t) (f ∷ []) ≡ option_map (λ c. (b ∷ c.0, c.1)) o
cut_later b f t o n e = rw (ne_eqb b f n, e)

-- another byte stays
other_stays : (b f : ℕ) (r t : List ℕ) (o : Option (List ℕ × List ℕ)) → b ≢ f → cut t (f ∷ []) ≡ o → exchanged (b ∷ t) (f ∷ []) r ≡ b ∷ exchanged t (f ∷ []) r
other_stays b f r t None n e =
    let here = exchanged_whole (b ∷ t) (f ∷ []) r (omega arith) (cut_later b f t None n e) in
    here ∙ ap (λ (u : List ℕ). b ∷ u) (sym (exchanged_whole t (f ∷ []) r (omega arith) e))
other_stays b f r t (Some c) n e =
    let here = exchanged_cut (b ∷ t) (f ∷ []) r (b ∷ c.0, c.1) (omega arith) (cut_later b f t (Some c) n e) in
    here ∙ ap (λ (u : List ℕ). b ∷ u) (sym (exchanged_cut t (f ∷ []) r c (omega arith) e))

pub exchanged_bytes : (t : List ℕ) (f r : ℕ) → exchanged t (f ∷ []) (r ∷ []) ≡ map (changed f r) t
exchanged_bytes [] f r = exchanged_whole [] (f ∷ []) (r ∷ []) (omega arith) refl
exchanged_bytes (b ∷ t) f r = elim (eqb_tells b f) [
  | inl w ↦ let here = exchanged_cut (b ∷ t) (f ∷ []) (r ∷ []) ([], t) (omega arith) (cut_here b f t w.1) in rw w.0 (here ∙ ap (λ (u : List ℕ). r ∷ u) (exchanged_bytes t f r))
  | inr w ↦ rw w.0 (other_stays b f (r ∷ []) t (cut t (f ∷ [])) w.1 refl ∙ ap (λ (u : List ℕ). b ∷ u) (exchanged_bytes t f r))
]

changed_ascii : (f r b : ℕ) → r < 128 → b < 128 → changed f r b < 128
changed_ascii f r b s h = elim (eqb_tells b f) [
  | inl w ↦ rw w.0 s
  | inr w ↦ rw w.0 h
]

-- ASCII stays ASCII
pub changed_IsAscii : (f r : ℕ) (t : List ℕ) → r < 128 → IsAscii t → (i : ℕ) → slice_index (map (changed f r) t) i < 128
changed_IsAscii f r [] s h i = h i
changed_IsAscii f r (b ∷ t) s h zero = changed_ascii f r b s (h 0)
changed_IsAscii f r (b ∷ t) s h (suc i) = changed_IsAscii f r t s (λ k. h (suc k)) i

pub exchanged_IsUtf8 : (f r : ℕ) (t bs : List ℕ) → r < 128 → IsAscii t → bs ≡ exchanged t (f ∷ []) (r ∷ []) → IsUtf8 bs
exchanged_IsUtf8 f r t bs s h e =
    let same : bs ≡ map (changed f r) t = e ∙ exchanged_bytes t f r in
    subst IsUtf8 (sym same) (IsUtf8-from_ascii (map (changed f r) t) (changed_IsAscii f r t s h))

pub changed_here : (f r b : ℕ) → b ≡ f → changed f r b ≡ r
changed_here f r b e = rw (eq-eqb b f e)

pub changed_not : (f r b : ℕ) → b ≢ f → changed f r b ≡ b
changed_not f r b n = rw (ne_eqb b f n)

-- a loop that changes one more byte, and one that is done with each
pub one_more : (g : ℕ → ℕ) (xs ys : List ℕ) (i y : ℕ) → i < length xs → length ys ≡ length xs → ys ≡ map g (take i xs) ++ drop i xs → y ≡ g (get_or ys i 0) → set ys i y ≡ map g (take (i + 1) xs) ++ drop (i + 1) xs
one_more g xs ys i y l long h e =
    let x = get_or ys i 0 in
    let lt : i < length ys = omega arith in
    ap (λ (v : ℕ). set ys i v) e ∙ map_over_more g xs ys i x l h (get_or_default ys i 0 x lt)

pub all_done : (g : ℕ → ℕ) (xs ys : List ℕ) (i : ℕ) → length xs ≤ i → ys ≡ map g (take i xs) ++ drop i xs → ys ≡ map g xs
all_done g xs ys i l h = h ∙ rw (take_all i xs l, drop_all i xs l) (append-nil (map g xs))

-- a slice that is written back
pub written_back : (n : ℕ) (xs ys : List ℕ) → n ≡ length xs → take n (xs ++ ys) ≡ xs
written_back n xs ys e = rw e (take-append-le (length xs) xs ys (omega arith) ∙ take_all (length xs) xs (omega arith))
