-- What is known in the middle of a search for a word.
use Rattle.std.proofs.Common.{◌≡◌, ℕ, zero, suc, ◌+◌, ◌-◌, ◌<◌, List, [], ◌∷◌, ◌++◌, length, take, drop, refl, sym, ap, ◌∙◌, arith, append_assoc}
use Rattle.std.proofs.lemmas.List.{append-nil}
use Rattle.std.specs.Prelude.{Option, Some, None}
use Rattle.vtl_grammar.specs.Bytes.{after, more_before, until_word}
use Rattle.vtl_words.specs.Views.{before}

before_push : (p : List ℕ) (b : ℕ) (o : Option (List ℕ × List ℕ)) → before (p ++ b ∷ []) o ≡ before p (more_before b o)
before_push p b None = refl
before_push p b (Some q) = ap (λ z. Some (z, q.1)) (append_assoc p (b ∷ []) q.0)

module _ (s : List ℕ) (b : ℕ) (bs : List ℕ) where
  seen : Option (List ℕ) → Option (List ℕ × List ℕ)
  seen o = elim o [ None ↦ more_before b (until_word s bs) | Some rest ↦ Some ([], rest) ]

  found_later : after s (b ∷ bs) ≡ None → until_word s (b ∷ bs) ≡ more_before b (until_word s bs)
  unfolding seen
  found_later e = ap seen e

  found_here : (rest : List ℕ) → after s (b ∷ bs) ≡ Some rest → until_word s (b ∷ bs) ≡ Some ([], rest)
  unfolding seen
  found_here rest e = ap seen e

pub take_next : (n : ℕ) (t : List ℕ) (b : ℕ) (more : List ℕ) → drop n t ≡ b ∷ more → (take (suc n) t ≡ take n t ++ b ∷ []) × (drop (suc n) t ≡ more)
take_next zero [] b more e = absurd (nothing e)
  where
    nothing : [] ≡ b ∷ more → ⊥
    nothing e = let f : List ℕ → ℕ = length in omega (arith, ap f e)
take_next zero (c ∷ t) b more e =
    let hd : List ℕ → ℕ = λ xs. elim xs [ [] ↦ 0 | x ∷ xs ↦ x ] in
    let tl : List ℕ → List ℕ = λ xs. elim xs [ [] ↦ [] | x ∷ xs ↦ xs ] in
    (ap (λ z. z ∷ []) (ap hd e), ap tl e)
take_next (suc n) [] b more e = absurd (nothing e)
  where
    nothing : [] ≡ b ∷ more → ⊥
    nothing e = let f : List ℕ → ℕ = length in omega (arith, ap f e)
take_next (suc n) (c ∷ t) b more e = (ap (λ z. c ∷ z) (take_next n t b more e).0, (take_next n t b more e).1)

pub left_over : (n : ℕ) (t : List ℕ) → n < length t → 0 < length (drop n t)
left_over zero t h = h
left_over (suc n) [] h = absurd (omega (arith, h))
left_over (suc n) (c ∷ t) h = left_over n t (omega (arith, h))

-- the word stands here
pub hit : (s t : List ℕ) (n : ℕ) (rest : List ℕ) (o : Option (List ℕ × List ℕ)) → n < length t → after s (drop n t) ≡ Some rest → before (take n t) (until_word s (drop n t)) ≡ o → o ≡ Some (take n t, rest)
hit s t n rest o h e f = go (drop n t) (left_over n t h) e f
  where
    go : (here : List ℕ) → 0 < length here → after s here ≡ Some rest → before (take n t) (until_word s here) ≡ o → o ≡ Some (take n t, rest)
    go [] some e f = absurd (omega (arith, some))
    go (b ∷ bs) some e f = sym f ∙ ap (before (take n t)) (found_here s b bs rest e) ∙ ap (λ z. Some (z, rest)) (append-nil (take n t))

-- it does not
pub miss : (s t : List ℕ) (n : ℕ) (o : Option (List ℕ × List ℕ)) → n < length t → after s (drop n t) ≡ None → before (take n t) (until_word s (drop n t)) ≡ o → before (take (n + 1) t) (until_word s (drop (n + 1) t)) ≡ o
miss s t n o h e f = go (drop n t) refl (left_over n t h) e f
  where
    go : (here : List ℕ) → drop n t ≡ here → 0 < length here → after s here ≡ None → before (take n t) (until_word s here) ≡ o → before (take (n + 1) t) (until_word s (drop (n + 1) t)) ≡ o
    go [] at some e f = absurd (omega (arith, some))
    go (b ∷ bs) at some e f =
        let one : n + 1 ≡ suc n = omega arith in
        ap (λ k. before (take k t) (until_word s (drop k t))) one
        ∙ ap (λ z. before z (until_word s (drop (suc n) t))) (take_next n t b bs at).0
        ∙ ap (λ z. before (take n t ++ b ∷ []) (until_word s z)) (take_next n t b bs at).1
        ∙ before_push (take n t) b (until_word s bs)
        ∙ ap (before (take n t)) (sym (found_later s b bs e)) ∙ f

-- what a slice up to the end is
pub to_end : (n : ℕ) (t : List ℕ) → take (length t - n) (drop n t) ≡ drop n t
to_end zero [] = refl
to_end zero (c ∷ t) = let e : length (c ∷ t) - 0 ≡ suc (length t) = omega arith in ap (λ k. take k (c ∷ t)) e ∙ ap (λ z. c ∷ z) (all t)
  where
    all : (t : List ℕ) → take (length t) t ≡ t
    all [] = refl
    all (c ∷ t) = ap (λ z. c ∷ z) (all t)
to_end (suc n) [] = take_none (length {A = ℕ} [] - suc n)
  where
    take_none : (k : ℕ) → take {A = ℕ} k [] ≡ []
    take_none zero = refl
    take_none (suc k) = refl
to_end (suc n) (c ∷ t) = let e : length (c ∷ t) - suc n ≡ length t - n = omega arith in ap (λ k. take k (drop n t)) e ∙ to_end n t
