-- Texts that are joined one by one.
use Rattle.std.proofs.Common.{◌≡◌, ℕ, ◌+◌, ◌<◌, List, [], ◌∷◌, ◌++◌, length, take, get_or, refl, ap, sym, ◌∙◌, append_assoc, arith, suc}
use Rattle.std.proofs.lemmas.List.{take_more}
use Rattle.std.specs.List.{join_with_byte}

-- one more text
join_push : (c : ℕ) (x : List ℕ) (xs : List (List ℕ)) (y : List ℕ) → join_with_byte c (x ∷ xs ++ y ∷ []) ≡ join_with_byte c (x ∷ xs) ++ (c ∷ y)
join_push c x [] y = refl
join_push c x (z ∷ xs) y = ap (λ t. x ++ (c ∷ t)) (join_push c z xs y) ∙ sym (append_assoc x (c ∷ join_with_byte c (z ∷ xs)) (c ∷ y))

pub join_more : (c : ℕ) (x : List ℕ) (xs : List (List ℕ)) (i : ℕ) (y text : List ℕ) → i < length xs → y ≡ get_or xs i [] → text ≡ join_with_byte c (x ∷ take i xs) → (text ++ c ∷ []) ++ y ≡ join_with_byte c (x ∷ take (i + 1) xs)
join_more c x xs i y text less is so_far =
    append_assoc text (c ∷ []) y ∙ ap (λ t. t ++ (c ∷ y)) so_far ∙ sym (join_push c x (take i xs) y)
    ∙ ap (λ z. join_with_byte c (x ∷ take i xs ++ z ∷ [])) is ∙ ap (λ ys. join_with_byte c (x ∷ ys)) (sym (take_more xs i [] less))

pub join_next : (c : ℕ) (all others : List (List ℕ)) (first : List ℕ) (i : ℕ) (y text : List ℕ) → all ≡ first ∷ others → i < length others → y ≡ get_or others i [] → text ≡ join_with_byte c (take (i + 1) all) → (text ++ c ∷ []) ++ y ≡ join_with_byte c (take (i + 1 + 1) all)
join_next c all others first i y text split less is so_far =
    let one : i + 1 ≡ suc i = omega arith in
    let two : i + 1 + 1 ≡ suc (i + 1) = omega arith in
    let front : take (i + 1) all ≡ first ∷ take i others = ap (take (i + 1)) split ∙ ap (λ n. take n (first ∷ others)) one in
    let more : take (i + 1 + 1) all ≡ first ∷ take (i + 1) others = ap (take (i + 1 + 1)) split ∙ ap (λ n. take n (first ∷ others)) two in
    join_more c first others i y text less is (so_far ∙ ap (join_with_byte c) front) ∙ ap (join_with_byte c) (sym more)
