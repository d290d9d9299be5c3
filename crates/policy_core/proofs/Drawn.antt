-- What a pattern covers, and what its test answers.
use Rattle.std.proofs.Common.{◌≡◌, ◌≢◌, ℕ, Bool, true, false, ◌&&◌, ◌||◌, eqb, List, [], ◌∷◌, ◌++◌, refl, ap, ◌∙◌, sym, subst}
use borrow.Author.Tests.{eqb-true, eqb-false}
use Rattle.policy_core.specs.Patterns.{Covers, ended, star, one, itself, takes, at_first, behind_some_run, by_first, covers}

at_front : (covered : List ℕ → Bool) (text : List ℕ) → covered text ≡ true → behind_some_run covered text ≡ true
at_front covered [] e = e
at_front covered (d ∷ text) e = ap (λ t. t || behind_some_run covered text) e

or_true : (t : Bool) → (t || true) ≡ true
or_true true = refl
or_true false = refl

behind_run : (covered : List ℕ → Bool) (run rest : List ℕ) → covered rest ≡ true → behind_some_run covered (run ++ rest) ≡ true
behind_run covered [] rest e = at_front covered rest e
behind_run covered (d ∷ run) rest e = ap (λ t. covered (d ∷ (run ++ rest)) || t) (behind_run covered run rest e) ∙ or_true (covered (d ∷ (run ++ rest)))

not_equal : (c d : ℕ) → c ≢ d → eqb c d ≡ false
not_equal c d other = by_test (eqb c d) refl
  where
    by_test : (t : Bool) → eqb c d ≡ t → eqb c d ≡ false
    by_test false h = h
    by_test true h = absurd (other (eqb-true c d h))

and_true : (a b : Bool) → a ≡ true → b ≡ true → (a && b) ≡ true
and_true a b e f = ap (λ t. t && b) e ∙ f

-- what is covered passes the test
pub passes : (same : ℕ → ℕ → Bool) (pattern text : List ℕ) → Covers same pattern text → covers same pattern text ≡ true
passes same pattern text ended = refl
passes same pattern text (star {pattern = p} {rest = rest} run h) = behind_run (covers same p) run rest (passes same p rest h)
passes same pattern text (one {pattern = p} {rest = rest} d h) = passes same p rest h
passes same pattern text (itself {pattern = p} {rest = rest} c d no_star no_one alike h) =
    ap (λ t. by_first t (takes same c) (covers same p) (d ∷ rest)) (not_equal c 42 no_star)
    ∙ and_true (takes same c d) (covers same p rest) (ap (λ t. eqb c 63 || t) alike ∙ or_true (eqb c 63)) (passes same p rest h)

-- some run, behind which the text is covered
record Behind (covered : List ℕ → Bool) (text : List ℕ) : Type 0 where
  run : List ℕ
  rest : List ℕ
  whole : text ≡ run ++ rest
  covers_rest : covered rest ≡ true

some_run : (covered : List ℕ → Bool) (text : List ℕ) → behind_some_run covered text ≡ true → Behind covered text
some_run covered [] e = record { run = []; rest = []; whole = refl; covers_rest = e }
some_run covered (d ∷ text) e = by_front (covered (d ∷ text)) refl e (some_run covered text)
  where
    by_front : (t : Bool) → covered (d ∷ text) ≡ t → (t || behind_some_run covered text) ≡ true → (behind_some_run covered text ≡ true → Behind covered text) → Behind covered (d ∷ text)
    by_front true h e ih = record { run = []; rest = d ∷ text; whole = refl; covers_rest = h }
    by_front false h e ih = let later = ih e in record { run = d ∷ later.run; rest = later.rest; whole = ap (λ x. d ∷ x) later.whole; covers_rest = later.covers_rest }

split_and : (a b : Bool) → (a && b) ≡ true → (a ≡ true) × (b ≡ true)
split_and true b e = (refl, e)
split_and false b e = absurd (cc)

-- what passes the test is covered
pub drawn : (same : ℕ → ℕ → Bool) (pattern text : List ℕ) → covers same pattern text ≡ true → Covers same pattern text
drawn same [] [] e = ended
drawn same [] (d ∷ text) e = absurd (cc)
drawn same (c ∷ pattern) text e = by_star (eqb c 42) refl (drawn same pattern) e
  where
    by_one : (t : Bool) → eqb c 63 ≡ t → (d : ℕ) (rest : List ℕ) → eqb c 42 ≡ false → takes same c d ≡ true → Covers same pattern rest → Covers same (c ∷ pattern) (d ∷ rest)
    by_one true h d rest no_star e covered = subst (λ x. Covers same (x ∷ pattern) (d ∷ rest)) (sym (eqb-true c 63 h)) (one d covered)
    by_one false h d rest no_star e covered = itself c d (eqb-false c 42 no_star) (eqb-false c 63 h) (sym (ap (λ t. t || same c d) h) ∙ e) covered

    by_text : (text : List ℕ) → eqb c 42 ≡ false → ((rest : List ℕ) → covers same pattern rest ≡ true → Covers same pattern rest) → at_first (takes same c) (covers same pattern) text ≡ true → Covers same (c ∷ pattern) text
    by_text [] no_star ih e = absurd (cc)
    by_text (d ∷ rest) no_star ih e =
        let both = split_and (takes same c d) (covers same pattern rest) e in
        by_one (eqb c 63) refl d rest no_star both.0 (ih rest both.1)

    by_star : (t : Bool) → eqb c 42 ≡ t → ((rest : List ℕ) → covers same pattern rest ≡ true → Covers same pattern rest) → by_first (eqb c 42) (takes same c) (covers same pattern) text ≡ true → Covers same (c ∷ pattern) text
    by_star true h ih e =
        let found = some_run (covers same pattern) text (sym (ap (λ t. by_first t (takes same c) (covers same pattern) text) h) ∙ e) in
        subst (λ x. Covers same (c ∷ pattern) x) (sym found.whole)
        (subst (λ x. Covers same (x ∷ pattern) (found.run ++ found.rest)) (sym (eqb-true c 42 h)) (star found.run (ih found.rest found.covers_rest)))
    by_star false h ih e = by_text text h ih (sym (ap (λ t. by_first t (takes same c) (covers same pattern) text) h) ∙ e)
