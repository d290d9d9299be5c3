-- The scan of a text against a pattern.
use Rattle.std.proofs.Common.{◌≡◌, ℕ, zero, suc, ◌≤◌, Bool, true, false, ◌&&◌, ◌||◌, eqb, if◌then◌else◌, List, [], ◌∷◌, length, drop, Option, Some, None, refl, ap, ◌∙◌, sym, subst, arith, add_comm, drop-drop}
use borrow.Author.Tests.{eqb-true}
use Rattle.policy_core.specs.Patterns.{takes, at_first, behind_some_run, by_first, is_ended, covers, behind_star, run_by, after_run, or_there, first_place}

-- whether what is left of both is covered
abbrev pub left_covered : (ℕ → ℕ → Bool) → Option (List ℕ × List ℕ) → Bool
left_covered same None = false
left_covered same (Some left) = covers same left.0 left.1

-- what is left by a run is covered where the whole is
pub covers_run : (same : ℕ → ℕ → Bool) (pattern text : List ℕ) → covers same pattern text ≡ left_covered same (after_run same pattern text)
covers_run same [] [] = refl
covers_run same [] (d ∷ text) = refl
covers_run same (c ∷ pattern) text = by_star (eqb c 42) refl text (covers_run same pattern)
  where
    by_passing : (t : Bool) (rest : List ℕ) → covers same pattern rest ≡ left_covered same (after_run same pattern rest) → (t && covers same pattern rest) ≡ left_covered same (if t then after_run same pattern rest else None)
    by_passing true rest ih = ih
    by_passing false rest ih = refl

    by_text : (text : List ℕ) → ((rest : List ℕ) → covers same pattern rest ≡ left_covered same (after_run same pattern rest)) → at_first (takes same c) (covers same pattern) text ≡ left_covered same (run_by (takes same c) (after_run same pattern) text)
    by_text [] ih = refl
    by_text (d ∷ rest) ih = by_passing (takes same c d) rest (ih rest)

    by_star : (t : Bool) → eqb c 42 ≡ t → (text : List ℕ) → ((rest : List ℕ) → covers same pattern rest ≡ left_covered same (after_run same pattern rest)) → by_first (eqb c 42) (takes same c) (covers same pattern) text ≡ left_covered same (if eqb c 42 then Some (c ∷ pattern, text) else run_by (takes same c) (after_run same pattern) text)
    by_star true e text ih = ap (λ t. left_covered same (if t then Some (c ∷ pattern, text) else run_by (takes same c) (after_run same pattern) text)) (sym e) ∙ refl
    by_star false e text ih =
        ap (λ t. by_first t (takes same c) (covers same pattern) text) e
        ∙ by_text text ih
        ∙ ap (λ t. left_covered same (if t then Some (c ∷ pattern, text) else run_by (takes same c) (after_run same pattern) text)) (sym e)

-- A run leaves the pattern from its first star on, and the text behind as many characters as stand before that.
abbrev before_star : List ℕ → ℕ
before_star [] = 0
before_star (c ∷ pattern) = if eqb c 42 then 0 else suc (before_star pattern)

abbrev from_star : List ℕ → List ℕ
from_star [] = []
from_star (c ∷ pattern) = if eqb c 42 then c ∷ pattern else from_star pattern

-- the pattern begins with a star, or both have ended
abbrev pub IsLeft : List ℕ → List ℕ → Type 0
IsLeft [] text = text ≡ []
IsLeft (c ∷ pattern) text = c ≡ 42

record Left (pattern text : List ℕ) (left : List ℕ × List ℕ) : Type 0 where
  pattern_left : left.0 ≡ from_star pattern
  text_left : left.1 ≡ drop (before_star pattern) text
  is_left : IsLeft left.0 left.1
  shorter : length left.0 ≤ length pattern

abbrev LeftIf : List ℕ → List ℕ → Option (List ℕ × List ℕ) → Type 0
LeftIf pattern text None = Unit {0}
LeftIf pattern text (Some left) = Left pattern text left

run_leaves : (same : ℕ → ℕ → Bool) (pattern text : List ℕ) → LeftIf pattern text (after_run same pattern text)
run_leaves same [] [] = record { pattern_left = refl; text_left = refl; is_left = refl; shorter = omega arith }
run_leaves same [] (d ∷ text) = tt
run_leaves same (c ∷ pattern) text = by_star (eqb c 42) refl (run_leaves same pattern)
  where
    one_more : (d : ℕ) (rest : List ℕ) → eqb c 42 ≡ false → (o : Option (List ℕ × List ℕ)) → LeftIf pattern rest o → LeftIf (c ∷ pattern) (d ∷ rest) o
    one_more d rest e None h = tt
    one_more d rest e (Some left) h = record {
      pattern_left = h.pattern_left ∙ ap (λ t. if t then c ∷ pattern else from_star pattern) (sym e);
      text_left = h.text_left ∙ ap (λ t. drop (if t then 0 else suc (before_star pattern)) (d ∷ rest)) (sym e);
      is_left = h.is_left;
      shorter = omega (arith, h.shorter);
    }

    by_passing : (t : Bool) (d : ℕ) (rest : List ℕ) → eqb c 42 ≡ false → LeftIf pattern rest (after_run same pattern rest) → LeftIf (c ∷ pattern) (d ∷ rest) (if t then after_run same pattern rest else None)
    by_passing true d rest e ih = one_more d rest e (after_run same pattern rest) ih
    by_passing false d rest e ih = tt

    by_text : (text : List ℕ) → eqb c 42 ≡ false → ((rest : List ℕ) → LeftIf pattern rest (after_run same pattern rest)) → LeftIf (c ∷ pattern) text (run_by (takes same c) (after_run same pattern) text)
    by_text [] e ih = tt
    by_text (d ∷ rest) e ih = by_passing (takes same c d) d rest e (ih rest)

    by_star : (t : Bool) → eqb c 42 ≡ t → ((rest : List ℕ) → LeftIf pattern rest (after_run same pattern rest)) → LeftIf (c ∷ pattern) text (if eqb c 42 then Some (c ∷ pattern, text) else run_by (takes same c) (after_run same pattern) text)
    by_star true e ih = subst (λ t. LeftIf (c ∷ pattern) text (if t then Some (c ∷ pattern, text) else run_by (takes same c) (after_run same pattern) text)) (sym e) (record {
      pattern_left = ap (λ t. if t then c ∷ pattern else from_star pattern) (sym e);
      text_left = ap (λ t. drop (if t then 0 else suc (before_star pattern)) text) (sym e);
      is_left = eqb-true c 42 e;
      shorter = omega arith;
    })
    by_star false e ih = subst (λ t. LeftIf (c ∷ pattern) text (if t then Some (c ∷ pattern, text) else run_by (takes same c) (after_run same pattern) text)) (sym e) (by_text text e ih)

-- some run behind which the text is covered
some_place : (covered : List ℕ → Bool) (text : List ℕ) → behind_some_run covered text ≡ true → (k : ℕ) × (covered (drop k text) ≡ true)
some_place covered [] e = (0, e)
some_place covered (d ∷ text) e = by_first_place (covered (d ∷ text)) refl e (some_place covered text)
  where
    by_first_place : (t : Bool) → covered (d ∷ text) ≡ t → (t || behind_some_run covered text) ≡ true → (behind_some_run covered text ≡ true → (k : ℕ) × (covered (drop k text) ≡ true)) → (k : ℕ) × (covered (drop k (d ∷ text)) ≡ true)
    by_first_place true h e ih = (0, h)
    by_first_place false h e ih = let later = ih e in (suc later.0, later.1)

at_start : (covered : List ℕ → Bool) (text : List ℕ) → covered text ≡ true → behind_some_run covered text ≡ true
at_start covered [] e = e
at_start covered (d ∷ text) e = ap (λ t. t || behind_some_run covered text) e

or_true : (t : Bool) → (t || true) ≡ true
or_true true = refl
or_true false = refl

-- what is covered behind a longer run is covered behind some run
behind_more : (covered : List ℕ → Bool) (k : ℕ) (text : List ℕ) → behind_some_run covered (drop k text) ≡ true → behind_some_run covered text ≡ true
behind_more covered zero text e = e
behind_more covered (suc k) [] e = e
behind_more covered (suc k) (d ∷ text) e = ap (λ t. covered (d ∷ text) || t) (behind_more covered k text e) ∙ or_true (covered (d ∷ text))

drop_drop : (j k : ℕ) (text : List ℕ) → drop j (drop k text) ≡ drop k (drop j text)
drop_drop j k text = drop-drop j k text ∙ ap (λ n. drop n text) (add_comm k j) ∙ sym (drop-drop k j text)

-- where a run takes the text, and a later place is covered, what the run leaves is covered
later_covered : (same : ℕ → ℕ → Bool) (pattern text : List ℕ) (left : List ℕ × List ℕ) (k : ℕ) → after_run same pattern text ≡ Some left → covers same pattern (drop k text) ≡ true → covers same left.0 left.1 ≡ true
later_covered same pattern text left k e covered = by_later (after_run same pattern (drop k text)) refl (run_leaves same pattern (drop k text)) (sym (covers_run same pattern (drop k text)) ∙ covered)
  where
    here : Left pattern text left
    here = subst (LeftIf pattern text) e (run_leaves same pattern text)

    by_pattern : (p u : List ℕ) → IsLeft p u → (v : List ℕ) → v ≡ drop k u → covers same p v ≡ true → covers same p u ≡ true
    by_pattern [] u is v drops c = ap is_ended is
    by_pattern (x ∷ p) u is v drops c =
        let starred : (w : List ℕ) → covers same (x ∷ p) w ≡ behind_some_run (covers same p) w = λ w. ap (λ y. by_first (eqb y 42) (takes same x) (covers same p) w) is in
        starred u ∙ behind_more (covers same p) k u (ap (behind_some_run (covers same p)) (sym drops) ∙ sym (starred v) ∙ c)

    by_later : (o : Option (List ℕ × List ℕ)) → after_run same pattern (drop k text) ≡ o → LeftIf pattern (drop k text) o → left_covered same o ≡ true → covers same left.0 left.1 ≡ true
    by_later None f h c = absurd (cc)
    by_later (Some later) f h c =
        let same_pattern : later.0 ≡ left.0 = h.pattern_left ∙ sym here.pattern_left in
        let same_text : later.1 ≡ drop k left.1 = h.text_left ∙ drop_drop (before_star pattern) k text ∙ ap (drop k) (sym here.text_left) in
        by_pattern left.0 left.1 here.is_left later.1 same_text (ap (λ p. covers same p later.1) (sym same_pattern) ∙ c)

-- the first place where a run takes the text decides
pub covers_place : (same : ℕ → ℕ → Bool) (pattern text : List ℕ) → behind_some_run (covers same pattern) text ≡ left_covered same (first_place same pattern text)
covers_place same pattern [] = covers_run same pattern []
covers_place same pattern (d ∷ text) = by_run (after_run same pattern (d ∷ text)) refl (covers_place same pattern text)
  where
    by_answer : (left : List ℕ × List ℕ) → after_run same pattern (d ∷ text) ≡ Some left → (t : Bool) → covers same left.0 left.1 ≡ t → (s : Bool) → behind_some_run (covers same pattern) text ≡ s → (t || s) ≡ t
    by_answer left e true f s g = refl
    by_answer left e false f false g = refl
    by_answer left e false f true g =
        let later = some_place (covers same pattern) text g in
        let yes = later_covered same pattern (d ∷ text) left (suc later.0) e later.1 in absurd (cc)

    by_run : (o : Option (List ℕ × List ℕ)) → after_run same pattern (d ∷ text) ≡ o → behind_some_run (covers same pattern) text ≡ left_covered same (first_place same pattern text) → (covers same pattern (d ∷ text) || behind_some_run (covers same pattern) text) ≡ left_covered same (or_there o (first_place same pattern text))
    by_run None e ih = ap (λ t. t || behind_some_run (covers same pattern) text) (covers_run same pattern (d ∷ text) ∙ ap (left_covered same) e) ∙ ih
    by_run (Some left) e ih =
        ap (λ t. t || behind_some_run (covers same pattern) text) (covers_run same pattern (d ∷ text) ∙ ap (left_covered same) e)
        ∙ by_answer left e (covers same left.0 left.1) refl (behind_some_run (covers same pattern) text) refl

-- what the scan needs of a run, and of the first place of one
pub run_left : (same : ℕ → ℕ → Bool) (pattern text p u : List ℕ) → after_run same pattern text ≡ Some (p, u) → IsLeft p u × (length p ≤ length pattern)
run_left same pattern text p u e =
    let h : Left pattern text (p, u) = subst (LeftIf pattern text) e (run_leaves same pattern text) in
    (h.is_left, h.shorter)

pub place_left : (same : ℕ → ℕ → Bool) (pattern text p u : List ℕ) → first_place same pattern text ≡ Some (p, u) → IsLeft p u × (length p ≤ length pattern)
place_left same pattern [] p u e = run_left same pattern [] p u e
place_left same pattern (d ∷ text) p u e = by_run (after_run same pattern (d ∷ text)) refl e (place_left same pattern text p u)
  where
    by_run : (o : Option (List ℕ × List ℕ)) → after_run same pattern (d ∷ text) ≡ o → or_there o (first_place same pattern text) ≡ Some (p, u) → (first_place same pattern text ≡ Some (p, u) → IsLeft p u × (length p ≤ length pattern)) → IsLeft p u × (length p ≤ length pattern)
    by_run None f e ih = ih e
    by_run (Some left) f e ih = run_left same pattern (d ∷ text) p u (f ∙ e)

-- behind a star
pub star_is : (pattern rest : List ℕ) → behind_star pattern ≡ Some rest → pattern ≡ 42 ∷ rest
star_is [] rest e = absurd (cc)
star_is (c ∷ pattern) rest e = by_test (eqb c 42) refl e
  where
    by_test : (t : Bool) → eqb c 42 ≡ t → (if t then Some pattern else None) ≡ Some rest → c ∷ pattern ≡ 42 ∷ rest
    by_test true h e = let same : pattern ≡ rest = cc in let byte = eqb-true c 42 h in cc
    by_test false h e = absurd (cc)

pub star_covers : (same : ℕ → ℕ → Bool) (pattern rest text : List ℕ) → behind_star pattern ≡ Some rest → covers same pattern text ≡ left_covered same (first_place same rest text)
star_covers same pattern rest text e = ap (λ p. covers same p text) (star_is pattern rest e) ∙ covers_place same rest text

-- at the end of the pattern
pub all_taken : (same : ℕ → ℕ → Bool) (pattern text : List ℕ) → IsLeft pattern text → behind_star pattern ≡ None → covers same pattern text ≡ true
all_taken same [] text is e = ap is_ended is
all_taken same (c ∷ pattern) text is e = let some : behind_star (c ∷ pattern) ≡ Some pattern = ap (λ x. if eqb x 42 then Some pattern else None) is in absurd (cc)

-- a run at the first place is the first
pub place_here : (same : ℕ → ℕ → Bool) (pattern text : List ℕ) (left : List ℕ × List ℕ) → after_run same pattern text ≡ Some left → first_place same pattern text ≡ Some left
place_here same pattern [] left e = e
place_here same pattern (d ∷ text) left e = ap (λ o. or_there o (first_place same pattern text)) e
