-- Which texts a pattern covers. Patterns and texts are lists of characters.
use Rattle.std.specs.Prelude.{◌≡◌, ◌≢◌, ℕ, ◌==◌, Bool, true, false, ◌&&◌, ◌||◌, List, [], ◌∷◌, ◌++◌, Option, Some, None, if◌then◌else◌}

-- A pattern covers a text, where `same` compares two characters:
pub data Covers : (ℕ → ℕ → Bool) → List ℕ → List ℕ → Type 0 where
  -- the empty pattern the empty text;
  ended : {same : ℕ → ℕ → Bool} → Covers same [] []
  -- `*` any run of characters, before what the rest covers;
  star : {same : ℕ → ℕ → Bool} {pattern rest : List ℕ} (run : List ℕ) → Covers same pattern rest → Covers same (42 ∷ pattern) (run ++ rest)
  -- `?` any one character;
  one : {same : ℕ → ℕ → Bool} {pattern rest : List ℕ} (d : ℕ) → Covers same pattern rest → Covers same (63 ∷ pattern) (d ∷ rest)
  -- any other character itself.
  itself : {same : ℕ → ℕ → Bool} {pattern rest : List ℕ} (c d : ℕ) → c ≢ 42 → c ≢ 63 → same c d ≡ true → Covers same pattern rest → Covers same (c ∷ pattern) (d ∷ rest)

-- The test of whether it does. A character of a pattern other than `*` takes one of the text:
abbrev pub takes : (ℕ → ℕ → Bool) → ℕ → ℕ → Bool
takes same c d = c == 63 || same c d

-- the text has a first character, which passes, and the rest is covered
abbrev pub at_first : (ℕ → Bool) → (List ℕ → Bool) → List ℕ → Bool
at_first passes covered [] = false
at_first passes covered (d ∷ text) = passes d && covered text

-- what is left of the text behind some run at its front is covered
abbrev pub behind_some_run : (List ℕ → Bool) → List ℕ → Bool
behind_some_run covered [] = covered []
behind_some_run covered (d ∷ text) = covered (d ∷ text) || behind_some_run covered text

abbrev pub by_first : Bool → (ℕ → Bool) → (List ℕ → Bool) → List ℕ → Bool
by_first true passes covered text = behind_some_run covered text
by_first false passes covered text = at_first passes covered text

abbrev pub is_ended : List ℕ → Bool
is_ended [] = true
is_ended (d ∷ text) = false

abbrev pub covers : (ℕ → ℕ → Bool) → List ℕ → List ℕ → Bool
covers same [] text = is_ended text
covers same (c ∷ pattern) text = by_first (c == 42) (takes same c) (covers same pattern) text

-- The scan of a text. What follows a star at the front:
abbrev pub behind_star : List ℕ → Option (List ℕ)
behind_star [] = None
behind_star (c ∷ pattern) = if c == 42 then Some pattern else None

-- a pattern up to its next star, or to its end, takes the text at the front, or, where it ends, all of it: what is left of both
abbrev pub run_by : (ℕ → Bool) → (List ℕ → Option (List ℕ × List ℕ)) → List ℕ → Option (List ℕ × List ℕ)
run_by passes next [] = None
run_by passes next (d ∷ text) = if passes d then next text else None

abbrev pub run_at : Bool → List ℕ → Option (List ℕ × List ℕ)
run_at true text = Some ([], text)
run_at false text = None

abbrev pub after_run : (ℕ → ℕ → Bool) → List ℕ → List ℕ → Option (List ℕ × List ℕ)
after_run same [] text = run_at (is_ended text) text
after_run same (c ∷ pattern) text = if c == 42 then Some (c ∷ pattern, text) else run_by (takes same c) (after_run same pattern) text

-- the same at the first place of the text where it does
abbrev pub or_there : Option (List ℕ × List ℕ) → Option (List ℕ × List ℕ) → Option (List ℕ × List ℕ)
or_there (Some left) later = Some left
or_there None later = later

abbrev pub first_place : (ℕ → ℕ → Bool) → List ℕ → List ℕ → Option (List ℕ × List ℕ)
first_place same pattern [] = after_run same pattern []
first_place same pattern (d ∷ text) = or_there (after_run same pattern (d ∷ text)) (first_place same pattern text)
