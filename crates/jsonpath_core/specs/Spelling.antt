-- How a path is spelled: `$`, and then its steps.
use Rattle.std.specs.Prelude.{◌≡◌, ◌≢◌, ℕ, ◌==◌, nat_le, Bool, true, not, ◌&&◌, ◌||◌, List, [], ◌∷◌, ◌++◌}
use Rattle.std.specs.List.{list_all}
use Rattle.json_subset.specs.Numbers.{value_from}
use Rattle.jsonpath_core.specs.Steps.{Step, name, index, star}

abbrev pub is_digit : ℕ → Bool
is_digit b = nat_le 48 b && nat_le b 57

-- a byte of a bare name: an ASCII letter, a digit, `_`, `-`, or a byte of a character past ASCII
abbrev pub is_name_byte : ℕ → Bool
is_name_byte b = (nat_le 97 b && nat_le b 122) || (nat_le 65 b && nat_le b 90) || (nat_le 48 b && nat_le b 57) || b == 95 || b == 45 || nat_le 128 b

-- `'` and `"`
abbrev pub is_quote : ℕ → Bool
is_quote b = b == 39 || b == 34

abbrev pub is_not : ℕ → ℕ → Bool
is_not q b = not (b == q)

-- the number that decimal digits spell
abbrev pub number_of : List ℕ → ℕ
number_of digits = value_from 0 digits

-- A step is spelled so:
pub data IsStep : List ℕ → Step → Type 0 where
  -- `.name`, a bare name of one byte or more;
  bare : (n : List ℕ) → n ≢ [] → list_all is_name_byte n ≡ true → IsStep (46 ∷ n) (name n)
  -- `['name']` or `["name"]`, with none of its own quotes in the name, which may be empty;
  quoted : (q : ℕ) (n : List ℕ) → is_quote q ≡ true → list_all (is_not q) n ≡ true → IsStep (91 ∷ q ∷ (n ++ q ∷ 93 ∷ [])) (name n)
  -- `[n]`, one decimal digit or more;
  numbered : (digits : List ℕ) → digits ≢ [] → list_all is_digit digits ≡ true → IsStep (91 ∷ (digits ++ 93 ∷ [])) (index (number_of digits))
  -- `.*`;
  dotted_star : IsStep (46 ∷ 42 ∷ []) star
  -- `[*]`.
  bracketed_star : IsStep (91 ∷ 42 ∷ 93 ∷ []) star

-- steps are spelled so, one behind another
pub data AreSteps : List ℕ → List Step → Type 0 where
  none : AreSteps [] []
  next : {rest : List ℕ} {steps : List Step} (front : List ℕ) (s : Step) → IsStep front s → AreSteps rest steps → AreSteps (front ++ rest) (s ∷ steps)

-- the text is the path of these steps
pub record IsPath (text : List ℕ) (steps : List Step) : Type 0 where
  pub rest : List ℕ
  pub root : text ≡ 36 ∷ rest
  pub each : AreSteps rest steps
