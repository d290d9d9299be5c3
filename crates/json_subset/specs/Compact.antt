-- A text without the white space outside its strings.
use Rattle.std.specs.Prelude.{ℕ, List, [], ◌∷◌, Bool, false, ◌==◌, if◌then◌else◌}
use Rattle.json_subset.specs.Scan.{is_white}

-- where a byte stands
pub data Place : Type 0 where
  outside : Place
  in_string : Place
  behind_backslash : Place

abbrev pub after_outside : ℕ → Place
after_outside b = if b == 34 then in_string else outside

abbrev pub after_in_string : ℕ → Place
after_in_string b = if b == 34 then outside else if b == 92 then behind_backslash else in_string

-- where the byte behind this one stands
abbrev pub next_place : Place → ℕ → Place
next_place outside b = after_outside b
next_place in_string b = after_in_string b
next_place behind_backslash b = in_string

abbrev pub is_dropped : Place → ℕ → Bool
is_dropped outside b = is_white b
is_dropped in_string b = false
is_dropped behind_backslash b = false

-- the bytes that stay, from this place on
abbrev pub compact_from : Place → List ℕ → List ℕ
compact_from p [] = []
compact_from p (b ∷ bs) = if is_dropped p b then compact_from p bs else b ∷ compact_from (next_place p b) bs

abbrev pub compacted : List ℕ → List ℕ
compacted bs = compact_from outside bs
