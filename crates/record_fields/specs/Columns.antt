-- Columns of pairs: fields `name=value`, joined by one space.
use Rattle.std.specs.Prelude.{◌≡◌, ℕ, ◌==◌, Bool, true, not, ◌&&◌, List, [], ◌∷◌, ◌++◌, map, Option, Some, None, if◌then◌else◌}
use Rattle.std.specs.List.{join_with_byte, list_all}
use Rattle.std.specs.Option.{option_and_then}
use Rattle.std.specs.Str.{bytes_eq}
use Rattle.record_fields.specs.Coding.{fields_of, is_utf8}
use Rattle.record_fields.specs.Pairs.{pairs_of}
use Rattle.record_fields.specs.Writing.{coded}

-- a pair as a field `name=value`
abbrev pub pair_field : List ℕ × List ℕ → List ℕ
pair_field pair = coded (pair.0 ++ 61 ∷ pair.1)

-- the fields of pairs, joined by one space
abbrev pub column : List (List ℕ × List ℕ) → List ℕ
column pairs = join_with_byte 32 (map pair_field pairs)

-- the pairs, where their column is just this text
abbrev pub if_spelled : List ℕ → List (List ℕ × List ℕ) → Option (List (List ℕ × List ℕ))
if_spelled text pairs = if bytes_eq (column pairs) text then Some pairs else None

-- What a column stands for, where it has its form: the empty one is of no pairs, and else it is spelled just as the column of its
-- pairs is.
unfoldable pub column_pairs : List ℕ → Option (List (List ℕ × List ℕ))
column_pairs [] = Some []
column_pairs (b ∷ bs) = option_and_then (if_spelled (b ∷ bs)) (option_and_then pairs_of (fields_of (b ∷ bs)))

-- both parts are texts
abbrev pub is_pair_of_texts : List ℕ × List ℕ → Bool
is_pair_of_texts pair = is_utf8 pair.0 && is_utf8 pair.1

-- they are, and the name has no `=`
abbrev pub is_column_pair : List ℕ × List ℕ → Bool
is_column_pair pair = list_all (λ b. not (b == 61)) pair.0 && is_pair_of_texts pair

-- the column of such pairs stands for just them
abbrev pub ColumnsAreReadBack : Type 0
ColumnsAreReadBack = (pairs : List (List ℕ × List ℕ)) → list_all is_column_pair pairs ≡ true → column_pairs (column pairs) ≡ Some pairs

-- what stands for some pairs is their column
abbrev pub ColumnsHaveOneForm : Type 0
ColumnsHaveOneForm = (text : List ℕ) (pairs : List (List ℕ × List ℕ)) → column_pairs text ≡ Some pairs → column pairs ≡ text
