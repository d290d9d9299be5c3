-- How a path is spelled.
use Rattle.std.specs.Prelude.{◌≡◌, ℕ, ◌==◌, nat_le, Bool, true, not, ◌&&◌, ◌||◌, List, ◌++◌, length, map, codes}
use Rattle.std.specs.List.{list_all, join_with_byte}
use Rattle.resource_tree.specs.declared.part.Part.{Part}
use Rattle.resource_tree.specs.declared.part.Part.TheVariants.{Literal, Parameter, Greedy}

-- a byte of a literal: any but `/`, `{` and `}`
abbrev pub is_literal_byte : ℕ → Bool
is_literal_byte b = not (b == 47 || b == 123 || b == 125)

-- a byte of a name: an ASCII letter, a digit, `_` or `-`
abbrev pub is_name_byte : ℕ → Bool
is_name_byte b = (nat_le 97 b && nat_le b 122) || (nat_le 65 b && nat_le b 90) || (nat_le 48 b && nat_le b 57) || b == 95 || b == 45

-- the text is not empty
abbrev pub has_bytes : List ℕ → Bool
has_bytes text = not (length text == 0)

-- a literal has one or more bytes, none of them `/`, `{` or `}`
abbrev pub is_literal : List ℕ → Bool
is_literal text = has_bytes text && list_all is_literal_byte text

-- a name has 1 to 64 bytes, each an ASCII letter, a digit, `_` or `-`
abbrev pub is_name : List ℕ → Bool
is_name text = has_bytes text && nat_le (length text) 64 && list_all is_name_byte text

-- what a part may hold
abbrev pub is_part : Part → Bool
is_part (Literal text) = is_literal text
is_part (Parameter name) = is_name name
is_part (Greedy name) = is_name name

-- a part as it is written
abbrev pub written_part : Part → List ℕ
written_part (Literal text) = text
written_part (Parameter name) = codes "{" ++ (name ++ codes "}")
written_part (Greedy name) = codes "{" ++ (name ++ codes "+}")

-- a path of these parts as it is written: `/` alone, or each part after a `/`
abbrev pub written : List Part → List ℕ
written parts = codes "/" ++ join_with_byte 47 (map written_part parts)

-- the path is written with these parts, wherever a `{name+}` stands among them
pub record IsSpelled (path : List ℕ) (parts : List Part) : Type 0 where
  pub text : path ≡ written parts
  pub each : list_all is_part parts ≡ true
