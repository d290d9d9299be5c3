-- Variables of a stage, and values of keys.
use Rattle.std.specs.Prelude.{ℕ, nat_le, Bool, ◌&&◌, List, length}
use Rattle.std.specs.List.{list_all}
use Rattle.gw_base.specs.Names.{is_name}
use Rattle.record_fields.specs.Coding.{is_utf8}

-- a variable: a name, and a text of at most 2,048 bytes
unfoldable pub is_variable : List ℕ × List ℕ → Bool
is_variable pair = is_name pair.0 && is_utf8 pair.1 && nat_le (length pair.1) 2048

abbrev pub are_variables : List (List ℕ × List ℕ) → Bool
are_variables pairs = list_all is_variable pairs

-- a key's value: 1 to 128 bytes of 33 to 126
abbrev pub is_key_value : List ℕ → Bool
is_key_value value = nat_le 1 (length value) && nat_le (length value) 128 && list_all (λ b. nat_le 33 b && nat_le b 126) value
