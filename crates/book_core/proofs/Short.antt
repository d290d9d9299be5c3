-- Names are short, and of ASCII.
use Rattle.std.proofs.Common.{◌≡◌, ℕ, ◌<◌, ◌≤◌, Bool, true, ◌&&◌, List, [], ◌∷◌, length, All, arith}
use Rattle.std.specs.Prelude.{nat_le}
use Rattle.std.specs.List.{list_all}
use Rattle.std.proofs.lemmas.Bool.{and_parts}
use Rattle.std.proofs.lemmas.List.Elements.{All-nil, All-cons}
use Rattle.gw_base.specs.Names.{begins_name, is_ascii, is_name, is_name_byte}

name_byte : (b : ℕ) → is_name_byte b ≡ true → b < 128
unfolding is_name_byte
name_byte b h = grind arith

name_bytes : (bytes : List ℕ) → list_all is_name_byte bytes ≡ true → All (λ b. b < 128) bytes
name_bytes [] h = All-nil (λ b. b < 128)
name_bytes (b ∷ bytes) h =
    let parts = and_parts (is_name_byte b) (list_all is_name_byte bytes) h in
    All-cons (λ b. b < 128) b bytes (name_byte b parts.0) (name_bytes bytes parts.1)

pub is_of_ascii : (name : List ℕ) → is_name name ≡ true → is_ascii name
unfolding is_name
is_of_ascii name h = name_bytes name (and_parts (begins_name name && nat_le (length name) 64) (list_all is_name_byte name) h).1

pub is_short : (name : List ℕ) → is_name name ≡ true → length name ≤ 64
unfolding is_name
is_short name h =
    short (length name) (and_parts (begins_name name) (nat_le (length name) 64) (and_parts (begins_name name && nat_le (length name) 64) (list_all is_name_byte name) h).0).1
  where
    short : (n : ℕ) → nat_le n 64 ≡ true → n ≤ 64
    short n e = grind arith
