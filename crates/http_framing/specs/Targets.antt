-- The test that bytes end inside a request's target.
use Rattle.std.specs.Prelude.{ℕ, List, [], ◌∷◌, Bool, true, false, ◌&&◌, ◌==◌, if◌then◌else◌}
use Rattle.std.specs.List.{list_all}
use Rattle.httparse.specs.Grammar.{is_token_byte, is_uri_byte}

-- the bytes after the empty lines at the front
unfoldable pub after_blank : List ℕ → List ℕ
after_blank [] = []
after_blank (b ∷ []) = if b == 10 then [] else b ∷ []
after_blank (b ∷ c ∷ rest) =
    if b == 10 then after_blank (c ∷ rest)
    else if b == 13 && c == 10 then after_blank rest else b ∷ c ∷ rest

-- a method, of which some byte was read already or not, a space, and target bytes up to the end
unfoldable pub in_method : Bool → List ℕ → Bool
in_method some [] = false
in_method some (b ∷ rest) =
    if is_token_byte b then in_method true rest else (some && b == 32 && list_all is_uri_byte rest)

-- the bytes end inside a target
abbrev pub is_in_target : List ℕ → Bool
is_in_target buf = in_method false (after_blank buf)
