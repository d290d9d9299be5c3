-- Whether a connection closes behind a message (RFC 9112, section 9.6).
use Rattle.std.specs.Prelude.{ℕ, ◌==◌, nat_lt, Bool, false, not, ◌||◌, ◌&&◌, List, [], ◌∷◌, length, take, drop, codes, Option, Some, None, if◌then◌else◌}
use Rattle.std.specs.List.{slice_split, list_all, list_any}
use Rattle.std.specs.Str.{str_eq_ignore_ascii_case}
use Rattle.call_facts.specs.declared.request.Request.{Request}
use Rattle.call_facts.specs.Pairs.{header_value}

-- a space or a tab
abbrev pub is_blank : ℕ → Bool
is_blank b = b == 32 || b == 9

abbrev pub without_front_blanks : List ℕ → List ℕ
without_front_blanks [] = []
without_front_blanks (b ∷ bs) = if is_blank b then without_front_blanks bs else b ∷ bs

abbrev pub spells_close : List ℕ → Bool
spells_close bs = not (nat_lt (length bs) 5) && (str_eq_ignore_ascii_case (take 5 bs) (codes "close") && list_all is_blank (drop 5 bs))

-- an option of the field `connection`: `close` in any case, between blanks
abbrev pub is_close : List ℕ → Bool
is_close element = spells_close (without_front_blanks element)

-- one of the options, which commas part, is `close`
abbrev pub lists_close : Option (List ℕ) → Bool
lists_close None = false
lists_close (Some value) = list_any is_close (slice_split (λ b. b == 44) value)

-- the first field `connection` of a request asks for it
unfoldable pub asks_close : Request → Bool
asks_close r = lists_close (header_value r.headers (codes "connection"))

-- the most messages of a connection
unfoldable pub most_messages : ℕ
most_messages = 1000

-- It closes behind the message of this number where its body is too large, it is of version 1.0, it asks for it, or it is the
-- last that a connection may have.
abbrev pub closes : ℕ → Bool → Request → Bool
closes number large r = large || (r.http10 || (asks_close r || number == most_messages))
