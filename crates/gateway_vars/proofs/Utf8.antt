-- Bytes that are a text.
use Rattle.std.proofs.Common.{◌≡◌, ℕ, Bool, true, false, List, Some, None, refl, ap}
use Rattle.std.specs.Prelude.{if◌then◌else◌}
use Rattle.std.specs.Str.{IsUtf8, is_utf8}
use Rattle.std.proofs.lemmas.Str.{IsUtf8-from_is_utf8, is_utf8-from_IsUtf8}
use Rattle.gateway_vars.specs.Codings.{text_in}

pub a_text_in : (bytes : List ℕ) → IsUtf8 bytes → text_in bytes ≡ Some bytes
unfolding text_in
a_text_in bytes utf8 = ap (λ (b : Bool). if b then Some bytes else None) (is_utf8-from_IsUtf8 bytes utf8)

none_by : (bytes : List ℕ) (b : Bool) → is_utf8 bytes ≡ b → (IsUtf8 bytes → ⊥) → (if b then Some bytes else None) ≡ None
none_by bytes true is lacks = absurd (lacks (IsUtf8-from_is_utf8 bytes is))
none_by bytes false is lacks = refl

pub no_text_in : (bytes : List ℕ) → (IsUtf8 bytes → ⊥) → text_in bytes ≡ None
unfolding text_in
no_text_in bytes lacks = none_by bytes (is_utf8 bytes) refl lacks
