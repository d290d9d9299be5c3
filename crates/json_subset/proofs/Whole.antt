-- The whole reading.
use Rattle.std.proofs.Common.{◌≡◌, ℕ, List, Bool, true, false, refl, sym, ap, ◌∙◌, subst}
use Rattle.std.specs.Prelude.{Err, if◌then◌else◌}
use Rattle.std.specs.Str.{is_utf8, IsUtf8}
use Rattle.std.specs.Str.Lossy.{utf8_valid_len}
use Rattle.std.proofs.lemmas.Str.{IsUtf8-from_is_utf8, is_utf8-from_IsUtf8}
use Rattle.json_subset.specs.declared.fault.JsonFault.TheVariants.{NotUtf8}
use Rattle.json_subset.specs.Scan.{after_white}
use Rattle.json_subset.specs.Reading.{json, document}
use Rattle.json_subset.specs.Places.{IsRest}
use Rattle.json_subset.proofs.Rests.{rest_ahead, white_ahead}

pub white_rest : (s bs : List ℕ) → bs ≡ after_white s → IsUtf8 s → IsRest s bs
white_rest s bs e u = let P : List ℕ → Type 0 = IsRest s in subst P (sym e) (rest_ahead u (white_ahead s))

not_utf8 : (t : List ℕ) → (IsUtf8 t → ⊥) → is_utf8 t ≡ false
not_utf8 t h = go (is_utf8 t) refl
  where
    go : (b : Bool) → is_utf8 t ≡ b → is_utf8 t ≡ false
    go true e = absurd (h (IsUtf8-from_is_utf8 t e))
    go false e = e

pub json_fault : (bs : List ℕ) (n : ℕ) → (IsUtf8 bs → ⊥) → n ≡ utf8_valid_len bs → json bs ≡ Err (NotUtf8 n)
json_fault bs n h e = ap (λ b. if b then document bs else Err (NotUtf8 (utf8_valid_len bs))) (not_utf8 bs h) ∙ ap (λ z. Err (NotUtf8 z)) (sym e)

pub json_document : (bs : List ℕ) → IsUtf8 bs → json bs ≡ document bs
json_document bs h = ap (λ b. if b then document bs else Err (NotUtf8 (utf8_valid_len bs))) (is_utf8-from_IsUtf8 bs h)
