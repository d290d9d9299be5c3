use Rattle.std.proofs.Common.{◌≡◌, ℕ, Bool, true, false, true≢false, List, Some, None, refl, sym, ap, ◌∙◌, subst, string_bytes}
use Rattle.std.specs.Prelude.{if◌then◌else◌}
use Rattle.std.specs.Str.{IsUtf8}
use Rattle.std.proofs.lemmas.Str.{IsUtf8-string_bytes}
use Rattle.record_fields.specs.Coding.{is_utf8}
use Rattle.record_fields.proofs.Digits.{if_utf8_is}
use Rattle.record_fields.proofs.Utf8.{utf8_from_told}
use Rattle.script_records.proofs.reading.text_in.Goals as goal

no_text : (bytes : List ℕ) (told : Bool) → is_utf8 bytes ≡ told → (IsUtf8 bytes → ⊥) → None ≡ (if told then Some bytes else None)
no_text bytes true is lacks = absurd (lacks (utf8_from_told bytes is))
no_text bytes false is lacks = refl

pub returns-in-Ok : goal.returns-in-Ok
returns-in-Ok c =
    let same : string_bytes c.in-Ok.text ≡ c.args.field = ap (λ v. v.items) c.in-Ok.ensures.ok ∙ c.into_inner.ensures in
    if_utf8_is c.args.field c.of.result (subst IsUtf8 same (IsUtf8-string_bytes c.in-Ok.text)) (c.of.ensures ∙ same)

pub returns : goal.returns
returns c = no_text c.args.field (is_utf8 c.args.field) refl (λ utf8. true≢false (sym (c.in-Err.ensures.succeeds (subst IsUtf8 (sym c.into_inner.ensures) utf8))))
