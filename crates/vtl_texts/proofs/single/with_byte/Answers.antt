use Rattle.std.proofs.Common.{◌≡◌, List, ℕ, [], ◌∷◌, length, ◌∙◌, ap, refl, arith}
use Rattle.vtl_texts.specs.Places.{exchanged}
use Rattle.vtl_texts.proofs.Bytes.{exchanged_IsUtf8, written_back}
use Rattle.vtl_texts.proofs.Rounds.{exchanged_as_long}
use Rattle.vtl_texts.proofs.single.with_byte.Goals as goal

pub unwrap-requires : goal.unwrap-requires
unwrap-requires c =
    let t = c.args.text.now in
    let old = c.args.old ∷ [] in
    let new = c.args.new ∷ [] in
    let same : c.change_byte.new.bytes ≡ exchanged t old new = c.change_byte.ensures ∙ ap (λ (u : List ℕ). exchanged u old new) (c.as_mut_slice.ensures.value ∙ c.in_ok-bytes.ensures.items ∙ c.as_bytes.ensures.value) in
    let long : c.in_ok-bytes.bytes.len ≡ length c.change_byte.new.bytes = omega (arith, ap length same, exchanged_as_long t old new refl, c.in_ok-bytes.ensures.len, ap length c.as_bytes.ensures.value) in
    c.from_utf8.ensures.succeeds (exchanged_IsUtf8 c.args.old c.args.new t _ c.requires.new c.requires.text (written_back _ c.change_byte.new.bytes _ long ∙ same))
