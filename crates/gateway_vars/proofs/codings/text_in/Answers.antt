use Rattle.std.proofs.Common.{◌≡◌, true≢false, Some, sym, ap, ◌∙◌, subst, string_bytes}
use Rattle.std.specs.Str.{IsUtf8}
use Rattle.std.proofs.lemmas.Str.{IsUtf8-string_bytes}
use Rattle.gateway_vars.proofs.Utf8.{no_text_in, a_text_in}
use Rattle.gateway_vars.proofs.codings.text_in.Goals as goal

pub returns-in-Ok : goal.returns-in-Ok
returns-in-Ok c =
    let same : string_bytes c.in-Ok.text ≡ c.args.bytes.items = ap (λ v. v.items) c.in-Ok.ensures.ok in
    ap Some same ∙ sym (a_text_in c.args.bytes.items (subst IsUtf8 same (IsUtf8-string_bytes c.in-Ok.text)))

pub returns : goal.returns
returns c = sym (no_text_in c.args.bytes.items (λ utf8. true≢false (sym (c.in-Err.ensures.succeeds utf8))))
