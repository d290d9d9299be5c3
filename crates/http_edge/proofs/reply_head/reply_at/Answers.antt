use Rattle.std.proofs.Common.{◌≡◌, ℕ, List, map, ◌==◌, refl, ap, ◌∙◌}
use Rattle.http_framing.specs.Framings.{Header, reply_framing_of}
use Rattle.http_edge.specs.Texts.{header_texts}
use Rattle.http_edge.proofs.Made.{names_text}
use Rattle.http_edge.proofs.reply_head.reply_at.Goals as goal

-- a framing is that of its parts
alike : (v w c d : ℕ) (hs gs : List Header) → v ≡ w → c ≡ d → hs ≡ gs → reply_framing_of (v == 0) c hs ≡ reply_framing_of (w == 0) d gs
alike v w c d hs gs p q r = rw (p, q, r) refl

pub returns-clause-begun : goal.returns-clause-begun
returns-clause-begun c = λ h is. record {
  status = is.code;
  headers = c.in_ok-headers.ensures ∙ ap (map header_texts) is.fields ∙ names_text h.fields is.reads.0.fields;
  framing = c.reply_framing.ensures ∙ alike _ _ _ _ _ _ is.version is.code is.fields;
}
