use Rattle.std.proofs.Common.{rules, ◌≡◌, ℕ, List, map, ◌==◌, refl, ap, ◌∙◌}
use Rattle.std.specs.Str.Lossy.{utf8_lossy}
use Rattle.std.proofs.lemmas.Str.{utf8_lossy-IsUtf8}
use Rattle.http_edge.specs.Texts.{header_texts}
use Rattle.call_facts.specs.declared.request.Request.{Request}
use Rattle.http_edge.proofs.Made.{token_text, names_text}
use Rattle.http_edge.proofs.request.request_at.Goals as goal

abbrev made : List ℕ → List ℕ → ℕ → List (List ℕ × List ℕ) → List ℕ → Request
made m t v hs b = record { method = m; target = t; http10 = v == 0; headers = hs; body = b }

-- a request is its parts
alike : (m m' t t' : List ℕ) (v v' : ℕ) (hs hs' : List (List ℕ × List ℕ)) (b b' : List ℕ) → m ≡ m' → t ≡ t' → v ≡ v' → hs ≡ hs' → b ≡ b' → made m t v hs b ≡ made m' t' v' hs' b'
alike m m' t t' v v' hs hs' b b' p q r s e = rw (p, q, r, s, e) refl

pub returns : goal.returns
returns c = λ h is.
    alike _ _ _ _ _ _ _ _ _ _
    (c.in_ok-lossy.ensures ∙ ap utf8_lossy (c.of.ensures ∙ is.method) ∙ token_text h.method is.reads.0.method.1)
    (c.in_ok-lossy-2.ensures ∙ ap utf8_lossy (c.of-2.ensures ∙ is.path) ∙ utf8_lossy-IsUtf8 h.target is.reads.0.target_text)
    is.version
    (c.in_ok-headers.ensures ∙ ap (map header_texts) is.fields ∙ names_text h.fields is.reads.0.fields)
    (search rules)
