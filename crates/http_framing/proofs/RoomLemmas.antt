-- How many bytes so many fields have.
use Rattle.std.proofs.Common.{◌≡◌, ℕ, ◌+◌, ◌*◌, ◌≤◌, List, [], ◌∷◌, All, length, arith, refl, ap, inl, inr, length-append}
use Rattle.std.specs.List.{flat_map}
use Rattle.std.proofs.lemmas.List.Elements.{All-head, All-tail}
use Rattle.httparse.specs.Grammar.{Field, IsField, LineEnd, crlf, lf, print_end, print_field, RequestHead, print_request, ResponseHead, print_response, MayBecomeRequest, HasNoRequest}
use Rattle.httparse.specs.Spans.{RequestExceeds, ResponseExceeds}
use Rattle.httparse.proofs.OpenLemmas.{line_blank, request_may_from_line}
use Rattle.http_framing.specs.Heads.{IsUnfinished}

end_long : (e : LineEnd) → 1 ≤ length (print_end e)
end_long crlf = omega arith
end_long lf = omega arith

field_long : (f : Field) → IsField f → 3 ≤ length (print_field f)
field_long f h = omega (arith, end_long f.end, h.name.0, length-append {A = ℕ})

fields_long : (fs : List Field) → All IsField fs → 3 * length fs ≤ length (flat_map print_field fs)
fields_long [] h = omega arith
fields_long (f ∷ fs) h =
    omega (arith, field_long f (All-head IsField f fs h), fields_long fs (All-tail IsField f fs h), length-append {A = ℕ})

pub head_long : (h : RequestHead) → All IsField h.fields → 3 * length h.fields + 1 ≤ length (print_request h)
unfolding print_request
head_long h ok = omega (arith, fields_long h.fields ok, end_long h.last, length-append {A = ℕ})

pub exceeds_long : (room : ℕ) (buf : List ℕ) → RequestExceeds room buf → 3 * room + 3 ≤ length buf
exceeds_long room buf (front, rest, cut, h, reads, over) =
    omega (arith, head_long h reads.0.fields, ap length cut, ap length reads.1, length-append {A = ℕ})

pub unfinished_is : (buf : List ℕ) → HasNoRequest buf → MayBecomeRequest buf → IsUnfinished buf
unfinished_is buf none (inl (more, h, reads)) = (none, λ bad. bad.0 more h [] reads)
unfinished_is buf none (inr inside) = (none, λ bad. bad.1 inside)

-- no bytes are no head yet, and may become one
pub nothing_is_unfinished : (buf : List ℕ) → length buf ≡ 0 → IsUnfinished buf
nothing_is_unfinished [] e =
    unfinished_is []
    (λ h rest reads. omega (arith, head_long h reads.0.fields, ap length reads.1, length-append {A = ℕ}))
    (request_may_from_line (inl (line_blank (record { more = []; tree = []; reads = λ rest. refl }))))
nothing_is_unfinished (b ∷ rest) e = absurd (omega (arith, e))

-- ---- the same of replies

pub reply_long : (h : ResponseHead) → All IsField h.fields → 3 * length h.fields + 1 ≤ length (print_response h)
unfolding print_response
reply_long h ok = omega (arith, fields_long h.fields ok, end_long h.last, length-append {A = ℕ})

pub exceeds_long_reply : (room : ℕ) (buf : List ℕ) → ResponseExceeds room buf → 3 * room + 3 ≤ length buf
exceeds_long_reply room buf (front, rest, cut, h, reads, over) =
    omega (arith, reply_long h reads.0.fields, ap length cut, ap length reads.1, length-append {A = ℕ})
