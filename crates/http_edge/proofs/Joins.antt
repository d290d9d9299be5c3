-- A head and its body are a message.
use Rattle.std.proofs.Common.{arith, ◌≡◌, ℕ, zero, suc, ◌+◌, inl, inr, List, [], ◌∷◌, ◌++◌, length, refl, sym, ap, ◌∙◌, subst, append_assoc, Option, Some, None, Result, Ok, Err}
use Rattle.std.proofs.lemmas.List.{length-append}
use Rattle.httparse.specs.Grammar.{RequestHead, print_request}
use Rattle.http_framing.specs.BodyReads.{BodyRead}
use Rattle.http_framing.specs.Heads.{HasHead, AwaitsHead}
use Rattle.http_framing.specs.Stream.{Over}
use Rattle.http_framing.specs.declared.body.Body.{Body}
use Rattle.http_framing.specs.declared.body.Body.TheVariants.{Read, PastLimit}
use Rattle.http_framing.specs.declared.framing.Framing.{Framing}
use Rattle.http_framing.specs.declared.framing.Framing.TheVariants.{TooMany, Wrong, Absent, Known, Chunked}
use Rattle.http_framing.specs.declared.fault.EdgeFault.{EdgeFault}
use Rattle.http_framing.specs.declared.fault.EdgeFault.TheVariants.{BadHead, HeadTooLong, BadChunk, Cut, ReadFault, Memory}
use Rattle.http_edge.specs.Messages.{IsRequestBody, IsMessage, Stops, Comes, message_of, rest_of}
use Rattle.http_edge.specs.Reads.{IsBegun, HeadRead, ended, told}
use Rattle.http_edge.specs.declared.incoming.Incoming.{Incoming}
use Rattle.http_edge.specs.declared.request.Begun.{Begun}

-- less than a head may end here
stops_in_head : (bytes : List ℕ) → AwaitsHead bytes → Stops bytes
stops_in_head [] a = inl refl
stops_in_head (b ∷ bs) a = inr (inl ((a.0, a.1, refl, omega arith), refl))

none_left : (l : List ℕ) → 0 ≡ length l → l ≡ []
none_left [] e = refl
none_left (b ∷ bs) e = absurd (omega (arith, e))

-- no head was read
pub head_ended : (f : EdgeFault) (all held left : List ℕ) → HeadRead all held left (Err f) → Comes all held left (ended f)
head_ended BadHead all held left h = inl (h, refl)
head_ended HeadTooLong all held left h = inl (h, refl)
head_ended BadChunk all held left h = inl (h, refl)
head_ended (Cut zero) all held left h = let none = none_left all h.1 in (none, h.2 ∙ none)
head_ended (Cut (suc n)) all held left h = (inl ((h.0.0, h.0.1, h.1, omega arith), refl), h.3)
head_ended ReadFault all held left (taken, e, a) = (taken, e, stops_in_head taken a)
head_ended Memory all held left h = tt

-- a cut body was counted
cut_counts : (f : Framing) (k : ℕ) (bytes rest : List ℕ) → IsRequestBody f bytes (Err (Cut k)) rest → k ≡ length bytes
cut_counts TooMany k bytes rest e = absurd (cc)
cut_counts Wrong k bytes rest e = absurd (cc)
cut_counts Absent k bytes rest (e, r) = absurd (cc)
cut_counts (Known n) k bytes rest h = h.2
cut_counts Chunked k bytes rest (pieces, at, chunks, near, closes) = closes.1

-- the message that a head and a body make
joined : (b : Begun) (all after : List ℕ) (body : Result Body EdgeFault) (left : List ℕ) (result : Result Incoming EdgeFault) (rest : List ℕ) (h : RequestHead)
    → HasHead all h after → IsBegun h b → IsRequestBody b.framing after body left → result ≡ message_of b.request (length all) body → rest ≡ rest_of result left → IsMessage all result rest
joined b all after body left result rest h has begun reads comes rest_is =
    let P : Framing → Type 0 = λ f. IsRequestBody f after body left in
    record {
      head = h;
      after = after;
      has = has;
      body = body;
      left = left;
      reads = subst P begun.framing reads;
      comes = comes ∙ ap (λ r. message_of r (length all) body) begun.request;
      rest_is = rest_is;
    }

-- a head was read, and its body or not
pub body_comes : (b : Begun) (body : Result Body EdgeFault) (all m l n k : List ℕ) → HeadRead all m l (Ok b) → BodyRead (IsRequestBody b.framing) (m ++ l) n k body → Comes all n k (told b.request b.len body)
body_comes b (Ok (Read r)) all m l n k (h, has, begun) reads = joined b all (m ++ l) (Ok (Read r)) (n ++ k) _ _ h has begun reads refl refl
body_comes b (Ok PastLimit) all m l n k (h, has, begun) reads = joined b all (m ++ l) (Ok PastLimit) (n ++ k) _ _ h has begun reads refl refl
body_comes b (Err BadHead) all m l n k (h, has, begun) reads = inr (joined b all (m ++ l) (Err BadHead) [] _ _ h has begun reads refl refl)
body_comes b (Err HeadTooLong) all m l n k (h, has, begun) reads = inr (joined b all (m ++ l) (Err HeadTooLong) [] _ _ h has begun reads refl refl)
body_comes b (Err BadChunk) all m l n k (h, has, begun) reads = inr (joined b all (m ++ l) (Err BadChunk) [] _ _ h has begun reads refl refl)
body_comes b (Err (Cut c)) all m l n k (h, has, begun) (reads, none) =
    let count : b.len + c ≡ length all = omega (arith, begun.len, cut_counts b.framing c (m ++ l) [] reads, ap length has.reads.1, length-append (print_request h) (m ++ l)) in
    (inr (joined b all (m ++ l) (Err (Cut c)) [] _ _ h has begun reads (ap (λ z. Err (Cut z)) count) refl), none)
body_comes b (Err ReadFault) all m l n k (h, has, begun) (taken, e, reads) = (
  print_request h ++ taken,
  has.reads.1 ∙ ap (λ t. print_request h ++ t) e ∙ sym (append_assoc (print_request h) taken k),
  inr (inr (joined b (print_request h ++ taken) taken (Err (Cut (length taken))) [] _ _ h (record { reads = (has.reads.0, refl); within = has.within }) begun reads refl refl)),
)
body_comes b (Err Memory) all m l n k head reads = tt

-- a fault speaks of what was taken alone, whatever is held then
fault_held : (f : EdgeFault) (all held new left : List ℕ) → Comes all held left (Err f) → Comes all new left (Err f)
fault_held BadHead all held new left h = h
fault_held HeadTooLong all held new left h = h
fault_held BadChunk all held new left h = h
fault_held (Cut k) all held new left h = h
fault_held ReadFault all held new left h = h
fault_held Memory all held new left h = h

pub over_fault : (old : List ℕ) (x : Option (List ℕ)) (held new : List ℕ) (y : Option (List ℕ)) (f : EdgeFault) → Over Comes old x held y (Err f) → Over Comes old x new y (Err f)
over_fault old None held new y f h = tt
over_fault old (Some xs) held new None f h = h
over_fault old (Some xs) held new (Some ys) f h = fault_held f (old ++ xs) held new ys h
