-- Heads in a row and a body are a reply.
use Rattle.std.proofs.Common.{arith, ◌≡◌, ℕ, ◌+◌, ◌-◌, ◌≤◌, inl, inr, Bool, true, false, ◌&&◌, ◌||◌, nat_lt, List, [], ◌∷◌, ◌++◌, length, refl, sym, ap, ◌∙◌, subst, append_assoc, Option, Some, None, Result, Ok, Err}
use Rattle.std.proofs.lemmas.List.{length-append}
use Rattle.httparse.specs.Grammar.{ResponseHead, print_response, status_code}
use Rattle.call_facts.specs.declared.request.WireReply.{WireReply}
use Rattle.http_framing.specs.Bodies.{IsKnown, IsChunked}
use Rattle.http_framing.specs.BodyReads.{BodyRead}
use Rattle.http_framing.specs.Faults.{shifted}
use Rattle.http_framing.specs.ReplyHeads.{HasReplyHead, LacksReplyHead}
use Rattle.http_framing.specs.Stream.{Over}
use Rattle.http_framing.specs.declared.body.Body.{Body}
use Rattle.http_framing.specs.declared.body.Body.TheVariants.{Read, PastLimit}
use Rattle.http_framing.specs.declared.framing.Framing.{Framing}
use Rattle.http_framing.specs.declared.framing.Framing.TheVariants.{TooMany, Wrong, Absent, Known, Chunked}
use Rattle.http_framing.specs.declared.fault.EdgeFault.{EdgeFault}
use Rattle.http_framing.specs.declared.fault.EdgeFault.TheVariants.{BadHead, HeadTooLong, BadChunk, Cut, ReadFault, Memory}
use Rattle.http_edge.specs.Messages.{counted, rest_of}
use Rattle.http_edge.specs.Replies.{reply_framing, replied, serves, is_interim, Passes, HasFinalHead, LacksFinalHead, kept, KeptOf, IsReplyBody, has_none, reply_of, IsReplied, Replies}
use Rattle.http_edge.specs.ReplyReads.{IsReplyBegun, ReplyHeadRead, PassedOver, FinalRead, ReplyBodyRead}
use Rattle.http_edge.specs.Statuses.{is_bare}
use Rattle.http_edge.specs.declared.reply_head.ReplyBegun.{ReplyBegun}

-- ---- heads that are passed over

passes_more : (hs : List ResponseHead) (room : ℕ) (bytes : List ℕ) (left : ℕ) (at : List ℕ) (h : ResponseHead) (after : List ℕ)
    → Passes hs room bytes left at → HasReplyHead left at h after → is_interim h ≡ true → Passes (hs ++ h ∷ []) room bytes (left - length (print_response h)) after
passes_more [] room bytes left at h after (e, f) has interim =
    let P : ℕ → Type 0 = λ z. HasReplyHead z at h after in
    let Q : List ℕ → Type 0 = λ l. HasReplyHead room l h after in
    (after, subst Q f (subst P e has), interim, (ap (λ z. z - length (print_response h)) e, refl))
passes_more (k ∷ hs) room bytes left at h after (mid, first, one, more) has interim =
    (mid, first, one, passes_more hs (room - length (print_response k)) mid left at h after more has interim)

-- the bytes of heads that were passed over, before whatever stands behind them
passes_used : (hs : List ResponseHead) (room : ℕ) (bytes : List ℕ) (left : ℕ) (at : List ℕ) → Passes hs room bytes left at → (used : List ℕ) × (bytes ≡ used ++ at) × ((o : List ℕ) → Passes hs room (used ++ o) left o)
passes_used [] room bytes left at (e, f) = ([], sym f, λ o. (e, refl))
passes_used (h ∷ hs) room bytes left at (mid, has, one, more) =
    let rest = passes_used hs (room - length (print_response h)) mid left at more in (
      print_response h ++ rest.0,
      has.reads.1 ∙ ap (λ l. print_response h ++ l) rest.1 ∙ sym (append_assoc (print_response h) rest.0 at),
      λ o. (rest.0 ++ o, record { reads = (has.reads.0, append_assoc (print_response h) rest.0 o); within = has.within }, one, rest.2 o),
    )

-- the bytes up to the end of the reply's head, before whatever stands behind it
final_used : (all : List ℕ) (h : ResponseHead) (after : List ℕ) → HasFinalHead all h after → (used : List ℕ) × (all ≡ used ++ after) × ((o : List ℕ) → HasFinalHead (used ++ o) h o)
final_used all h after x =
    let front = passes_used x.interim 10240 all x.room x.at x.passes in
    let P : (List ℕ) → (List ℕ) → Type 0 = λ o l. Passes x.interim 10240 l x.room (print_response h ++ o) in (
      front.0 ++ print_response h,
      front.1 ∙ ap (λ l. front.0 ++ l) x.has.reads.1 ∙ sym (append_assoc front.0 (print_response h) after),
      λ o. record {
        interim = x.interim;
        room = x.room;
        at = print_response h ++ o;
        passes = let Q : List ℕ → Type 0 = P o in subst Q (sym (append_assoc front.0 (print_response h) o)) (front.2 (print_response h ++ o));
        has = record { reads = (x.has.reads.0, refl); within = x.has.within };
        final = x.final;
      },
    )

pub passed_none : (all m l : List ℕ) → m ++ l ≡ all → PassedOver 0 all m l tt
passed_none all m l e = ([], (omega arith, e), omega (arith, ap length e))

interim_as : (h : ResponseHead) (b : ReplyBegun) (t : Bool) → IsReplyBegun h b → (serves b.framing && nat_lt b.status 200) ≡ t → is_interim h ≡ t
interim_as h b t begun e = ap (λ f. serves f && nat_lt (status_code h) 200) (sym begun.framing) ∙ ap (λ s. serves b.framing && nat_lt s 200) (sym begun.status) ∙ e

counts : (gone n : ℕ) (all m l : List ℕ) (k : ℕ) → n ≡ k → k ≤ 10240 - gone → gone ≤ 10240 → 10240 - gone - k ≡ 10240 - (gone + n)
counts gone n all m l k e near small = omega arith

pub passed_more : (b : ReplyBegun) (gone : ℕ) (all m l n k : List ℕ) → gone ≤ 10240 → (serves b.framing && nat_lt b.status 200) ≡ true
    → PassedOver gone all m l tt → ReplyHeadRead (10240 - gone) (m ++ l) n k (Ok b) → PassedOver (gone + b.len) all n k tt
passed_more b gone all m l n k small interim (hs, passes, count) (h, has, begun, len) =
    let longer = passes_more hs 10240 all (10240 - gone) (m ++ l) h (n ++ k) passes has (interim_as h b true begun interim) in
    let P : ℕ → Type 0 = λ z. Passes (hs ++ h ∷ []) 10240 all z (n ++ k) in
    (hs ++ h ∷ [], subst P (counts gone b.len all m l (length (print_response h)) len has.within small) longer, omega (arith, count, len, ap length has.reads.1, length-append (print_response h) (n ++ k)))

-- the head of the reply, with the count of all heads
pub final_done : (b made : ReplyBegun) (gone : ℕ) (all m l n k : List ℕ) → made ≡ record b { len = gone + b.len } → (serves b.framing && nat_lt b.status 200) ≡ false
    → PassedOver gone all m l tt → ReplyHeadRead (10240 - gone) (m ++ l) n k (Ok b) → FinalRead all n k (Ok made)
final_done b made gone all m l n k e final (hs, passes, count) (h, has, begun, len) =
    let P : ReplyBegun → Type 0 = λ c. FinalRead all n k (Ok c) in
    subst P (sym e) (
      h,
      record { interim = hs; room = 10240 - gone; at = m ++ l; passes = passes; has = has; final = interim_as h b false begun final },
      record { status = begun.status; headers = begun.headers; framing = begun.framing },
      omega (arith, count, len, ap length has.reads.1, length-append (print_response h) (n ++ k)),
    )

lacking : (f : EdgeFault) (g : EdgeFault) (hs : List ResponseHead) (gone : ℕ) (all at : List ℕ) → Passes hs 10240 all (10240 - gone) at → LacksReplyHead (10240 - gone) at f → g ≡ counted (length all) f → LacksFinalHead all g
lacking f g hs gone all at passes lacks counts = record { interim = hs; room = 10240 - gone; at = at; passes = passes; fault = f; lacks = lacks; counts = counts }

-- no head of the reply
pub final_fault : (f : EdgeFault) (gone : ℕ) (all m l n k : List ℕ) → PassedOver gone all m l tt → ReplyHeadRead (10240 - gone) (m ++ l) n k (Err f) → FinalRead all n k (Err (shifted gone f))
final_fault BadHead gone all m l n k (hs, passes, count) h = lacking BadHead BadHead hs gone all (m ++ l) passes h refl
final_fault HeadTooLong gone all m l n k (hs, passes, count) h = lacking HeadTooLong HeadTooLong hs gone all (m ++ l) passes h refl
final_fault BadChunk gone all m l n k (hs, passes, count) h = absurd h
final_fault (Cut c) gone all m l n k (hs, passes, count) (h, none) =
    let sum : gone + c ≡ length all = omega (arith, count, h.2) in
    (lacking (Cut c) (Cut (gone + c)) hs gone all (m ++ l) passes h (ap Cut sum), none)
final_fault ReadFault gone all m l n k (hs, passes, count) (taken, e, awaits) =
    let used = passes_used hs 10240 all (10240 - gone) (m ++ l) passes in (
      used.0 ++ taken,
      used.1 ∙ ap (λ z. used.0 ++ z) e ∙ sym (append_assoc used.0 taken k),
      lacking (Cut (length taken)) (Cut (length (used.0 ++ taken))) hs gone (used.0 ++ taken) taken (used.2 taken) (awaits.0, awaits.1, refl) refl,
    )
final_fault Memory gone all m l n k far h = tt

-- ---- bodies

-- a body of a known length, kept or refused
pub said_known : (n : ℕ) (r : Result Body EdgeFault) (all m l : List ℕ) → BodyRead (IsKnown n) all m l r → ReplyBodyRead false (Known n) all m l (kept r)
said_known n (Ok (Read body)) all m l h = (Ok (Read body), m ++ l, h, refl, refl)
said_known n (Ok PastLimit) all m l h = (Ok PastLimit, m ++ l, h, refl, refl)
said_known n (Err BadHead) all m l h = (Err BadHead, [], h, refl, refl)
said_known n (Err HeadTooLong) all m l h = (Err HeadTooLong, [], h, refl, refl)
said_known n (Err BadChunk) all m l h = (Err BadChunk, [], h, refl, refl)
said_known n (Err (Cut k)) all m l (h, none) = ((Err (Cut k), [], h, refl, refl), none)
said_known n (Err ReadFault) all m l (taken, e, h) = (taken, e, inl (Err (Cut (length taken)), [], h, refl, refl))
said_known n (Err Memory) all m l h = tt

-- the same in chunks
pub said_chunked : (r : Result Body EdgeFault) (all m l : List ℕ) → BodyRead IsChunked all m l r → ReplyBodyRead false Chunked all m l (kept r)
said_chunked (Ok (Read body)) all m l h = (Ok (Read body), m ++ l, h, refl, refl)
said_chunked (Ok PastLimit) all m l h = (Ok PastLimit, m ++ l, h, refl, refl)
said_chunked (Err BadHead) all m l h = (Err BadHead, [], h, refl, refl)
said_chunked (Err HeadTooLong) all m l h = (Err HeadTooLong, [], h, refl, refl)
said_chunked (Err BadChunk) all m l h = (Err BadChunk, [], h, refl, refl)
said_chunked (Err (Cut k)) all m l (h, none) = ((Err (Cut k), [], h, refl, refl), none)
said_chunked (Err ReadFault) all m l (taken, e, h) = (taken, e, inl (Err (Cut (length taken)), [], h, refl, refl))
said_chunked (Err Memory) all m l h = tt

-- a cut body was counted
known_counts : (n k : ℕ) (bytes rest : List ℕ) → KeptOf (IsKnown n) bytes (Err (Cut k)) rest → k ≡ length bytes
known_counts n k bytes rest (Ok (Read body), left, is, e, r) = absurd (cc)
known_counts n k bytes rest (Ok PastLimit, left, is, e, r) = absurd (cc)
known_counts n k bytes rest (Err BadHead, left, is, e, r) = absurd is
known_counts n k bytes rest (Err HeadTooLong, left, is, e, r) = absurd is
known_counts n k bytes rest (Err BadChunk, left, is, e, r) = absurd is
known_counts n k bytes rest (Err (Cut j), left, is, e, r) = let same : k ≡ j = cc in same ∙ is.2
known_counts n k bytes rest (Err ReadFault, left, is, e, r) = absurd is
known_counts n k bytes rest (Err Memory, left, is, e, r) = absurd is

chunked_counts : (k : ℕ) (bytes rest : List ℕ) → KeptOf IsChunked bytes (Err (Cut k)) rest → k ≡ length bytes
chunked_counts k bytes rest (Ok (Read body), left, is, e, r) = absurd (cc)
chunked_counts k bytes rest (Ok PastLimit, left, is, e, r) = absurd (cc)
chunked_counts k bytes rest (Err BadHead, left, is, e, r) = absurd (cc)
chunked_counts k bytes rest (Err HeadTooLong, left, is, e, r) = absurd (cc)
chunked_counts k bytes rest (Err BadChunk, left, is, e, r) = absurd (cc)
chunked_counts k bytes rest (Err (Cut j), left, (pieces, at, chunks, near, closes), e, r) = let same : k ≡ j = cc in same ∙ closes.1
chunked_counts k bytes rest (Err ReadFault, left, is, e, r) = absurd (cc)
chunked_counts k bytes rest (Err Memory, left, is, e, r) = absurd (cc)

cut_counts : (bare : Bool) (f : Framing) (k : ℕ) (bytes rest : List ℕ) → IsReplyBody bare f bytes (Err (Cut k)) rest → k ≡ length bytes
cut_counts bare TooMany k bytes rest e = absurd (cc)
cut_counts bare Wrong k bytes rest e = absurd (cc)
cut_counts true Absent k bytes rest (e, r) = absurd (cc)
cut_counts true (Known n) k bytes rest (e, r) = absurd (cc)
cut_counts true Chunked k bytes rest (e, r) = absurd (cc)
cut_counts false Absent k bytes rest h = absurd h
cut_counts false (Known n) k bytes rest h = known_counts n k bytes rest h
cut_counts false Chunked k bytes rest h = chunked_counts k bytes rest h

-- ---- a head and a body

body_as : (bodiless : Bool) (b : ReplyBegun) (h : ResponseHead) (after : List ℕ) (body : Result (List ℕ) EdgeFault) (left : List ℕ)
    → IsReplyBegun h b → IsReplyBody (bodiless || is_bare b.status) b.framing after body left → IsReplyBody (has_none bodiless h) (reply_framing h) after body left
body_as bodiless b h after body left begun reads =
    let P : ℕ → Type 0 = λ s. IsReplyBody (bodiless || is_bare s) b.framing after body left in
    let Q : Framing → Type 0 = λ f. IsReplyBody (has_none bodiless h) f after body left in
    subst Q begun.framing (subst P begun.status reads)

joined : (bodiless : Bool) (b : ReplyBegun) (all after : List ℕ) (body : Result (List ℕ) EdgeFault) (left : List ℕ) (result : Result WireReply EdgeFault) (rest : List ℕ) (h : ResponseHead)
    → HasFinalHead all h after → IsReplyBegun h b → IsReplyBody (bodiless || is_bare b.status) b.framing after body left → result ≡ reply_of h (length all) body → rest ≡ rest_of result left → IsReplied bodiless all result rest
joined bodiless b all after body left result rest h has begun reads comes rest_is =
    record { head = h; after = after; has = has; body = body; left = left; reads = body_as bodiless b h after body left begun reads; comes = comes; rest_is = rest_is }

made : (b : ReplyBegun) (h : ResponseHead) (body : List ℕ) (reply : WireReply) → IsReplyBegun h b → reply ≡ record { status = b.status; headers = b.headers; body = body } → reply ≡ replied h body
made b h body reply begun e = rw (e, begun.status, begun.headers) refl

-- a reply was read
pub reply_done : (bodiless : Bool) (b : ReplyBegun) (body : List ℕ) (reply : WireReply) (all m l n k : List ℕ) → reply ≡ record { status = b.status; headers = b.headers; body = body }
    → FinalRead all m l (Ok b) → ReplyBodyRead (bodiless || is_bare b.status) b.framing (m ++ l) n k (Ok body) → Replies bodiless all n k (Ok reply)
reply_done bodiless b body reply all m l n k e (h, has, begun, count) reads =
    joined bodiless b all (m ++ l) (Ok body) (n ++ k) (Ok reply) (n ++ k) h has begun reads (ap Ok (made b h body reply begun e)) refl

-- it was not read
pub reply_fault : (f : EdgeFault) (bodiless : Bool) (b : ReplyBegun) (all m l n k : List ℕ)
    → FinalRead all m l (Ok b) → ReplyBodyRead (bodiless || is_bare b.status) b.framing (m ++ l) n k (Err f) → Replies bodiless all n k (Err (shifted b.len f))
reply_fault BadHead bodiless b all m l n k (h, has, begun, count) reads = inr (joined bodiless b all (m ++ l) (Err BadHead) [] _ _ h has begun reads refl refl)
reply_fault HeadTooLong bodiless b all m l n k (h, has, begun, count) reads = inr (joined bodiless b all (m ++ l) (Err HeadTooLong) [] _ _ h has begun reads refl refl)
reply_fault BadChunk bodiless b all m l n k (h, has, begun, count) reads = inr (joined bodiless b all (m ++ l) (Err BadChunk) [] _ _ h has begun reads refl refl)
reply_fault (Cut c) bodiless b all m l n k (h, has, begun, count) (reads, none) =
    let sum : b.len + c ≡ length all = omega (arith, count, cut_counts (bodiless || is_bare b.status) b.framing c (m ++ l) [] reads) in
    (inr (joined bodiless b all (m ++ l) (Err (Cut c)) [] _ _ h has begun reads (ap (λ z. Err (Cut z)) sum) refl), none)
reply_fault ReadFault bodiless b all m l n k (h, has, begun, count) (taken, e, inl reads) =
    let used = final_used all h (m ++ l) has in (
      used.0 ++ taken,
      used.1 ∙ ap (λ z. used.0 ++ z) e ∙ sym (append_assoc used.0 taken k),
      inl (inr (joined bodiless b (used.0 ++ taken) taken (Err (Cut (length taken))) [] _ _ h (used.2 taken) begun reads refl refl)),
    )
reply_fault ReadFault bodiless b all m l n k (h, has, begun, count) (taken, e, inr (absent, bodied, near)) =
    let used = final_used all h (m ++ l) has in (
      used.0 ++ taken,
      used.1 ∙ ap (λ z. used.0 ++ z) e ∙ sym (append_assoc used.0 taken k),
      inr (record {
        head = h;
        after = taken;
        has = used.2 taken;
        absent = sym begun.framing ∙ absent;
        bodied = ap (λ s. bodiless || is_bare s) (sym begun.status) ∙ bodied;
        within = near;
      }),
    )
reply_fault Memory bodiless b all m l n k final reads = tt

-- no head was read
pub reply_lacks : (f : EdgeFault) (bodiless : Bool) (all m l : List ℕ) → FinalRead all m l (Err f) → Replies bodiless all m l (Err f)
reply_lacks BadHead bodiless all m l h = inl (h, refl)
reply_lacks HeadTooLong bodiless all m l h = inl (h, refl)
reply_lacks BadChunk bodiless all m l h = inl (h, refl)
reply_lacks (Cut n) bodiless all m l (h, none) = (inl (h, refl), none)
reply_lacks ReadFault bodiless all m l (taken, e, h) = (taken, e, inl (inl (h, refl)))
reply_lacks Memory bodiless all m l h = tt

-- a fault speaks of what was taken alone, whatever is held then
fault_held : (f : EdgeFault) (bodiless : Bool) (all held new left : List ℕ) → Replies bodiless all held left (Err f) → Replies bodiless all new left (Err f)
fault_held BadHead bodiless all held new left h = h
fault_held HeadTooLong bodiless all held new left h = h
fault_held BadChunk bodiless all held new left h = h
fault_held (Cut k) bodiless all held new left h = h
fault_held ReadFault bodiless all held new left h = h
fault_held Memory bodiless all held new left h = h

pub over_fault : (bodiless : Bool) (old : List ℕ) (x : Option (List ℕ)) (held new : List ℕ) (y : Option (List ℕ)) (f : EdgeFault) → Over (Replies bodiless) old x held y (Err f) → Over (Replies bodiless) old x new y (Err f)
over_fault bodiless old None held new y f h = tt
over_fault bodiless old (Some xs) held new None f h = h
over_fault bodiless old (Some xs) held new (Some ys) f h = fault_held f bodiless (old ++ xs) held new ys h
