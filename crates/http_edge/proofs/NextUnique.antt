-- What stands next is one thing, and so are the messages of a stream.
use Rattle.std.proofs.Common.{arith, ◌≡◌, ℕ, inl, inr, List, [], ◌∷◌, IsTrue, length, refl, sym, ap, ◌∙◌, subst, append-nil, Result, Ok, Err}
use Rattle.std.specs.Prelude.{OnOk}
use Rattle.std.proofs.lemmas.List.{length-append}
use Rattle.std.proofs.lemmas.List.Elements.{All-cons, All-nil}
use Rattle.httparse.specs.Grammar.{is_token_byte, RequestHead, print_request}
use Rattle.httparse.proofs.OpenLemmas.{letter_is_token}
use Rattle.call_facts.specs.declared.request.Request.{Request}
use Rattle.http_framing.specs.Heads.{LacksHead}
use Rattle.http_framing.specs.declared.body.Body.{Body}
use Rattle.http_framing.specs.declared.body.Body.TheVariants.{Read, PastLimit}
use Rattle.http_framing.specs.declared.framing.Framing.{Framing}
use Rattle.http_framing.specs.declared.framing.Framing.TheVariants.{TooMany, Wrong, Absent, Known, Chunked}
use Rattle.http_framing.specs.declared.fault.EdgeFault.{EdgeFault}
use Rattle.http_framing.specs.declared.fault.EdgeFault.TheVariants.{BadHead, HeadTooLong, BadChunk, Cut, ReadFault, Memory}
use Rattle.http_framing.proofs.BodyUnique.{Same, on_ok, on_err, known_unique, chunked_unique}
use Rattle.http_framing.proofs.Grows.{shortest, shortest_is}
use Rattle.http_framing.proofs.RoomLemmas.{head_long}
use Rattle.http_framing.proofs.Unique.{head_unique, lacks_not, lacks_unique}
use Rattle.http_edge.specs.Messages.{IsRequestBody, message_of, rest_of, IsMessage, IsNext, IsRun, request_of, framing}
use Rattle.http_edge.specs.declared.incoming.Incoming.{Incoming}
use Rattle.http_edge.specs.declared.incoming.Incoming.TheVariants.{Whole, TooLarge, End}

abbrev Outcome : Type 0
Outcome = Result Incoming EdgeFault

body_unique : (f : Framing) (a b : Result Body EdgeFault) (bytes x y : List ℕ) → IsRequestBody f bytes a x → IsRequestBody f bytes b y → Same a b x y
body_unique TooMany a b bytes x y c d = (c ∙ sym d, on_err a HeadTooLong x y c)
body_unique Wrong a b bytes x y c d = (c ∙ sym d, on_err a BadHead x y c)
body_unique Absent a b bytes x y c d = (c.0 ∙ sym d.0, on_ok a x y (c.1 ∙ sym d.1))
body_unique (Known n) a b bytes x y c d = known_unique a b n bytes x y c d
body_unique Chunked a b bytes x y c d = chunked_unique a b bytes x y c d

-- what is left behind a message is what is left behind its body
rest_same : (body : Result Body EdgeFault) (r : Request) (count : ℕ) (x y : List ℕ) → OnOk body (x ≡ y) → rest_of (message_of r count body) x ≡ rest_of (message_of r count body) y
rest_same (Ok (Read body)) r count x y e = e
rest_same (Ok PastLimit) r count x y e = e
rest_same (Err f) r count x y e = refl

message_unique : (a b : Outcome) (bytes x y : List ℕ) → IsMessage bytes a x → IsMessage bytes b y → (a ≡ b) × (x ≡ y)
message_unique a b bytes x y m n =
    let head = head_unique bytes m.head n.head m.after n.after m.has n.has in
    let P : RequestHead → Type 0 = λ h. IsRequestBody (framing h) m.after m.body m.left in
    let Q : List ℕ → Type 0 = λ l. IsRequestBody (framing n.head) l m.body m.left in
    let body = body_unique (framing n.head) m.body n.body n.after m.left n.left (subst Q head.1 (subst P head.0 m.reads)) n.reads in
    let r = request_of n.head [] in
    let here : a ≡ message_of r (length bytes) m.body = m.comes ∙ ap (λ h. message_of (request_of h []) (length bytes) m.body) head.0 in
    let there : b ≡ message_of r (length bytes) m.body = n.comes ∙ ap (λ z. message_of r (length bytes) z) (sym body.0) in (
      here ∙ sym there,
      m.rest_is ∙ ap (λ z. rest_of z m.left) here ∙ rest_same m.body r (length bytes) m.left n.left body.1 ∙ ap (λ z. rest_of z n.left) (sym there) ∙ sym n.rest_is,
    )

-- nothing stands in no bytes
none_headed : (a : Outcome) (bytes rest : List ℕ) → bytes ≡ [] → IsMessage bytes a rest → ⊥
none_headed a bytes rest e m =
    absurd (omega (arith, head_long m.head m.has.reads.0.fields, ap length e, ap length m.has.reads.1, length-append (print_request m.head) m.after))

none_lacks : (f : EdgeFault) (bytes : List ℕ) → bytes ≡ [] → LacksHead bytes f → ⊥
none_lacks BadHead bytes e lacks =
    let P : List ℕ → Type 0 = λ l. LacksHead l BadHead in
    let h = shortest [] (65 ∷ []) in
    let here : LacksHead [] BadHead = subst P e lacks in
    here.0 (print_request h) h [] (shortest_is [] (65 ∷ []) (omega arith, All-cons (λ x. IsTrue (is_token_byte x)) 65 [] letter_is_token (All-nil (λ x. IsTrue (is_token_byte x)))), sym (append-nil (print_request h)))
none_lacks HeadTooLong bytes e lacks = absurd (omega (arith, ap length e, lacks.1))
none_lacks (Cut n) bytes e lacks = absurd (omega (arith, ap length e, lacks.2, lacks.3))
none_lacks BadChunk bytes e lacks = lacks
none_lacks ReadFault bytes e lacks = lacks
none_lacks Memory bytes e lacks = lacks

lacks_headed : (f : EdgeFault) (a : Outcome) (bytes rest : List ℕ) → LacksHead bytes f → IsMessage bytes a rest → ⊥
lacks_headed f a bytes rest lacks m = lacks_not f bytes m.head m.after lacks m.has

-- what stands next is one thing, and so is what is left behind it
pub next_unique : (a b : Outcome) (bytes x y : List ℕ) → IsNext bytes a x → IsNext bytes b y → (a ≡ b) × (x ≡ y)
next_unique (Ok End) (Ok End) bytes x y c d = (refl, c.1 ∙ sym d.1)
next_unique (Ok End) (Ok (Whole m)) bytes x y c d = absurd (none_headed _ bytes y c.0 d)
next_unique (Ok End) (Ok (TooLarge m)) bytes x y c d = absurd (none_headed _ bytes y c.0 d)
next_unique (Ok End) (Err f) bytes x y c (inl lacks) = absurd (none_lacks f bytes c.0 lacks.0)
next_unique (Ok End) (Err f) bytes x y c (inr d) = absurd (none_headed _ bytes y c.0 d)
next_unique (Ok (Whole m)) (Ok End) bytes x y c d = absurd (none_headed _ bytes x d.0 c)
next_unique (Ok (TooLarge m)) (Ok End) bytes x y c d = absurd (none_headed _ bytes x d.0 c)
next_unique (Ok (Whole m)) (Ok (Whole k)) bytes x y c d = message_unique _ _ bytes x y c d
next_unique (Ok (Whole m)) (Ok (TooLarge k)) bytes x y c d = message_unique _ _ bytes x y c d
next_unique (Ok (TooLarge m)) (Ok (Whole k)) bytes x y c d = message_unique _ _ bytes x y c d
next_unique (Ok (TooLarge m)) (Ok (TooLarge k)) bytes x y c d = message_unique _ _ bytes x y c d
next_unique (Ok (Whole m)) (Err f) bytes x y c (inl lacks) = absurd (lacks_headed f _ bytes x lacks.0 c)
next_unique (Ok (Whole m)) (Err f) bytes x y c (inr d) = message_unique _ _ bytes x y c d
next_unique (Ok (TooLarge m)) (Err f) bytes x y c (inl lacks) = absurd (lacks_headed f _ bytes x lacks.0 c)
next_unique (Ok (TooLarge m)) (Err f) bytes x y c (inr d) = message_unique _ _ bytes x y c d
next_unique (Err f) (Ok End) bytes x y (inl lacks) d = absurd (none_lacks f bytes d.0 lacks.0)
next_unique (Err f) (Ok End) bytes x y (inr c) d = absurd (none_headed _ bytes x d.0 c)
next_unique (Err f) (Ok (Whole m)) bytes x y (inl lacks) d = absurd (lacks_headed f _ bytes y lacks.0 d)
next_unique (Err f) (Ok (Whole m)) bytes x y (inr c) d = message_unique _ _ bytes x y c d
next_unique (Err f) (Ok (TooLarge m)) bytes x y (inl lacks) d = absurd (lacks_headed f _ bytes y lacks.0 d)
next_unique (Err f) (Ok (TooLarge m)) bytes x y (inr c) d = message_unique _ _ bytes x y c d
next_unique (Err f) (Err g) bytes x y (inl lacks) (inl other) = (ap Err (lacks_unique f g bytes lacks.0 other.0), lacks.1 ∙ sym other.1)
next_unique (Err f) (Err g) bytes x y (inl lacks) (inr d) = absurd (lacks_headed f _ bytes y lacks.0 d)
next_unique (Err f) (Err g) bytes x y (inr c) (inl lacks) = absurd (lacks_headed g _ bytes x lacks.0 c)
next_unique (Err f) (Err g) bytes x y (inr c) (inr d) = message_unique _ _ bytes x y c d

-- ---- a whole stream

run_end : (e : Outcome) (bytes : List ℕ) → IsRun bytes [] e → IsNext bytes e []
run_end (Ok (Whole r)) bytes h = absurd h
run_end (Ok (TooLarge r)) bytes h = absurd h
run_end (Ok End) bytes h = h
run_end (Err f) bytes h = h

-- an end is no message
no_message : (e : Outcome) (m : Incoming) (bytes rest : List ℕ) → IsRun bytes [] e → IsNext bytes (Ok m) rest → e ≡ Ok m
no_message e m bytes rest h d = (next_unique e (Ok m) bytes [] rest (run_end e bytes h) d).0

never_whole : (e : Outcome) (r : Request) (bytes rest : List ℕ) → IsRun bytes [] e → IsNext bytes (Ok (Whole r)) rest → ⊥
never_whole e r bytes rest h d = let P : Outcome → Type 0 = λ z. IsRun bytes [] z in subst P (no_message e (Whole r) bytes rest h d) h

never_large : (e : Outcome) (r : Request) (bytes rest : List ℕ) → IsRun bytes [] e → IsNext bytes (Ok (TooLarge r)) rest → ⊥
never_large e r bytes rest h d = let P : Outcome → Type 0 = λ z. IsRun bytes [] z in subst P (no_message e (TooLarge r) bytes rest h d) h

abbrev came : Incoming → Outcome
came m = Ok m

wholes : (r s : Request) → came (Whole r) ≡ came (Whole s) → r ≡ s
wholes r s e = cc

larges : (r s : Request) → came (TooLarge r) ≡ came (TooLarge s) → r ≡ s
larges r s e = cc

apart : (r s : Request) → came (Whole r) ≡ came (TooLarge s) → ⊥
apart r s e = cc

-- the messages of a stream are one list, and its end is one
pub run_unique : (ms ns : List Incoming) (e f : Outcome) (bytes : List ℕ) → IsRun bytes ms e → IsRun bytes ns f → (ms ≡ ns) × (e ≡ f)
run_unique [] [] e f bytes c d = (refl, (next_unique e f bytes [] [] (run_end e bytes c) (run_end f bytes d)).0)
run_unique [] (Whole r ∷ ns) e f bytes c (rest, d, more) = absurd (never_whole e r bytes rest c d)
run_unique [] (TooLarge r ∷ ns) e f bytes c (rest, d, none, is) = absurd (never_large e r bytes rest c d)
run_unique [] (End ∷ ns) e f bytes c d = absurd d
run_unique (Whole r ∷ ms) [] e f bytes (rest, c, more) d = absurd (never_whole f r bytes rest d c)
run_unique (TooLarge r ∷ ms) [] e f bytes (rest, c, none, is) d = absurd (never_large f r bytes rest d c)
run_unique (End ∷ ms) ns e f bytes c d = absurd c
run_unique (Whole r ∷ ms) (Whole s ∷ ns) e f bytes (x, c, more) (y, d, others) =
    let one = next_unique (Ok (Whole r)) (Ok (Whole s)) bytes x y c d in
    let P : List ℕ → Type 0 = λ l. IsRun l ms e in
    let rest = run_unique ms ns e f y (subst P one.1 more) others in
    (ap (λ z. Whole z ∷ ms) (wholes r s one.0) ∙ ap (λ z. Whole s ∷ z) rest.0, rest.1)
run_unique (Whole r ∷ ms) (TooLarge s ∷ ns) e f bytes (x, c, more) (y, d, none, is) = absurd (apart r s (next_unique (Ok (Whole r)) (Ok (TooLarge s)) bytes x y c d).0)
run_unique (Whole r ∷ ms) (End ∷ ns) e f bytes c d = absurd d
run_unique (TooLarge r ∷ ms) (Whole s ∷ ns) e f bytes (x, c, none, is) (y, d, more) = absurd (apart s r (next_unique (Ok (Whole s)) (Ok (TooLarge r)) bytes y x d c).0)
run_unique (TooLarge r ∷ ms) (TooLarge s ∷ ns) e f bytes (x, c, none, is) (y, d, gone, so) =
    let one = next_unique (Ok (TooLarge r)) (Ok (TooLarge s)) bytes x y c d in
    (ap (λ z. TooLarge z ∷ ms) (larges r s one.0) ∙ ap (λ z. TooLarge s ∷ z) (none ∙ sym gone), is ∙ sym so)
run_unique (TooLarge r ∷ ms) (End ∷ ns) e f bytes c d = absurd d
