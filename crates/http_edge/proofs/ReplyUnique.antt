-- What a reply comes to is one thing.
use Rattle.std.proofs.Common.{◌≡◌, ℕ, ◌-◌, inl, inr, Bool, true, false, true≢false, List, [], ◌∷◌, length, refl, sym, ap, ◌∙◌, subst, Result, Ok, Err}
use Rattle.std.specs.Prelude.{OnOk}
use Rattle.httparse.specs.Grammar.{ResponseHead, print_response}
use Rattle.call_facts.specs.declared.request.WireReply.{WireReply}
use Rattle.http_framing.specs.ReplyHeads.{HasReplyHead, LacksReplyHead}
use Rattle.http_framing.specs.declared.body.Body.{Body}
use Rattle.http_framing.specs.declared.body.Body.TheVariants.{Read, PastLimit}
use Rattle.http_framing.specs.declared.framing.Framing.{Framing}
use Rattle.http_framing.specs.declared.framing.Framing.TheVariants.{TooMany, Wrong, Absent, Known, Chunked}
use Rattle.http_framing.specs.declared.fault.EdgeFault.{EdgeFault}
use Rattle.http_framing.specs.declared.fault.EdgeFault.TheVariants.{BadHead, HeadTooLong}
use Rattle.http_framing.proofs.BodyUnique.{Same, on_ok, on_err, known_unique, chunked_unique, rest_unique}
use Rattle.http_framing.proofs.Unique.{reply_head_unique, lacks_reply_not, lacks_reply_unique}
use Rattle.http_edge.specs.Messages.{counted, rest_of}
use Rattle.http_edge.specs.Replies.{reply_framing, is_interim, Passes, HasFinalHead, LacksFinalHead, kept, IsReplyBody, has_none, reply_of, IsReplied, IsReply}

-- ---- heads

clash : (h k : ResponseHead) → h ≡ k → is_interim h ≡ true → is_interim k ≡ false → ⊥
clash h k e t f = true≢false (sym t ∙ ap is_interim e ∙ f)

-- the head of the reply is one
finals : (hs gs : List ResponseHead) (room : ℕ) (bytes : List ℕ) (left tfel : ℕ) (at bt : List ℕ) (h k : ResponseHead) (a b : List ℕ)
    → Passes hs room bytes left at → HasReplyHead left at h a → is_interim h ≡ false → Passes gs room bytes tfel bt → HasReplyHead tfel bt k b → is_interim k ≡ false → (h ≡ k) × (a ≡ b)
finals [] [] room bytes left tfel at bt h k a b (e, x) has final (f, y) other last =
    let P : List ℕ → Type 0 = λ l. HasReplyHead left l h a in
    let Q : List ℕ → Type 0 = λ l. HasReplyHead tfel l k b in
    reply_head_unique left tfel bytes h k a b (subst P x has) (subst Q y other)
finals [] (g ∷ gs) room bytes left tfel at bt h k a b (e, x) has final (mid, one, interim, more) other last =
    let P : List ℕ → Type 0 = λ l. HasReplyHead left l h a in
    absurd (clash g h (reply_head_unique room left bytes g h mid a one (subst P x has)).0 interim final)
finals (g ∷ hs) [] room bytes left tfel at bt h k a b (mid, one, interim, more) has final (f, y) other last =
    let Q : List ℕ → Type 0 = λ l. HasReplyHead tfel l k b in
    absurd (clash g k (reply_head_unique room tfel bytes g k mid b one (subst Q y other)).0 interim last)
finals (g ∷ hs) (j ∷ gs) room bytes left tfel at bt h k a b (mid, one, interim, more) has final (dim, two, miretni, others) other last =
    let same = reply_head_unique room room bytes g j mid dim one two in
    let P : ResponseHead → Type 0 = λ z. Passes hs (room - length (print_response z)) mid left at in
    let Q : List ℕ → Type 0 = λ l. Passes hs (room - length (print_response j)) l left at in
    finals hs gs (room - length (print_response j)) dim left tfel at bt h k a b (subst Q same.1 (subst P same.0 more)) has final others other last

-- why there is none is one thing
lackings : (hs gs : List ResponseHead) (room : ℕ) (bytes : List ℕ) (left tfel : ℕ) (at bt : List ℕ) (f g : EdgeFault)
    → Passes hs room bytes left at → LacksReplyHead left at f → Passes gs room bytes tfel bt → LacksReplyHead tfel bt g → f ≡ g
lackings [] [] room bytes left tfel at bt f g (e, x) lacks (d, y) other =
    let P : ℕ → Type 0 = λ r. LacksReplyHead r at f in
    let Q : List ℕ → Type 0 = λ l. LacksReplyHead room l f in
    let R : ℕ → Type 0 = λ r. LacksReplyHead r bt g in
    let S : List ℕ → Type 0 = λ l. LacksReplyHead room l g in
    lacks_reply_unique f g room bytes (subst Q x (subst P e lacks)) (subst S y (subst R d other))
lackings [] (j ∷ gs) room bytes left tfel at bt f g (e, x) lacks (mid, one, interim, more) other =
    let P : ℕ → Type 0 = λ r. LacksReplyHead r at f in
    let Q : List ℕ → Type 0 = λ l. LacksReplyHead room l f in
    absurd (lacks_reply_not f room bytes j mid (subst Q x (subst P e lacks)) one)
lackings (j ∷ hs) [] room bytes left tfel at bt f g (mid, one, interim, more) lacks (d, y) other =
    let R : ℕ → Type 0 = λ r. LacksReplyHead r bt g in
    let S : List ℕ → Type 0 = λ l. LacksReplyHead room l g in
    absurd (lacks_reply_not g room bytes j mid (subst S y (subst R d other)) one)
lackings (i ∷ hs) (j ∷ gs) room bytes left tfel at bt f g (mid, one, interim, more) lacks (dim, two, miretni, others) other =
    let same = reply_head_unique room room bytes i j mid dim one two in
    let P : ResponseHead → Type 0 = λ z. Passes hs (room - length (print_response z)) mid left at in
    let Q : List ℕ → Type 0 = λ l. Passes hs (room - length (print_response j)) l left at in
    lackings hs gs (room - length (print_response j)) dim left tfel at bt f g (subst Q same.1 (subst P same.0 more)) lacks others other

-- where one stands, none lacks
mixed : (hs gs : List ResponseHead) (room : ℕ) (bytes : List ℕ) (left tfel : ℕ) (at bt : List ℕ) (f : EdgeFault) (k : ResponseHead) (b : List ℕ)
    → Passes hs room bytes left at → LacksReplyHead left at f → Passes gs room bytes tfel bt → HasReplyHead tfel bt k b → is_interim k ≡ false → ⊥
mixed [] [] room bytes left tfel at bt f k b (e, x) lacks (d, y) other last =
    let P : ℕ → Type 0 = λ r. LacksReplyHead r at f in
    let Q : List ℕ → Type 0 = λ l. LacksReplyHead room l f in
    let R : ℕ → Type 0 = λ r. HasReplyHead r bt k b in
    let S : List ℕ → Type 0 = λ l. HasReplyHead room l k b in
    lacks_reply_not f room bytes k b (subst Q x (subst P e lacks)) (subst S y (subst R d other))
mixed [] (j ∷ gs) room bytes left tfel at bt f k b (e, x) lacks (mid, one, interim, more) other last =
    let P : ℕ → Type 0 = λ r. LacksReplyHead r at f in
    let Q : List ℕ → Type 0 = λ l. LacksReplyHead room l f in
    lacks_reply_not f room bytes j mid (subst Q x (subst P e lacks)) one
mixed (j ∷ hs) [] room bytes left tfel at bt f k b (mid, one, interim, more) lacks (d, y) other last =
    let S : List ℕ → Type 0 = λ l. HasReplyHead tfel l k b in
    clash j k (reply_head_unique room tfel bytes j k mid b one (subst S y other)).0 interim last
mixed (i ∷ hs) (j ∷ gs) room bytes left tfel at bt f k b (mid, one, interim, more) lacks (dim, two, miretni, others) other last =
    let same = reply_head_unique room room bytes i j mid dim one two in
    let P : ResponseHead → Type 0 = λ z. Passes hs (room - length (print_response z)) mid left at in
    let Q : List ℕ → Type 0 = λ l. Passes hs (room - length (print_response j)) l left at in
    mixed hs gs (room - length (print_response j)) dim left tfel at bt f k b (subst Q same.1 (subst P same.0 more)) lacks others other last

final_unique : (bytes : List ℕ) (h k : ResponseHead) (a b : List ℕ) → HasFinalHead bytes h a → HasFinalHead bytes k b → (h ≡ k) × (a ≡ b)
final_unique bytes h k a b x y = finals x.interim y.interim 10240 bytes x.room y.room x.at y.at h k a b x.passes x.has x.final y.passes y.has y.final

lacks_final_unique : (bytes : List ℕ) (f g : EdgeFault) → LacksFinalHead bytes f → LacksFinalHead bytes g → f ≡ g
lacks_final_unique bytes f g x y =
    x.counts ∙ ap (λ z. counted (length bytes) z) (lackings x.interim y.interim 10240 bytes x.room y.room x.at y.at x.fault y.fault x.passes x.lacks y.passes y.lacks) ∙ sym y.counts

lacks_final_not : (bytes : List ℕ) (f : EdgeFault) (k : ResponseHead) (b : List ℕ) → LacksFinalHead bytes f → HasFinalHead bytes k b → ⊥
lacks_final_not bytes f k b x y = mixed x.interim y.interim 10240 bytes x.room y.room x.at y.at x.fault k b x.passes x.lacks y.passes y.has y.final

-- ---- bodies

kept_rest : (body : Result Body EdgeFault) (x y : List ℕ) → OnOk body (x ≡ y) → rest_of (kept body) x ≡ rest_of (kept body) y
kept_rest (Ok (Read b)) x y e = e
kept_rest (Ok PastLimit) x y e = refl
kept_rest (Err f) x y e = refl

kept_unique : (a b : Result (List ℕ) EdgeFault) (p q : Result Body EdgeFault) (l m x y : List ℕ) → Same p q l m → a ≡ kept p → x ≡ rest_of a l → b ≡ kept q → y ≡ rest_of b m → Same a b x y
kept_unique a b p q l m x y (e, left) c r d s =
    let there : b ≡ kept p = d ∙ ap kept (sym e) in (
      c ∙ sym there,
      on_ok a x y (r ∙ ap (λ z. rest_of z l) c ∙ kept_rest p l m left ∙ ap (λ z. rest_of z m) (sym there) ∙ sym s),
    )

body_unique : (bare : Bool) (f : Framing) (a b : Result (List ℕ) EdgeFault) (bytes x y : List ℕ) → IsReplyBody bare f bytes a x → IsReplyBody bare f bytes b y → Same a b x y
body_unique bare TooMany a b bytes x y c d = (c ∙ sym d, on_err a HeadTooLong x y c)
body_unique bare Wrong a b bytes x y c d = (c ∙ sym d, on_err a BadHead x y c)
body_unique true Absent a b bytes x y c d = (c.0 ∙ sym d.0, on_ok a x y (c.1 ∙ sym d.1))
body_unique true (Known n) a b bytes x y c d = (c.0 ∙ sym d.0, on_ok a x y (c.1 ∙ sym d.1))
body_unique true Chunked a b bytes x y c d = (c.0 ∙ sym d.0, on_ok a x y (c.1 ∙ sym d.1))
body_unique false Absent a b bytes x y c d = rest_unique a b bytes x y c d
body_unique false (Known n) a b bytes x y (p, l, c, e, r) (q, m, d, f, s) = kept_unique a b p q l m x y (known_unique p q n bytes l m c d) e r f s
body_unique false Chunked a b bytes x y (p, l, c, e, r) (q, m, d, f, s) = kept_unique a b p q l m x y (chunked_unique p q bytes l m c d) e r f s

-- ---- replies

rest_same : (body : Result (List ℕ) EdgeFault) (h : ResponseHead) (count : ℕ) (x y : List ℕ) → OnOk body (x ≡ y) → rest_of (reply_of h count body) x ≡ rest_of (reply_of h count body) y
rest_same (Ok body) h count x y e = e
rest_same (Err f) h count x y e = refl

replied_unique : (bodiless : Bool) (a b : Result WireReply EdgeFault) (bytes x y : List ℕ) → IsReplied bodiless bytes a x → IsReplied bodiless bytes b y → (a ≡ b) × (x ≡ y)
replied_unique bodiless a b bytes x y m n =
    let head = final_unique bytes m.head n.head m.after n.after m.has n.has in
    let P : ResponseHead → Type 0 = λ h. IsReplyBody (has_none bodiless h) (reply_framing h) m.after m.body m.left in
    let Q : List ℕ → Type 0 = λ l. IsReplyBody (has_none bodiless n.head) (reply_framing n.head) l m.body m.left in
    let body = body_unique (has_none bodiless n.head) (reply_framing n.head) m.body n.body n.after m.left n.left (subst Q head.1 (subst P head.0 m.reads)) n.reads in
    let here : a ≡ reply_of n.head (length bytes) m.body = m.comes ∙ ap (λ h. reply_of h (length bytes) m.body) head.0 in
    let there : b ≡ reply_of n.head (length bytes) m.body = n.comes ∙ ap (λ z. reply_of n.head (length bytes) z) (sym body.0) in (
      here ∙ sym there,
      m.rest_is ∙ ap (λ z. rest_of z m.left) here ∙ rest_same m.body n.head (length bytes) m.left n.left body.1 ∙ ap (λ z. rest_of z n.left) (sym there) ∙ sym n.rest_is,
    )

lacks_replied : (bodiless : Bool) (f : EdgeFault) (a : Result WireReply EdgeFault) (bytes rest : List ℕ) → LacksFinalHead bytes f → IsReplied bodiless bytes a rest → ⊥
lacks_replied bodiless f a bytes rest lacks m = lacks_final_not bytes f m.head m.after lacks m.has

-- what a reply comes to is one thing, and so is what is left behind it
pub reply_unique : (bodiless : Bool) (a b : Result WireReply EdgeFault) (bytes x y : List ℕ) → IsReply bodiless bytes a x → IsReply bodiless bytes b y → (a ≡ b) × (x ≡ y)
reply_unique bodiless (Ok p) (Ok q) bytes x y c d = replied_unique bodiless _ _ bytes x y c d
reply_unique bodiless (Ok p) (Err g) bytes x y c (inl lacks) = absurd (lacks_replied bodiless g _ bytes x lacks.0 c)
reply_unique bodiless (Ok p) (Err g) bytes x y c (inr d) = replied_unique bodiless _ _ bytes x y c d
reply_unique bodiless (Err f) (Ok q) bytes x y (inl lacks) d = absurd (lacks_replied bodiless f _ bytes y lacks.0 d)
reply_unique bodiless (Err f) (Ok q) bytes x y (inr c) d = replied_unique bodiless _ _ bytes x y c d
reply_unique bodiless (Err f) (Err g) bytes x y (inl lacks) (inl other) = (ap Err (lacks_final_unique bytes f g lacks.0 other.0), lacks.1 ∙ sym other.1)
reply_unique bodiless (Err f) (Err g) bytes x y (inl lacks) (inr d) = absurd (lacks_replied bodiless f _ bytes y lacks.0 d)
reply_unique bodiless (Err f) (Err g) bytes x y (inr c) (inl lacks) = absurd (lacks_replied bodiless g _ bytes x lacks.0 c)
reply_unique bodiless (Err f) (Err g) bytes x y (inr c) (inr d) = replied_unique bodiless _ _ bytes x y c d
