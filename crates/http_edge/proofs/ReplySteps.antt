-- The steps of reading a reply, over all that is left.
use Rattle.std.proofs.Common.{arith, ◌≡◌, ◌≢◌, ℕ, ◌-◌, ◌≤◌, List, ◌++◌, length, take, drop, take-append-drop, refl, sym, ap, ◌∙◌, subst, append_assoc, Option, Result, Ok, Err}
use Rattle.std.proofs.lemmas.List.{length-append, length-take, take-append-le, drop-append-le}
use Rattle.httparse.specs.Grammar.{ResponseHead, print_response, ReadsResponse, NeverHasResponse}
use Rattle.httparse.specs.Spans.{IsResponseAt}
use Rattle.httparse.specs.declared.spans.HeaderSpan.{HeaderSpan}
use Rattle.httparse.specs.declared.spans.ResponseSpans.{ResponseSpans}
use Rattle.http_framing.specs.HeadReads.{ReplyTaken}
use Rattle.http_framing.specs.ReplyHeads.{HasReplyHead, MayBecomeReply}
use Rattle.http_framing.specs.Stream.{SameBytes, Takes, Over}
use Rattle.http_framing.specs.declared.fault.EdgeFault.{EdgeFault}
use Rattle.http_framing.specs.declared.fault.EdgeFault.TheVariants.{BadHead, HeadTooLong, BadChunk, Cut, ReadFault, Memory}
use Rattle.http_framing.proofs.Fronts.{take_both}
use Rattle.http_framing.proofs.Overs.{over, over_end, over_any}
use Rattle.http_edge.specs.ReplyReads.{IsReplyBegun, ReplyHeadRead}
use Rattle.http_edge.specs.declared.reply_head.ReplyBegun.{ReplyBegun}

abbrev stop : EdgeFault → Result ResponseSpans EdgeFault
stop f = Err f

never_grows : (a b : List ℕ) → NeverHasResponse a → NeverHasResponse (a ++ b)
never_grows a b n more h rest reads = n (b ++ more) h rest (reads.0, sym (append_assoc a b more) ∙ reads.1)

bad_front_grows : (limit : ℕ) (held ys : List ℕ) → NeverHasResponse (take limit held) → NeverHasResponse (take limit (held ++ ys))
bad_front_grows limit held ys bad =
    let P : List ℕ → Type 0 = NeverHasResponse in
    subst P (sym (take_both limit held ys)) (never_grows (take limit held) (take (limit - length held) ys) bad)

-- no head was read
pub reply_stopped : (old : List ℕ) (x : Option (List ℕ)) (held : List ℕ) (y : Option (List ℕ)) (limit : ℕ) (room : List HeaderSpan) (f : EdgeFault)
    → ReplyTaken limit held room y (Err f) → Takes x y → (stop f ≢ stop Memory → SameBytes old x held y) → Over (ReplyHeadRead limit) old x held y (Err f)
reply_stopped old x held y limit room BadHead taken told same =
    over (ReplyHeadRead limit) old x held held y (Err BadHead) (same (λ e. cc)) (λ ys. bad_front_grows limit held ys taken)
reply_stopped old x held y limit room HeadTooLong taken told same =
    over (ReplyHeadRead limit) old x held held y (Err HeadTooLong) (same (λ e. cc)) (λ ys.
    let P : List ℕ → Type 0 = MayBecomeReply in
    (subst P (sym (take-append-le limit held ys taken.1)) taken.0, omega (arith, taken.1, length-append held ys)))
reply_stopped old x held y limit room (Cut n) taken told same =
    over_end (ReplyHeadRead limit) old x held held y (Err (Cut n)) (same (λ e. cc)) taken.3 ((taken.0, taken.1, taken.2), refl)
reply_stopped old x held y limit room ReadFault taken told same =
    over (ReplyHeadRead limit) old x held held y (Err ReadFault) (same (λ e. cc)) (λ ys. (held, refl, (taken.0, taken.1)))
reply_stopped old x held y limit room Memory taken told same = over_any (ReplyHeadRead limit) old x held y (Err Memory) told (λ all ys. tt)
reply_stopped old x held y limit room BadChunk taken told same = absurd taken

-- a head that was read of a front stands in all that is left
reply_grows : (limit : ℕ) (held ys : List ℕ) (h : ResponseHead) (len : ℕ) → ReadsResponse (take limit held) h (drop len (take limit held)) → len ≡ length (print_response h) → HasReplyHead limit (held ++ ys) h (drop len held ++ ys)
reply_grows limit held ys h len reads is =
    let front = take limit held in
    let whole : front ++ drop limit held ≡ held = take-append-drop limit held in
    let short : len ≤ length front = omega (arith, ap length reads.1, length-append (print_response h) (drop len front), is) in
    let rest : drop len front ++ drop limit held ≡ drop len held = sym (drop-append-le len front (drop limit held) short) ∙ ap (drop len) whole in
    record {
      reads = (
        reads.0,
        ap (λ l. l ++ ys) (sym whole ∙ ap (λ l. l ++ drop limit held) reads.1 ∙ append_assoc (print_response h) (drop len front) (drop limit held) ∙ ap (λ l. print_response h ++ l) rest)
            ∙ append_assoc (print_response h) (drop len held) ys,
      );
      within = omega (arith, short, is, length-take limit held);
    }

-- a head was read and used
pub reply_begun : (old : List ℕ) (x : Option (List ℕ)) (held new : List ℕ) (y : Option (List ℕ)) (limit : ℕ) (room : List HeaderSpan) (spans : ResponseSpans) (h : ResponseHead) (b : ReplyBegun)
    → IsResponseAt (take limit held) room spans h → IsReplyBegun h b → b.len ≡ spans.len → new ≡ drop spans.len held → SameBytes old x held y → Over (ReplyHeadRead limit) old x new y (Ok b)
reply_begun old x held new y limit room spans h b at begun len e same =
    over (ReplyHeadRead limit) old x held new y (Ok b) same (λ ys.
    let P : List ℕ → Type 0 = λ l. HasReplyHead limit (held ++ ys) h (l ++ ys) in
    (h, subst P (sym e) (reply_grows limit held ys h spans.len at.reads at.len), begun, len ∙ at.len))
