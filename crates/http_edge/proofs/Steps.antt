-- The steps of reading a message, over all that is left.
use Rattle.std.proofs.Common.{arith, ◌≡◌, ◌≢◌, ℕ, List, ◌++◌, take, drop, refl, sym, subst, append-nil, Option, Result, Ok, Err}
use Rattle.std.proofs.lemmas.List.{length-append}
use Rattle.httparse.specs.Grammar.{RequestHead}
use Rattle.httparse.specs.Spans.{IsRequestAt}
use Rattle.httparse.specs.declared.spans.HeaderSpan.{HeaderSpan}
use Rattle.httparse.specs.declared.spans.RequestSpans.{RequestSpans}
use Rattle.http_framing.specs.Heads.{IsUnfinished, HasHead}
use Rattle.http_framing.specs.HeadReads.{HeadTaken}
use Rattle.http_framing.specs.Stream.{SameBytes, Takes, Over}
use Rattle.http_framing.specs.declared.fault.EdgeFault.{EdgeFault}
use Rattle.http_framing.specs.declared.fault.EdgeFault.TheVariants.{BadHead, HeadTooLong, BadChunk, Cut, ReadFault, Memory}
use Rattle.http_framing.proofs.Grows.{bad_front_grows, long_front_grows, head_grows}
use Rattle.http_framing.proofs.Overs.{over, over_end, over_any}
use Rattle.http_edge.specs.Reads.{IsBegun, HeadRead}
use Rattle.http_edge.specs.declared.request.Begun.{Begun}

abbrev stop : EdgeFault → Result RequestSpans EdgeFault
stop f = Err f

-- no head was read
pub head_stopped : (old : List ℕ) (x : Option (List ℕ)) (held : List ℕ) (y : Option (List ℕ)) (room : List HeaderSpan) (f : EdgeFault)
    → HeadTaken held room y (Err f) → Takes x y → (stop f ≢ stop Memory → SameBytes old x held y) → Over HeadRead old x held y (Err f)
head_stopped old x held y room BadHead taken told same =
    over HeadRead old x held held y (Err BadHead) (same (λ e. cc)) (λ ys. bad_front_grows held ys taken)
head_stopped old x held y room HeadTooLong taken told same =
    over HeadRead old x held held y (Err HeadTooLong) (same (λ e. cc)) (λ ys.
    let P : List ℕ → Type 0 = IsUnfinished in
    (subst P (sym (long_front_grows held ys taken.1)) taken.0, omega (arith, taken.1, length-append held ys)))
head_stopped old x held y room (Cut n) taken told same =
    over_end HeadRead old x held held y (Err (Cut n)) (same (λ e. cc)) taken.3 ((taken.0, taken.1), taken.2, append-nil held, refl)
head_stopped old x held y room ReadFault taken told same =
    over HeadRead old x held held y (Err ReadFault) (same (λ e. cc)) (λ ys. (held, refl, (taken.0, taken.1)))
head_stopped old x held y room Memory taken told same = over_any HeadRead old x held y (Err Memory) told (λ all ys. tt)
head_stopped old x held y room BadChunk taken told same = absurd taken

-- a head was read and used
pub head_begun : (old : List ℕ) (x : Option (List ℕ)) (held new : List ℕ) (y : Option (List ℕ)) (room : List HeaderSpan) (spans : RequestSpans) (h : RequestHead) (b : Begun)
    → IsRequestAt (take 10240 held) room spans h → IsBegun h b → new ≡ drop spans.len held → SameBytes old x held y → Over HeadRead old x new y (Ok b)
head_begun old x held new y room spans h b at begun e same =
    over HeadRead old x held new y (Ok b) same (λ ys.
    let P : List ℕ → Type 0 = λ l. HasHead (held ++ ys) h (l ++ ys) in
    (h, subst P (sym e) (head_grows held ys h spans.len at.reads at.len), begun))
