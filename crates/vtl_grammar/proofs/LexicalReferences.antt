-- What a reference's name, its steps and a string's parts take from the front of a text.
use Rattle.std.proofs.Common.{◌≡◌, ℕ, suc, ◌+◌, ◌<◌, ◌≤◌, List, [], ◌∷◌, length, ap, arith, Bool, true, false, ◌&&◌, Option, Some, None, ◌==◌}
use Rattle.vtl_grammar.specs.Bytes.{name_at, taken}
use Rattle.vtl_grammar.specs.Words.{is_directive}
use Rattle.vtl_grammar.specs.declared.fault.Fault.TheVariants as fault
use Rattle.vtl_grammar.specs.References.{Begun, a_reference, nameless, named_or, begun, StepFront, a_name, a_call, an_index, a_dot, no_step, method_or, dot_or, step_front}
use Rattle.vtl_grammar.specs.Strings.{Piece, piece_end, piece_byte, piece_reference, piece_bad, piece_dollar, piece_of, escapes, run_len}
use Rattle.vtl_grammar.proofs.Lexical.{pick_le, sized, name_le, taken_le}

abbrev pub begun_left : Begun → ℕ
begun_left (a_reference quiet braced x rest) = length rest + 1
begun_left (nameless missing) = 0

named_le : (quiet braced : Bool) (bs : List ℕ) (o : Option (List ℕ × List ℕ)) → begun_left (named_or quiet braced bs o) ≤ sized o
named_le quiet braced bs None = omega arith
named_le quiet braced bs (Some p) = omega arith

pub begun_le : (bs : List ℕ) → begun_left (begun bs) ≤ length bs
begun_le bs =
    let q : Bool × List ℕ = taken 33 bs in
    let c : Bool × List ℕ = taken 123 q.1 in
    omega (arith, named_le q.0 c.0 c.1 (name_at c.1), name_le c.1, taken_le 123 q.1, taken_le 33 bs)

pub begun_less : (bs : List ℕ) {quiet braced : Bool} {x rest : List ℕ} → begun bs ≡ a_reference quiet braced x rest → length rest < length bs
begun_less bs {quiet = quiet} {braced = braced} {x = x} {rest = rest} e =
    let h : begun_left (begun bs) ≡ begun_left (a_reference quiet braced x rest) = ap (λ z. begun_left z) e in
    omega (arith, h, begun_le bs)

abbrev pub step_left : StepFront → ℕ
step_left (a_name x rest) = length rest + 1
step_left (a_call x rest) = length rest + 1
step_left (an_index rest) = length rest + 1
step_left (a_dot rest) = 0
step_left no_step = 0

method_le : (x : List ℕ) (t : Bool × List ℕ) → step_left (method_or x t) ≤ length t.1 + 1
method_le x (true, rest) = omega arith
method_le x (false, rest) = omega arith

dot_le : (bs : List ℕ) (o : Option (List ℕ × List ℕ)) → step_left (dot_or bs o) ≤ sized o
dot_le bs None = omega arith
dot_le bs (Some p) = omega (arith, method_le p.0 (taken 40 p.1), taken_le 40 p.1)

step_le : (bs : List ℕ) → step_left (step_front bs) ≤ length bs
step_le [] = omega arith
step_le (b ∷ bs) =
    pick_le {A = StepFront} (λ z. step_left z) (b == 46) (dot_or bs (name_at bs)) (elim (b == 91) as (λ _. StepFront) [ true ↦ an_index bs | false ↦ no_step ]) (length (b ∷ bs)) (omega (arith, dot_le bs (name_at bs), name_le bs))
    (pick_le {A = StepFront} (λ z. step_left z) (b == 91) (an_index bs) no_step (length (b ∷ bs)) (omega arith) (omega arith))

pub step_less : (bs : List ℕ) (s : StepFront) → step_front bs ≡ s → step_left s ≤ length bs
step_less bs s e = let h : step_left (step_front bs) ≡ step_left s = ap (λ z. step_left z) e in omega (arith, h, step_le bs)

abbrev pub piece_left : Piece → ℕ
piece_left (piece_reference quiet braced x rest) = length rest + 1
piece_left piece_end = 0
piece_left piece_byte = 0
piece_left (piece_bad f) = 0

piece_dollar_le : (b : Begun) → piece_left (piece_dollar b) ≤ begun_left b
piece_dollar_le (a_reference quiet braced x rest) = omega arith
piece_dollar_le (nameless missing) = omega arith

piece_le : (names : List (List ℕ)) (bs : List ℕ) → piece_left (piece_of names bs) ≤ length bs
piece_le names [] = omega arith
piece_le names (b ∷ bs) =
    let third : Piece = elim ((b == 35) && is_directive names bs) [ true ↦ piece_bad (fault.BadDirective (length bs + 1)) | false ↦ piece_byte ] in
    let second : Piece = elim ((b == 92) && escapes bs) [ true ↦ piece_bad (fault.Escape (length bs + 1)) | false ↦ third ] in
    pick_le {A = Piece} (λ z. piece_left z) (b == 36) (piece_dollar (begun bs)) second (length (b ∷ bs)) (omega (arith, piece_dollar_le (begun bs), begun_le bs))
    (pick_le {A = Piece} (λ z. piece_left z) ((b == 92) && escapes bs) (piece_bad (fault.Escape (length bs + 1))) third (length (b ∷ bs)) (omega arith)
    (pick_le {A = Piece} (λ z. piece_left z) ((b == 35) && is_directive names bs) (piece_bad (fault.BadDirective (length bs + 1))) piece_byte (length (b ∷ bs)) (omega arith) (omega arith)))

pub piece_less : (names : List (List ℕ)) (bs : List ℕ) {quiet braced : Bool} {x rest : List ℕ} → piece_of names bs ≡ piece_reference quiet braced x rest → length rest < length bs
piece_less names bs {quiet = quiet} {braced = braced} {x = x} {rest = rest} e =
    let h : piece_left (piece_of names bs) ≡ piece_left (piece_reference quiet braced x rest) = ap (λ z. piece_left z) e in
    omega (arith, h, piece_le names bs)

-- where text stands at the front, there is a byte
pub run_some : (names : List (List ℕ)) (bs : List ℕ) (n : ℕ) → run_len names bs ≡ suc n → 0 < length bs
run_some names [] n e = absurd (omega (arith, e))
run_some names (b ∷ bs) n e = omega arith
