-- What is known in the middle of a run of text in a string.
use Rattle.std.proofs.Common.{◌≡◌, ℕ, suc, ◌+◌, ◌-◌, ◌<◌, List, [], ◌∷◌, length, take, drop, refl, sym, ap, ◌∙◌, arith, true}
use Rattle.vtl_grammar.specs.Strings as string
use Rattle.vtl_grammar.specs.Strings.{run_len, run_on, piece_of}
use Rattle.vtl_words.specs.declared.fronts.Piece.{Piece}
use Rattle.vtl_words.specs.declared.fronts.Piece.TheVariants as piece
use Rattle.vtl_words.specs.Fronts.{piece_view, is_byte}
use Rattle.vtl_words.proofs.Finds.{take_next, left_over, to_end}

byte_view : (p : Piece) → true ≡ is_byte p → piece_view p ≡ string.piece_byte
byte_view piece.End e = absurd (cc)
byte_view piece.Byte e = refl
byte_view (piece.Reference quiet braced name rest) e = absurd (cc)
byte_view (piece.Bad f) e = absurd (cc)

pub one_more : (names : List (List ℕ)) (t : List ℕ) (n : ℕ) (p : Piece) → n < length t → piece_view p ≡ piece_of names (take (length t - n) (drop n t)) → true ≡ is_byte p → run_len names t ≡ n + run_len names (drop n t) → run_len names t ≡ n + 1 + run_len names (drop (n + 1) t)
one_more names t n p h e byte so_far = go (drop n t) refl (left_over n t h) so_far
  where
    go : (here : List ℕ) → drop n t ≡ here → 0 < length here → run_len names t ≡ n + run_len names here → run_len names t ≡ n + 1 + run_len names (drop (n + 1) t)
    go [] at some f = absurd (omega (arith, some))
    go (b ∷ bs) at some f =
        let plain : piece_of names (b ∷ bs) ≡ string.piece_byte = ap (piece_of names) (sym at) ∙ ap (piece_of names) (sym (to_end n t)) ∙ sym e ∙ byte_view p byte in
        let more : run_len names (b ∷ bs) ≡ suc (run_len names bs) = ap (run_on (run_len names bs)) plain in
        let one : n + 1 ≡ suc n = omega arith in
        let behind : drop (n + 1) t ≡ bs = ap (λ k. drop k t) one ∙ (take_next n t b bs at).1 in
        let rest : run_len names (drop (n + 1) t) ≡ run_len names bs = ap (run_len names) behind in
        omega (arith, f, more, rest)
