use Rattle.std.proofs.Common.{◌≡◌, ℕ, List, ◌++◌, map, drop}
use Rattle.std.specs.Borrow.{Bor}
use Rattle.std.specs.List.{concat}
use Rattle.std.specs.String.{string_bytes}
use Rattle.play_script.proofs.joining.join.Given as goal

-- the text so far, and the pieces that are left, are all the pieces
abbrev pub invariant-loop-piece : goal.invariant-loop-piece
invariant-loop-piece l =
    string_bytes l.text ++ concat (map (λ (piece : Bor (List ℕ)). piece.now) (drop l.piece-index l.pieces))
    ≡ concat (map (λ (piece : Bor (List ℕ)). piece.now) l.pieces)
