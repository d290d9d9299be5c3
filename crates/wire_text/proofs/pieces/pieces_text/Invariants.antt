use Rattle.std.proofs.Common.{◌≡◌, Some, drop}
use Rattle.std.specs.String.{string_bytes}
use Rattle.wire_text.specs.Destinations.{joined, pieces_text}
use Rattle.wire_text.proofs.pieces.pieces_text.Given as goal

-- the text so far, and that of the pieces that are left, is that of all
abbrev pub invariant-loop-piece : goal.invariant-loop-piece
invariant-loop-piece l = joined (Some (string_bytes l.made)) (pieces_text l.variables l.values (drop l.piece-index l.pieces)) ≡ pieces_text l.variables l.values l.pieces
