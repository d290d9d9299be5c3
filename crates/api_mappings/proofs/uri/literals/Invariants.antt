use Rattle.std.proofs.Common.{◌≡◌, ◌++◌, drop}
use Rattle.std.specs.Prelude.{string_bytes}
use Rattle.api_mappings.specs.Uris.{literals}
use Rattle.api_mappings.proofs.uri.literals.Given as goal

abbrev pub invariant-loop-piece : goal.invariant-loop-piece
invariant-loop-piece l = string_bytes l.text ++ literals (drop l.piece-index l.pieces) ≡ literals l.pieces
