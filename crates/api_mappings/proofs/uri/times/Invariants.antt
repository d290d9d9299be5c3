use Rattle.std.proofs.Common.{◌≡◌, ◌+◌, ◌≤◌, drop}
use Rattle.api_mappings.specs.Uris.{times}
use Rattle.api_mappings.proofs.uri.times.Given as goal

abbrev pub invariant-loop-piece : goal.invariant-loop-piece
invariant-loop-piece l = (l.count + times l.name (drop l.piece-index l.pieces) ≡ times l.name l.pieces) × (l.count ≤ l.piece-index)
