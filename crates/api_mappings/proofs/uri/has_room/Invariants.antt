use Rattle.std.proofs.Common.{◌≡◌, drop}
use Rattle.std.specs.List.{list_any}
use Rattle.api_mappings.specs.Uris.{has_room_for}
use Rattle.api_mappings.proofs.uri.has_room.Given as goal

abbrev pub invariant-loop-piece : goal.invariant-loop-piece
invariant-loop-piece l = list_any (has_room_for l.count l.pieces) (drop l.piece-index l.pieces) ≡ list_any (has_room_for l.count l.pieces) l.pieces
