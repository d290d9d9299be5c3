use Rattle.std.proofs.Common.{◌≡◌, drop}
use Rattle.std.specs.List.{list_all}
use Rattle.std.specs.Option.{option_map}
use Rattle.json_subset.specs.Documents.{part}
use Rattle.api_resources.specs.Integrations.{has_mapping}
use Rattle.api_resources.proofs.integrations.have_mappings.Given as goal

abbrev pub invariant-loop-piece : goal.invariant-loop-piece
invariant-loop-piece l = list_all (has_mapping (option_map (part l.doc) l.parameters)) (drop l.piece-index l.pieces) ≡ list_all (has_mapping (option_map (part l.doc) l.parameters)) l.pieces
