use Rattle.std.proofs.Common.{◌≡◌, take, map}
use Rattle.gateway_vars.specs.Input.{named_row}
use Rattle.gateway_vars.proofs.pairs.named_map.Given as goal

abbrev pub invariant-loop-pair : goal.invariant-loop-pair
invariant-loop-pair l = l.map ≡ map (named_row l.pairs) (take l.pair-index l.pairs)
