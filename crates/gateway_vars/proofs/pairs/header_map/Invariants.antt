use Rattle.std.proofs.Common.{◌≡◌, take, map}
use Rattle.gateway_vars.specs.Input.{header_row}
use Rattle.gateway_vars.proofs.pairs.header_map.Given as goal

abbrev pub invariant-loop-header : goal.invariant-loop-header
invariant-loop-header l = l.map ≡ map (header_row l.headers) (take l.header-index l.headers)
