use Rattle.std.proofs.Common.{◌≡◌, ◌+◌, drop}
use Rattle.gateway_vars.specs.Rows.{place_of}
use Rattle.gateway_vars.proofs.table.place.Given as goal

abbrev pub invariant-loop-row : goal.invariant-loop-row
invariant-loop-row l = (l.i ≡ l.row-index) × (place_of l.rows l.path ≡ l.i + place_of (drop l.row-index l.rows) l.path)
