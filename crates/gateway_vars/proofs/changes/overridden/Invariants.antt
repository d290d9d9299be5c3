use Rattle.std.proofs.Common.{◌≡◌, take}
use Rattle.gateway_vars.specs.Overriding.{overridden}
use Rattle.gateway_vars.specs.Rows.{kept_of}
use Rattle.gateway_vars.proofs.changes.overridden.Given as goal

abbrev pub invariant-loop-row : goal.invariant-loop-row
invariant-loop-row l = l.changes ≡ overridden l.side (kept_of (take l.row-index l.rows))
