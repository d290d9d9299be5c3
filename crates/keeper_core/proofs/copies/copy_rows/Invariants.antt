use Rattle.std.proofs.Common.{◌≡◌, take}
use Rattle.keeper_core.proofs.copies.copy_rows.Given as goal

-- the rows so far are copied
abbrev pub invariant-loop-row : goal.invariant-loop-row
invariant-loop-row g l = l.copied.items ≡ take l.row-index l.rows
