use Rattle.std.proofs.Common.{◌≡◌, take}
use Rattle.integration_flow.specs.Headers.{written_over}
use Rattle.integration_flow.proofs.headers.written_over.Given as goal

-- the headers so far are those over which the first ones are written
abbrev pub invariant-loop-over : goal.invariant-loop-over
invariant-loop-over l = l.made.items ≡ written_over l.initial.made.items (take l.over-index l.overs)
