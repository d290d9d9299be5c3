use Rattle.std.proofs.Common.{◌≡◌, ◌≤◌, ◌-◌, ◌+◌, length}
use Rattle.http_framing.specs.Stream.{SameBytes, Takes}
use Rattle.http_framing.proofs.chunk.await_data.Given as goal

-- what is held was taken from the source
abbrev pub invariant-loop-source : goal.invariant-loop-source
invariant-loop-source g l =
    let left = g.S.Source.left in
    record {
      same : SameBytes l.fn.held (left l.fn.source) l.held (left l.source);
      taken : Takes (left l.fn.source) (left l.source);
      later : g.S.Source.faults l.fn.source ≤ g.S.Source.faults l.source;
      beside : g.S.Source.beside l.source ≡ g.S.Source.beside l.fn.source;
    }

abbrev pub decreases-loop-source : goal.decreases-loop-source
decreases-loop-source g l = l.n + 2 - length l.held
