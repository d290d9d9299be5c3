use Rattle.std.proofs.Common.{◌≡◌, ◌≤◌, ◌-◌, length}
use Rattle.http_framing.specs.Stream.{SameBytes, Takes}
use Rattle.http_framing.proofs.fill.fill_line.Given as goal

-- what is held was taken from the source
abbrev pub invariant-loop-held : goal.invariant-loop-held
invariant-loop-held g l =
    let left = g.S.Source.left in
    record {
      same : SameBytes l.fn.held (left l.fn.source) l.held (left l.source);
      taken : Takes (left l.fn.source) (left l.source);
      more : length l.fn.held ≤ length l.held;
      later : g.S.Source.faults l.fn.source ≤ g.S.Source.faults l.source;
      beside : g.S.Source.beside l.source ≡ g.S.Source.beside l.fn.source;
    }

abbrev pub decreases-loop-held : goal.decreases-loop-held
decreases-loop-held g l = l.limit - length l.held
