use Rattle.std.proofs.Common.{◌≡◌, ◌≤◌, ◌-◌, ◌+◌, length}
use Rattle.std.specs.Io.KnownBytes.{IsAtEnd}
use Rattle.gw_base.specs.Outside.{Rose}
use Rattle.http_framing.specs.Stream.{SameBytes, Takes, looks_left}
use Rattle.http_framing.specs.declared.fill.Filled.TheVariants.{End, Fault}
use Rattle.http_framing.proofs.reply_head.await_reply_head.Given as goal

-- what is held was taken from the source, and the last read told what it told
abbrev pub invariant-loop-spans : goal.invariant-loop-spans
invariant-loop-spans g l =
    let left = g.S.Source.left in
    record {
      same : SameBytes l.fn.held (left l.fn.source) l.held (left l.source);
      taken : Takes (left l.fn.source) (left l.source);
      end : l.filled ≡ End → IsAtEnd (left l.source);
      rose : l.filled ≡ Fault → Rose (g.S.Source.faults l.fn.source) (g.S.Source.faults l.source);
      later : g.S.Source.faults l.fn.source ≤ g.S.Source.faults l.source;
      beside : g.S.Source.beside l.source ≡ g.S.Source.beside l.fn.source;
    }

abbrev pub decreases-loop-spans : goal.decreases-loop-spans
decreases-loop-spans g l = l.limit - length l.held + looks_left l.filled
