use Rattle.std.proofs.Common.{◌≡◌, ◌≤◌, ◌-◌}
use Rattle.http_framing.specs.Stream.{Over, Takes}
use Rattle.http_edge.specs.ReplyReads.{PassedOver}
use Rattle.http_edge.proofs.reply_head.read_final_head.Given as goal

-- the heads of interim replies were passed over
abbrev pub invariant-loop-begun : goal.invariant-loop-begun
invariant-loop-begun g l =
    let left = g.S.Source.left in
    record {
      far : Over (PassedOver l.gone) l.fn.held (left l.fn.source) l.held (left l.source) tt;
      near : l.gone ≤ 10240;
      taken : Takes (left l.fn.source) (left l.source);
      later : g.S.Source.faults l.fn.source ≤ g.S.Source.faults l.source;
      beside : g.S.Source.beside l.source ≡ g.S.Source.beside l.fn.source;
    }

abbrev pub decreases-loop-begun : goal.decreases-loop-begun
decreases-loop-begun g l = 10240 - l.gone
