use Rattle.std.proofs.Common.{◌≡◌, ◌≤◌, ◌-◌, ◌*◌, length}
use Rattle.http_framing.specs.Stream.{Over, Takes}
use Rattle.http_framing.specs.ChunkReads.{SoFar}
use Rattle.http_framing.proofs.chunks.read_chunked.Given as goal

-- whole chunks were read
abbrev pub invariant-loop-n : goal.invariant-loop-n
invariant-loop-n g l =
    let left = g.S.Source.left in
    record {
      far : Over (SoFar l.body.items l.gone) l.fn.held (left l.fn.source) l.held (left l.source) tt;
      near : length l.body.items ≤ 10485760;
      few : l.gone ≤ 1027 * length l.body.items;
      taken : Takes (left l.fn.source) (left l.source);
      later : g.S.Source.faults l.fn.source ≤ g.S.Source.faults l.source;
      beside : g.S.Source.beside l.source ≡ g.S.Source.beside l.fn.source;
    }

abbrev pub decreases-loop-n : goal.decreases-loop-n
decreases-loop-n g l = 10485760 - length l.body.items
