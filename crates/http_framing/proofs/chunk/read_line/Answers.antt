use Rattle.http_framing.proofs.ChunkGrows.{line_done, line_short, line_stopped}
use Rattle.http_framing.proofs.chunk.read_line.Goals as goal

pub skip-requires : goal.skip-requires
skip-requires g c = let at = c.in-Ok.ensures.line in (line_short _ c.in-Ok.line.len c.in-Ok.line.size at.0 at.1).0

pub returns-in-Ok-clause-line : goal.returns-in-Ok-clause-line
returns-in-Ok-clause-line g c =
    let at = c.in-Ok.ensures.line in
    line_done _ _ c.await_line.new.held _ _ c.in-Ok.line at.0 at.1 c.skip.ensures (c.in-Ok.ensures.same (λ e. cc))

pub returns-in-Ok-clause-short : goal.returns-in-Ok-clause-short
returns-in-Ok-clause-short g c = let at = c.in-Ok.ensures.line in (line_short _ c.in-Ok.line.len c.in-Ok.line.size at.0 at.1).1

pub returns-in-Err-clause-line : goal.returns-in-Err-clause-line
returns-in-Err-clause-line g c = line_stopped _ _ c.await_line.new.held _ c.in-Err.fault c.in-Err.ensures.line c.await_line.ensures.taken (λ n. c.in-Err.ensures.same (λ e. n (cc)))
