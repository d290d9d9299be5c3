use Rattle.std.proofs.Common.{arith, ◌≤◌, ◌<◌, ◌+◌, length, sym, subst, Ok, Err, Result}
use Rattle.std.proofs.lemmas.Grind.{common_steps}
use Rattle.http_framing.specs.Stream.{Over}
use Rattle.http_framing.specs.ChunkReads.{LineRead, TrailersRead, DataRead, ChunkRead}
use Rattle.http_framing.specs.Faults.{shifted}
use Rattle.http_framing.specs.declared.chunks.Step.{Step}
use Rattle.http_framing.specs.declared.chunks.Step.TheVariants.{Last}
use Rattle.http_framing.specs.declared.fault.EdgeFault.{EdgeFault}
use Rattle.http_framing.proofs.ChunkJoins.{line_fault, last_done, last_fault, data_fault}
use Rattle.http_framing.proofs.Overs.{over_both, over_to, takes_both}
use Rattle.http_framing.proofs.chunks.read_chunk.Goals as goal

abbrev stop : EdgeFault → Result Step EdgeFault
stop f = Err f

pub returns-in-Err-clause-chunk : goal.returns-in-Err-clause-chunk
returns-in-Err-clause-chunk g c =
    let body = c.args.body.now.items in
    over_to LineRead (ChunkRead body body) _ _ c.read_line.new.held _ (Err c.in-Err.fault) (stop c.in-Err.fault) c.in-Err.ensures.line (line_fault c.in-Err.fault body body)

pub returns-in-Ok-read_trailers-clause-chunk : goal.returns-in-Ok-read_trailers-clause-chunk
returns-in-Ok-read_trailers-clause-chunk g c =
    let body = c.args.body.now.items in
    over_both LineRead TrailersRead (ChunkRead body body) _ _ c.read_line.new.held _ c.read_trailers.new.held _ (Ok c.in-Ok.line) (Ok tt) (Ok Last)
    c.in-Ok.ensures.line c.in-Ok-read_trailers.ensures.trailers (λ all m l n k. last_done c.in-Ok.line body all m l n k c.if-line-eq0.true)

pub returns-in-Err-read_trailers-clause-chunk : goal.returns-in-Err-read_trailers-clause-chunk
returns-in-Err-read_trailers-clause-chunk g c =
    let body = c.args.body.now.items in
    let f = c.in-Err-read_trailers.fault in
    let P : EdgeFault → Type 0 = λ e. Over (ChunkRead body body) c.args.held.now (g.S.Source.left c.args.source.now) c.read_trailers.new.held (g.S.Source.left c.read_trailers.new.source) (Err e) in
    subst P (sym c.shifted.ensures)
    (over_both LineRead TrailersRead (ChunkRead body body) _ _ c.read_line.new.held _ c.read_trailers.new.held _ (Ok c.in-Ok.line) (Err f) (stop (shifted c.in-Ok.line.len f))
    c.in-Ok.ensures.line c.in-Err-read_trailers.ensures.trailers (λ all m l n k. last_fault f c.in-Ok.line body body all m l n k c.if-line-eq0.true))

pub returns-in-Err-read_data-clause-chunk : goal.returns-in-Err-read_data-clause-chunk
returns-in-Err-read_data-clause-chunk g c =
    let body = c.args.body.now.items in
    let now = c.read_data.new.body.items in
    let f = c.in-Err-read_data.fault in
    let some : 0 < c.in-Ok.line.size = grind (arith, common_steps) in
    let near : length body + c.in-Ok.line.size ≤ 10485760 = grind (arith, common_steps) in
    let P : EdgeFault → Type 0 = λ e. Over (ChunkRead body now) c.args.held.now (g.S.Source.left c.args.source.now) c.read_data.new.held (g.S.Source.left c.read_data.new.source) (Err e) in
    subst P (sym c.shifted-in-Err-read_data.ensures)
    (over_both LineRead (DataRead c.in-Ok.line.size body now) (ChunkRead body now) _ _ c.read_line.new.held _ c.read_data.new.held _ (Ok c.in-Ok.line) (Err f) (stop (shifted c.in-Ok.line.len f))
    c.in-Ok.ensures.line c.in-Err-read_data.ensures.data (λ all m l n k. data_fault f c.in-Ok.line body now all m l n k some near))

pub returns-in-Ok-read_trailers-clause-taken : goal.returns-in-Ok-read_trailers-clause-taken
returns-in-Ok-read_trailers-clause-taken g c = takes_both _ _ _ c.read_line.ensures.taken c.read_trailers.ensures.taken

pub returns-in-Err-read_trailers-clause-taken : goal.returns-in-Err-read_trailers-clause-taken
returns-in-Err-read_trailers-clause-taken g c = takes_both _ _ _ c.read_line.ensures.taken c.read_trailers.ensures.taken

pub returns-in-Ok-read_data-clause-taken : goal.returns-in-Ok-read_data-clause-taken
returns-in-Ok-read_data-clause-taken g c = takes_both _ _ _ c.read_line.ensures.taken c.read_data.ensures.taken

pub returns-in-Err-read_data-clause-taken : goal.returns-in-Err-read_data-clause-taken
returns-in-Err-read_data-clause-taken g c = takes_both _ _ _ c.read_line.ensures.taken c.read_data.ensures.taken
