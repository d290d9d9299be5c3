use Rattle.std.proofs.Common.{arith, ◌≡◌, ◌+◌, length, ap, sym, subst, ◌∙◌, Ok, Err, IfOk, Result}
use Rattle.http_framing.specs.Stream.{Over}
use Rattle.http_framing.specs.Bodies.{IsChunked}
use Rattle.http_framing.specs.BodyReads.{BodyRead}
use Rattle.http_framing.specs.ChunkReads.{ChunkRead, SoFar, Adds}
use Rattle.http_framing.specs.Faults.{shifted}
use Rattle.http_framing.specs.declared.chunks.Step.{Step}
use Rattle.http_framing.specs.declared.chunks.Step.TheVariants.{More, Last}
use Rattle.http_framing.specs.declared.body.Body.{Body}
use Rattle.http_framing.specs.declared.body.Body.TheVariants as known
use Rattle.http_framing.specs.declared.fault.EdgeFault.{EdgeFault}
use Rattle.http_framing.proofs.ChunkJoins.{far_more, body_last, body_fault}
use Rattle.http_framing.proofs.Overs.{over_both, takes_both}
use Rattle.http_framing.proofs.chunks.read_chunked.Goals as goal

abbrev stop : EdgeFault → Result Body EdgeFault
stop f = Err f

pub loop-n-preserved : goal.loop-n-preserved
loop-n-preserved g c =
    let before = c.loop-n.body.items in
    let now = c.read_chunk.new.body.items in
    let n = c.in-Ok-More.n in
    let is : c.read_chunk.result ≡ Ok (More n) = c.in-Ok-More.is ∙ ap Ok c.in-Ok-More.field-0-is in
    let P : Result Step EdgeFault → Type 0 = λ r. Over (ChunkRead before now) c.loop-n.held (g.S.Source.left c.loop-n.source) c.read_chunk.new.held (g.S.Source.left c.read_chunk.new.source) r in
    let A : Result Step EdgeFault → Type 0 = λ r. IfOk r (Adds (length before) (length now)) in
    let adds : Adds (length before) (length now) (More n) = subst A is c.read_chunk.ensures.adds in
    record {
      far = over_both (SoFar before c.loop-n.gone) (ChunkRead before now) (SoFar now (c.loop-n.gone + n)) _ _ c.loop-n.held _ c.read_chunk.new.held _ tt (Ok (More n)) tt
          c.loop-n.invariant.far (subst P is c.read_chunk.ensures.chunk) (far_more before now c.loop-n.gone n);
      near = adds.1;
      few = omega (arith, c.loop-n.invariant.few, adds.0, adds.2);
      taken = takes_both _ _ _ c.loop-n.invariant.taken c.read_chunk.ensures.taken;
      later = omega (arith, c.loop-n.invariant.later, c.read_chunk.ensures.later);
      beside = c.read_chunk.ensures.beside ∙ c.loop-n.invariant.beside;
    }

pub returns-in-Ok-Last-clause-body : goal.returns-in-Ok-Last-clause-body
returns-in-Ok-Last-clause-body g c =
    let before = c.loop-n.body.items in
    let now = c.read_chunk.new.body.items in
    let is : c.read_chunk.result ≡ Ok Last = c.in-Ok-Last.is ∙ ap Ok c.in-Ok-Last.field-0-is in
    let P : Result Step EdgeFault → Type 0 = λ r. Over (ChunkRead before now) c.loop-n.held (g.S.Source.left c.loop-n.source) c.read_chunk.new.held (g.S.Source.left c.read_chunk.new.source) r in
    over_both (SoFar before c.loop-n.gone) (ChunkRead before now) (BodyRead IsChunked) _ _ c.loop-n.held _ c.read_chunk.new.held _ tt (Ok Last) (Ok (known.Read c.of.result))
    c.loop-n.invariant.far (subst P is c.read_chunk.ensures.chunk) (λ all m l n k. body_last before now c.of.result c.loop-n.gone all m l n k c.of.ensures c.loop-n.invariant.near)

pub returns-in-Ok-Last-clause-taken : goal.returns-in-Ok-Last-clause-taken
returns-in-Ok-Last-clause-taken g c = takes_both _ _ _ c.loop-n.invariant.taken c.read_chunk.ensures.taken

pub returns-in-Ok-TooLarge-clause-taken : goal.returns-in-Ok-TooLarge-clause-taken
returns-in-Ok-TooLarge-clause-taken g c = takes_both _ _ _ c.loop-n.invariant.taken c.read_chunk.ensures.taken

pub returns-in-Err-clause-body : goal.returns-in-Err-clause-body
returns-in-Err-clause-body g c =
    let before = c.loop-n.body.items in
    let now = c.read_chunk.new.body.items in
    let f = c.in-Err.fault in
    let P : EdgeFault → Type 0 = λ e. Over (BodyRead IsChunked) c.args.held.now (g.S.Source.left c.args.source.now) c.read_chunk.new.held (g.S.Source.left c.read_chunk.new.source) (Err e) in
    subst P (sym c.shifted.ensures)
    (over_both (SoFar before c.loop-n.gone) (ChunkRead before now) (BodyRead IsChunked) _ _ c.loop-n.held _ c.read_chunk.new.held _ tt (Err f) (stop (shifted c.loop-n.gone f))
    c.loop-n.invariant.far c.in-Err.ensures.chunk (λ all m l n k. body_fault f before now c.loop-n.gone all m l n k c.loop-n.invariant.near))

pub returns-in-Err-clause-taken : goal.returns-in-Err-clause-taken
returns-in-Err-clause-taken g c = takes_both _ _ _ c.loop-n.invariant.taken c.read_chunk.ensures.taken
