use Rattle.std.proofs.Common.{false, sym, subst, Result, List, ℕ}
use Rattle.http_framing.specs.Bodies.{IsKnown, IsChunked}
use Rattle.http_framing.specs.BodyReads.{BodyRead}
use Rattle.http_framing.specs.Stream.{Over}
use Rattle.http_framing.specs.declared.framing.Framing.{Framing}
use Rattle.http_framing.specs.declared.framing.Framing.TheVariants.{Known, Chunked}
use Rattle.http_framing.specs.declared.fault.EdgeFault.{EdgeFault}
use Rattle.http_framing.proofs.Overs.{over_to}
use Rattle.http_edge.specs.Replies.{kept}
use Rattle.http_edge.specs.ReplyReads.{ReplyBodyRead}
use Rattle.http_edge.proofs.ReplyJoins.{said_known, said_chunked}
use Rattle.http_edge.proofs.reply.read_said.Goals as goal

pub returns-in-Known-clause-body : goal.returns-in-Known-clause-body
returns-in-Known-clause-body g c =
    let n = c.in-Known.n in
    let left = g.S.Source.left in
    let P : Framing → Type 0 = λ f. Over (ReplyBodyRead false f) c.args.held.now (left c.args.source.now) c.read_known.new.held (left c.read_known.new.source) c.kept.result in
    let Q : Result (List ℕ) EdgeFault → Type 0 = λ r. Over (ReplyBodyRead false (Known n)) c.args.held.now (left c.args.source.now) c.read_known.new.held (left c.read_known.new.source) r in
    subst P (sym c.in-Known.is) (subst Q (sym c.kept.ensures)
    (over_to (BodyRead (IsKnown n)) (ReplyBodyRead false (Known n)) _ _ c.read_known.new.held _ c.read_known.result (kept c.read_known.result) c.read_known.ensures.body (said_known n c.read_known.result)))

pub returns-in-Chunked-clause-body : goal.returns-in-Chunked-clause-body
returns-in-Chunked-clause-body g c =
    let left = g.S.Source.left in
    let P : Framing → Type 0 = λ f. Over (ReplyBodyRead false f) c.args.held.now (left c.args.source.now) c.read_chunked.new.held (left c.read_chunked.new.source) c.kept-in-Chunked.result in
    let Q : Result (List ℕ) EdgeFault → Type 0 = λ r. Over (ReplyBodyRead false Chunked) c.args.held.now (left c.args.source.now) c.read_chunked.new.held (left c.read_chunked.new.source) r in
    subst P (sym c.in-Chunked.is) (subst Q (sym c.kept-in-Chunked.ensures)
    (over_to (BodyRead IsChunked) (ReplyBodyRead false Chunked) _ _ c.read_chunked.new.held _ c.read_chunked.result (kept c.read_chunked.result) c.read_chunked.ensures.body (said_chunked c.read_chunked.result)))
