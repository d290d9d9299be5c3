use Rattle.std.proofs.Common.{Ok, Err, sym, subst, Result}
use Rattle.http_framing.specs.BodyReads.{BodyRead}
use Rattle.http_framing.specs.Stream.{Over}
use Rattle.http_framing.specs.declared.fault.EdgeFault.{EdgeFault}
use Rattle.http_framing.proofs.Overs.{over_both, over_to, takes_both}
use Rattle.http_edge.specs.Messages.{Comes, IsRequestBody}
use Rattle.http_edge.specs.Reads.{HeadRead, ended, told}
use Rattle.http_edge.specs.declared.incoming.Incoming.{Incoming}
use Rattle.http_edge.proofs.Joins.{head_ended, body_comes}
use Rattle.http_edge.proofs.message.message.Goals as goal

pub returns-in-Ok-clause-next : goal.returns-in-Ok-clause-next
returns-in-Ok-clause-next g c =
    let b = c.in-Ok.begun in
    let P : Result Incoming EdgeFault → Type 0 = λ r. Over Comes c.args.held.now (g.S.Source.left c.args.source.now) c.read_body.new.held (g.S.Source.left c.read_body.new.source) r in
    subst P (sym c.told.ensures)
    (over_both HeadRead (BodyRead (IsRequestBody b.framing)) Comes _ _ c.read_head.new.held _ c.read_body.new.held _ (Ok b) c.read_body.result (told b.request b.len c.read_body.result)
    c.in-Ok.ensures.head c.read_body.ensures.body (body_comes b c.read_body.result))

pub returns-in-Ok-clause-taken : goal.returns-in-Ok-clause-taken
returns-in-Ok-clause-taken g c = takes_both _ _ _ c.read_head.ensures.taken c.read_body.ensures.taken

pub returns-in-Err-clause-next : goal.returns-in-Err-clause-next
returns-in-Err-clause-next g c =
    let P : Result Incoming EdgeFault → Type 0 = λ r. Over Comes c.args.held.now (g.S.Source.left c.args.source.now) c.read_head.new.held (g.S.Source.left c.read_head.new.source) r in
    subst P (sym c.ended.ensures)
    (over_to HeadRead Comes _ _ c.read_head.new.held _ (Err c.in-Err.fault) (ended c.in-Err.fault) c.in-Err.ensures.head (head_ended c.in-Err.fault))
