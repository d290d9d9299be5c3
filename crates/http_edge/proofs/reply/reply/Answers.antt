use Rattle.std.proofs.Common.{◌||◌, refl, sym, subst, Bool, Ok, Err, Result}
use Rattle.call_facts.specs.declared.request.WireReply.{WireReply}
use Rattle.http_framing.specs.Faults.{shifted}
use Rattle.http_framing.specs.Stream.{Over}
use Rattle.http_framing.specs.declared.fault.EdgeFault.{EdgeFault}
use Rattle.http_framing.proofs.Overs.{over_both, over_to, takes_both}
use Rattle.http_edge.specs.Replies.{Replies}
use Rattle.http_edge.specs.ReplyReads.{FinalRead, ReplyBodyRead}
use Rattle.http_edge.specs.Statuses.{is_bare}
use Rattle.http_edge.proofs.ReplyJoins.{reply_done, reply_fault, reply_lacks}
use Rattle.http_edge.proofs.reply.reply.Goals as goal

abbrev stop : EdgeFault → Result WireReply EdgeFault
stop f = Err f

pub returns-in-Err-clause-next : goal.returns-in-Err-clause-next
returns-in-Err-clause-next g c =
    over_to FinalRead (Replies c.args.bodiless) _ _ c.read_final_head.new.held _ (Err c.in-Err.fault) (stop c.in-Err.fault) c.in-Err.ensures.head (reply_lacks c.in-Err.fault c.args.bodiless)

pub returns-in-Ok-read_reply_body-clause-taken : goal.returns-in-Ok-read_reply_body-clause-taken
returns-in-Ok-read_reply_body-clause-taken g c = takes_both _ _ _ c.read_final_head.ensures.taken c.read_reply_body.ensures.taken

pub returns-in-Err-read_reply_body-clause-taken : goal.returns-in-Err-read_reply_body-clause-taken
returns-in-Err-read_reply_body-clause-taken g c = takes_both _ _ _ c.read_final_head.ensures.taken c.read_reply_body.ensures.taken

pub returns-in-Ok-read_reply_body-clause-next : goal.returns-in-Ok-read_reply_body-clause-next
returns-in-Ok-read_reply_body-clause-next g c =
    let b = c.in-Ok.begun in
    let left = g.S.Source.left in
    let body = c.in-Ok-read_reply_body.body in
    let B : Bool → Type 0 = λ t. Over (ReplyBodyRead t b.framing) c.read_final_head.new.held (left c.read_final_head.new.source) c.read_reply_body.new.held (left c.read_reply_body.new.source) (Ok body) in
    over_both FinalRead (ReplyBodyRead (c.args.bodiless || is_bare b.status) b.framing) (Replies c.args.bodiless) _ _ c.read_final_head.new.held _ c.read_reply_body.new.held _ (Ok b) (Ok body) (Ok (record { status = b.status; headers = b.headers; body = body }))
    c.in-Ok.ensures.head (subst B c.has_none-bare.ensures c.in-Ok-read_reply_body.ensures.body) (λ all m l n k. reply_done c.args.bodiless b body (record { status = b.status; headers = b.headers; body = body }) all m l n k refl)

pub returns-in-Err-read_reply_body-clause-next : goal.returns-in-Err-read_reply_body-clause-next
returns-in-Err-read_reply_body-clause-next g c =
    let b = c.in-Ok.begun in
    let left = g.S.Source.left in
    let f = c.in-Err-read_reply_body.fault in
    let B : Bool → Type 0 = λ t. Over (ReplyBodyRead t b.framing) c.read_final_head.new.held (left c.read_final_head.new.source) c.read_reply_body.new.held (left c.read_reply_body.new.source) (Err f) in
    let P : EdgeFault → Type 0 = λ e. Over (Replies c.args.bodiless) c.args.held.now (left c.args.source.now) c.read_reply_body.new.held (left c.read_reply_body.new.source) (Err e) in
    subst P (sym c.shifted.ensures)
    (over_both FinalRead (ReplyBodyRead (c.args.bodiless || is_bare b.status) b.framing) (Replies c.args.bodiless) _ _ c.read_final_head.new.held _ c.read_reply_body.new.held _ (Ok b) (Err f) (stop (shifted b.len f))
    c.in-Ok.ensures.head (subst B c.has_none-bare.ensures c.in-Err-read_reply_body.ensures.body) (reply_fault f c.args.bodiless b))
