use Rattle.std.proofs.Common.{◌≡◌, ℕ, List, Err, ap, subst}
use Rattle.http_framing.specs.Stream.{Over}
use Rattle.http_edge.specs.Buffers.{Pending}
use Rattle.http_edge.specs.Replies.{Replies}
use Rattle.http_edge.proofs.ReplyJoins.{over_fault}
use Rattle.http_edge.proofs.reply.next_reply.Goals as goal

pub returns-in-Err-clause-next : goal.returns-in-Err-clause-next
returns-in-Err-clause-next g c = λ none.
    let bytes : Pending → List ℕ = λ p. p.bytes in
    let e : c.rest.inside.held ≡ c.args.rest.now.bytes = ap bytes c.rest.view_is in
    let P : List ℕ → Type 0 = λ l. Over (Replies c.args.bodiless) l (g.S.Source.left c.args.source.now) c.stop.new.self.bytes (g.S.Source.left c.reply.new.source) (Err c.in-Err.fault) in
    subst P e (over_fault c.args.bodiless _ _ c.reply.new.held _ _ c.in-Err.fault c.in-Err.ensures.next)
