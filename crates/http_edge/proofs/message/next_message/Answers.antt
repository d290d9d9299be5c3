use Rattle.std.proofs.Common.{◌≡◌, ℕ, List, Err, ap, subst}
use Rattle.http_framing.specs.Stream.{Over}
use Rattle.http_edge.specs.Buffers.{Pending}
use Rattle.http_edge.specs.Messages.{Comes}
use Rattle.http_edge.proofs.Joins.{over_fault}
use Rattle.http_edge.proofs.message.next_message.Goals as goal

pub returns-in-Err-clause-next : goal.returns-in-Err-clause-next
returns-in-Err-clause-next g c = λ none.
    let bytes : Pending → List ℕ = λ p. p.bytes in
    let e : c.rest.inside.held ≡ c.args.rest.now.bytes = ap bytes c.rest.view_is in
    let P : List ℕ → Type 0 = λ l. Over Comes l (g.S.Source.left c.args.source.now) c.stop.new.self.bytes (g.S.Source.left c.message.new.source) (Err c.in-Err.fault) in
    subst P e (over_fault _ _ c.message.new.held _ _ c.in-Err.fault c.in-Err.ensures.next)
