use Rattle.std.proofs.Common.{sym, length, eqb-true}
use Rattle.http_framing.proofs.RoomLemmas.{nothing_is_unfinished}
use Rattle.http_framing.proofs.request_head.read_front.Goals as goal

pub returns-then-is_empty : goal.returns-then-is_empty
returns-then-is_empty c = nothing_is_unfinished c.args.buf.now (eqb-true (length c.args.buf.now) 0 (sym c.if-is_empty.ensures))
