use Rattle.std.proofs.Common.{arith, ap, ◌∙◌, Err, length}
use Rattle.http_framing.proofs.RoomLemmas.{exceeds_long}
use Rattle.http_framing.proofs.request_head.front_in.Goals as goal

pub returns-in-Err-TooManyHeaders-clause-none : goal.returns-in-Err-TooManyHeaders-clause-none
returns-in-Err-TooManyHeaders-clause-none c = λ _.
    let too_many = c.parse_request.ensures.too_many (c.in-Err-TooManyHeaders.is ∙ ap Err c.in-Err-TooManyHeaders.field-0-is) in
    omega (arith, c.requires, exceeds_long (length c.args.room.now) c.args.buf.now too_many)
