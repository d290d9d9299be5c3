use Rattle.http_edge.proofs.ReplyUnique.{reply_unique}
use Rattle.http_edge.proofs.laws.bytes_have_one_reply.Goals as goal

pub returns : goal.returns
returns c = λ bodiless bytes a b x y. reply_unique bodiless a b bytes x y
