use Rattle.http_framing.proofs.BodyUnique.{chunked_unique}
use Rattle.http_framing.proofs.laws.a_chunked_body_is_one.Goals as goal

pub returns : goal.returns
returns c = λ bytes a b x y. chunked_unique a b bytes x y
