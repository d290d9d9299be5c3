use Rattle.http_framing.proofs.BodyUnique.{known_unique}
use Rattle.http_framing.proofs.laws.a_known_body_is_one.Goals as goal

pub returns : goal.returns
returns c = λ n bytes a b x y. known_unique a b n bytes x y
