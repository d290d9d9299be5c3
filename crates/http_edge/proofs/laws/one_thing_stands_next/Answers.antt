use Rattle.http_edge.proofs.NextUnique.{next_unique}
use Rattle.http_edge.proofs.laws.one_thing_stands_next.Goals as goal

pub returns : goal.returns
returns c = λ bytes a b x y. next_unique a b bytes x y
