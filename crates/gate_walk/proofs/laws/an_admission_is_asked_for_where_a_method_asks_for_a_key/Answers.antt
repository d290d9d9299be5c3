use Rattle.gate_walk.proofs.Asked.{asks_where_keyed}
use Rattle.gate_walk.proofs.laws.an_admission_is_asked_for_where_a_method_asks_for_a_key.Goals as goal

pub returns : goal.returns
returns c = asks_where_keyed
