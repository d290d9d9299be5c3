use Rattle.gate_walk.proofs.Once.{comes_to_one_thing}
use Rattle.gate_walk.proofs.laws.a_connection_comes_to_one_thing.Goals as goal

pub returns : goal.returns
returns c = comes_to_one_thing
