use Rattle.gate_walk.proofs.Asked.{admits_once}
use Rattle.gate_walk.proofs.laws.a_way_asks_for_one_admission.Goals as goal

pub returns : goal.returns
returns c = admits_once
