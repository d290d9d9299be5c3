use Rattle.gate_walk.proofs.Asked.{stands_behind_an_admit}
use Rattle.gate_walk.proofs.laws.a_kind_of_admission_stands_behind_an_admit.Goals as goal

pub returns : goal.returns
returns c = stands_behind_an_admit
