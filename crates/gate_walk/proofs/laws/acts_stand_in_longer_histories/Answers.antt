use Rattle.gate_walk.proofs.Standing.{stand_longer}
use Rattle.gate_walk.proofs.laws.acts_stand_in_longer_histories.Goals as goal

pub returns : goal.returns
returns c = stand_longer
