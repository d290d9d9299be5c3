use Rattle.keeper_core.proofs.Keys.{in_order}
use Rattle.keeper_core.proofs.laws.lists_stay_in_order.Goals as goal

pub returns : goal.returns
returns c = in_order
