use Rattle.remembered_policies.proofs.Recalling.{nothing_else}
use Rattle.remembered_policies.proofs.laws.nothing_else_is_remembered.Goals as goal

pub returns : goal.returns
returns c = nothing_else
