use Rattle.stage_canary.proofs.Overriding.{overrides}
use Rattle.stage_canary.proofs.laws.the_canary_overrides_by_name.Goals as goal

pub returns : goal.returns
returns c = overrides
