use Rattle.promoted_stages.proofs.Promoting.{calls_see}
use Rattle.promoted_stages.proofs.laws.calls_see_what_the_canary_saw.Goals as goal

pub returns : goal.returns
returns c = calls_see
