use Rattle.std.proofs.Common.{refl}
use Rattle.play_script.specs.Play.{session_limits}
use Rattle.gateway_cli.proofs.Loads.{loads_says, loads_front}
use Rattle.gateway_cli.proofs.loading.load.Goals as goal

pub returns-in-Ok-clause-answered : goal.returns-in-Ok-clause-answered
unfolding session_limits
returns-in-Ok-clause-answered g c = loads_says _ _ _ _ _ c.in-Ok.status refl c.in-Ok.ensures.all

pub returns-in-Err-clause-front : goal.returns-in-Err-clause-front
unfolding session_limits
returns-in-Err-clause-front g c = loads_front _ _ _ _ _ refl c.in-Err.ensures.front
