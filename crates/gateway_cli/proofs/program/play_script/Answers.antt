use Rattle.std.proofs.Common.{refl}
use Rattle.play_script.specs.Play.{session_limits}
use Rattle.gateway_cli.proofs.Scripts.{plays_says, plays_front, told_by_script, not_told_by_script}
use Rattle.gateway_cli.proofs.program.play_script.Goals as goal

pub returns-in-Ok-clause-answered : goal.returns-in-Ok-clause-answered
unfolding session_limits
returns-in-Ok-clause-answered g c = plays_says c.args.script.now _ _ _ c.in-Ok.status refl c.requires c.in-Ok.ensures.all

pub returns-in-Err-clause-front : goal.returns-in-Err-clause-front
unfolding session_limits
returns-in-Err-clause-front g c = plays_front c.args.script.now _ _ _ refl c.requires c.in-Err.ensures.front

pub returns-in-Err-clause-keeper : goal.returns-in-Err-clause-keeper
returns-in-Err-clause-keeper g c =
    λ e. told_by_script c.args.script.now c.in-Err.stop c.stop_of_play.result c.requires c.stop_of_play.ensures (λ s. c.in-Err.ensures.keeper (cc s)) (cc e)

pub returns-in-Err-clause-loaded : goal.returns-in-Err-clause-loaded
returns-in-Err-clause-loaded g c =
    λ e. not_told_by_script c.args.script.now c.in-Err.stop c.stop_of_play.result c.stop_of_play.ensures (λ s. c.in-Err.ensures.loaded (cc s)) (cc e)
