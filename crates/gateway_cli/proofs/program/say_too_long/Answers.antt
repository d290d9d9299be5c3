use Rattle.gateway_cli.proofs.Scripts.{says_too_long, says_front_too_long}
use Rattle.gateway_cli.proofs.program.say_too_long.Goals as goal

pub returns-clause-answered : goal.returns-clause-answered
returns-clause-answered g c = λ script h. says_too_long c.say.result script _ _ h c.say.ensures.status c.say.ensures.all

pub returns-clause-front : goal.returns-clause-front
returns-clause-front g c = λ script h. says_front_too_long c.say.result script _ _ h c.say.ensures.front
