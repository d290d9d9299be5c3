use Rattle.std.proofs.Common.{refl}
use Rattle.gateway_cli.proofs.Admins.{ends_over_if, cut_over}
use Rattle.gateway_cli.proofs.administering.refuse.Goals as goal

pub returns-clause-ends : goal.returns-clause-ends
returns-clause-ends g c = λ lines h. ends_over_if c.say.result c.args.store.now lines _ _ _ _ h refl c.say.ensures.status c.say.ensures.all

pub returns-clause-cut : goal.returns-clause-cut
returns-clause-cut g c = λ lines h. cut_over c.args.store.now lines _ _ _ _ h refl c.say.ensures.front
