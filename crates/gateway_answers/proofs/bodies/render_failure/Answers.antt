use Rattle.method_flow.specs.Answers.{budget}
use Rattle.method_flow.proofs.Renders.{made_is, met_is}
use Rattle.gateway_answers.proofs.bodies.render_failure.Goals as goal

pub returns-clause-made : goal.returns-clause-made
unfolding budget
returns-clause-made c = made_is c.render.result _ _ c.render.ensures.made

pub returns-clause-stop : goal.returns-clause-stop
unfolding budget
returns-clause-stop c = met_is c.render.result _ _ c.render.ensures.stop
