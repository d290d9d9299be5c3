use Rattle.gateway_vars.specs.Meanings.{meanings_of, response_held}
use Rattle.gateway_vars.specs.declared.slots.Side.TheVariants as sides
use Rattle.method_flow.specs.Answers.{budget}
use Rattle.vtl_eval.specs.Meaning.{rendering}
use Rattle.vtl_grammar.specs.Expanded.{expanded}
use Rattle.vtl_grammar.specs.Templates.{tree_of}
use Rattle.integration_flow.specs.Rendering.{run}
use Rattle.integration_flow.proofs.Renders.{made_from, met_from}
use Rattle.integration_flow.proofs.rendering.run.Goals as goal

pub returns-clause-made : goal.returns-clause-made
unfolding run budget
returns-clause-made c = made_from c.render.result (rendering 1000000 (meanings_of sides.Response (response_held c.args.roots.now)) (expanded (tree_of c.args.template.now))) _ _ c.requires c.render.ensures.made

pub returns-clause-stop : goal.returns-clause-stop
unfolding run budget
returns-clause-stop c = met_from c.render.result (rendering 1000000 (meanings_of sides.Response (response_held c.args.roots.now)) (expanded (tree_of c.args.template.now))) _ _ c.requires c.render.ensures.stop
