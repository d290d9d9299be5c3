use Rattle.std.proofs.Common.{rules}
use Rattle.keeper_core.specs.Lists.{is_deployment, deployment_behind}
use Rattle.keeper_core.specs.Places.{IsPlace}
use Rattle.keeper_core.proofs.Putting.{found_at}
use Rattle.keeper_core.proofs.tables.Tables.deployment.Goals as goal

pub returns : goal.returns
returns c =
    let is : IsPlace (is_deployment c.args.api.now c.args.number) (deployment_behind c.args.api.now c.args.number) c.args.self.now.lists.deployments c.place_of_deployment.result = search rules in
    let found = found_at (is_deployment c.args.api.now c.args.number) (deployment_behind c.args.api.now c.args.number) c.args.self.now.lists.deployments c.place_of_deployment.result is in
    search rules
