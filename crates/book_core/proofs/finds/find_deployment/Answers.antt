use Rattle.std.proofs.Common.{rules, ◌≡◌, ap, ◌∙◌, sym}
use Rattle.book_rules.specs.Stored.{definition_of, deployed_of}
use Rattle.book_opening.specs.Ready.{standing_of}
use Rattle.keeper_core.specs.Lists.{is_api, api_behind, is_deployment, deployment_behind, is_stage, stage_behind}
use Rattle.keeper_core.specs.Places.{row_at}
use Rattle.book_core.proofs.Found.{held_at}
use Rattle.book_core.proofs.finds.find_deployment.Goals as goal

pub returns : goal.returns
returns c =
    c.item_at.ensures ∙ ap (row_at c.place_of_deployment.result) c.deref.ensures.value
    ∙ held_at deployed_of (is_deployment c.args.api.now c.args.number) (deployment_behind c.args.api.now c.args.number) c.args.tables.now.lists.deployments c.args.ready.now.deployments.items c.place_of_deployment.result c.place_of_deployment.ensures c.requires.ready.deployments
