use Rattle.std.proofs.Common.{rules, ◌≡◌, ap, ◌∙◌, sym}
use Rattle.book_rules.specs.Stored.{definition_of, deployed_of}
use Rattle.book_opening.specs.Ready.{standing_of}
use Rattle.keeper_core.specs.Lists.{is_api, api_behind, is_deployment, deployment_behind, is_stage, stage_behind}
use Rattle.keeper_core.specs.Places.{row_at}
use Rattle.book_core.proofs.Found.{held_at}
use Rattle.book_core.proofs.finds.find_stage.Goals as goal

pub returns : goal.returns
returns c =
    c.item_at.ensures ∙ ap (row_at c.place_of_stage.result) c.deref.ensures.value
    ∙ held_at standing_of (is_stage c.args.api.now c.args.stage.now) (stage_behind c.args.api.now c.args.stage.now) c.args.tables.now.lists.stages c.args.ready.now.stages.items c.place_of_stage.result c.place_of_stage.ensures c.requires.ready.stages
