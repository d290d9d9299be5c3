use Rattle.std.proofs.Common.{◌≡◌, OnOk, rules}
use Rattle.keeper_core.specs.Lists.{put_by, is_deployment, deployment_behind}
use Rattle.keeper_core.specs.Places.{IsPlace}
use Rattle.keeper_core.proofs.Keys.{deployment_kept}
use Rattle.keeper_core.proofs.Putting.{within, put_by_at, on_ok_put, kept_by}
use Rattle.keeper_core.proofs.puts.put_deployment.Goals as goal

pub put_at-requires : goal.put_at-requires
put_at-requires c =
    let is : IsPlace (is_deployment c.args.row.api c.args.row.number) (deployment_behind c.args.row.api c.args.row.number) c.args.rows.now.items c.place_of_deployment-place.result = search rules in
    within (is_deployment c.args.row.api c.args.row.number) (deployment_behind c.args.row.api c.args.row.number) c.args.rows.now.items c.place_of_deployment-place.result is

pub returns-clause-ok : goal.returns-clause-ok
returns-clause-ok c =
    let is : IsPlace (is_deployment c.args.row.api c.args.row.number) (deployment_behind c.args.row.api c.args.row.number) c.args.rows.now.items c.place_of_deployment-place.result = search rules in
    on_ok_put _ _ _ c.put_at.result (put_by_at (is_deployment c.args.row.api c.args.row.number) (deployment_behind c.args.row.api c.args.row.number) c.args.row c.args.rows.now.items c.place_of_deployment-place.result is) c.put_at.ensures.ok

pub returns-clause-order : goal.returns-clause-order
returns-clause-order c =
    let is : IsPlace (is_deployment c.args.row.api c.args.row.number) (deployment_behind c.args.row.api c.args.row.number) c.args.rows.now.items c.place_of_deployment-place.result = search rules in
    let put : OnOk c.put_at.result (c.put_at.new.rows.items ≡ put_by (is_deployment c.args.row.api c.args.row.number) (deployment_behind c.args.row.api c.args.row.number) c.args.row c.args.rows.now.items) =
    on_ok_put _ _ _ c.put_at.result (put_by_at (is_deployment c.args.row.api c.args.row.number) (deployment_behind c.args.row.api c.args.row.number) c.args.row c.args.rows.now.items c.place_of_deployment-place.result is) c.put_at.ensures.ok in
    kept_by (λ row. deployment_behind row.api row.number) _ _ _ c.put_at.result c.requires (deployment_kept c.args.row c.args.rows.now.items c.requires)
    put c.put_at.ensures.err
