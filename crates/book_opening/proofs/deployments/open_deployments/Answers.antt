use Rattle.std.proofs.Common.{sym, refl, ◌∙◌}
use Rattle.book_rules.specs.Good.{takes_deployment}
use Rattle.book_rules.specs.Stored.{deployed_of}
use Rattle.book_opening.proofs.Walks.{read_goes_on, read_stops}
use Rattle.book_opening.proofs.deployments.open_deployments.Goals as goal

pub returns-in_default-clause-refused : goal.returns-in_default-clause-refused
returns-in_default-clause-refused c =
    let same = c.deployments-rows.ensures.rows in (
      refl,
      read_stops (takes_deployment c.args.tables.now.lists) deployed_of c.args.tables.now.lists.deployments c.loop-i.i c.loop-i.deployments.items c.index-rows-i.result (rw same at c.loop-i-test.true)
          (rw same at c.index-rows-i.is) (rw same at (sym c.in_default.is ∙ c.in_ok-deployment.ensures)) c.loop-i.invariant,
    )

pub loop-i-preserved : goal.loop-i-preserved
loop-i-preserved c =
    let same = c.deployments-rows.ensures.rows in
    let lists = c.args.tables.now.lists in
    let more =
    read_goes_on (takes_deployment lists) deployed_of lists.deployments c.loop-i.i c.loop-i.deployments.items c.index-rows-i.result c.in-Some.deployment (rw same at c.loop-i-test.true)
    (rw same at c.index-rows-i.is) (rw same at (sym c.in-Some.is ∙ c.in_ok-deployment.ensures)) c.loop-i.invariant in
    rw c.in_ok-push.ensures.items more
