use Rattle.std.proofs.Common.{◌≡◌, true, subst}
use Rattle.resource_tree.specs.Matching.{params, path_at}
use Rattle.resource_tree.specs.Sharing.{greedy_last}
use Rattle.resource_tree.proofs.Values.{each_filled}
use Rattle.resource_tree.proofs.found.Found.fill.Goals as goal

pub returns-clause-each : goal.returns-clause-each
returns-clause-each c name h =
    let parts = path_at c.args.tree.now c.args.hit.resource in
    let last : greedy_last parts ≡ true = subst (λ ps. greedy_last ps ≡ true) c.path.ensures.parts c.path.ensures.last in
    let is : c.of.result ≡ params parts c.args.segments.now = cc c.in_ok-params.ensures in
    each_filled parts c.args.segments.now c.of.result is last c.requires.matched name h
