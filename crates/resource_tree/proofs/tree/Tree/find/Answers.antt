use Rattle.std.proofs.Common.{◌∙◌, subst}
use Rattle.resource_tree.specs.Matching.{IsBest, IsTable}
use Rattle.resource_tree.proofs.Unique.{one_best}
use Rattle.resource_tree.proofs.tree.Tree.find.Goals as goal

pub returns-clause-only : goal.returns-clause-only
returns-clause-only c = λ at best.
    one_best c.args.self.now c.args.segments.now c.in_ok-at.at at (subst IsTable c.self.view_is c.self.invariant.table)
    (subst (λ paths. IsBest paths c.args.segments.now c.in_ok-at.at) (c.as_slice.ensures.value ∙ c.self.view_is) c.in_ok-at.ensures.best)
    best
