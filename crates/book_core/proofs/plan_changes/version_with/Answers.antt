use Rattle.std.proofs.Common.{arith, ◌≡◌, ◌≤◌, subst, IfSome}
use Rattle.std.specs.Option.{option_copied}
use Rattle.book_rules.specs.Fits.{IsFitPlan}
use Rattle.book_rules.specs.Limits.{most_versions}
use Rattle.book_core.proofs.plan_changes.version_with.Goals as goal

pub overflow_add-result : goal.overflow_add-result
unfolding most_versions
overflow_add-result c =
    let fit : IsFitPlan c.in-Some.row.now = subst (λ found. IfSome (option_copied found) IsFitPlan) c.in-Some.is c.requires.fits in
    let v : c.in-Some.row.now.tversion ≤ 9223372036854775807 = fit.version in
    omega (arith, v)
