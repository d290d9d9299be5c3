use Rattle.std.proofs.Common.{◌≡◌, rules, sym, subst}
use Rattle.policy_core.specs.declared.policy.Decision.TheVariants.{Allow, Deny, NoAllow}
use Rattle.policy_core.specs.Decisions.{Decides, decision}
use Rattle.policy_core.proofs.Decided.{decides}
use Rattle.policy_core.proofs.decision.decide.Goals as goal

pub returns-in-Some-clause-decides : goal.returns-in-Some-clause-decides
unfolding decision
returns-in-Some-clause-decides c =
    let e : Deny c.in-Some.at ≡ decision c.args.policy.now c.args.arn.now = search rules in
    subst (Decides c.args.policy.now c.args.arn.now) (sym e) (decides c.args.policy.now c.args.arn.now)

pub returns-in-Some-first_covering-clause-decides : goal.returns-in-Some-first_covering-clause-decides
unfolding decision
returns-in-Some-first_covering-clause-decides c =
    let e : Allow c.in-Some-first_covering.at ≡ decision c.args.policy.now c.args.arn.now = search rules in
    subst (Decides c.args.policy.now c.args.arn.now) (sym e) (decides c.args.policy.now c.args.arn.now)

pub returns-in-None-clause-decides : goal.returns-in-None-clause-decides
unfolding decision
returns-in-None-clause-decides c =
    let e : NoAllow ≡ decision c.args.policy.now c.args.arn.now = search rules in
    subst (Decides c.args.policy.now c.args.arn.now) (sym e) (decides c.args.policy.now c.args.arn.now)
