use Rattle.std.proofs.Common.{subst}
use Rattle.policy_core.specs.Decisions.{Decides}
use Rattle.policy_core.proofs.Decided.{decides, decided}
use Rattle.policy_core.proofs.laws.the_first_covering_statement_decides.Goals as goal

pub returns : goal.returns
returns c = λ policy arn d. (λ e. subst (Decides policy arn) e (decides policy arn), decided policy arn d)
