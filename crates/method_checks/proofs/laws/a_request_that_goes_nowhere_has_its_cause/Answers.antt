use Rattle.method_checks.proofs.Routed.{misses_with_cause}
use Rattle.method_checks.proofs.laws.a_request_that_goes_nowhere_has_its_cause.Goals as goal

pub returns : goal.returns
returns c = misses_with_cause
