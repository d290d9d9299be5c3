use Rattle.method_checks.proofs.Routed.{prefers_own}
use Rattle.method_checks.proofs.laws.an_own_entry_comes_before_any.Goals as goal

pub returns : goal.returns
returns c = prefers_own
