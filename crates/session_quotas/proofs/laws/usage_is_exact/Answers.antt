use Rattle.session_quotas.proofs.Telling.{usage_exact}
use Rattle.session_quotas.proofs.laws.usage_is_exact.Goals as goal

pub returns : goal.returns
returns c = usage_exact c.rows_follow_their_ledgers.ensures c.counts_are_conserved.ensures c.latest_is_early.ensures
