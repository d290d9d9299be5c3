use Rattle.usage_meter.proofs.WindowLemmas.{attempts-kept}
use Rattle.usage_meter.proofs.laws.attempts_are_admitted_by_windows.Goals as goal

pub returns : goal.returns
returns c = attempts-kept
