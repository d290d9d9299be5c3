use Rattle.usage_meter.proofs.WindowLemmas.{kept-least}
use Rattle.usage_meter.proofs.laws.kept_level_is_least_over_windows.Goals as goal

pub returns : goal.returns
returns c = kept-least
