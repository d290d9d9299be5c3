use Rattle.usage_meter.proofs.WindowLemmas.{windows_cover}
use Rattle.usage_meter.proofs.laws.no_window_is_overdrawn.Goals as goal

pub returns : goal.returns
returns c = windows_cover
