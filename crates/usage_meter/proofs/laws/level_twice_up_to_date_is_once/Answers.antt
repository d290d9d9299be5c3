use Rattle.usage_meter.proofs.LevelLemmas.{level_at-bucket_at}
use Rattle.usage_meter.proofs.laws.level_twice_up_to_date_is_once.Goals as goal

pub returns : goal.returns
returns c = level_at-bucket_at
