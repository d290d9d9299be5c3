use Rattle.join_buckets.proofs.Kept.{each_level_is_least}
use Rattle.join_buckets.proofs.laws.each_level_is_least_over_its_own_admissions.Goals as goal

pub returns : goal.returns
returns c = each_level_is_least
