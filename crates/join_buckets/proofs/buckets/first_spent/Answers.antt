use Rattle.std.proofs.Common.{refl}
use Rattle.join_buckets.proofs.Each.{as_many}
use Rattle.join_buckets.proofs.buckets.first_spent.Goals as goal

pub loop-i-init : goal.loop-i-init
loop-i-init c = record { next = refl; many = as_many c.args.limits.now c.args.levels.now c.requires.levels; are = c.requires.levels }
