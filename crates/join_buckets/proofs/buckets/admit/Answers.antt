use Rattle.std.proofs.Common.{false, refl, ◌∙◌}
use Rattle.join_buckets.specs.Buckets.{level_behind}
use Rattle.join_buckets.specs.declared.limit.Limit.{Limit}
use Rattle.join_buckets.proofs.Each.{are_with, as_many, filled_at, many_with, one_more, throttle_at}
use Rattle.join_buckets.proofs.buckets.admit.Goals as goal

pub loop-i-init : goal.loop-i-init
loop-i-init c = record { done = refl; are = c.requires.levels; many = as_many c.args.limits.now c.args.levels.now c.requires.levels }

pub level_behind-requires-clause-throttle : goal.level_behind-requires-clause-throttle
level_behind-requires-clause-throttle c = throttle_at c.args.limits.now c.loop-i.levels c.loop-i.i _ c.loop-i.invariant.are c.loop-i-test.true

pub level_behind-requires-clause-filled : goal.level_behind-requires-clause-filled
level_behind-requires-clause-filled c = filled_at c.args.limits.now c.loop-i.levels c.loop-i.i _ c.loop-i.invariant.are c.loop-i-test.true

pub loop-i-preserved : goal.loop-i-preserved
loop-i-preserved c =
    let none : Limit = record { throttle = record { rate = 0; burst = 0 }; applies = false } in
    record {
      done = rw (← c.level_behind.ensures.value) at (one_more (λ limit level. level_behind limit level c.args.at c.args.t) c.args.limits.now c.loop-i.levels c.loop-i.i none c.loop-i.invariant.are c.loop-i-test.true) ∙ c.loop-i.invariant.done;
      are = are_with c.args.limits.now c.loop-i.levels c.loop-i.i c.level_behind.result _ c.loop-i.invariant.are c.loop-i-test.true c.level_behind.ensures.filled;
      many = many_with c.loop-i.levels c.loop-i.i c.level_behind.result ∙ c.loop-i.invariant.many;
    }
