use Rattle.std.proofs.Common.{◌≡◌, ◌≤◌, ◌+◌, ◌-◌, ◌^◌, drop}
use Rattle.book_rules.specs.History.{capped, pairs_size}
use Rattle.book_core.proofs.sizes.pairs_size.Given as goal

-- the sum so far and that of what is left are that of all
abbrev pub invariant-loop-pair : goal.invariant-loop-pair
invariant-loop-pair l = record {
  so_far : capped (l.sum + pairs_size (drop l.pair-index l.pairs)) ≡ capped (pairs_size l.pairs);
  fits : l.sum ≤ 2 ^ 128 - 1;
}
