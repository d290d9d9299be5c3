use Rattle.std.proofs.Common.{◌≡◌, ◌≤◌, ◌+◌, ◌-◌, ◌^◌, drop}
use Rattle.book_rules.specs.History.{capped, texts_size}
use Rattle.book_core.proofs.sizes.texts_size.Given as goal

-- the sum so far and that of what is left are that of all
abbrev pub invariant-loop-text : goal.invariant-loop-text
invariant-loop-text l = record {
  so_far : capped (l.sum + texts_size (drop l.text-index l.texts)) ≡ capped (texts_size l.texts);
  fits : l.sum ≤ 2 ^ 128 - 1;
}
