use Rattle.std.proofs.Common.{◌≡◌, ℕ, ◌+◌, ◌<◌, false, get_or, length}
use Rattle.pattern_core.specs.Search.{anchored}
use Rattle.status_table.specs.Statuses.{takes}
use Rattle.status_table.proofs.table.answers.Given as goal

abbrev pub invariant-loop-n : goal.invariant-loop-n
invariant-loop-n l = record {
  searcher : l.searcher ≡ anchored l.pattern;
  all : length l.answers.items ≡ l.n;
  each : (k : ℕ) → k < l.n → get_or l.answers.items k false ≡ takes l.pattern (100 + k);
}
