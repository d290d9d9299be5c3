use Rattle.std.proofs.Common.{◌≡◌, ◌≤◌, ◌+◌, ◌-◌, ◌^◌, drop}
use Rattle.std.specs.Prelude.{sum_by}
use Rattle.book_rules.specs.History.{capped, statement_size}
use Rattle.book_core.proofs.sizes.statements_size.Given as goal

-- the sum so far and that of what is left are that of all
abbrev pub invariant-loop-statement : goal.invariant-loop-statement
invariant-loop-statement l = record {
  so_far : capped (l.sum + sum_by statement_size (drop l.statement-index l.statements)) ≡ capped (sum_by statement_size l.statements);
  fits : l.sum ≤ 2 ^ 128 - 1;
}
