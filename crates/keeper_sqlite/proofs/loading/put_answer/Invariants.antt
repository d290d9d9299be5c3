use Rattle.std.proofs.Common.{◌≡◌, take}
use Rattle.keeper_sqlite.specs.Answers.{IsPut}
use Rattle.keeper_sqlite.proofs.loading.put_answer.Given as goal

-- the rows so far are put
abbrev pub invariant-loop-values : goal.invariant-loop-values
invariant-loop-values l = record {
  number : l.number ≡ l.values-index;
  put : IsPut l.table (take l.values-index l.answer) l.initial.tables.lists l.tables.lists;
}
