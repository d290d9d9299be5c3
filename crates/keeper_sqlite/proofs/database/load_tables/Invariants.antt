use Rattle.std.proofs.Common.{◌≡◌, false}
use Rattle.keeper_sqlite.proofs.database.load_tables.Given as goal

-- no transaction is open
abbrev pub invariant-loop-table : goal.invariant-loop-table
invariant-loop-table g l = l.conn.in_transaction ≡ false
