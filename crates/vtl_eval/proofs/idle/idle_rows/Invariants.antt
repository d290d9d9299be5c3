use Rattle.std.proofs.Common.{◌≡◌, ◌<◌, ℕ, List, length}
use Rattle.std.specs.Prelude.{slice_get}
use Rattle.vtl_reader.specs.Macros.{macros_by}
use Rattle.vtl_eval.specs.Idle.{idle_call, by_place, row_at, row_in}
use Rattle.vtl_eval.proofs.idle.idle_rows.Given as goal

abbrev pub invariant-loop-inside : goal.invariant-loop-inside
invariant-loop-inside l = record {
  count : length l.rows.items ≡ l._inside;
  rows : (n : ℕ) (x : List ℕ) → n < length l.rows.items → by_place (row_in (slice_get l.rows.items n)) l.macros.names x ≡ idle_call (macros_by l.arena l.macros) n x;
  row : (x : List ℕ) → by_place (row_at l.row.items) l.macros.names x ≡ idle_call (macros_by l.arena l.macros) l._inside x;
}
