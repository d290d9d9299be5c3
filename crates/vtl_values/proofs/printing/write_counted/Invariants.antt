use Rattle.std.proofs.Common.{◌≡◌, ◌≤◌, ◌++◌, length}
use Rattle.std.specs.String.{string_bytes}
use Rattle.vtl_values.proofs.Numbers.{rest}
use Rattle.vtl_values.proofs.printing.write_counted.Given as goal

abbrev pub invariant-loop-i : goal.invariant-loop-i
invariant-loop-i l = record {
  same : string_bytes l.text ++ rest l.fn.first l.fn.last l.i ≡ string_bytes l.fn.text ++ rest l.fn.first l.fn.last 0;
  fits : length (string_bytes l.text) ≤ l.most;
  longer : length (string_bytes l.fn.text) ≤ length (string_bytes l.text);
}
