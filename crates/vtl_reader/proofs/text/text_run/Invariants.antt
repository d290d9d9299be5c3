use Rattle.std.proofs.Common.{◌≡◌, ◌+◌, ◌≤◌, [], length}
use Rattle.std.specs.Prelude.{IfSome}
use Rattle.vtl_grammar.specs.Fronts.{text_run}
use Rattle.vtl_reader.proofs.text.text_run.Given as goal

abbrev pub invariant-loop-fuel : goal.invariant-loop-fuel
invariant-loop-fuel l = record {
  so_far : text_run l.names l.fuel l.text.items l.line l.rest ≡ text_run l.names (length l.bs + 1) [] l.fn.start l.bs;
  small : IfSome l.line (λ n. n ≤ length l.text.items);
}

abbrev pub decreases-loop-fuel : goal.decreases-loop-fuel
decreases-loop-fuel l = l.fuel
