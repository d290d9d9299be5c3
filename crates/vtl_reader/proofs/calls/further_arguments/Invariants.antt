use Rattle.std.proofs.Common.{◌≡◌, ◌+◌, length, map}
use Rattle.vtl_grammar.specs.Tree.{expr}
use Rattle.vtl_grammar.specs.Loops.{first, put_first, gather}
use Rattle.vtl_grammar.specs.Expressions.{reader, inside}
use Rattle.vtl_grammar.specs.Directives.{call_turn}
use Rattle.vtl_reader.specs.Nodes.{expr_of, AllBelow, Keeps}
use Rattle.vtl_reader.specs.Views.{joined}
use Rattle.vtl_reader.proofs.calls.further_arguments.Given as goal

abbrev pub invariant-loop-fuel : goal.invariant-loop-fuel
invariant-loop-fuel l = record {
  so_far :
      joined expr (map (expr_of l.arena.exprs) l.ids.items) (gather (first expr) (call_turn (reader l.names (inside l.names l.inner))) l.fuel l.rest)
      ≡ put_first expr (expr_of l.fn.arena.exprs l.one) (gather (first expr) (call_turn (reader l.names (inside l.names l.inner))) (length l.bs + 1) l.bs);
  kept : Keeps l.fn.arena l.arena;
  below : AllBelow (length l.arena.exprs) l.ids.items;
}

abbrev pub decreases-loop-fuel : goal.decreases-loop-fuel
decreases-loop-fuel l = l.fuel
