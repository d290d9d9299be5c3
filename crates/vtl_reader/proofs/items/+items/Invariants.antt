use Rattle.std.proofs.Common.{◌≡◌, ◌+◌, ◌*◌, ◌<◌, [], length, map}
use Rattle.vtl_grammar.specs.Tree.{item}
use Rattle.vtl_grammar.specs.Loops.{first, gather}
use Rattle.vtl_grammar.specs.Items.{items, with_items, item_turn, branches, with_branch, branch_turn, below}
use Rattle.vtl_reader.specs.Nodes.{expr_of, item_of, branch_made, AllBelow, BranchesBelow, Keeps}
use Rattle.vtl_reader.specs.Blocks.{around_of, IsFresh}
use Rattle.vtl_reader.specs.Views.{joined}
use Rattle.vtl_reader.proofs.items.+items.Given as goal

abbrev pub decreases-read_items : goal.decreases-read_items
decreases-read_items l = 10 * l.level + 9

abbrev pub decreases-read_turn : goal.decreases-read_turn
decreases-read_turn l = 10 * l.level + 8

abbrev pub decreases-read_item : goal.decreases-read_item
decreases-read_item l = 10 * l.level + 7

abbrev pub decreases-read_directive : goal.decreases-read_directive
decreases-read_directive l = 10 * l.level + 6

abbrev pub decreases-read_if : goal.decreases-read_if
decreases-read_if l = 10 * l.level + 4

abbrev pub decreases-read_foreach : goal.decreases-read_foreach
decreases-read_foreach l = 10 * l.level + 4

abbrev pub decreases-read_macro : goal.decreases-read_macro
decreases-read_macro l = 10 * l.level + 4

abbrev pub decreases-read_branches : goal.decreases-read_branches
decreases-read_branches l = 10 * l.level + 12

abbrev pub decreases-read_branch : goal.decreases-read_branch
decreases-read_branch l = 10 * l.level + 11

abbrev pub decreases-read_block : goal.decreases-read_block
decreases-read_block l = 10 * l.level + 10

abbrev pub decreases-read_items-loop-fuel : goal.decreases-read_items-loop-fuel
decreases-read_items-loop-fuel l = l.fuel

abbrev pub decreases-read_branches-loop-fuel : goal.decreases-read_branches-loop-fuel
decreases-read_branches-loop-fuel l = l.fuel

abbrev pub invariant-read_branches-loop-fuel : goal.invariant-read_branches-loop-fuel
invariant-read_branches-loop-fuel l = record {
  so_far :
      joined with_branch (map (branch_made (expr_of l.arena.exprs) (item_of l.arena)) l.branches.items) (gather (first with_branch) (branch_turn (items (below l.names l.level)) (around_of [] l.around)) l.fuel (expr_of l.arena.exprs l.condition, (l.line, l.rest)))
      ≡ branches (items (below l.names l.level)) (around_of [] l.around) l.most (expr_of l.fn.arena.exprs l.first, (l.fn.start, l.bs));
  kept : Keeps l.fn.arena l.arena;
  below : BranchesBelow (length l.arena.exprs) (length l.arena.items) l.branches.items;
  stands : l.condition < length l.arena.exprs;
  fresh : IsFresh l.line;
}

abbrev pub invariant-read_items-loop-fuel : goal.invariant-read_items-loop-fuel
invariant-read_items-loop-fuel l = record {
  so_far :
      joined item (map (item_of l.arena) l.ids.items) (gather (first with_items) (item_turn (below l.names l.level)) l.fuel (around_of l.defined l.around, (l.line, l.rest)))
      ≡ items (below l.names l.level) (around_of [] l.around) (l.fn.start, l.bs);
  kept : Keeps l.fn.arena l.arena;
  below : AllBelow (length l.arena.items) l.ids.items;
  fresh : IsFresh l.line;
}
