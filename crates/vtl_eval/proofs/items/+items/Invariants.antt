use Rattle.std.proofs.Common.{◌≡◌, ◌+◌, ◌*◌, drop, length}
use Rattle.vtl_reader.specs.Nodes.{expr_of, item_of, items_made, branches_made, AllBelow, BranchesBelow}
use Rattle.vtl_values.specs.Parts.{loop_items}
use Rattle.vtl_eval.specs.Meaning.{run, chosen, turns}
use Rattle.vtl_eval.specs.Frames.{seen_items, seen_branches}
use Rattle.vtl_eval.specs.Views.{scene_of}
use Rattle.vtl_eval.proofs.Cutting.{Follows}
use Rattle.vtl_eval.proofs.items.+items.Given as goal

abbrev pub decreases-run_item : goal.decreases-run_item
decreases-run_item g l = (6 * length l.arena.now.items + 12) * l.left + (6 * l.k + 5)

abbrev pub decreases-run_loop : goal.decreases-run_loop
decreases-run_loop g l = (6 * length l.arena.now.items + 12) * l.left + (6 * l.below + 4)

abbrev pub decreases-run_turns : goal.decreases-run_turns
decreases-run_turns g l = (6 * length l.arena.now.items + 12) * l.left + (6 * l.below + 3)

abbrev pub decreases-choose : goal.decreases-choose
decreases-choose g l = (6 * length l.arena.now.items + 12) * l.left + (6 * l.below + 1)

abbrev pub decreases-run_items : goal.decreases-run_items
decreases-run_items g l = (6 * length l.arena.now.items + 12) * l.left + (6 * l.below)

abbrev pub invariant-run_items-loop-k : goal.invariant-run_items-loop-k
invariant-run_items-loop-k g l =
    (run l.budget (g.R.Roots.meanings l.fn.roots) (seen_items l.arena l.macros l.left l.frame (items_made (item_of l.arena) (drop l.k-index l.ids))) (scene_of l.run, g.R.Roots.kept l.roots)
    ≡ run l.budget (g.R.Roots.meanings l.fn.roots) (seen_items l.arena l.macros l.left l.frame (items_made (item_of l.arena) l.ids)) (scene_of l.fn.run, g.R.Roots.kept l.fn.roots))
    × AllBelow l.below (drop l.k-index l.ids) × (g.R.Roots.meanings l.roots ≡ g.R.Roots.meanings l.fn.roots)
    × Follows l.budget (scene_of l.fn.run, g.R.Roots.kept l.fn.roots) (λ n. run n (g.R.Roots.meanings l.fn.roots) (seen_items l.arena l.macros l.left l.frame (items_made (item_of l.arena) l.ids)) (scene_of l.fn.run, g.R.Roots.kept l.fn.roots))
    (scene_of l.run, g.R.Roots.kept l.roots) (λ n. run n (g.R.Roots.meanings l.fn.roots) (seen_items l.arena l.macros l.left l.frame (items_made (item_of l.arena) (drop l.k-index l.ids))) (scene_of l.run, g.R.Roots.kept l.roots))

abbrev pub invariant-choose-loop-branch : goal.invariant-choose-loop-branch
invariant-choose-loop-branch g l =
    (chosen l.budget (g.R.Roots.meanings l.fn.roots) (seen_branches l.arena l.macros l.left l.frame (branches_made (expr_of l.arena.exprs) (item_of l.arena) (drop l.branch-index l.branches) (items_made (item_of l.arena) l.otherwise))) (scene_of l.run, g.R.Roots.kept l.roots)
    ≡ chosen l.budget (g.R.Roots.meanings l.fn.roots) (seen_branches l.arena l.macros l.left l.frame (branches_made (expr_of l.arena.exprs) (item_of l.arena) l.branches (items_made (item_of l.arena) l.otherwise))) (scene_of l.fn.run, g.R.Roots.kept l.fn.roots))
    × BranchesBelow (length l.arena.exprs) l.below (drop l.branch-index l.branches) × (g.R.Roots.meanings l.roots ≡ g.R.Roots.meanings l.fn.roots)
    × Follows l.budget (scene_of l.fn.run, g.R.Roots.kept l.fn.roots) (λ n. chosen n (g.R.Roots.meanings l.fn.roots) (seen_branches l.arena l.macros l.left l.frame (branches_made (expr_of l.arena.exprs) (item_of l.arena) l.branches (items_made (item_of l.arena) l.otherwise))) (scene_of l.fn.run, g.R.Roots.kept l.fn.roots))
    (scene_of l.run, g.R.Roots.kept l.roots) (λ n. chosen n (g.R.Roots.meanings l.fn.roots) (seen_branches l.arena l.macros l.left l.frame (branches_made (expr_of l.arena.exprs) (item_of l.arena) (drop l.branch-index l.branches) (items_made (item_of l.arena) l.otherwise))) (scene_of l.run, g.R.Roots.kept l.roots))

abbrev pub invariant-run_turns-loop-n : goal.invariant-run_turns-loop-n
invariant-run_turns-loop-n g l =
    (turns l.name (run l.budget (g.R.Roots.meanings l.fn.roots) (seen_items l.arena l.macros l.left l.frame (items_made (item_of l.arena) l.body))) l.n l.all (drop l.n (loop_items l.list)) (scene_of l.run, g.R.Roots.kept l.roots)
    ≡ turns l.name (run l.budget (g.R.Roots.meanings l.fn.roots) (seen_items l.arena l.macros l.left l.frame (items_made (item_of l.arena) l.body))) 0 l.all (loop_items l.list) (scene_of l.fn.run, g.R.Roots.kept l.fn.roots))
    × (g.R.Roots.meanings l.roots ≡ g.R.Roots.meanings l.fn.roots)
    × Follows l.budget (scene_of l.fn.run, g.R.Roots.kept l.fn.roots) (λ n. turns l.name (run n (g.R.Roots.meanings l.fn.roots) (seen_items l.arena l.macros l.left l.frame (items_made (item_of l.arena) l.body))) 0 l.all (loop_items l.list) (scene_of l.fn.run, g.R.Roots.kept l.fn.roots))
    (scene_of l.run, g.R.Roots.kept l.roots) (λ n. turns l.name (run n (g.R.Roots.meanings l.fn.roots) (seen_items l.arena l.macros l.left l.frame (items_made (item_of l.arena) l.body))) l.n l.all (drop l.n (loop_items l.list)) (scene_of l.run, g.R.Roots.kept l.roots))

abbrev pub decreases-run_choice : goal.decreases-run_choice
decreases-run_choice g l = (6 * length l.arena.now.items + 12) * l.left + (6 * l.below + 2)

abbrev pub decreases-run_call : goal.decreases-run_call
decreases-run_call g l = (6 * length l.arena.now.items + 12) * l.left
