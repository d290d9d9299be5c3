use Rattle.std.proofs.Common.{◌≡◌, ◌+◌, ◌*◌, drop, length}
use Rattle.vtl_grammar.specs.Expanded.{exprs_with, pairs_with, parts_with, steps_with}
use Rattle.vtl_reader.specs.Nodes.{expr_of, exprs_made, pairs_made, parts_made, steps_made, AllBelow, PairsBelow, PartsBelow, LinksBelow, StepsBelow}
use Rattle.vtl_eval.specs.Meaning.{values_of, pairs_of, pieces, walked}
use Rattle.vtl_eval.specs.Evaluated.{linked}
use Rattle.vtl_eval.specs.References.{at_value}
use Rattle.vtl_eval.specs.Frames.{arguments_of, seen}
use Rattle.vtl_eval.specs.declared.frame.Frame.{size-Frame}
use Rattle.vtl_eval.specs.Views.{scene_of, reached_of}
use Rattle.vtl_eval.proofs.Fronts.{with_front}
use Rattle.vtl_eval.proofs.eval.+eval.Given as goal

abbrev pub decreases-eval : goal.decreases-eval
decreases-eval g l = (12 * length l.arena.now.exprs + 24) * size-Frame l.frame.now + (12 * l.k + 11)

abbrev pub decreases-eval_by_case : goal.decreases-eval_by_case
decreases-eval_by_case g l = (12 * length l.arena.now.exprs + 24) * size-Frame l.frame.now + (12 * l.k + 10)

abbrev pub decreases-eval_all : goal.decreases-eval_all
decreases-eval_all g l = (12 * length l.arena.now.exprs + 24) * size-Frame l.frame.now + (12 * l.below)

abbrev pub decreases-eval_pairs : goal.decreases-eval_pairs
decreases-eval_pairs g l = (12 * length l.arena.now.exprs + 24) * size-Frame l.frame.now + (12 * l.below + 1)

abbrev pub decreases-step_value : goal.decreases-step_value
decreases-step_value g l = (12 * length l.arena.now.exprs + 24) * size-Frame l.frame.now + (12 * l.below + 2)

abbrev pub decreases-step_by_case : goal.decreases-step_by_case
decreases-step_by_case g l = (12 * length l.arena.now.exprs + 24) * size-Frame l.frame.now + (12 * l.below + 1)

abbrev pub decreases-walk_value : goal.decreases-walk_value
decreases-walk_value g l = (12 * length l.arena.now.exprs + 24) * size-Frame l.frame.now + (12 * l.below + 3)

abbrev pub decreases-take_step : goal.decreases-take_step
decreases-take_step g l = (12 * length l.arena.now.exprs + 24) * size-Frame l.frame.now + (12 * l.below + 2)

abbrev pub decreases-walk : goal.decreases-walk
decreases-walk g l = (12 * length l.arena.now.exprs + 24) * size-Frame l.frame.now + (12 * l.below + 3)

abbrev pub decreases-refer_on : goal.decreases-refer_on
decreases-refer_on g l = (12 * length l.arena.now.exprs + 24) * size-Frame l.frame.now + (12 * l.below + 4)

abbrev pub decreases-refer : goal.decreases-refer
decreases-refer g l = (12 * length l.arena.now.exprs + 24) * size-Frame l.frame.now + (12 * l.below + 5)

abbrev pub decreases-eval_piece : goal.decreases-eval_piece
decreases-eval_piece g l = (12 * length l.arena.now.exprs + 24) * size-Frame l.frame.now + (12 * l.below + 6)

abbrev pub decreases-eval_pieces : goal.decreases-eval_pieces
decreases-eval_pieces g l = (12 * length l.arena.now.exprs + 24) * size-Frame l.frame.now + (12 * l.below + 7)

abbrev pub decreases-eval_link : goal.decreases-eval_link
decreases-eval_link g l = (12 * length l.arena.now.exprs + 24) * size-Frame l.frame.now + (12 * l.operand + 12)

abbrev pub decreases-eval_links : goal.decreases-eval_links
decreases-eval_links g l = (12 * length l.arena.now.exprs + 24) * size-Frame l.frame.now + (12 * l.below + 7)

abbrev pub decreases-eval_chain : goal.decreases-eval_chain
decreases-eval_chain g l = (12 * length l.arena.now.exprs + 24) * size-Frame l.frame.now + (12 * l.below + 8)

abbrev pub invariant-eval_all-loop-k : goal.invariant-eval_all-loop-k
invariant-eval_all-loop-k g l =
    (with_front l.values.items (values_of l.budget (g.R.Roots.meanings l.roots) (exprs_with (arguments_of l.arena.exprs l.frame) (exprs_made (expr_of l.arena.exprs) (drop l.k-index l.ids))) (scene_of l.run, g.R.Roots.kept l.roots))
    ≡ values_of l.budget (g.R.Roots.meanings l.roots) (exprs_with (arguments_of l.arena.exprs l.frame) (exprs_made (expr_of l.arena.exprs) l.ids)) (scene_of l.fn.run, g.R.Roots.kept l.roots))
    × AllBelow l.below (drop l.k-index l.ids)

abbrev pub invariant-eval_pairs-loop-pair : goal.invariant-eval_pairs-loop-pair
invariant-eval_pairs-loop-pair g l =
    (with_front l.maker (pairs_of l.budget (g.R.Roots.meanings l.roots) (pairs_with (arguments_of l.arena.exprs l.frame) (pairs_made (expr_of l.arena.exprs) (drop l.pair-index l.pairs))) (scene_of l.run, g.R.Roots.kept l.roots))
    ≡ pairs_of l.budget (g.R.Roots.meanings l.roots) (pairs_with (arguments_of l.arena.exprs l.frame) (pairs_made (expr_of l.arena.exprs) l.pairs)) (scene_of l.fn.run, g.R.Roots.kept l.roots))
    × PairsBelow l.below (drop l.pair-index l.pairs)

abbrev pub invariant-eval_pieces-loop-part : goal.invariant-eval_pieces-loop-part
invariant-eval_pieces-loop-part g l =
    (with_front l.gathered (pieces l.budget (g.R.Roots.meanings l.roots) (parts_with (arguments_of l.arena.exprs l.frame) (parts_made (expr_of l.arena.exprs) (drop l.part-index l.parts))) (scene_of l.run, g.R.Roots.kept l.roots))
    ≡ pieces l.budget (g.R.Roots.meanings l.roots) (parts_with (arguments_of l.arena.exprs l.frame) (parts_made (expr_of l.arena.exprs) l.parts)) (scene_of l.fn.run, g.R.Roots.kept l.roots))
    × PartsBelow l.below (drop l.part-index l.parts)

abbrev pub invariant-eval_links-loop-link : goal.invariant-eval_links-loop-link
invariant-eval_links-loop-link g l =
    (linked l.budget (g.R.Roots.meanings l.roots) (seen l.arena.exprs l.frame) (drop l.link-index l.links) l.v (scene_of l.run, g.R.Roots.kept l.roots)
    ≡ linked l.budget (g.R.Roots.meanings l.roots) (seen l.arena.exprs l.frame) l.links l.fn.first (scene_of l.fn.run, g.R.Roots.kept l.roots))
    × LinksBelow l.below (drop l.link-index l.links)

abbrev pub invariant-walk_value-loop-step : goal.invariant-walk_value-loop-step
invariant-walk_value-loop-step g l =
    (walked l.budget (g.R.Roots.meanings l.roots) (steps_with (arguments_of l.arena.exprs l.frame) (steps_made (expr_of l.arena.exprs) (drop l.step-index l.steps))) (at_value l.value) (scene_of l.run, g.R.Roots.kept l.roots)
    ≡ walked l.budget (g.R.Roots.meanings l.roots) (steps_with (arguments_of l.arena.exprs l.frame) (steps_made (expr_of l.arena.exprs) l.steps)) (at_value l.fn.first) (scene_of l.fn.run, g.R.Roots.kept l.roots))
    × StepsBelow l.below (drop l.step-index l.steps)

abbrev pub invariant-walk-loop-step : goal.invariant-walk-loop-step
invariant-walk-loop-step g l =
    (walked l.budget (g.R.Roots.meanings l.roots) (steps_with (arguments_of l.arena.exprs l.frame) (steps_made (expr_of l.arena.exprs) (drop l.step-index l.steps))) (reached_of l.reached) (scene_of l.run, g.R.Roots.kept l.roots)
    ≡ walked l.budget (g.R.Roots.meanings l.roots) (steps_with (arguments_of l.arena.exprs l.frame) (steps_made (expr_of l.arena.exprs) l.steps)) (reached_of l.fn.begun) (scene_of l.fn.run, g.R.Roots.kept l.roots))
    × StepsBelow l.below (drop l.step-index l.steps)

abbrev pub decreases-begin_in : goal.decreases-begin_in
decreases-begin_in g l = (12 * length l.arena.now.exprs + 24) * size-Frame l.frame.now
