use Rattle.std.proofs.Common.{rules, arith, refl, ap, sym, subst, ◌≡◌, ◌∙◌, ◌<◌, ◌+◌, ◌*◌, ◌-◌, ℕ, Ok, length, drop}
use Rattle.std.specs.Prelude.{nat_lt, ◌&&◌}
use Rattle.std.specs.List.{list_all}
use Rattle.vtl_grammar.specs.Tree.{Item, Items, named, output, choose, foreach}
use Rattle.vtl_grammar.specs.Calls.{Macro}
use Rattle.vtl_grammar.specs.Expanded.{arguments, base_with, exprs_with, steps_with, items_with, items_without, called}
use Rattle.vtl_reader.specs.Nodes.{expr_of, exprs_made, steps_made, item_of, item_made, items_made, branches_made, BranchBelow}
use Rattle.vtl_reader.specs.Macros.{macros_by}
use Rattle.vtl_values.specs.Parts.{loop_items}
use Rattle.vtl_eval.specs.Meaning.{run as run_of, meaning, chosen, turns, restored}
use Rattle.vtl_eval.specs.World.{State}
use Rattle.vtl_eval.specs.Idle.{idle_call}
use Rattle.vtl_eval.specs.declared.frame.Frame.{Frame}
use Rattle.vtl_eval.specs.declared.frame.Frame as source
use Rattle.vtl_eval.specs.declared.frame.Frame.TheFolds.{the_lemmas}
use Rattle.vtl_eval.specs.Frames.{arguments_of, is_sound, seen, seen_item, seen_items, seen_branches}
use Rattle.vtl_eval.specs.Views.{Gives, scene_of}
use Rattle.vtl_eval.proofs.Cutting.{cuts_as, cuts_spent, follows_all, set_lacks, still_meaning, still_run}
use Rattle.vtl_eval.proofs.Loops.{loop_ends, loop_fails, loop_cut, loop_lacks, turn_ran, turn_broke, turn_stopped, turn_fails, turn_follows, turn_cut, turn_lacks, all_turns}
use Rattle.vtl_eval.proofs.Passing.{run_alone, call_idle}
use Rattle.vtl_eval.proofs.Sequences.{item_ran, item_broke, item_stopped, item_fails, item_follows, item_cut, branch_taken, branch_passed, branch_follows, branch_cut, branch_lacks, choice_read, last_cut, all_next, too_deep, call_runs, no_macro, fewer_calls, all_below, both_true}
use Rattle.vtl_eval.proofs.items.+items.Goals as goal

pub run_loop-returns-in-Err-clause-gives : goal.run_loop-returns-in-Err-clause-gives
run_loop-returns-in-Err-clause-gives g t c =
    loop_fails c.args.budget (g.R.Roots.meanings c.args.roots.now) (g.R.Roots.meanings c.args.roots.now) c.args.name.now (seen c.args.arena.now.exprs c.args.frame.now c.args.e) (seen_items c.args.arena.now c.args.macros.now c.args.left c.args.frame.now (items_made (item_of c.args.arena.now) c.args.body.now)) (scene_of c.args.run.now) (scene_of c.spend.new.run) (scene_of c.eval.new.run) (g.R.Roots.kept c.args.roots.now) (g.R.Roots.kept c.args.roots.now) c.in_ok-list.list refl c.in_ok-spend.ensures c.in_ok-list.ensures c.in-Err.e (g.R.Roots.kept c.run_turns.new.roots) c.in-Err.ensures.gives

pub run_loop-returns-clause-gives : goal.run_loop-returns-clause-gives
run_loop-returns-clause-gives g t c =
    loop_ends c.args.budget (g.R.Roots.meanings c.args.roots.now) (g.R.Roots.meanings c.args.roots.now) c.args.name.now (seen c.args.arena.now.exprs c.args.frame.now c.args.e) (seen_items c.args.arena.now c.args.macros.now c.args.left c.args.frame.now (items_made (item_of c.args.arena.now) c.args.body.now)) (scene_of c.args.run.now) (scene_of c.spend.new.run) (scene_of c.eval.new.run) (g.R.Roots.kept c.args.roots.now) (g.R.Roots.kept c.args.roots.now) c.in_ok-list.list refl c.in_ok-spend.ensures c.in_ok-list.ensures c.in-Ok.ended (scene_of c.run_turns.new.run) (g.R.Roots.kept c.run_turns.new.roots) c.in-Ok.ensures.gives
    ∙ ap (λ z. Ok (z, (restored c.args.name.now ((scene_of c.eval.new.run).names c.args.name.now) c.eval.new.run.turn (scene_of c.run_turns.new.run), g.R.Roots.kept c.run_turns.new.roots))) (sym c.over.ensures)
    ∙ ap (λ z. Ok (c.over.result, (z, g.R.Roots.kept c.run_turns.new.roots))) (ap (λ z. restored c.args.name.now z c.eval.new.run.turn (scene_of c.run_turns.new.run)) (sym c.in_ok-old.ensures) ∙ sym c.in_ok-restore.ensures)

pub run_turns-returns-in-Err-clause-gives : goal.run_turns-returns-in-Err-clause-gives
run_turns-returns-in-Err-clause-gives g t c =
    turn_fails c.args.budget (g.R.Roots.meanings c.args.roots.now) (g.R.Roots.meanings c.loop-n.roots) c.args.name.now (seen_items c.args.arena.now c.args.macros.now c.args.left c.args.frame.now (items_made (item_of c.args.arena.now) c.args.body.now)) c.loop_length-all.result c.loop-n.n (loop_items c.args.list.now) c.in_ok-v.v (scene_of c.loop-n.run) (scene_of c.enter.new.run) (g.R.Roots.kept c.loop-n.roots) (scene_of c.args.run.now, g.R.Roots.kept c.args.roots.now) c.loop-n.invariant.1 c.in_ok-v.ensures c.in_ok-enter.ensures c.loop-n.invariant.0 c.in-Err.e (g.R.Roots.kept c.run_items.new.roots) (length (loop_items c.args.list.now)) c.loop_length-all.ensures.value c.in-Err.ensures.gives

pub run_turns-returns-in-Broke-clause-gives : goal.run_turns-returns-in-Broke-clause-gives
run_turns-returns-in-Broke-clause-gives g t c =
    ap (λ a. turns c.args.name.now (run_of c.args.budget (g.R.Roots.meanings c.args.roots.now) (seen_items c.args.arena.now c.args.macros.now c.args.left c.args.frame.now (items_made (item_of c.args.arena.now) c.args.body.now))) 0 a (loop_items c.args.list.now) (scene_of c.args.run.now, g.R.Roots.kept c.args.roots.now)) (sym c.loop_length-all.ensures.value)
    ∙ turn_broke c.args.budget (g.R.Roots.meanings c.args.roots.now) (g.R.Roots.meanings c.loop-n.roots) c.args.name.now (seen_items c.args.arena.now c.args.macros.now c.args.left c.args.frame.now (items_made (item_of c.args.arena.now) c.args.body.now)) c.loop_length-all.result c.loop-n.n (loop_items c.args.list.now) c.in_ok-v.v (scene_of c.loop-n.run) (scene_of c.enter.new.run) (g.R.Roots.kept c.loop-n.roots) (scene_of c.args.run.now, g.R.Roots.kept c.args.roots.now) c.loop-n.invariant.1 c.in_ok-v.ensures c.in_ok-enter.ensures c.loop-n.invariant.0 (scene_of c.run_items.new.run) (g.R.Roots.kept c.run_items.new.roots) (search rules)

pub run_turns-returns-in-Stopped-clause-gives : goal.run_turns-returns-in-Stopped-clause-gives
run_turns-returns-in-Stopped-clause-gives g t c =
    ap (λ a. turns c.args.name.now (run_of c.args.budget (g.R.Roots.meanings c.args.roots.now) (seen_items c.args.arena.now c.args.macros.now c.args.left c.args.frame.now (items_made (item_of c.args.arena.now) c.args.body.now))) 0 a (loop_items c.args.list.now) (scene_of c.args.run.now, g.R.Roots.kept c.args.roots.now)) (sym c.loop_length-all.ensures.value)
    ∙ turn_stopped c.args.budget (g.R.Roots.meanings c.args.roots.now) (g.R.Roots.meanings c.loop-n.roots) c.args.name.now (seen_items c.args.arena.now c.args.macros.now c.args.left c.args.frame.now (items_made (item_of c.args.arena.now) c.args.body.now)) c.loop_length-all.result c.loop-n.n (loop_items c.args.list.now) c.in_ok-v.v (scene_of c.loop-n.run) (scene_of c.enter.new.run) (g.R.Roots.kept c.loop-n.roots) (scene_of c.args.run.now, g.R.Roots.kept c.args.roots.now) c.loop-n.invariant.1 c.in_ok-v.ensures c.in_ok-enter.ensures c.loop-n.invariant.0 (scene_of c.run_items.new.run) (g.R.Roots.kept c.run_items.new.roots) (search rules)

pub run_turns-loop-n-preserved : goal.run_turns-loop-n-preserved
run_turns-loop-n-preserved g t c = (
  turn_ran c.args.budget (g.R.Roots.meanings c.args.roots.now) (g.R.Roots.meanings c.loop-n.roots) c.args.name.now (seen_items c.args.arena.now c.args.macros.now c.args.left c.args.frame.now (items_made (item_of c.args.arena.now) c.args.body.now)) c.loop_length-all.result c.loop-n.n (loop_items c.args.list.now) c.in_ok-v.v (scene_of c.loop-n.run) (scene_of c.enter.new.run) (g.R.Roots.kept c.loop-n.roots) (scene_of c.args.run.now, g.R.Roots.kept c.args.roots.now) c.loop-n.invariant.1 c.in_ok-v.ensures c.in_ok-enter.ensures c.loop-n.invariant.0 (scene_of c.run_items.new.run) (g.R.Roots.kept c.run_items.new.roots) (search rules),
  search rules,
  turn_follows c.args.budget (g.R.Roots.meanings c.args.roots.now) (g.R.Roots.meanings c.loop-n.roots) c.args.name.now (seen_items c.args.arena.now c.args.macros.now c.args.left c.args.frame.now (items_made (item_of c.args.arena.now) c.args.body.now)) c.loop_length-all.result c.loop-n.n (loop_items c.args.list.now) c.in_ok-v.v (scene_of c.loop-n.run) (scene_of c.enter.new.run) (g.R.Roots.kept c.loop-n.roots) (scene_of c.args.run.now, g.R.Roots.kept c.args.roots.now) (λ n. turns c.args.name.now (run_of n (g.R.Roots.meanings c.args.roots.now) (seen_items c.args.arena.now c.args.macros.now c.args.left c.args.frame.now (items_made (item_of c.args.arena.now) c.args.body.now))) 0 c.loop_length-all.result (loop_items c.args.list.now) (scene_of c.args.run.now, g.R.Roots.kept c.args.roots.now)) c.loop-n.invariant.1 c.in_ok-v.ensures c.in_ok-enter.ensures c.loop-n.invariant.2 (scene_of c.run_items.new.run, g.R.Roots.kept c.run_items.new.roots) (search rules),
)

pub run_items-returns-in-Err-clause-gives : goal.run_items-returns-in-Err-clause-gives
run_items-returns-in-Err-clause-gives g t c =
    item_fails c.args.budget (g.R.Roots.meanings c.args.roots.now) (g.R.Roots.meanings c.loop-k.roots) c.loop-k.invariant.2 (called (macros_by c.args.arena.now c.args.macros.now) c.args.left) (arguments_of c.args.arena.now.exprs c.args.frame.now) (item_of c.args.arena.now) c.args.ids.now c.loop-k.k-index 0 c.loop-k-test.true (scene_of c.loop-k.run, g.R.Roots.kept c.loop-k.roots) (scene_of c.args.run.now, g.R.Roots.kept c.args.roots.now) c.loop-k.invariant.0 c.in-Err.e (g.R.Roots.kept c.run_item.new.roots) c.in-Err.ensures.gives

pub run_items-returns-in-Broke-clause-gives : goal.run_items-returns-in-Broke-clause-gives
run_items-returns-in-Broke-clause-gives g t c =
    item_broke c.args.budget (g.R.Roots.meanings c.args.roots.now) (g.R.Roots.meanings c.loop-k.roots) c.loop-k.invariant.2 (called (macros_by c.args.arena.now c.args.macros.now) c.args.left) (arguments_of c.args.arena.now.exprs c.args.frame.now) (item_of c.args.arena.now) c.args.ids.now c.loop-k.k-index 0 c.loop-k-test.true (scene_of c.loop-k.run, g.R.Roots.kept c.loop-k.roots) (scene_of c.args.run.now, g.R.Roots.kept c.args.roots.now) c.loop-k.invariant.0 (scene_of c.run_item.new.run, g.R.Roots.kept c.run_item.new.roots) (search rules)

pub run_items-returns-in-Stopped-clause-gives : goal.run_items-returns-in-Stopped-clause-gives
run_items-returns-in-Stopped-clause-gives g t c =
    item_stopped c.args.budget (g.R.Roots.meanings c.args.roots.now) (g.R.Roots.meanings c.loop-k.roots) c.loop-k.invariant.2 (called (macros_by c.args.arena.now c.args.macros.now) c.args.left) (arguments_of c.args.arena.now.exprs c.args.frame.now) (item_of c.args.arena.now) c.args.ids.now c.loop-k.k-index 0 c.loop-k-test.true (scene_of c.loop-k.run, g.R.Roots.kept c.loop-k.roots) (scene_of c.args.run.now, g.R.Roots.kept c.args.roots.now) c.loop-k.invariant.0 (scene_of c.run_item.new.run, g.R.Roots.kept c.run_item.new.roots) (search rules)

pub run_items-loop-k-preserved : goal.run_items-loop-k-preserved
run_items-loop-k-preserved g t c = (
  item_ran c.args.budget (g.R.Roots.meanings c.args.roots.now) (g.R.Roots.meanings c.loop-k.roots) c.loop-k.invariant.2 (called (macros_by c.args.arena.now c.args.macros.now) c.args.left) (arguments_of c.args.arena.now.exprs c.args.frame.now) (item_of c.args.arena.now) c.args.ids.now c.loop-k.k-index 0 c.loop-k-test.true (scene_of c.loop-k.run, g.R.Roots.kept c.loop-k.roots) (scene_of c.args.run.now, g.R.Roots.kept c.args.roots.now) c.loop-k.invariant.0 (scene_of c.run_item.new.run, g.R.Roots.kept c.run_item.new.roots) (search rules),
  all_next (λ k. k < c.args.below) c.args.ids.now c.loop-k.k-index c.loop-k.invariant.1,
  search rules,
  item_follows c.args.budget (g.R.Roots.meanings c.args.roots.now) (g.R.Roots.meanings c.loop-k.roots) c.loop-k.invariant.2 (called (macros_by c.args.arena.now c.args.macros.now) c.args.left) (arguments_of c.args.arena.now.exprs c.args.frame.now) (item_of c.args.arena.now) c.args.ids.now c.loop-k.k-index 0 c.loop-k-test.true (scene_of c.loop-k.run, g.R.Roots.kept c.loop-k.roots) (scene_of c.args.run.now, g.R.Roots.kept c.args.roots.now) c.loop-k.invariant.3 (scene_of c.run_item.new.run, g.R.Roots.kept c.run_item.new.roots) (search rules),
)

pub choose-returns-then-is_true-clause-gives : goal.choose-returns-then-is_true-clause-gives
choose-returns-then-is_true-clause-gives g t c =
    rw (branch_taken c.args.budget (g.R.Roots.meanings c.args.roots.now) (g.R.Roots.meanings c.loop-branch.roots) c.loop-branch.invariant.2 (called (macros_by c.args.arena.now c.args.macros.now) c.args.left) (arguments_of c.args.arena.now.exprs c.args.frame.now) (expr_of c.args.arena.now.exprs) (item_of c.args.arena.now) c.args.branches.now (items_made (item_of c.args.arena.now) c.args.otherwise.now) c.loop-branch.branch-index c.branch-item.result c.branch-item.is c.loop-branch-test.true (scene_of c.loop-branch.run, g.R.Roots.kept c.loop-branch.roots) (scene_of c.args.run.now, g.R.Roots.kept c.args.roots.now) c.loop-branch.invariant.0 c.in_ok-v.v (scene_of c.eval.new.run, g.R.Roots.kept c.loop-branch.roots) (g.R.Roots.meanings c.loop-branch.roots) (c.loop-branch.invariant.2) c.in_ok-v.ensures (sym c.if-is_true.ensures))
    (rw c.deref.ensures.value at c.run_items.ensures.gives)

pub choose-loop-branch-preserved : goal.choose-loop-branch-preserved
choose-loop-branch-preserved g t c = (
  branch_passed c.args.budget (g.R.Roots.meanings c.args.roots.now) (g.R.Roots.meanings c.loop-branch.roots) c.loop-branch.invariant.2 (called (macros_by c.args.arena.now c.args.macros.now) c.args.left) (arguments_of c.args.arena.now.exprs c.args.frame.now) (expr_of c.args.arena.now.exprs) (item_of c.args.arena.now) c.args.branches.now (items_made (item_of c.args.arena.now) c.args.otherwise.now) c.loop-branch.branch-index c.branch-item.result c.branch-item.is c.loop-branch-test.true (scene_of c.loop-branch.run, g.R.Roots.kept c.loop-branch.roots) (scene_of c.args.run.now, g.R.Roots.kept c.args.roots.now) c.loop-branch.invariant.0 c.in_ok-v.v (scene_of c.eval.new.run, g.R.Roots.kept c.loop-branch.roots) c.in_ok-v.ensures (sym c.if-is_true.ensures),
  all_next (BranchBelow (length c.args.arena.now.exprs) c.args.below) c.args.branches.now c.loop-branch.branch-index c.loop-branch.invariant.1,
  c.loop-branch.invariant.2,
  branch_follows c.args.budget (g.R.Roots.meanings c.args.roots.now) (g.R.Roots.meanings c.loop-branch.roots) c.loop-branch.invariant.2 (called (macros_by c.args.arena.now c.args.macros.now) c.args.left) (arguments_of c.args.arena.now.exprs c.args.frame.now) (expr_of c.args.arena.now.exprs) (item_of c.args.arena.now) c.args.branches.now (items_made (item_of c.args.arena.now) c.args.otherwise.now) c.loop-branch.branch-index c.branch-item.result c.branch-item.is c.loop-branch-test.true (scene_of c.loop-branch.run, g.R.Roots.kept c.loop-branch.roots) (scene_of c.args.run.now, g.R.Roots.kept c.args.roots.now) c.loop-branch.invariant.3 c.in_ok-v.v (scene_of c.eval.new.run, g.R.Roots.kept c.loop-branch.roots) c.in_ok-v.ensures (sym c.if-is_true.ensures),
)

pub run_call-returns-then-left-eq0-clause-gives : goal.run_call-returns-then-left-eq0-clause-gives
run_call-returns-then-left-eq0-clause-gives g t c =
    too_deep c.args.budget (g.R.Roots.meanings c.args.roots.now) (macros_by c.args.arena.now c.args.macros.now) c.args.name.now (exprs_with (arguments_of c.args.arena.now.exprs c.args.frame.now) (exprs_made (expr_of c.args.arena.now.exprs) c.args.ids.now)) (scene_of c.args.run.now, g.R.Roots.kept c.args.roots.now) c.args.left c.if-left-eq0.true

pub run_call-returns-then-is_idle-clause-gives : goal.run_call-returns-then-is_idle-clause-gives
run_call-returns-then-is_idle-clause-gives g t c =
    call_idle c.args.budget (g.R.Roots.meanings c.args.roots.now) (macros_by c.args.arena.now c.args.macros.now) c.args.left c.args.name.now (ap (idle_call (macros_by c.args.arena.now c.args.macros.now) c.args.left) (sym c.as_bytes.ensures.value) ∙ sym c.if-is_idle.ensures) (exprs_with (arguments_of c.args.arena.now.exprs c.args.frame.now) (exprs_made (expr_of c.args.arena.now.exprs) c.args.ids.now)) (scene_of c.args.run.now, g.R.Roots.kept c.args.roots.now)

pub run_call-run_items-requires : goal.run_call-run_items-requires
run_call-run_items-requires g t c = λ κs live.
    let own = c.requires.1.1.1 in
    let len = length c.args.arena.now.items in
    let n = length c.args.arena.now.exprs in
    let is : (6 * len + 12) * c.args.left ≡ t = c.requires.1.0 in
    let below : ℕ → Type 0 = λ z. (6 * len + 12) * (c.args.left - 1) + 6 * c.item_count.result < z in
    let down : (6 * len + 12) * (c.args.left - 1) + 6 * c.item_count.result < t = subst below is (fewer_calls len c.item_count.result c.args.left (omega (arith, c.if-left-eq0.false)) (omega (arith, c.item_count.ensures))) in
    let tree : is_sound n (source.Call c.in-Some.params c.args.ids c.args.frame) ≡ (list_all (λ k. nat_lt k n) c.args.ids.now && is_sound n c.args.frame.now) = search (rules, the_lemmas) in
    (down, (search rules, (tree ∙ both_true _ _ (all_below n c.args.ids.now own.1.1.1.1) own.0, (omega (arith, own.1.0), (own.1.1.0, (own.1.1.1.0, (search rules, search rules)))))))

pub run_call-returns-in-None-clause-gives : goal.run_call-returns-in-None-clause-gives
run_call-returns-in-None-clause-gives g t c =
    no_macro c.args.budget (g.R.Roots.meanings c.args.roots.now) (macros_by c.args.arena.now c.args.macros.now) c.args.name.now (exprs_with (arguments_of c.args.arena.now.exprs c.args.frame.now) (exprs_made (expr_of c.args.arena.now.exprs) c.args.ids.now)) (scene_of c.args.run.now, g.R.Roots.kept c.args.roots.now) c.args.left (omega (arith, c.if-left-eq0.false)) (ap (macros_by c.args.arena.now c.args.macros.now) (sym c.as_bytes-2.ensures.value) ∙ c.in-None.ensures.found)

pub run_call-returns-in-Some-clause-gives : goal.run_call-returns-in-Some-clause-gives
run_call-returns-in-Some-clause-gives g t c =
    let inner : Frame = source.Call c.in-Some.params c.args.ids c.args.frame in
    let d : Macro = record { params = c.in-Some.params.now; body = items_made (item_of c.args.arena.now) c.in-Some.body.now } in
    let tree : arguments_of c.args.arena.now.exprs inner ≡ (λ x. arguments c.in-Some.params.now (exprs_with (arguments_of c.args.arena.now.exprs c.args.frame.now) (exprs_made (expr_of c.args.arena.now.exprs) c.args.ids.now)) x) = search (rules, the_lemmas) in
    let e : run_of c.args.budget (g.R.Roots.meanings c.args.roots.now) (called (macros_by c.args.arena.now c.args.macros.now) c.args.left c.args.name.now (exprs_with (arguments_of c.args.arena.now.exprs c.args.frame.now) (exprs_made (expr_of c.args.arena.now.exprs) c.args.ids.now))) (scene_of c.args.run.now, g.R.Roots.kept c.args.roots.now) ≡ run_of c.args.budget (g.R.Roots.meanings c.args.roots.now) (seen_items c.args.arena.now c.args.macros.now (c.args.left - 1) inner d.body) (scene_of c.args.run.now, g.R.Roots.kept c.args.roots.now) =
    call_runs c.args.budget (g.R.Roots.meanings c.args.roots.now) (macros_by c.args.arena.now c.args.macros.now) c.args.name.now (exprs_with (arguments_of c.args.arena.now.exprs c.args.frame.now) (exprs_made (expr_of c.args.arena.now.exprs) c.args.ids.now)) (scene_of c.args.run.now, g.R.Roots.kept c.args.roots.now) c.args.left (omega (arith, c.if-left-eq0.false)) d (ap (macros_by c.args.arena.now c.args.macros.now) (sym c.as_bytes-2.ensures.value) ∙ c.in-Some.ensures.found)
    ∙ ap (λ a. run_of c.args.budget (g.R.Roots.meanings c.args.roots.now) (items_without (called (macros_by c.args.arena.now c.args.macros.now) (c.args.left - 1)) (items_with a d.body)) (scene_of c.args.run.now, g.R.Roots.kept c.args.roots.now)) (sym tree) in
    rw e c.run_items.ensures.gives

pub run_item-returns-in-Output-clause-gives : goal.run_item-returns-in-Output-clause-gives
run_item-returns-in-Output-clause-gives g t c =
    let i : Item = output c.in-Output.source (base_with (arguments_of c.args.arena.now.exprs c.args.frame.now) (named c.in-Output.name)) (steps_with (arguments_of c.args.arena.now.exprs c.args.frame.now) (steps_made (expr_of c.args.arena.now.exprs) c.in-Output.steps.items)) in
    let e : run_of c.args.budget (g.R.Roots.meanings c.args.roots.now) (seen_item c.args.arena.now c.args.macros.now c.args.left c.args.frame.now (item_of c.args.arena.now c.args.k)) (scene_of c.args.run.now, g.R.Roots.kept c.args.roots.now) ≡ meaning c.args.budget (g.R.Roots.meanings c.args.roots.now) i (scene_of c.args.run.now, g.R.Roots.kept c.args.roots.now) =
    ap (λ z. run_of c.args.budget (g.R.Roots.meanings c.args.roots.now) (seen_item c.args.arena.now c.args.macros.now c.args.left c.args.frame.now z) (scene_of c.args.run.now, g.R.Roots.kept c.args.roots.now)) (c.item.ensures.opened ∙ ap (item_made (expr_of c.args.arena.now.exprs) (item_of c.args.arena.now)) c.in-Output.is)
    ∙ run_alone c.args.budget (g.R.Roots.meanings c.args.roots.now) i (scene_of c.args.run.now, g.R.Roots.kept c.args.roots.now) in
    rw e (rw (c.as_str-in-Output.ensures, c.as_str-in-Output-2.ensures, c.deref.ensures.value) at c.run_output.ensures)

pub run_item-returns-in-If-clause-gives : goal.run_item-returns-in-If-clause-gives
run_item-returns-in-If-clause-gives g t c =
    let i : Item = choose (seen_branches c.args.arena.now c.args.macros.now c.args.left c.args.frame.now (branches_made (expr_of c.args.arena.now.exprs) (item_of c.args.arena.now) c.in-If.branches.items (items_made (item_of c.args.arena.now) c.in-If.otherwise.items))) in
    let e : run_of c.args.budget (g.R.Roots.meanings c.args.roots.now) (seen_item c.args.arena.now c.args.macros.now c.args.left c.args.frame.now (item_of c.args.arena.now c.args.k)) (scene_of c.args.run.now, g.R.Roots.kept c.args.roots.now) ≡ meaning c.args.budget (g.R.Roots.meanings c.args.roots.now) i (scene_of c.args.run.now, g.R.Roots.kept c.args.roots.now) =
    ap (λ z. run_of c.args.budget (g.R.Roots.meanings c.args.roots.now) (seen_item c.args.arena.now c.args.macros.now c.args.left c.args.frame.now z) (scene_of c.args.run.now, g.R.Roots.kept c.args.roots.now)) (c.item.ensures.opened ∙ ap (item_made (expr_of c.args.arena.now.exprs) (item_of c.args.arena.now)) c.in-If.is)
    ∙ run_alone c.args.budget (g.R.Roots.meanings c.args.roots.now) i (scene_of c.args.run.now, g.R.Roots.kept c.args.roots.now) in
    let gave : Gives (λ e. e) c.run_choice.result (scene_of c.run_choice.new.run) (g.R.Roots.kept c.run_choice.new.roots) (meaning c.args.budget (g.R.Roots.meanings c.args.roots.now) i (scene_of c.args.run.now, g.R.Roots.kept c.args.roots.now)) = search rules in
    rw e gave

pub run_items-loop-k-init : goal.run_items-loop-k-init
run_items-loop-k-init g t c =
    (search rules, search rules, search rules, follows_all _ _ _)

pub run_items-returns-in-Err-clause-cut : goal.run_items-returns-in-Err-clause-cut
run_items-returns-in-Err-clause-cut g t c =
    item_cut c.args.budget (g.R.Roots.meanings c.args.roots.now) (g.R.Roots.meanings c.loop-k.roots) c.loop-k.invariant.2 (called (macros_by c.args.arena.now c.args.macros.now) c.args.left) (arguments_of c.args.arena.now.exprs c.args.frame.now) (item_of c.args.arena.now) c.args.ids.now c.loop-k.k-index 0 c.loop-k-test.true (scene_of c.loop-k.run, g.R.Roots.kept c.loop-k.roots) (scene_of c.args.run.now, g.R.Roots.kept c.args.roots.now) c.loop-k.invariant.3 (g.R.Roots.kept c.run_item.new.roots) c.in-Err.e c.in-Err.ensures.cut

pub run_turns-loop-n-init : goal.run_turns-loop-n-init
run_turns-loop-n-init g t c =
    (search rules, search rules, follows_all _ _ _)

pub run_turns-returns-in-Err-clause-cut : goal.run_turns-returns-in-Err-clause-cut
run_turns-returns-in-Err-clause-cut g t c =
    all_turns c.args.budget (g.R.Roots.meanings c.args.roots.now) c.args.name.now (seen_items c.args.arena.now c.args.macros.now c.args.left c.args.frame.now (items_made (item_of c.args.arena.now) c.args.body.now)) c.loop_length-all.result (length (loop_items c.args.list.now)) (loop_items c.args.list.now) (scene_of c.args.run.now, g.R.Roots.kept c.args.roots.now) (scene_of c.args.run.now, g.R.Roots.kept c.args.roots.now) (g.R.Roots.kept c.run_items.new.roots) c.in-Err.e c.loop_length-all.ensures.value
    (turn_cut c.args.budget (g.R.Roots.meanings c.args.roots.now) (g.R.Roots.meanings c.loop-n.roots) c.args.name.now (seen_items c.args.arena.now c.args.macros.now c.args.left c.args.frame.now (items_made (item_of c.args.arena.now) c.args.body.now)) c.loop_length-all.result c.loop-n.n (loop_items c.args.list.now) c.in_ok-v.v (scene_of c.loop-n.run) (scene_of c.enter.new.run) (g.R.Roots.kept c.loop-n.roots) (scene_of c.args.run.now, g.R.Roots.kept c.args.roots.now) (λ n. turns c.args.name.now (run_of n (g.R.Roots.meanings c.args.roots.now) (seen_items c.args.arena.now c.args.macros.now c.args.left c.args.frame.now (items_made (item_of c.args.arena.now) c.args.body.now))) 0 c.loop_length-all.result (loop_items c.args.list.now) (scene_of c.args.run.now, g.R.Roots.kept c.args.roots.now)) c.loop-n.invariant.1 c.in_ok-v.ensures c.in_ok-enter.ensures c.loop-n.invariant.2 c.in-Err.e (g.R.Roots.kept c.run_items.new.roots) c.in-Err.ensures.cut)

pub run_turns-returns-in_err-v-clause-cut : goal.run_turns-returns-in_err-v-clause-cut
run_turns-returns-in_err-v-clause-cut g t c =
    cuts_as c.args.budget (scene_of c.args.run.now, g.R.Roots.kept c.args.roots.now) (λ n. turns c.args.name.now (run_of n (g.R.Roots.meanings c.args.roots.now) (seen_items c.args.arena.now c.args.macros.now c.args.left c.args.frame.now (items_made (item_of c.args.arena.now) c.args.body.now))) 0 c.loop_length-all.result (loop_items c.args.list.now) (scene_of c.args.run.now, g.R.Roots.kept c.args.roots.now)) (λ n. turns c.args.name.now (run_of n (g.R.Roots.meanings c.args.roots.now) (seen_items c.args.arena.now c.args.macros.now c.args.left c.args.frame.now (items_made (item_of c.args.arena.now) c.args.body.now))) 0 (length (loop_items c.args.list.now)) (loop_items c.args.list.now) (scene_of c.args.run.now, g.R.Roots.kept c.args.roots.now)) (g.R.Roots.kept c.loop-n.roots) _ (λ n. ap (λ z. turns c.args.name.now (run_of n (g.R.Roots.meanings c.args.roots.now) (seen_items c.args.arena.now c.args.macros.now c.args.left c.args.frame.now (items_made (item_of c.args.arena.now) c.args.body.now))) 0 z (loop_items c.args.list.now) (scene_of c.args.run.now, g.R.Roots.kept c.args.roots.now)) (sym c.loop_length-all.ensures.value))
    (turn_lacks c.args.budget (g.R.Roots.meanings c.args.roots.now) c.args.name.now (seen_items c.args.arena.now c.args.macros.now c.args.left c.args.frame.now (items_made (item_of c.args.arena.now) c.args.body.now)) c.loop-n.n c.loop_length-all.result (drop c.loop-n.n (loop_items c.args.list.now)) (scene_of c.loop-n.run, g.R.Roots.kept c.loop-n.roots) (scene_of c.args.run.now, g.R.Roots.kept c.args.roots.now) (λ n. turns c.args.name.now (run_of n (g.R.Roots.meanings c.args.roots.now) (seen_items c.args.arena.now c.args.macros.now c.args.left c.args.frame.now (items_made (item_of c.args.arena.now) c.args.body.now))) 0 c.loop_length-all.result (loop_items c.args.list.now) (scene_of c.args.run.now, g.R.Roots.kept c.args.roots.now)) _ c.loop-n.invariant.2)

pub run_turns-returns-in_err-enter-clause-cut : goal.run_turns-returns-in_err-enter-clause-cut
run_turns-returns-in_err-enter-clause-cut g t c =
    cuts_as c.args.budget (scene_of c.args.run.now, g.R.Roots.kept c.args.roots.now) (λ n. turns c.args.name.now (run_of n (g.R.Roots.meanings c.args.roots.now) (seen_items c.args.arena.now c.args.macros.now c.args.left c.args.frame.now (items_made (item_of c.args.arena.now) c.args.body.now))) 0 c.loop_length-all.result (loop_items c.args.list.now) (scene_of c.args.run.now, g.R.Roots.kept c.args.roots.now)) (λ n. turns c.args.name.now (run_of n (g.R.Roots.meanings c.args.roots.now) (seen_items c.args.arena.now c.args.macros.now c.args.left c.args.frame.now (items_made (item_of c.args.arena.now) c.args.body.now))) 0 (length (loop_items c.args.list.now)) (loop_items c.args.list.now) (scene_of c.args.run.now, g.R.Roots.kept c.args.roots.now)) (g.R.Roots.kept c.loop-n.roots) _ (λ n. ap (λ z. turns c.args.name.now (run_of n (g.R.Roots.meanings c.args.roots.now) (seen_items c.args.arena.now c.args.macros.now c.args.left c.args.frame.now (items_made (item_of c.args.arena.now) c.args.body.now))) 0 z (loop_items c.args.list.now) (scene_of c.args.run.now, g.R.Roots.kept c.args.roots.now)) (sym c.loop_length-all.ensures.value))
    (turn_lacks c.args.budget (g.R.Roots.meanings c.args.roots.now) c.args.name.now (seen_items c.args.arena.now c.args.macros.now c.args.left c.args.frame.now (items_made (item_of c.args.arena.now) c.args.body.now)) c.loop-n.n c.loop_length-all.result (drop c.loop-n.n (loop_items c.args.list.now)) (scene_of c.loop-n.run, g.R.Roots.kept c.loop-n.roots) (scene_of c.args.run.now, g.R.Roots.kept c.args.roots.now) (λ n. turns c.args.name.now (run_of n (g.R.Roots.meanings c.args.roots.now) (seen_items c.args.arena.now c.args.macros.now c.args.left c.args.frame.now (items_made (item_of c.args.arena.now) c.args.body.now))) 0 c.loop_length-all.result (loop_items c.args.list.now) (scene_of c.args.run.now, g.R.Roots.kept c.args.roots.now)) _ c.loop-n.invariant.2)

pub choose-loop-branch-init : goal.choose-loop-branch-init
choose-loop-branch-init g t c =
    (search rules, search rules, search rules, follows_all _ _ _)

pub choose-returns-in_err-v-clause-cut : goal.choose-returns-in_err-v-clause-cut
choose-returns-in_err-v-clause-cut g t c =
    branch_lacks c.args.budget (g.R.Roots.meanings c.args.roots.now) (scene_of c.args.run.now, g.R.Roots.kept c.args.roots.now) (λ n. chosen n (g.R.Roots.meanings c.args.roots.now) (seen_branches c.args.arena.now c.args.macros.now c.args.left c.args.frame.now (branches_made (expr_of c.args.arena.now.exprs) (item_of c.args.arena.now) c.args.branches.now (items_made (item_of c.args.arena.now) c.args.otherwise.now))) (scene_of c.args.run.now, g.R.Roots.kept c.args.roots.now)) (seen_branches c.args.arena.now c.args.macros.now c.args.left c.args.frame.now (branches_made (expr_of c.args.arena.now.exprs) (item_of c.args.arena.now) (drop c.loop-branch.branch-index c.args.branches.now) (items_made (item_of c.args.arena.now) c.args.otherwise.now))) (scene_of c.loop-branch.run, g.R.Roots.kept c.loop-branch.roots) _ c.loop-branch.invariant.3

pub choose-returns-then-is_true-clause-cut : goal.choose-returns-then-is_true-clause-cut
choose-returns-then-is_true-clause-cut g t c =
    let u : State = (scene_of c.eval.new.run, g.R.Roots.kept c.loop-branch.roots) in
    branch_cut c.args.budget (g.R.Roots.meanings c.args.roots.now) (g.R.Roots.meanings c.loop-branch.roots) c.loop-branch.invariant.2 (called (macros_by c.args.arena.now c.args.macros.now) c.args.left) (arguments_of c.args.arena.now.exprs c.args.frame.now) (expr_of c.args.arena.now.exprs) (item_of c.args.arena.now) c.args.branches.now (items_made (item_of c.args.arena.now) c.args.otherwise.now) c.loop-branch.branch-index c.branch-item.result c.branch-item.is c.loop-branch-test.true (scene_of c.loop-branch.run, g.R.Roots.kept c.loop-branch.roots) (scene_of c.args.run.now, g.R.Roots.kept c.args.roots.now) c.loop-branch.invariant.3 c.in_ok-v.v u c.in_ok-v.ensures (g.R.Roots.kept c.run_items.new.roots) c.run_items.result (sym c.if-is_true.ensures)
    (cuts_as c.args.budget u (λ n. run_of n (g.R.Roots.meanings c.loop-branch.roots) (seen_items c.args.arena.now c.args.macros.now c.args.left c.args.frame.now (items_made (item_of c.args.arena.now) c.branch-item.result.items.items)) u) (λ n. run_of n (g.R.Roots.meanings c.args.roots.now) (seen_items c.args.arena.now c.args.macros.now c.args.left c.args.frame.now (items_made (item_of c.args.arena.now) c.branch-item.result.items.items)) u) (g.R.Roots.kept c.run_items.new.roots) c.run_items.result (λ n. ap (λ z. run_of n z (seen_items c.args.arena.now c.args.macros.now c.args.left c.args.frame.now (items_made (item_of c.args.arena.now) c.branch-item.result.items.items)) u) (sym c.loop-branch.invariant.2))
    (rw c.deref.ensures.value at c.run_items.ensures.cut))

pub choose-returns-clause-cut : goal.choose-returns-clause-cut
choose-returns-clause-cut g t c =
    let u : State = (scene_of c.loop-branch.run, g.R.Roots.kept c.loop-branch.roots) in
    last_cut c.args.budget (g.R.Roots.meanings c.args.roots.now) (called (macros_by c.args.arena.now c.args.macros.now) c.args.left) (arguments_of c.args.arena.now.exprs c.args.frame.now) (expr_of c.args.arena.now.exprs) (item_of c.args.arena.now) c.args.branches.now (items_made (item_of c.args.arena.now) c.args.otherwise.now) c.loop-branch.branch-index (scene_of c.args.run.now, g.R.Roots.kept c.args.roots.now) u (λ n. chosen n (g.R.Roots.meanings c.args.roots.now) (seen_branches c.args.arena.now c.args.macros.now c.args.left c.args.frame.now (branches_made (expr_of c.args.arena.now.exprs) (item_of c.args.arena.now) c.args.branches.now (items_made (item_of c.args.arena.now) c.args.otherwise.now))) (scene_of c.args.run.now, g.R.Roots.kept c.args.roots.now)) (g.R.Roots.kept c.run_items-2.new.roots) c.run_items-2.result c.loop-branch-test.false c.loop-branch.invariant.3
    (cuts_as c.args.budget u (λ n. run_of n (g.R.Roots.meanings c.loop-branch.roots) (seen_items c.args.arena.now c.args.macros.now c.args.left c.args.frame.now (items_made (item_of c.args.arena.now) c.args.otherwise.now)) u) (λ n. run_of n (g.R.Roots.meanings c.args.roots.now) (seen_items c.args.arena.now c.args.macros.now c.args.left c.args.frame.now (items_made (item_of c.args.arena.now) c.args.otherwise.now)) u) (g.R.Roots.kept c.run_items-2.new.roots) c.run_items-2.result (λ n. ap (λ z. run_of n z (seen_items c.args.arena.now c.args.macros.now c.args.left c.args.frame.now (items_made (item_of c.args.arena.now) c.args.otherwise.now)) u) (sym c.loop-branch.invariant.2)) c.run_items-2.ensures.cut)

pub run_loop-returns-in_err-spend-clause-cut : goal.run_loop-returns-in_err-spend-clause-cut
run_loop-returns-in_err-spend-clause-cut g t c =
    still_meaning c.args.budget (g.R.Roots.meanings c.args.roots.now) (foreach c.args.name.now (seen c.args.arena.now.exprs c.args.frame.now c.args.e) (seen_items c.args.arena.now c.args.macros.now c.args.left c.args.frame.now (items_made (item_of c.args.arena.now) c.args.body.now))) (scene_of c.args.run.now, g.R.Roots.kept c.args.roots.now) _

pub run_loop-returns-in_err-list-clause-cut : goal.run_loop-returns-in_err-list-clause-cut
run_loop-returns-in_err-list-clause-cut g t c =
    still_meaning c.args.budget (g.R.Roots.meanings c.args.roots.now) (foreach c.args.name.now (seen c.args.arena.now.exprs c.args.frame.now c.args.e) (seen_items c.args.arena.now c.args.macros.now c.args.left c.args.frame.now (items_made (item_of c.args.arena.now) c.args.body.now))) (scene_of c.args.run.now, g.R.Roots.kept c.args.roots.now) _

pub run_loop-returns-in_err-old-clause-cut : goal.run_loop-returns-in_err-old-clause-cut
run_loop-returns-in_err-old-clause-cut g t c =
    still_meaning c.args.budget (g.R.Roots.meanings c.args.roots.now) (foreach c.args.name.now (seen c.args.arena.now.exprs c.args.frame.now c.args.e) (seen_items c.args.arena.now c.args.macros.now c.args.left c.args.frame.now (items_made (item_of c.args.arena.now) c.args.body.now))) (scene_of c.args.run.now, g.R.Roots.kept c.args.roots.now) _

pub run_loop-returns-in-Err-clause-cut : goal.run_loop-returns-in-Err-clause-cut
run_loop-returns-in-Err-clause-cut g t c =
    loop_cut c.args.budget (g.R.Roots.meanings c.args.roots.now) (g.R.Roots.meanings c.args.roots.now) c.args.name.now (seen c.args.arena.now.exprs c.args.frame.now c.args.e) (seen_items c.args.arena.now c.args.macros.now c.args.left c.args.frame.now (items_made (item_of c.args.arena.now) c.args.body.now)) (scene_of c.args.run.now) (scene_of c.spend.new.run) (scene_of c.eval.new.run) (g.R.Roots.kept c.args.roots.now) (g.R.Roots.kept c.args.roots.now) c.in_ok-list.list refl c.in_ok-spend.ensures c.in_ok-list.ensures c.in-Err.e (g.R.Roots.kept c.run_turns.new.roots) c.in-Err.ensures.cut

pub run_loop-returns-in_err-restore-clause-cut : goal.run_loop-returns-in_err-restore-clause-cut
run_loop-returns-in_err-restore-clause-cut g t c =
    loop_lacks c.args.budget (g.R.Roots.meanings c.args.roots.now) (g.R.Roots.meanings c.args.roots.now) c.args.name.now (seen c.args.arena.now.exprs c.args.frame.now c.args.e) (seen_items c.args.arena.now c.args.macros.now c.args.left c.args.frame.now (items_made (item_of c.args.arena.now) c.args.body.now)) (scene_of c.args.run.now) (scene_of c.spend.new.run) (scene_of c.eval.new.run) (g.R.Roots.kept c.args.roots.now) (g.R.Roots.kept c.args.roots.now) c.in_ok-list.list refl c.in_ok-spend.ensures c.in_ok-list.ensures c.in-Ok.ended (scene_of c.run_turns.new.run) (g.R.Roots.kept c.run_turns.new.roots) _ c.in-Ok.ensures.gives

pub run_choice-returns-in_err-spend-clause-cut : goal.run_choice-returns-in_err-spend-clause-cut
run_choice-returns-in_err-spend-clause-cut g t c =
    still_meaning c.args.budget (g.R.Roots.meanings c.args.roots.now) (choose (seen_branches c.args.arena.now c.args.macros.now c.args.left c.args.frame.now (branches_made (expr_of c.args.arena.now.exprs) (item_of c.args.arena.now) c.args.branches.now (items_made (item_of c.args.arena.now) c.args.otherwise.now)))) (scene_of c.args.run.now, g.R.Roots.kept c.args.roots.now) _

pub run_choice-returns-clause-cut : goal.run_choice-returns-clause-cut
run_choice-returns-clause-cut g t c =
    cuts_spent c.args.budget (scene_of c.args.run.now, g.R.Roots.kept c.args.roots.now) (scene_of c.spend.new.run) (λ n u. chosen n (g.R.Roots.meanings c.args.roots.now) (seen_branches c.args.arena.now c.args.macros.now c.args.left c.args.frame.now (branches_made (expr_of c.args.arena.now.exprs) (item_of c.args.arena.now) c.args.branches.now (items_made (item_of c.args.arena.now) c.args.otherwise.now))) u) (g.R.Roots.kept c.choose.new.roots) c.choose.result c.in_ok-spend.ensures c.choose.ensures.cut

pub run_call-returns-in-Some-clause-cut : goal.run_call-returns-in-Some-clause-cut
run_call-returns-in-Some-clause-cut g t c =
    let inner : Frame = source.Call c.in-Some.params c.args.ids c.args.frame in
    let d : Macro = record { params = c.in-Some.params.now; body = items_made (item_of c.args.arena.now) c.in-Some.body.now } in
    let tree : arguments_of c.args.arena.now.exprs inner ≡ (λ x. arguments c.in-Some.params.now (exprs_with (arguments_of c.args.arena.now.exprs c.args.frame.now) (exprs_made (expr_of c.args.arena.now.exprs) c.args.ids.now)) x) = search (rules, the_lemmas) in
    cuts_as c.args.budget (scene_of c.args.run.now, g.R.Roots.kept c.args.roots.now) (λ n. run_of n (g.R.Roots.meanings c.args.roots.now) (seen_items c.args.arena.now c.args.macros.now (c.args.left - 1) inner d.body) (scene_of c.args.run.now, g.R.Roots.kept c.args.roots.now)) (λ n. run_of n (g.R.Roots.meanings c.args.roots.now) (called (macros_by c.args.arena.now c.args.macros.now) c.args.left c.args.name.now (exprs_with (arguments_of c.args.arena.now.exprs c.args.frame.now) (exprs_made (expr_of c.args.arena.now.exprs) c.args.ids.now))) (scene_of c.args.run.now, g.R.Roots.kept c.args.roots.now)) (g.R.Roots.kept c.run_items.new.roots) c.run_items.result
    (λ n. call_runs n (g.R.Roots.meanings c.args.roots.now) (macros_by c.args.arena.now c.args.macros.now) c.args.name.now (exprs_with (arguments_of c.args.arena.now.exprs c.args.frame.now) (exprs_made (expr_of c.args.arena.now.exprs) c.args.ids.now)) (scene_of c.args.run.now, g.R.Roots.kept c.args.roots.now) c.args.left (omega (arith, c.if-left-eq0.false)) d (ap (macros_by c.args.arena.now c.args.macros.now) (sym c.as_bytes-2.ensures.value) ∙ c.in-Some.ensures.found)
    ∙ ap (λ a. run_of n (g.R.Roots.meanings c.args.roots.now) (items_without (called (macros_by c.args.arena.now c.args.macros.now) (c.args.left - 1)) (items_with a d.body)) (scene_of c.args.run.now, g.R.Roots.kept c.args.roots.now)) (sym tree))
    c.run_items.ensures.cut

pub run_item-returns-in_err-spend-in-Text-clause-cut : goal.run_item-returns-in_err-spend-in-Text-clause-cut
run_item-returns-in_err-spend-in-Text-clause-cut g t c =
    still_run c.args.budget (g.R.Roots.meanings c.args.roots.now) (seen_item c.args.arena.now c.args.macros.now c.args.left c.args.frame.now (item_of c.args.arena.now c.args.k)) (scene_of c.args.run.now, g.R.Roots.kept c.args.roots.now) _

pub run_item-returns-in_err-write-in-Text-clause-cut : goal.run_item-returns-in_err-write-in-Text-clause-cut
run_item-returns-in_err-write-in-Text-clause-cut g t c =
    still_run c.args.budget (g.R.Roots.meanings c.args.roots.now) (seen_item c.args.arena.now c.args.macros.now c.args.left c.args.frame.now (item_of c.args.arena.now c.args.k)) (scene_of c.args.run.now, g.R.Roots.kept c.args.roots.now) _

pub run_item-returns-in_err-spend-in-Break-clause-cut : goal.run_item-returns-in_err-spend-in-Break-clause-cut
run_item-returns-in_err-spend-in-Break-clause-cut g t c =
    still_run c.args.budget (g.R.Roots.meanings c.args.roots.now) (seen_item c.args.arena.now c.args.macros.now c.args.left c.args.frame.now (item_of c.args.arena.now c.args.k)) (scene_of c.args.run.now, g.R.Roots.kept c.args.roots.now) _

pub run_item-returns-in_err-spend-in-Stop-clause-cut : goal.run_item-returns-in_err-spend-in-Stop-clause-cut
run_item-returns-in_err-spend-in-Stop-clause-cut g t c =
    still_run c.args.budget (g.R.Roots.meanings c.args.roots.now) (seen_item c.args.arena.now c.args.macros.now c.args.left c.args.frame.now (item_of c.args.arena.now c.args.k)) (scene_of c.args.run.now, g.R.Roots.kept c.args.roots.now) _

pub run_item-returns-in-Output-clause-cut : goal.run_item-returns-in-Output-clause-cut
run_item-returns-in-Output-clause-cut g t c =
    still_run c.args.budget (g.R.Roots.meanings c.args.roots.now) (seen_item c.args.arena.now c.args.macros.now c.args.left c.args.frame.now (item_of c.args.arena.now c.args.k)) (scene_of c.args.run.now, g.R.Roots.kept c.args.roots.now) c.run_output.result

pub run_item-returns-in-Set-clause-cut : goal.run_item-returns-in-Set-clause-cut
run_item-returns-in-Set-clause-cut g t c =
    set_lacks c.args.budget (g.R.Roots.meanings c.args.roots.now) (seen_item c.args.arena.now c.args.macros.now c.args.left c.args.frame.now (item_of c.args.arena.now c.args.k)) (scene_of c.args.run.now, g.R.Roots.kept c.args.roots.now) (g.R.Roots.kept c.run_set.new.roots) c.run_set.result c.run_set.ensures.err

pub run_item-returns-in-If-clause-cut : goal.run_item-returns-in-If-clause-cut
run_item-returns-in-If-clause-cut g t c =
    let i : Item = choose (seen_branches c.args.arena.now c.args.macros.now c.args.left c.args.frame.now (branches_made (expr_of c.args.arena.now.exprs) (item_of c.args.arena.now) c.in-If.branches.items (items_made (item_of c.args.arena.now) c.in-If.otherwise.items))) in
    cuts_as c.args.budget (scene_of c.args.run.now, g.R.Roots.kept c.args.roots.now) (λ n. meaning n (g.R.Roots.meanings c.args.roots.now) i (scene_of c.args.run.now, g.R.Roots.kept c.args.roots.now)) (λ n. run_of n (g.R.Roots.meanings c.args.roots.now) (seen_item c.args.arena.now c.args.macros.now c.args.left c.args.frame.now (item_of c.args.arena.now c.args.k)) (scene_of c.args.run.now, g.R.Roots.kept c.args.roots.now)) (g.R.Roots.kept c.run_choice.new.roots) c.run_choice.result
    (λ n. ap (λ z. run_of n (g.R.Roots.meanings c.args.roots.now) (seen_item c.args.arena.now c.args.macros.now c.args.left c.args.frame.now z) (scene_of c.args.run.now, g.R.Roots.kept c.args.roots.now)) (c.item.ensures.opened ∙ ap (item_made (expr_of c.args.arena.now.exprs) (item_of c.args.arena.now)) c.in-If.is) ∙ run_alone n (g.R.Roots.meanings c.args.roots.now) i (scene_of c.args.run.now, g.R.Roots.kept c.args.roots.now))
    (choice_read c.args.budget (g.R.Roots.meanings c.args.roots.now) (called (macros_by c.args.arena.now c.args.macros.now) c.args.left) (arguments_of c.args.arena.now.exprs c.args.frame.now) (expr_of c.args.arena.now.exprs) (item_of c.args.arena.now) c.deref-in-If.result.now c.in-If.branches.items c.deref-in-If-2.result.now c.in-If.otherwise.items (scene_of c.args.run.now, g.R.Roots.kept c.args.roots.now) (g.R.Roots.kept c.run_choice.new.roots) c.run_choice.result c.deref-in-If.ensures.value c.deref-in-If-2.ensures.value c.run_choice.ensures.cut)

pub run_item-returns-in-ForEach-clause-cut : goal.run_item-returns-in-ForEach-clause-cut
run_item-returns-in-ForEach-clause-cut g t c =
    let i : Item = foreach c.in-ForEach.name (seen c.args.arena.now.exprs c.args.frame.now c.in-ForEach.e) (seen_items c.args.arena.now c.args.macros.now c.args.left c.args.frame.now (items_made (item_of c.args.arena.now) c.in-ForEach.body.items)) in
    cuts_as c.args.budget (scene_of c.args.run.now, g.R.Roots.kept c.args.roots.now) (λ n. meaning n (g.R.Roots.meanings c.args.roots.now) i (scene_of c.args.run.now, g.R.Roots.kept c.args.roots.now)) (λ n. run_of n (g.R.Roots.meanings c.args.roots.now) (seen_item c.args.arena.now c.args.macros.now c.args.left c.args.frame.now (item_of c.args.arena.now c.args.k)) (scene_of c.args.run.now, g.R.Roots.kept c.args.roots.now)) (g.R.Roots.kept c.run_loop.new.roots) c.run_loop.result
    (λ n. ap (λ z. run_of n (g.R.Roots.meanings c.args.roots.now) (seen_item c.args.arena.now c.args.macros.now c.args.left c.args.frame.now z) (scene_of c.args.run.now, g.R.Roots.kept c.args.roots.now)) (c.item.ensures.opened ∙ ap (item_made (expr_of c.args.arena.now.exprs) (item_of c.args.arena.now)) c.in-ForEach.is) ∙ run_alone n (g.R.Roots.meanings c.args.roots.now) i (scene_of c.args.run.now, g.R.Roots.kept c.args.roots.now))
    (rw (c.as_str-in-ForEach.ensures, c.deref-in-ForEach.ensures.value) at c.run_loop.ensures.cut)

pub run_item-returns-in-MacroCall-clause-cut : goal.run_item-returns-in-MacroCall-clause-cut
run_item-returns-in-MacroCall-clause-cut g t c =
    let es = exprs_with (arguments_of c.args.arena.now.exprs c.args.frame.now) (exprs_made (expr_of c.args.arena.now.exprs) c.in-MacroCall.ids.items) in
    let is : Items = called (macros_by c.args.arena.now c.args.macros.now) c.args.left c.in-MacroCall.name es in
    cuts_as c.args.budget (scene_of c.args.run.now, g.R.Roots.kept c.args.roots.now) (λ n. run_of n (g.R.Roots.meanings c.args.roots.now) is (scene_of c.args.run.now, g.R.Roots.kept c.args.roots.now)) (λ n. run_of n (g.R.Roots.meanings c.args.roots.now) (seen_item c.args.arena.now c.args.macros.now c.args.left c.args.frame.now (item_of c.args.arena.now c.args.k)) (scene_of c.args.run.now, g.R.Roots.kept c.args.roots.now)) (g.R.Roots.kept c.run_call.new.roots) c.run_call.result
    (λ n. ap (λ z. run_of n (g.R.Roots.meanings c.args.roots.now) (seen_item c.args.arena.now c.args.macros.now c.args.left c.args.frame.now z) (scene_of c.args.run.now, g.R.Roots.kept c.args.roots.now)) (c.item.ensures.opened ∙ ap (item_made (expr_of c.args.arena.now.exprs) (item_of c.args.arena.now)) c.in-MacroCall.is))
    (rw (c.as_str-in-MacroCall.ensures, c.deref-in-MacroCall.ensures.value) at c.run_call.ensures.cut)
