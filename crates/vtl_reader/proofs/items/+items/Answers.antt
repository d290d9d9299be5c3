use Rattle.std.proofs.Common.{◌≡◌, ◌∙◌, ap, sym, arith, Ok, map, ◌++◌, ◌∷◌, []}
use Rattle.vtl_grammar.specs.Tree as tree
use Rattle.vtl_grammar.specs.Tree.{otherwise, no_items}
use Rattle.vtl_grammar.specs.Loops.{folded, last}
use Rattle.vtl_grammar.specs.Items.{items, item_turn, branch_turn, with_branch, with_items, text_item, below}
use Rattle.vtl_reader.specs.Nodes.{expr_of, item_of, items_made, branch_made}
use Rattle.vtl_reader.specs.Blocks.{around_of, stop_of, item_turn_of, branch_turn_of}
use Rattle.vtl_reader.proofs.Blocking as runs
use Rattle.vtl_reader.proofs.Gathering as loops
use Rattle.vtl_reader.proofs.Trees.{keeps_trans, map_push, items_kept, branches_kept, all_push, ids_more, branches_more}
use Rattle.vtl_reader.proofs.items.+items.Goals as goal

pub read_branch-returns-in-Ok-read_block-clause-gives : goal.read_branch-returns-in-Ok-read_block-clause-gives
read_branch-returns-in-Ok-read_block-clause-gives t c =
    let kept = keeps_trans _ _ _ c.in-Ok.ensures.kept c.in-Ok-read_block.ensures.kept in
    runs.branch_else (items (below c.args.names.now c.args.level)) (around_of [] c.args.around.now) (expr_of c.args.arena.now.exprs c.args.condition) (c.args.line, c.args.bs.now) (c.in-Else.line, c.in-Else.rest.now) (c.in-Ok-read_block.line, c.in-Ok-read_block.rest.now) (items_made (item_of c.read_items.new.arena) c.in-Ok.p.0.items) (items_made (item_of c.read_block.new.arena) c.in-Ok-read_block.ids.items)
    (c.in-Ok.ensures.gives ∙ ap (λ s. Ok (items_made (item_of c.read_items.new.arena) c.in-Ok.p.0.items, stop_of c.read_items.new.arena s)) c.in-Else.is) c.in-Ok-read_block.ensures.gives
    ∙ ap (λ z. Ok (last (tree.branch z (items_made (item_of c.read_items.new.arena) c.in-Ok.p.0.items) (otherwise (items_made (item_of c.read_block.new.arena) c.in-Ok-read_block.ids.items)), (c.in-Ok-read_block.line, c.in-Ok-read_block.rest.now)))) (sym (kept.same_exprs c.args.condition c.requires.stands))
    ∙ ap (λ z. Ok (last (tree.branch (expr_of c.read_block.new.arena.exprs c.args.condition) (with_items z no_items) (otherwise (items_made (item_of c.read_block.new.arena) c.in-Ok-read_block.ids.items)), (c.in-Ok-read_block.line, c.in-Ok-read_block.rest.now)))) (sym (items_kept c.read_items.new.arena c.read_block.new.arena c.in-Ok-read_block.ensures.kept c.in-Ok.p.0.items c.in-Ok.ensures.below))

pub read_branch-returns-in-Ok-read_block-clause-stands : goal.read_branch-returns-in-Ok-read_block-clause-stands
read_branch-returns-in-Ok-read_block-clause-stands t c =
    ((omega (arith, c.requires.stands, c.in-Ok.ensures.kept.more_exprs, c.in-Ok-read_block.ensures.kept.more_exprs), ids_more _ _ _ c.in-Ok-read_block.ensures.kept.more_items c.in-Ok.ensures.below), c.in-Ok-read_block.ensures.below, c.in-Ok-read_block.ensures.line)

pub read_branches-returns-clause-gives : goal.read_branches-returns-clause-gives
read_branches-returns-clause-gives t c = loops.at_none with_branch (branch_turn (items (below c.args.names.now c.args.level)) (around_of [] c.args.around.now)) c.loop-fuel.fuel (expr_of c.loop-fuel.arena.exprs c.loop-fuel.condition, (c.loop-fuel.line, c.loop-fuel.rest.now)) (map (branch_made (expr_of c.loop-fuel.arena.exprs) (item_of c.loop-fuel.arena)) c.loop-fuel.branches.items) _ c.loop-fuel.invariant.so_far (omega (arith, c.loop-fuel-test.false))

pub read_branches-returns-in-Err-clause-gives : goal.read_branches-returns-in-Err-clause-gives
read_branches-returns-in-Err-clause-gives t c = loops.at_error with_branch (branch_turn (items (below c.args.names.now c.args.level)) (around_of [] c.args.around.now)) c.loop-fuel.fuel (expr_of c.loop-fuel.arena.exprs c.loop-fuel.condition, (c.loop-fuel.line, c.loop-fuel.rest.now)) (map (branch_made (expr_of c.loop-fuel.arena.exprs) (item_of c.loop-fuel.arena)) c.loop-fuel.branches.items) _ c.loop-fuel.invariant.so_far c.in-Err.e c.loop-fuel-test.true c.in-Err.ensures.gives

pub read_branches-loop-fuel-preserved : goal.read_branches-loop-fuel-preserved
read_branches-loop-fuel-preserved t c =
    record {
      so_far =
          rw (c.in_ok-push-in-More.ensures.items, map_push (branch_made (expr_of c.read_branch.new.arena.exprs) (item_of c.read_branch.new.arena)) c.loop-fuel.branches.items c.in-More.branch, branches_kept c.loop-fuel.arena c.read_branch.new.arena c.in-Ok.ensures.kept c.loop-fuel.branches.items c.loop-fuel.invariant.below)
          (loops.at_more with_branch (branch_turn (items (below c.args.names.now c.args.level)) (around_of [] c.args.around.now)) c.loop-fuel.fuel (expr_of c.loop-fuel.arena.exprs c.loop-fuel.condition, (c.loop-fuel.line, c.loop-fuel.rest.now)) (map (branch_made (expr_of c.loop-fuel.arena.exprs) (item_of c.loop-fuel.arena)) c.loop-fuel.branches.items) _ c.loop-fuel.invariant.so_far (branch_made (expr_of c.read_branch.new.arena.exprs) (item_of c.read_branch.new.arena) c.in-More.branch) (expr_of c.read_branch.new.arena.exprs c.in-More.next, (c.in-More.behind, c.in-More.more.now)) c.loop-fuel-test.true (c.in-Ok.ensures.gives ∙ ap (λ u. Ok (branch_turn_of c.read_branch.new.arena u)) c.in-More.is));
      kept = keeps_trans _ _ _ c.loop-fuel.invariant.kept c.in-Ok.ensures.kept;
      below = rw c.in_ok-push-in-More.ensures.items (all_push _ _ _ (branches_more _ _ _ _ _ c.in-Ok.ensures.kept.more_exprs c.in-Ok.ensures.kept.more_items c.loop-fuel.invariant.below) (runs.branch_stands c.read_branch.new.arena _ _ c.in-More.is c.in-Ok.ensures.stands).0);
      stands = (runs.branch_stands c.read_branch.new.arena _ _ c.in-More.is c.in-Ok.ensures.stands).1;
      fresh = (runs.branch_stands c.read_branch.new.arena _ _ c.in-More.is c.in-Ok.ensures.stands).2;
    }

pub read_branches-returns-in-Last-clause-below : goal.read_branches-returns-in-Last-clause-below
read_branches-returns-in-Last-clause-below t c =
    (rw c.in_ok-push-in-Last.ensures.items (all_push _ _ _ (branches_more _ _ _ _ _ c.in-Ok.ensures.kept.more_exprs c.in-Ok.ensures.kept.more_items c.loop-fuel.invariant.below) (runs.branch_stands c.read_branch.new.arena _ _ c.in-Last.is c.in-Ok.ensures.stands).0), (runs.branch_stands c.read_branch.new.arena _ _ c.in-Last.is c.in-Ok.ensures.stands).1)

pub read_branches-returns-in-Last-clause-kept : goal.read_branches-returns-in-Last-clause-kept
read_branches-returns-in-Last-clause-kept t c = keeps_trans _ _ _ c.loop-fuel.invariant.kept c.in-Ok.ensures.kept

pub read_branches-returns-in-Last-clause-gives : goal.read_branches-returns-in-Last-clause-gives
read_branches-returns-in-Last-clause-gives t c =
    let made = otherwise (items_made (item_of c.read_branch.new.arena) c.in-Last.otherwise.items) in
    loops.at_last with_branch (branch_turn (items (below c.args.names.now c.args.level)) (around_of [] c.args.around.now)) c.loop-fuel.fuel (expr_of c.loop-fuel.arena.exprs c.loop-fuel.condition, (c.loop-fuel.line, c.loop-fuel.rest.now)) (map (branch_made (expr_of c.loop-fuel.arena.exprs) (item_of c.loop-fuel.arena)) c.loop-fuel.branches.items) _ c.loop-fuel.invariant.so_far (with_branch (branch_made (expr_of c.read_branch.new.arena.exprs) (item_of c.read_branch.new.arena) c.in-Last.branch) made, (c.in-Last.line, c.in-Last.rest.now)) c.loop-fuel-test.true (c.in-Ok.ensures.gives ∙ ap (λ u. Ok (branch_turn_of c.read_branch.new.arena u)) c.in-Last.is)
    ∙ ap (λ z. Ok (z, (c.in-Last.line, c.in-Last.rest.now))) (sym (
    ap (λ z. folded with_branch made (map (branch_made (expr_of c.read_branch.new.arena.exprs) (item_of c.read_branch.new.arena)) z)) c.in_ok-push-in-Last.ensures.items
    ∙ ap (folded with_branch made) (map_push (branch_made (expr_of c.read_branch.new.arena.exprs) (item_of c.read_branch.new.arena)) c.loop-fuel.branches.items c.in-Last.branch ∙ ap (λ z. z ++ branch_made (expr_of c.read_branch.new.arena.exprs) (item_of c.read_branch.new.arena) c.in-Last.branch ∷ []) (branches_kept c.loop-fuel.arena c.read_branch.new.arena c.in-Ok.ensures.kept c.loop-fuel.branches.items c.loop-fuel.invariant.below))
    ∙ loops.folded_push with_branch made (map (branch_made (expr_of c.loop-fuel.arena.exprs) (item_of c.loop-fuel.arena)) c.loop-fuel.branches.items) (branch_made (expr_of c.read_branch.new.arena.exprs) (item_of c.read_branch.new.arena) c.in-Last.branch)))

pub read_items-returns-clause-gives : goal.read_items-returns-clause-gives
read_items-returns-clause-gives t c = runs.at_none (item_turn (below c.args.names.now c.args.level)) c.loop-fuel.fuel (around_of c.loop-fuel.defined c.args.around.now, (c.loop-fuel.line, c.loop-fuel.rest.now)) (map (item_of c.loop-fuel.arena) c.loop-fuel.ids.items) _ c.loop-fuel.invariant.so_far (omega (arith, c.loop-fuel-test.false))

pub read_items-returns-in-Err-clause-gives : goal.read_items-returns-in-Err-clause-gives
read_items-returns-in-Err-clause-gives t c = runs.at_error (item_turn (below c.args.names.now c.args.level)) c.loop-fuel.fuel (around_of c.loop-fuel.defined c.args.around.now, (c.loop-fuel.line, c.loop-fuel.rest.now)) (map (item_of c.loop-fuel.arena) c.loop-fuel.ids.items) _ c.loop-fuel.invariant.so_far c.in-Err.e c.loop-fuel-test.true c.in-Err.ensures.gives

pub read_items-flush-requires : goal.read_items-flush-requires
read_items-flush-requires t c = record { below = ids_more _ _ _ c.in-Ok.ensures.kept.more_items c.loop-fuel.invariant.below }

pub read_items-returns-in-End-clause-kept : goal.read_items-returns-in-End-clause-kept
read_items-returns-in-End-clause-kept t c = keeps_trans _ _ _ c.loop-fuel.invariant.kept (keeps_trans _ _ _ c.in-Ok.ensures.kept c.in-Ok-flush.ensures.kept)

pub read_items-returns-in-End-clause-gives : goal.read_items-returns-in-End-clause-gives
read_items-returns-in-End-clause-gives t c =
    let texts : map (item_of c.flush.new.arena) c.flush.new.ids.items ≡ map (item_of c.loop-fuel.arena) c.loop-fuel.ids.items ++ text_item c.read_turn.new.text.items =
    c.in-Ok-flush.ensures.items ∙ ap (λ z. z ++ text_item c.deref.result.now) (items_kept c.loop-fuel.arena c.read_turn.new.arena c.in-Ok.ensures.kept c.loop-fuel.ids.items c.loop-fuel.invariant.below) ∙ ap (λ z. map (item_of c.loop-fuel.arena) c.loop-fuel.ids.items ++ text_item z) c.deref.ensures.value in
    runs.at_last (item_turn (below c.args.names.now c.args.level)) c.loop-fuel.fuel (around_of c.loop-fuel.defined c.args.around.now, (c.loop-fuel.line, c.loop-fuel.rest.now)) (map (item_of c.loop-fuel.arena) c.loop-fuel.ids.items) _ c.loop-fuel.invariant.so_far (text_item c.read_turn.new.text.items) (stop_of c.read_turn.new.arena c.in-End.stop) c.loop-fuel-test.true (c.in-Ok.ensures.gives ∙ ap (λ u. Ok (item_turn_of c.read_turn.new.arena c.read_turn.new.text.items (around_of c.read_turn.new.defined c.args.around.now) u)) c.in-End.is)
    ∙ ap (λ z. Ok (with_items z no_items, stop_of c.read_turn.new.arena c.in-End.stop)) (sym texts)
    ∙ ap (λ z. Ok (items_made (item_of c.flush.new.arena) c.flush.new.ids.items, z)) (sym (runs.stop_kept c.read_turn.new.arena c.flush.new.arena c.in-End.stop c.in-Ok-flush.ensures.kept (runs.turn_stands c.read_turn.new.arena _ _ c.in-End.is c.in-Ok.ensures.stands)))

pub read_items-loop-fuel-preserved : goal.read_items-loop-fuel-preserved
read_items-loop-fuel-preserved t c =
    let texts : map (item_of c.flush.new.arena) c.flush.new.ids.items ≡ map (item_of c.loop-fuel.arena) c.loop-fuel.ids.items ++ text_item c.read_turn.new.text.items =
    c.in-Ok-flush.ensures.items ∙ ap (λ z. z ++ text_item c.deref.result.now) (items_kept c.loop-fuel.arena c.read_turn.new.arena c.in-Ok.ensures.kept c.loop-fuel.ids.items c.loop-fuel.invariant.below) ∙ ap (λ z. map (item_of c.loop-fuel.arena) c.loop-fuel.ids.items ++ text_item z) c.deref.ensures.value in
    let stands = runs.turn_stands c.read_turn.new.arena _ _ c.in-Item.is c.in-Ok.ensures.stands in
    let all : map (item_of c.flush.new.arena) c.push.new.self.items ≡ map (item_of c.loop-fuel.arena) c.loop-fuel.ids.items ++ (text_item c.read_turn.new.text.items ++ item_of c.read_turn.new.arena c.in-Item.k ∷ []) =
    ap (map (item_of c.flush.new.arena)) c.in_ok-push-in-Item.ensures.items ∙ map_push (item_of c.flush.new.arena) c.flush.new.ids.items c.in-Item.k
    ∙ ap (λ z. z ++ item_of c.flush.new.arena c.in-Item.k ∷ []) texts
    ∙ ap (λ z. (map (item_of c.loop-fuel.arena) c.loop-fuel.ids.items ++ text_item c.read_turn.new.text.items) ++ z ∷ []) (c.in-Ok-flush.ensures.kept.same_items c.in-Item.k stands.0)
    ∙ runs.after_text (map (item_of c.loop-fuel.arena) c.loop-fuel.ids.items) (text_item c.read_turn.new.text.items) (item_of c.read_turn.new.arena c.in-Item.k) in
    record {
      so_far = rw all (runs.at_more (item_turn (below c.args.names.now c.args.level)) c.loop-fuel.fuel (around_of c.loop-fuel.defined c.args.around.now, (c.loop-fuel.line, c.loop-fuel.rest.now)) (map (item_of c.loop-fuel.arena) c.loop-fuel.ids.items) _ c.loop-fuel.invariant.so_far (text_item c.read_turn.new.text.items ++ item_of c.read_turn.new.arena c.in-Item.k ∷ []) (around_of c.read_turn.new.defined c.args.around.now, (c.in-Item.behind, c.in-Item.more.now)) c.loop-fuel-test.true (c.in-Ok.ensures.gives ∙ ap (λ u. Ok (item_turn_of c.read_turn.new.arena c.read_turn.new.text.items (around_of c.read_turn.new.defined c.args.around.now) u)) c.in-Item.is));
      kept = keeps_trans _ _ _ c.loop-fuel.invariant.kept (keeps_trans _ _ _ c.in-Ok.ensures.kept c.in-Ok-flush.ensures.kept);
      below = rw c.in_ok-push-in-Item.ensures.items (all_push _ _ _ c.in-Ok-flush.ensures.below (omega (arith, stands.0, c.in-Ok-flush.ensures.kept.more_items)));
      fresh = stands.1;
    }
