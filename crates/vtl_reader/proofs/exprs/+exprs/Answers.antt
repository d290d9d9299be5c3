use Rattle.std.proofs.Common.{◌≡◌, ◌∙◌, ap, sym, rules, arith, Ok, length, ◌<◌, ◌-◌}
use Rattle.std.specs.Prelude.{map, false}
use Rattle.vtl_grammar.specs.Tree.{expr, step, part, listed, no_exprs, no_steps, no_parts, no_pairs}
use Rattle.vtl_grammar.specs.Expressions.{reader, inside}
use Rattle.vtl_grammar.specs.Bytes.{taken}
use Rattle.vtl_grammar.specs.Lists.{element_turn, elements, pair_turn, with_pair}
use Rattle.vtl_grammar.specs.References.{argument_turn, step_turn}
use Rattle.vtl_grammar.specs.Strings.{part_turn}
use Rattle.vtl_grammar.specs.Loops.{folded}
use Rattle.vtl_words.specs.Fronts.{dots_view}
use Rattle.vtl_words.specs.Views.{op_of}
use Rattle.vtl_reader.specs.Nodes.{expr_of, step_made, part_made, pair_made, StepBelow, PartBelow, PairBelow}
use Rattle.vtl_reader.specs.Views.{ahead_of}
use Rattle.std.specs.Option.{option_map}
use Rattle.vtl_reader.proofs.Chains as chains
use Rattle.vtl_reader.proofs.Gathering as loops
use Rattle.vtl_reader.proofs.Trees.{keeps_trans, chain_kept, links_more, ids_more, steps_more, parts_more, pairs_more, all_push, map_push, exprs_kept, steps_kept, parts_kept, pairs_kept}
use Rattle.vtl_reader.proofs.exprs.+exprs.Goals as goal

pub read_links-returns-in-Err-clause-gives : goal.read_links-returns-in-Err-clause-gives
read_links-returns-in-Err-clause-gives t c =
    chains.at_fault _ _ _ _ _ _ _ c.loop-fuel.invariant.so_far c.loop-fuel-test.true _ c.in-Err.ensures

pub read_links-returns-in-Nothing-clause-gives : goal.read_links-returns-in-Nothing-clause-gives
read_links-returns-in-Nothing-clause-gives t c =
    rw (chains.at_nothing _ _ _ _ _ _ _ c.loop-fuel.invariant.so_far c.loop-fuel-test.true (search rules)) c.join.ensures.gives

pub read_links-returns-then-rank-order-clause-gives : goal.read_links-returns-then-rank-order-clause-gives
read_links-returns-then-rank-order-clause-gives t c =
    rw (chains.at_other _ _ _ _ _ _ _ c.loop-fuel.invariant.so_far c.loop-fuel-test.true (op_of c.in-One.operator) c.in-One.more.now (search rules) (λ e. c.if-rank-order.true (c.rank.ensures ∙ e))) c.join-then-rank-order.ensures.gives

pub read_links-returns-in-Err-read_rank-clause-gives : goal.read_links-returns-in-Err-read_rank-clause-gives
read_links-returns-in-Err-read_rank-clause-gives t c =
    chains.at_any_fault _ _ _ _ _ _ _ c.loop-fuel.invariant.so_far c.loop-fuel-test.true (op_of c.in-One.operator) c.in-One.more.now c.in-Err-read_rank.e (search rules) (sym c.rank.ensures ∙ c.if-rank-order.false) c.in-Err-read_rank.ensures.gives

pub read_links-loop-fuel-preserved : goal.read_links-loop-fuel-preserved
read_links-loop-fuel-preserved t c = record {
  so_far =
      rw (c.in_ok-push.ensures.items, chain_kept c.loop-fuel.arena _ c.in-Ok-read_rank.ensures.kept c.args.first c.loop-fuel.further.items (record { operator = c.in-One.operator; operand = c.in-Ok-read_rank.p.0 }) (omega (arith, c.requires.stands, c.loop-fuel.invariant.kept.more_exprs)) c.loop-fuel.invariant.below)
      (chains.at_link _ _ _ _ _ _ _ c.loop-fuel.invariant.so_far c.loop-fuel-test.true (op_of c.in-One.operator) c.in-One.more.now _ _ (search rules) (sym c.rank.ensures ∙ c.if-rank-order.false) c.in-Ok-read_rank.ensures.gives);
  kept = keeps_trans _ _ _ c.loop-fuel.invariant.kept c.in-Ok-read_rank.ensures.kept;
  below = rw c.in_ok-push.ensures.items (all_push _ _ _ (links_more _ _ _ c.in-Ok-read_rank.ensures.kept.more_exprs c.loop-fuel.invariant.below) c.in-Ok-read_rank.ensures.stands);
}

pub read_links-returns-clause-gives : goal.read_links-returns-clause-gives
read_links-returns-clause-gives t c =
    sym c.loop-fuel.invariant.so_far ∙ chains.links_none _ _ _ _ _ _ (omega (arith, c.loop-fuel-test.false))

pub read_elements-returns-in-Err-clause-gives : goal.read_elements-returns-in-Err-clause-gives
read_elements-returns-in-Err-clause-gives t c =
    loops.at_error expr (element_turn (reader c.args.names.now (inside c.args.names.now c.args.inner))) c.loop-fuel.fuel c.loop-fuel.rest.now (map (expr_of c.loop-fuel.arena.exprs) c.loop-fuel.ids.items) _ c.loop-fuel.invariant.so_far c.in-Err.e c.loop-fuel-test.true c.in-Err.ensures.gives

pub read_elements-returns-in-None-clause-gives : goal.read_elements-returns-in-None-clause-gives
read_elements-returns-in-None-clause-gives t c =
    loops.at_end (expr_of c.read_element.new.arena.exprs) expr (element_turn (reader c.args.names.now (inside c.args.names.now c.args.inner))) c.loop-fuel.fuel c.loop-fuel.rest.now (map (expr_of c.loop-fuel.arena.exprs) c.loop-fuel.ids.items) _ c.loop-fuel.invariant.so_far no_exprs c.in-Ok.p.0 c.in-Ok.p.1.now c.loop-fuel-test.true c.in-Ok.ensures.gives c.in-None.is
    ∙ ap (λ z. Ok (folded expr no_exprs z, c.in-Ok.p.1.now)) (sym (exprs_kept c.loop-fuel.arena c.read_element.new.arena c.in-Ok.ensures.kept c.loop-fuel.ids.items c.loop-fuel.invariant.below))

pub read_elements-returns-in-None-clause-below : goal.read_elements-returns-in-None-clause-below
read_elements-returns-in-None-clause-below t c = ids_more _ _ _ c.in-Ok.ensures.kept.more_exprs c.loop-fuel.invariant.below

pub read_elements-loop-fuel-preserved : goal.read_elements-loop-fuel-preserved
read_elements-loop-fuel-preserved t c = record {
  so_far =
      rw (c.in_ok-push-in-Some.ensures.items, map_push (expr_of c.read_element.new.arena.exprs) c.loop-fuel.ids.items c.in-Some.k, exprs_kept c.loop-fuel.arena c.read_element.new.arena c.in-Ok.ensures.kept c.loop-fuel.ids.items c.loop-fuel.invariant.below)
      (loops.at_next (expr_of c.read_element.new.arena.exprs) expr (element_turn (reader c.args.names.now (inside c.args.names.now c.args.inner))) c.loop-fuel.fuel c.loop-fuel.rest.now (map (expr_of c.loop-fuel.arena.exprs) c.loop-fuel.ids.items) _ c.loop-fuel.invariant.so_far no_exprs c.in-Ok.p.0 c.in-Ok.p.1.now c.in-Some.k c.loop-fuel-test.true c.in-Ok.ensures.gives c.in-Some.is);
  kept = keeps_trans _ _ _ c.loop-fuel.invariant.kept c.in-Ok.ensures.kept;
  below = rw c.in_ok-push-in-Some.ensures.items (all_push _ _ _ (ids_more _ _ _ c.in-Ok.ensures.kept.more_exprs c.loop-fuel.invariant.below) (loops.some_holds (λ k. k < (length c.read_element.new.arena.exprs)) _ _ c.in-Some.is c.in-Ok.ensures.stands));
}

pub read_elements-returns-clause-gives : goal.read_elements-returns-clause-gives
read_elements-returns-clause-gives t c =
    loops.at_none expr (element_turn (reader c.args.names.now (inside c.args.names.now c.args.inner))) c.loop-fuel.fuel c.loop-fuel.rest.now (map (expr_of c.loop-fuel.arena.exprs) c.loop-fuel.ids.items) _ c.loop-fuel.invariant.so_far (omega (arith, c.loop-fuel-test.false))

pub read_pairs-returns-in-Err-clause-gives : goal.read_pairs-returns-in-Err-clause-gives
read_pairs-returns-in-Err-clause-gives t c =
    loops.at_error with_pair (pair_turn (reader c.args.names.now (inside c.args.names.now c.args.inner))) c.loop-fuel.fuel c.loop-fuel.rest.now (map (pair_made (expr_of c.loop-fuel.arena.exprs)) c.loop-fuel.pairs.items) _ c.loop-fuel.invariant.so_far c.in-Err.e c.loop-fuel-test.true c.in-Err.ensures.gives

pub read_pairs-returns-in-None-clause-gives : goal.read_pairs-returns-in-None-clause-gives
read_pairs-returns-in-None-clause-gives t c =
    loops.at_end (pair_made (expr_of c.read_next_pair.new.arena.exprs)) with_pair (pair_turn (reader c.args.names.now (inside c.args.names.now c.args.inner))) c.loop-fuel.fuel c.loop-fuel.rest.now (map (pair_made (expr_of c.loop-fuel.arena.exprs)) c.loop-fuel.pairs.items) _ c.loop-fuel.invariant.so_far no_pairs c.in-Ok.p.0 c.in-Ok.p.1.now c.loop-fuel-test.true c.in-Ok.ensures.gives c.in-None.is
    ∙ ap (λ z. Ok (folded with_pair no_pairs z, c.in-Ok.p.1.now)) (sym (pairs_kept c.loop-fuel.arena c.read_next_pair.new.arena c.in-Ok.ensures.kept c.loop-fuel.pairs.items c.loop-fuel.invariant.below))

pub read_pairs-returns-in-None-clause-below : goal.read_pairs-returns-in-None-clause-below
read_pairs-returns-in-None-clause-below t c = pairs_more _ _ _ c.in-Ok.ensures.kept.more_exprs c.loop-fuel.invariant.below

pub read_pairs-loop-fuel-preserved : goal.read_pairs-loop-fuel-preserved
read_pairs-loop-fuel-preserved t c = record {
  so_far =
      rw (c.in_ok-push-in-Some.ensures.items, map_push (pair_made (expr_of c.read_next_pair.new.arena.exprs)) c.loop-fuel.pairs.items c.in-Some.pair, pairs_kept c.loop-fuel.arena c.read_next_pair.new.arena c.in-Ok.ensures.kept c.loop-fuel.pairs.items c.loop-fuel.invariant.below)
      (loops.at_next (pair_made (expr_of c.read_next_pair.new.arena.exprs)) with_pair (pair_turn (reader c.args.names.now (inside c.args.names.now c.args.inner))) c.loop-fuel.fuel c.loop-fuel.rest.now (map (pair_made (expr_of c.loop-fuel.arena.exprs)) c.loop-fuel.pairs.items) _ c.loop-fuel.invariant.so_far no_pairs c.in-Ok.p.0 c.in-Ok.p.1.now c.in-Some.pair c.loop-fuel-test.true c.in-Ok.ensures.gives c.in-Some.is);
  kept = keeps_trans _ _ _ c.loop-fuel.invariant.kept c.in-Ok.ensures.kept;
  below = rw c.in_ok-push-in-Some.ensures.items (all_push _ _ _ (pairs_more _ _ _ c.in-Ok.ensures.kept.more_exprs c.loop-fuel.invariant.below) (loops.some_holds (PairBelow (length c.read_next_pair.new.arena.exprs)) _ _ c.in-Some.is c.in-Ok.ensures.stands));
}

pub read_pairs-returns-clause-gives : goal.read_pairs-returns-clause-gives
read_pairs-returns-clause-gives t c =
    loops.at_none with_pair (pair_turn (reader c.args.names.now (inside c.args.names.now c.args.inner))) c.loop-fuel.fuel c.loop-fuel.rest.now (map (pair_made (expr_of c.loop-fuel.arena.exprs)) c.loop-fuel.pairs.items) _ c.loop-fuel.invariant.so_far (omega (arith, c.loop-fuel-test.false))

pub read_steps-returns-in-Err-clause-gives : goal.read_steps-returns-in-Err-clause-gives
read_steps-returns-in-Err-clause-gives t c =
    loops.at_error step (step_turn (inside c.args.names.now c.args.level) (dots_view c.args.dots)) c.loop-fuel.fuel c.loop-fuel.rest.now (map (step_made (expr_of c.loop-fuel.arena.exprs)) c.loop-fuel.steps.items) _ c.loop-fuel.invariant.so_far c.in-Err.e c.loop-fuel-test.true c.in-Err.ensures.gives

pub read_steps-returns-in-None-clause-gives : goal.read_steps-returns-in-None-clause-gives
read_steps-returns-in-None-clause-gives t c =
    loops.at_end (step_made (expr_of c.read_step.new.arena.exprs)) step (step_turn (inside c.args.names.now c.args.level) (dots_view c.args.dots)) c.loop-fuel.fuel c.loop-fuel.rest.now (map (step_made (expr_of c.loop-fuel.arena.exprs)) c.loop-fuel.steps.items) _ c.loop-fuel.invariant.so_far no_steps c.in-Ok.p.0 c.in-Ok.p.1.now c.loop-fuel-test.true c.in-Ok.ensures.gives c.in-None.is
    ∙ ap (λ z. Ok (folded step no_steps z, c.in-Ok.p.1.now)) (sym (steps_kept c.loop-fuel.arena c.read_step.new.arena c.in-Ok.ensures.kept c.loop-fuel.steps.items c.loop-fuel.invariant.below))

pub read_steps-returns-in-None-clause-below : goal.read_steps-returns-in-None-clause-below
read_steps-returns-in-None-clause-below t c = steps_more _ _ _ c.in-Ok.ensures.kept.more_exprs c.loop-fuel.invariant.below

pub read_steps-loop-fuel-preserved : goal.read_steps-loop-fuel-preserved
read_steps-loop-fuel-preserved t c = record {
  so_far =
      rw (c.in_ok-push-in-Some.ensures.items, map_push (step_made (expr_of c.read_step.new.arena.exprs)) c.loop-fuel.steps.items c.in-Some.step, steps_kept c.loop-fuel.arena c.read_step.new.arena c.in-Ok.ensures.kept c.loop-fuel.steps.items c.loop-fuel.invariant.below)
      (loops.at_next (step_made (expr_of c.read_step.new.arena.exprs)) step (step_turn (inside c.args.names.now c.args.level) (dots_view c.args.dots)) c.loop-fuel.fuel c.loop-fuel.rest.now (map (step_made (expr_of c.loop-fuel.arena.exprs)) c.loop-fuel.steps.items) _ c.loop-fuel.invariant.so_far no_steps c.in-Ok.p.0 c.in-Ok.p.1.now c.in-Some.step c.loop-fuel-test.true c.in-Ok.ensures.gives c.in-Some.is);
  kept = keeps_trans _ _ _ c.loop-fuel.invariant.kept c.in-Ok.ensures.kept;
  below = rw c.in_ok-push-in-Some.ensures.items (all_push _ _ _ (steps_more _ _ _ c.in-Ok.ensures.kept.more_exprs c.loop-fuel.invariant.below) (loops.some_holds (StepBelow (length c.read_step.new.arena.exprs)) _ _ c.in-Some.is c.in-Ok.ensures.stands));
}

pub read_steps-returns-clause-gives : goal.read_steps-returns-clause-gives
read_steps-returns-clause-gives t c =
    loops.at_none step (step_turn (inside c.args.names.now c.args.level) (dots_view c.args.dots)) c.loop-fuel.fuel c.loop-fuel.rest.now (map (step_made (expr_of c.loop-fuel.arena.exprs)) c.loop-fuel.steps.items) _ c.loop-fuel.invariant.so_far (omega (arith, c.loop-fuel-test.false))

pub read_parts-returns-in-Err-clause-gives : goal.read_parts-returns-in-Err-clause-gives
read_parts-returns-in-Err-clause-gives t c =
    loops.at_error part (part_turn c.args.names.now (inside c.args.names.now c.args.level)) c.loop-fuel.fuel c.loop-fuel.rest.now (map (part_made (expr_of c.loop-fuel.arena.exprs)) c.loop-fuel.parts.items) _ c.loop-fuel.invariant.so_far c.in-Err.e c.loop-fuel-test.true c.in-Err.ensures.gives

pub read_parts-returns-in-None-clause-gives : goal.read_parts-returns-in-None-clause-gives
read_parts-returns-in-None-clause-gives t c =
    loops.at_end (part_made (expr_of c.read_part.new.arena.exprs)) part (part_turn c.args.names.now (inside c.args.names.now c.args.level)) c.loop-fuel.fuel c.loop-fuel.rest.now (map (part_made (expr_of c.loop-fuel.arena.exprs)) c.loop-fuel.parts.items) _ c.loop-fuel.invariant.so_far no_parts c.in-Ok.p.0 c.in-Ok.p.1.now c.loop-fuel-test.true c.in-Ok.ensures.gives c.in-None.is
    ∙ ap (λ z. Ok (folded part no_parts z, c.in-Ok.p.1.now)) (sym (parts_kept c.loop-fuel.arena c.read_part.new.arena c.in-Ok.ensures.kept c.loop-fuel.parts.items c.loop-fuel.invariant.below))

pub read_parts-returns-in-None-clause-below : goal.read_parts-returns-in-None-clause-below
read_parts-returns-in-None-clause-below t c = parts_more _ _ _ c.in-Ok.ensures.kept.more_exprs c.loop-fuel.invariant.below

pub read_parts-loop-fuel-preserved : goal.read_parts-loop-fuel-preserved
read_parts-loop-fuel-preserved t c = record {
  so_far =
      rw (c.in_ok-push-in-Some.ensures.items, map_push (part_made (expr_of c.read_part.new.arena.exprs)) c.loop-fuel.parts.items c.in-Some.part, parts_kept c.loop-fuel.arena c.read_part.new.arena c.in-Ok.ensures.kept c.loop-fuel.parts.items c.loop-fuel.invariant.below)
      (loops.at_next (part_made (expr_of c.read_part.new.arena.exprs)) part (part_turn c.args.names.now (inside c.args.names.now c.args.level)) c.loop-fuel.fuel c.loop-fuel.rest.now (map (part_made (expr_of c.loop-fuel.arena.exprs)) c.loop-fuel.parts.items) _ c.loop-fuel.invariant.so_far no_parts c.in-Ok.p.0 c.in-Ok.p.1.now c.in-Some.part c.loop-fuel-test.true c.in-Ok.ensures.gives c.in-Some.is);
  kept = keeps_trans _ _ _ c.loop-fuel.invariant.kept c.in-Ok.ensures.kept;
  below = rw c.in_ok-push-in-Some.ensures.items (all_push _ _ _ (parts_more _ _ _ c.in-Ok.ensures.kept.more_exprs c.loop-fuel.invariant.below) (loops.some_holds (PartBelow (length c.read_part.new.arena.exprs)) _ _ c.in-Some.is c.in-Ok.ensures.stands));
}

pub read_parts-returns-clause-gives : goal.read_parts-returns-clause-gives
read_parts-returns-clause-gives t c =
    loops.at_none part (part_turn c.args.names.now (inside c.args.names.now c.args.level)) c.loop-fuel.fuel c.loop-fuel.rest.now (map (part_made (expr_of c.loop-fuel.arena.exprs)) c.loop-fuel.parts.items) _ c.loop-fuel.invariant.so_far (omega (arith, c.loop-fuel-test.false))

pub read_arguments-returns-in-Err-clause-gives : goal.read_arguments-returns-in-Err-clause-gives
read_arguments-returns-in-Err-clause-gives t c =
    loops.at_error expr (argument_turn (reader c.args.names.now (inside c.args.names.now c.args.inner)) c.args.at) c.loop-fuel.fuel (record { few = c.loop-fuel.needed; many = c.loop-fuel.allowed; rest = c.loop-fuel.rest.now }) (map (expr_of c.loop-fuel.arena.exprs) c.loop-fuel.ids.items) _ c.loop-fuel.invariant.so_far c.in-Err.e c.loop-fuel-test.true c.in-Err.ensures.gives

pub read_arguments-returns-in-None-clause-gives : goal.read_arguments-returns-in-None-clause-gives
read_arguments-returns-in-None-clause-gives t c =
    loops.at_last expr (argument_turn (reader c.args.names.now (inside c.args.names.now c.args.inner)) c.args.at) c.loop-fuel.fuel (record { few = c.loop-fuel.needed; many = c.loop-fuel.allowed; rest = c.loop-fuel.rest.now }) (map (expr_of c.loop-fuel.arena.exprs) c.loop-fuel.ids.items) _ c.loop-fuel.invariant.so_far (no_exprs, c.in-Ok.p.1.now) c.loop-fuel-test.true (c.in-Ok.ensures.gives ∙ ap (λ o. Ok (ahead_of c.loop-fuel.needed c.loop-fuel.allowed (option_map (expr_of c.read_argument.new.arena.exprs) o) c.in-Ok.p.1.now)) c.in-None.is)
    ∙ ap (λ z. Ok (folded expr no_exprs z, c.in-Ok.p.1.now)) (sym (exprs_kept c.loop-fuel.arena c.read_argument.new.arena c.in-Ok.ensures.kept c.loop-fuel.ids.items c.loop-fuel.invariant.below))

pub read_arguments-returns-in-None-clause-below : goal.read_arguments-returns-in-None-clause-below
read_arguments-returns-in-None-clause-below t c = ids_more _ _ _ c.in-Ok.ensures.kept.more_exprs c.loop-fuel.invariant.below

pub read_arguments-loop-fuel-preserved : goal.read_arguments-loop-fuel-preserved
read_arguments-loop-fuel-preserved t c =
    let few : c.saturating_sub-needed.result ≡ c.loop-fuel.needed - 1 = search rules in
    let many : c.saturating_sub-allowed.result ≡ c.loop-fuel.allowed - 1 = search rules in
    record {
      so_far =
          rw (c.in_ok-push-in-Some.ensures.items, few, many, map_push (expr_of c.read_argument.new.arena.exprs) c.loop-fuel.ids.items c.in-Some.k, exprs_kept c.loop-fuel.arena c.read_argument.new.arena c.in-Ok.ensures.kept c.loop-fuel.ids.items c.loop-fuel.invariant.below)
          (loops.at_more expr (argument_turn (reader c.args.names.now (inside c.args.names.now c.args.inner)) c.args.at) c.loop-fuel.fuel (record { few = c.loop-fuel.needed; many = c.loop-fuel.allowed; rest = c.loop-fuel.rest.now }) (map (expr_of c.loop-fuel.arena.exprs) c.loop-fuel.ids.items) _ c.loop-fuel.invariant.so_far (expr_of c.read_argument.new.arena.exprs c.in-Some.k) (record { few = c.loop-fuel.needed - 1; many = c.loop-fuel.allowed - 1; rest = c.in-Ok.p.1.now }) c.loop-fuel-test.true (c.in-Ok.ensures.gives ∙ ap (λ o. Ok (ahead_of c.loop-fuel.needed c.loop-fuel.allowed (option_map (expr_of c.read_argument.new.arena.exprs) o) c.in-Ok.p.1.now)) c.in-Some.is));
      kept = keeps_trans _ _ _ c.loop-fuel.invariant.kept c.in-Ok.ensures.kept;
      below = rw c.in_ok-push-in-Some.ensures.items (all_push _ _ _ (ids_more _ _ _ c.in-Ok.ensures.kept.more_exprs c.loop-fuel.invariant.below) (loops.some_holds (λ k. k < (length c.read_argument.new.arena.exprs)) _ _ c.in-Some.is c.in-Ok.ensures.stands));
    }

pub read_arguments-returns-clause-gives : goal.read_arguments-returns-clause-gives
read_arguments-returns-clause-gives t c =
    loops.at_none expr (argument_turn (reader c.args.names.now (inside c.args.names.now c.args.inner)) c.args.at) c.loop-fuel.fuel (record { few = c.loop-fuel.needed; many = c.loop-fuel.allowed; rest = c.loop-fuel.rest.now }) (map (expr_of c.loop-fuel.arena.exprs) c.loop-fuel.ids.items) _ c.loop-fuel.invariant.so_far (omega (arith, c.loop-fuel-test.false))

pub read_behind_first-returns-in-Err-clause-gives : goal.read_behind_first-returns-in-Err-clause-gives
read_behind_first-returns-in-Err-clause-gives t c =
    let at : taken 46 c.args.bs.now ≡ (false, c.taken-is_range.result.1.now) = search rules in
    rw at (loops.bind_fails (elements (reader c.args.names.now (inside c.args.names.now c.args.inner)) (expr_of c.args.arena.now.exprs c.args.first) c.taken-is_range.result.1.now) (λ es. Ok (listed es.0, es.1)) c.in-Err.e c.in-Err.ensures.gives)

pub read_behind_first-returns-clause-gives : goal.read_behind_first-returns-clause-gives
read_behind_first-returns-clause-gives t c =
    let at : taken 46 c.args.bs.now ≡ (false, c.taken-is_range.result.1.now) = search rules in
    rw (at, c.in-Ok.ensures.gives) c.close_list.ensures.gives
