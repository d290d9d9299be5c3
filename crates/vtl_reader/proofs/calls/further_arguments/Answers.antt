use Rattle.std.proofs.Common.{◌∙◌, ap, sym, arith, Ok, length, ◌<◌, map}
use Rattle.vtl_grammar.specs.Tree.{expr, no_exprs}
use Rattle.vtl_grammar.specs.Expressions.{reader, inside}
use Rattle.vtl_grammar.specs.Directives.{call_turn}
use Rattle.vtl_grammar.specs.Loops.{folded}
use Rattle.vtl_reader.specs.Nodes.{expr_of}
use Rattle.vtl_reader.proofs.Gathering as loops
use Rattle.vtl_reader.proofs.Trees.{keeps_trans, ids_more, all_push, map_push, exprs_kept}
use Rattle.vtl_reader.proofs.calls.further_arguments.Goals as goal

pub returns-in-Err-clause-gives : goal.returns-in-Err-clause-gives
returns-in-Err-clause-gives c =
    loops.at_error expr (call_turn (reader c.args.names.now (inside c.args.names.now c.args.inner))) c.loop-fuel.fuel c.loop-fuel.rest.now (map (expr_of c.loop-fuel.arena.exprs) c.loop-fuel.ids.items) _ c.loop-fuel.invariant.so_far c.in-Err.e c.loop-fuel-test.true c.in-Err.ensures.gives

pub returns-in-None-clause-gives : goal.returns-in-None-clause-gives
returns-in-None-clause-gives c =
    loops.at_end (expr_of c.next_argument.new.arena.exprs) expr (call_turn (reader c.args.names.now (inside c.args.names.now c.args.inner))) c.loop-fuel.fuel c.loop-fuel.rest.now (map (expr_of c.loop-fuel.arena.exprs) c.loop-fuel.ids.items) _ c.loop-fuel.invariant.so_far no_exprs c.in-Ok.p.0 c.in-Ok.p.1.now c.loop-fuel-test.true c.in-Ok.ensures.gives c.in-None.is
    ∙ ap (λ z. Ok (folded expr no_exprs z, c.in-Ok.p.1.now)) (sym (exprs_kept c.loop-fuel.arena c.next_argument.new.arena c.in-Ok.ensures.kept c.loop-fuel.ids.items c.loop-fuel.invariant.below))

pub returns-in-None-clause-below : goal.returns-in-None-clause-below
returns-in-None-clause-below c = ids_more _ _ _ c.in-Ok.ensures.kept.more_exprs c.loop-fuel.invariant.below

pub loop-fuel-preserved : goal.loop-fuel-preserved
loop-fuel-preserved c = record {
  so_far =
      rw (c.in_ok-push-in-Some.ensures.items, map_push (expr_of c.next_argument.new.arena.exprs) c.loop-fuel.ids.items c.in-Some.k, exprs_kept c.loop-fuel.arena c.next_argument.new.arena c.in-Ok.ensures.kept c.loop-fuel.ids.items c.loop-fuel.invariant.below)
      (loops.at_next (expr_of c.next_argument.new.arena.exprs) expr (call_turn (reader c.args.names.now (inside c.args.names.now c.args.inner))) c.loop-fuel.fuel c.loop-fuel.rest.now (map (expr_of c.loop-fuel.arena.exprs) c.loop-fuel.ids.items) _ c.loop-fuel.invariant.so_far no_exprs c.in-Ok.p.0 c.in-Ok.p.1.now c.in-Some.k c.loop-fuel-test.true c.in-Ok.ensures.gives c.in-Some.is);
  kept = keeps_trans _ _ _ c.loop-fuel.invariant.kept c.in-Ok.ensures.kept;
  below = rw c.in_ok-push-in-Some.ensures.items (all_push _ _ _ (ids_more _ _ _ c.in-Ok.ensures.kept.more_exprs c.loop-fuel.invariant.below) (loops.some_holds (λ k. k < (length c.next_argument.new.arena.exprs)) _ _ c.in-Some.is c.in-Ok.ensures.stands));
}

pub returns-clause-gives : goal.returns-clause-gives
returns-clause-gives c =
    loops.at_none expr (call_turn (reader c.args.names.now (inside c.args.names.now c.args.inner))) c.loop-fuel.fuel c.loop-fuel.rest.now (map (expr_of c.loop-fuel.arena.exprs) c.loop-fuel.ids.items) _ c.loop-fuel.invariant.so_far (omega (arith, c.loop-fuel-test.false))
