use Rattle.std.proofs.Common.{◌≡◌, ◌∙◌, ap, sym, Ok, ℕ, List}
use Rattle.vtl_grammar.specs.Tree.{named}
use Rattle.vtl_grammar.specs.Expanded.{expr_with, base_with, steps_with, step_with, part_with}
use Rattle.vtl_values.specs.Val.{Val}
use Rattle.vtl_reader.specs.Nodes.{expr_of, made, part_made, step_made, steps_made}
use Rattle.vtl_eval.specs.World.{State, Outcome, ◌>>=◌}
use Rattle.vtl_eval.specs.Frames.{arguments_of, seen}
use Rattle.vtl_eval.specs.Meaning.{value, piece, shown, stepped}
use Rattle.vtl_eval.specs.References.{at_value, after_call}
use Rattle.vtl_eval.specs.Evaluated.{referred, chain}
use Rattle.vtl_eval.specs.Views.{scene_of}
use Rattle.vtl_eval.proofs.Chains.{chain_seen}
use Rattle.vtl_eval.proofs.Referring.{value_refers, piece_refers, fails_then}
use Rattle.vtl_eval.proofs.eval.+eval.Goals as goal

pub eval_by_case-returns-in-Chain : goal.eval_by_case-returns-in-Chain
eval_by_case-returns-in-Chain g t c =
    let ns = c.args.arena.now.exprs in
    let a = arguments_of c.args.arena.now.exprs c.args.frame.now in
    let s : State = (scene_of c.args.run.now, g.R.Roots.kept c.args.roots.now) in
    let e : value c.args.budget (g.R.Roots.meanings c.args.roots.now) (seen ns c.args.frame.now c.args.k) s ≡ chain c.args.budget (g.R.Roots.meanings c.args.roots.now) (seen ns c.args.frame.now) (seen ns c.args.frame.now c.in-Chain.j) c.in-Chain.links.items s =
    ap (λ z. value c.args.budget (g.R.Roots.meanings c.args.roots.now) (expr_with a z) s) (c.expr.ensures.opened ∙ ap (made (expr_of ns)) c.in-Chain.is)
    ∙ chain_seen c.args.budget (g.R.Roots.meanings c.args.roots.now) a (expr_of ns) (expr_of ns c.in-Chain.j) c.in-Chain.links.items s in
    rw e (rw c.deref-in-Chain.ensures.value at c.eval_chain.ensures)

pub eval_by_case-returns-in_ok-spend-in-Reference : goal.eval_by_case-returns-in_ok-spend-in-Reference
eval_by_case-returns-in_ok-spend-in-Reference g t c =
    let ns = c.args.arena.now.exprs in
    let a = arguments_of c.args.arena.now.exprs c.args.frame.now in
    let kept = g.R.Roots.kept c.args.roots.now in
    let x = base_with a (named c.in-Reference.name) in
    let ss = steps_with a (steps_made (expr_of ns) c.in-Reference.steps.items) in
    let e : value c.args.budget (g.R.Roots.meanings c.args.roots.now) (seen ns c.args.frame.now c.args.k) (scene_of c.args.run.now, kept) ≡ referred c.args.budget (g.R.Roots.meanings c.args.roots.now) x ss (scene_of c.spend-in-Reference.new.run, kept) =
    ap (λ z. value c.args.budget (g.R.Roots.meanings c.args.roots.now) (expr_with a z) (scene_of c.args.run.now, kept)) (c.expr.ensures.opened ∙ ap (made (expr_of ns)) c.in-Reference.is)
    ∙ value_refers c.args.budget (g.R.Roots.meanings c.args.roots.now) x ss (scene_of c.args.run.now) (scene_of c.spend-in-Reference.new.run) kept c.in_ok-spend-in-Reference.ensures in
    rw e (rw (c.as_str-in-Reference.ensures, c.deref-in-Reference.ensures.value) at c.refer.ensures)

pub eval_piece-returns-in-Err : goal.eval_piece-returns-in-Err
eval_piece-returns-in-Err g t c =
    let ns = c.args.arena.now.exprs in
    let a = arguments_of c.args.arena.now.exprs c.args.frame.now in
    let kept = g.R.Roots.kept c.args.roots.now in
    let x = base_with a (named c.in-Printed.name) in
    let ss = steps_with a (steps_made (expr_of ns) c.in-Printed.steps.items) in
    let last : Val × State → Outcome (List ℕ) = λ v. Ok (shown c.in-Printed.source v.0, v.1) in
    let e : piece c.args.budget (g.R.Roots.meanings c.args.roots.now) (part_with a (part_made (expr_of ns) c.args.part.now)) (scene_of c.args.run.now, kept) ≡ (referred c.args.budget (g.R.Roots.meanings c.args.roots.now) x ss (scene_of c.spend.new.run, kept) >>= last) =
    ap (λ z. piece c.args.budget (g.R.Roots.meanings c.args.roots.now) (part_with a (part_made (expr_of ns) z)) (scene_of c.args.run.now, kept)) c.in-Printed.is
    ∙ piece_refers c.args.budget (g.R.Roots.meanings c.args.roots.now) x ss (scene_of c.args.run.now) (scene_of c.spend.new.run) kept c.in_ok-spend-in-Printed.ensures c.in-Printed.source in
    fails_then c.in-Err.e (g.R.Roots.kept c.args.roots.now) _ _ last e (rw (c.as_str-in-Printed.ensures, c.deref.ensures.value) at c.in-Err.ensures)

pub eval_piece-returns-in_ok-shown_value-in-Printed : goal.eval_piece-returns-in_ok-shown_value-in-Printed
eval_piece-returns-in_ok-shown_value-in-Printed g t c =
    let ns = c.args.arena.now.exprs in
    let a = arguments_of c.args.arena.now.exprs c.args.frame.now in
    let kept = g.R.Roots.kept c.args.roots.now in
    let x = base_with a (named c.in-Printed.name) in
    let ss = steps_with a (steps_made (expr_of ns) c.in-Printed.steps.items) in
    let last : Val × State → Outcome (List ℕ) = λ v. Ok (shown c.in-Printed.source v.0, v.1) in
    let e : piece c.args.budget (g.R.Roots.meanings c.args.roots.now) (part_with a (part_made (expr_of ns) c.args.part.now)) (scene_of c.args.run.now, kept) ≡ (referred c.args.budget (g.R.Roots.meanings c.args.roots.now) x ss (scene_of c.spend.new.run, kept) >>= last) =
    ap (λ z. piece c.args.budget (g.R.Roots.meanings c.args.roots.now) (part_with a (part_made (expr_of ns) z)) (scene_of c.args.run.now, kept)) c.in-Printed.is
    ∙ piece_refers c.args.budget (g.R.Roots.meanings c.args.roots.now) x ss (scene_of c.args.run.now) (scene_of c.spend.new.run) kept c.in_ok-spend-in-Printed.ensures c.in-Printed.source in
    let st : State = (scene_of c.refer.new.run, g.R.Roots.kept c.args.roots.now) in
    e
    ∙ ap (λ z. z >>= last) (rw (c.as_str-in-Printed.ensures, c.deref.ensures.value) at c.in-Ok.ensures)
    ∙ ap (λ z. Ok (z, st)) (sym (rw c.as_str-in-Printed-2.ensures at c.in_ok-shown_value-in-Printed.ensures))

pub step_by_case-returns-in_ok-values-in_default : goal.step_by_case-returns-in_ok-values-in_default
step_by_case-returns-in_ok-values-in_default g t c =
    let ns = c.args.arena.now.exprs in
    let a = arguments_of ns c.args.frame.now in
    let m = g.R.Roots.meanings c.args.roots.now in
    let kept = g.R.Roots.kept c.args.roots.now in
    let s : State = (scene_of c.args.run.now, kept) in
    let e : stepped c.args.budget m (step_with a (step_made (expr_of ns) c.args.step.now)) (at_value c.args.value.now) s ≡ after_call m c.in-Call.name (at_value c.args.value.now) c.in_ok-values-in_default.values.items (scene_of c.eval_all.new.run, kept) =
    ap (λ z. stepped c.args.budget m (step_with a (step_made (expr_of ns) z)) (at_value c.args.value.now) s) c.in-Call.is
    ∙ ap (λ o. o >>= λ vs. after_call m c.in-Call.name (at_value c.args.value.now) vs.0 vs.1) (rw c.as_slice.ensures.value at c.in_ok-values-in_default.ensures) in
    rw e (rw (c.as_str-in_default.ensures, c.deref.ensures.value) at c.call_value-in_default.ensures)
