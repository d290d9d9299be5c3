use Rattle.std.proofs.Common.{ap, arith, ◌∙◌, Ok}
use Rattle.std.proofs.lemmas.Result.{err_from_is_err_and}
use Rattle.json_subset.specs.Views.{step_of}
use Rattle.json_subset.proofs.Texts.{text_adds, text_closed, text_fails, text_none}
use Rattle.json_subset.proofs.strings.read_text.Goals as goal

pub returns-in_err-step : goal.returns-in_err-step
returns-in_err-step c =
    let p = err_from_is_err_and c.from_residual-in_err-step.result c.from_residual-in_err-step.ensures.1 in
    rw (p.1, p.2)
    (text_fails c.args.n c.loop-left.text.items c.loop-left.left c.loop-left.rest.now _ _ _ c.loop-left.invariant c.loop-left-test.true c.split_run.ensures.run c.split_run.ensures.behind _ c.in_err-step.ensures)

pub returns-in-Closed : goal.returns-in-Closed
returns-in-Closed c =
    rw c.in_ok-extend_from_slice.ensures.items
    (text_closed c.args.n c.loop-left.text.items c.loop-left.left c.loop-left.rest.now _ _ _ c.loop-left.invariant c.loop-left-test.true c.split_run.ensures.run c.split_run.ensures.behind _ (c.in_ok-step.ensures ∙ ap (λ s. Ok (step_of s)) c.in-Closed.is))

pub loop-left-preserved-in-Byte : goal.loop-left-preserved-in-Byte
loop-left-preserved-in-Byte c =
    rw (c.in_ok-push-in-Byte.ensures.items, c.in_ok-extend_from_slice.ensures.items)
    (text_adds c.args.n c.loop-left.text.items c.loop-left.left c.loop-left.rest.now _ _ _ c.loop-left.invariant c.loop-left-test.true c.split_run.ensures.run c.split_run.ensures.behind _ _ (c.in_ok-step.ensures ∙ ap (λ s. Ok (step_of s)) c.in-Byte.is))

pub loop-left-preserved : goal.loop-left-preserved
loop-left-preserved c =
    rw (c.in_ok-push_char-in-Char.ensures, c.in_ok-extend_from_slice.ensures.items)
    (text_adds c.args.n c.loop-left.text.items c.loop-left.left c.loop-left.rest.now _ _ _ c.loop-left.invariant c.loop-left-test.true c.split_run.ensures.run c.split_run.ensures.behind _ _ (c.in_ok-step.ensures ∙ ap (λ s. Ok (step_of s)) c.in-Char.is))

pub returns : goal.returns
returns c = rw c.place.ensures (text_none _ _ _ _ _ c.loop-left.invariant (omega (arith, c.loop-left-test.false)))
