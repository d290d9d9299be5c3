use Rattle.std.proofs.Common.{◌≢◌, ◌∷◌, [], length, rules, ap, ◌∙◌, sym, arith}
use Rattle.std.proofs.lemmas.Grind.{common_steps}
use Rattle.std.proofs.lemmas.List.{map-append}
use Rattle.jsonpath_core.specs.Reading.{steps_of}
use Rattle.jsonpath_core.specs.Views.{step_view, steps_view}
use Rattle.jsonpath_core.proofs.Turns.{turn, after, after_onto}
use Rattle.jsonpath_core.proofs.reader.read_steps.Goals as goal

pub loop-rest-preserved : goal.loop-rest-preserved
loop-rest-preserved c =
    let n = c.args.n in
    let before = c.loop-rest.steps.items in
    let s = c.in_ok-step.step in
    let next = c.in_ok-step.next.now in
    let some : length c.loop-rest.rest.now ≢ 0 = grind (arith, common_steps) in
    record {
      utf8 = search rules;
      so_far = ap (λ xs. after (steps_view xs) (steps_of n next)) c.in_ok-push.ensures.items
          ∙ ap (λ ss. after ss (steps_of n next)) (map-append step_view before (s ∷ []))
          ∙ sym (after_onto (steps_view before) (step_view s) (steps_of n next))
          ∙ ap (after (steps_view before)) (sym (turn n c.loop-rest.rest.now next (step_view s) some c.in_ok-step.ensures.gives))
          ∙ c.loop-rest.invariant.so_far;
      kept = search rules;
    }
