use Rattle.std.proofs.Common.{◌≡◌, ℕ, List, [], rules}
use Rattle.play_script.specs.Play.{FailsToLoad, Played, PlayedFront, SaysFront}
use Rattle.gateway_cli.specs.Top.{Says}
use Rattle.gateway_cli.proofs.Inputs.{of_any, of_same, on_err_is, if_ok_of_longer, on_err_of_longer, on_err_map}
use Rattle.play_script.proofs.Playing.{says_nothing}
use Rattle.gateway_cli.proofs.Scripts.{none_played, nothing_told}
use Rattle.gateway_cli.proofs.program.play.Goals as goal

pub returns-in-Err-TooLong-clause-answered : goal.returns-in-Err-TooLong-clause-answered
returns-in-Err-TooLong-clause-answered g c =
    if_ok_of_longer 67108864 (g.I.Source.left c.args.input.now) c.say_too_long.result
    (λ script status. Says (g.W.Sink.written c.args.output.now) (g.W.Sink.written c.say_too_long.new.output) (Played script) status)
    (c.in-Err-TooLong.ensures.too_long (cc c.in-Err-TooLong.field-0-is)) c.say_too_long.ensures.answered

pub returns-in-Err-TooLong-clause-front : goal.returns-in-Err-TooLong-clause-front
returns-in-Err-TooLong-clause-front g c =
    on_err_of_longer 67108864 (g.I.Source.left c.args.input.now) c.say_too_long.result
    (λ script. SaysFront (g.W.Sink.written c.args.output.now) (g.W.Sink.written c.say_too_long.new.output) (PlayedFront script))
    (c.in-Err-TooLong.ensures.too_long (cc c.in-Err-TooLong.field-0-is)) c.say_too_long.ensures.front

pub returns-in-Err-Fault-clause-front : goal.returns-in-Err-Fault-clause-front
returns-in-Err-Fault-clause-front g c = of_any [] _ _ (λ script. says_nothing _ _ (none_played script))

pub returns-in-Err-Memory-clause-front : goal.returns-in-Err-Memory-clause-front
returns-in-Err-Memory-clause-front g c = of_any [] _ _ (λ script. says_nothing _ _ (none_played script))

pub returns-in-Ok-clause-keeper : goal.returns-in-Ok-clause-keeper
returns-in-Ok-clause-keeper g c =
    let same : c.deref.result.now ≡ c.in-Ok.script.items = search rules in
    λ e. of_same (g.I.Source.left c.args.input.now) c.deref.result.now c.in-Ok.script.items
    (λ script. FailsToLoad script × SaysFront (g.W.Sink.written c.args.output.now) (g.W.Sink.written c.play_script.new.output) (PlayedFront script)) same c.in-Ok.ensures.whole
    (c.play_script.ensures.keeper e, on_err_is c.play_script.result _ _ e c.play_script.ensures.front)

pub returns-in-Ok-clause-loaded : goal.returns-in-Ok-clause-loaded
returns-in-Ok-clause-loaded g c =
    let same : c.deref.result.now ≡ c.in-Ok.script.items = search rules in
    λ e. of_same (g.I.Source.left c.args.input.now) c.deref.result.now c.in-Ok.script.items
    (λ script. (FailsToLoad script → ⊥) × SaysFront (g.W.Sink.written c.args.output.now) (g.W.Sink.written c.play_script.new.output) (PlayedFront script)) same c.in-Ok.ensures.whole
    (c.play_script.ensures.loaded e, on_err_is c.play_script.result _ _ e c.play_script.ensures.front)

pub returns-in-Err-TooLong-clause-loaded : goal.returns-in-Err-TooLong-clause-loaded
returns-in-Err-TooLong-clause-loaded g c =
    let Wrote : List ℕ → Type 0 = λ script. SaysFront (g.W.Sink.written c.args.output.now) (g.W.Sink.written c.say_too_long.new.output) (PlayedFront script) in
    λ e. on_err_is c.say_too_long.result _ _ e
    (on_err_of_longer 67108864 (g.I.Source.left c.args.input.now) c.say_too_long.result (λ script. (FailsToLoad script → ⊥) × Wrote script)
    (c.in-Err-TooLong.ensures.too_long (cc c.in-Err-TooLong.field-0-is))
    (λ script h. on_err_map c.say_too_long.result (Wrote script) ((FailsToLoad script → ⊥) × Wrote script) (λ w. (nothing_told script h, w)) (c.say_too_long.ensures.front script h)))
