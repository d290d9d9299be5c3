use Rattle.std.proofs.Common.{◌≡◌, ◌≢◌, [], inr, refl}
use Rattle.command_words.specs.Commands.{command_of}
use Rattle.gateway_cli.specs.Admin.{AdminWantsMemory}
use Rattle.gateway_cli.specs.Top.{OfTold}
use Rattle.play_script.specs.Play.{session_limits}
use Rattle.serve_command.specs.Serving.{Ends}
use Rattle.gateway_cli.proofs.ByCommand.{of_nothing}
use Rattle.gateway_cli.proofs.Inputs.{of_any, if_some_each}
use Rattle.gateway_cli.proofs.program.run.Goals as goal

pub returns-in-Ok-clause-fault : goal.returns-in-Ok-clause-fault
returns-in-Ok-clause-fault g c = rw (← c.in-Ok.ensures.command) c.carry_out.ensures.fault

pub returns-in-Ok-clause-serve_fault : goal.returns-in-Ok-clause-serve_fault
returns-in-Ok-clause-serve_fault g c = rw (← c.in-Ok.ensures.command) c.carry_out.ensures.serve_fault

pub returns-in-Ok-clause-admin_memory : goal.returns-in-Ok-clause-admin_memory
returns-in-Ok-clause-admin_memory g c = rw (← c.in-Ok.ensures.command) c.carry_out.ensures.admin_memory

pub returns-in-Err-clause-memory : goal.returns-in-Err-clause-memory
returns-in-Err-clause-memory g c = λ serves admins e. of_nothing (g.I.Source.left c.args.input.now) (g.O.Outside.files c.args.outside.now) (command_of c.args.words.now) _ _ refl

pub returns-in-Err-clause-serves : goal.returns-in-Err-clause-serves
returns-in-Err-clause-serves g c =
    if_some_each _ (λ asked. (5 ≢ 3) → (5 ≢ 5) → Ends session_limits asked.0 asked.2 _ _ _ _ 5) (λ asked fault memory. absurd (memory refl))

pub returns-in-Err-clause-admin_memory : goal.returns-in-Err-clause-admin_memory
returns-in-Err-clause-admin_memory g c =
    if_some_each _ (λ store. (5 ≡ 5) → OfTold (g.I.Source.left c.args.input.now) (λ lines. AdminWantsMemory store lines _ _ _ _))
    (λ store e. of_any [] (g.I.Source.left c.args.input.now) (λ lines. AdminWantsMemory store lines _ _ _ _)
    (λ lines. inr (record { waiting = refl; returned = refl; sessions = refl }, refl)))
