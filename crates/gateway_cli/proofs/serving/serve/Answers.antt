use Rattle.std.proofs.Common.{inl, inr, arith}
use Rattle.play_script.specs.Play.{session_limits}
use Rattle.gateway_cli.proofs.serving.serve.Goals as goal

pub returns-in-Ok-clause-ends : goal.returns-in-Ok-clause-ends
unfolding session_limits
returns-in-Ok-clause-ends g c = λ fault memory. c.in-Ok.ensures.ends

pub returns-in-Err-Keeper-clause-fault : goal.returns-in-Err-Keeper-clause-fault
unfolding session_limits
returns-in-Err-Keeper-clause-fault g c =
    let fails = c.in-Err-Keeper.ensures.keeper (cc c.in-Err-Keeper.field-0-is) in
    λ e. inl (g.W.Sink.written c.serve.new.output, fails, c.say_fault.ensures.front)

pub returns-in-Err-Port-clause-fault : goal.returns-in-Err-Port-clause-fault
unfolding session_limits
returns-in-Err-Port-clause-fault g c =
    let fails = c.in-Err-Port.ensures.port (cc c.in-Err-Port.field-0-is) in
    λ e. inr (inl (g.W.Sink.written c.serve.new.output, fails, c.say_fault-in-Err-Port.ensures.front))

pub returns-in-Err-Output-clause-fault : goal.returns-in-Err-Output-clause-fault
unfolding session_limits
returns-in-Err-Output-clause-fault g c =
    let fails = c.in-Err-Output.ensures.output (cc c.in-Err-Output.field-0-is) in
    λ e. inr (inr (g.W.Sink.written c.serve.new.output, omega (arith, fails.0, c.say_fault-in-Err-Output.ensures.later), fails.1, c.say_fault-in-Err-Output.ensures.front))
