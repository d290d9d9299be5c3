use Rattle.std.proofs.Common.{inl, inr, arith}
use Rattle.gateway_cli.proofs.Inputs.{of_each}
use Rattle.gateway_cli.proofs.program.answer.Goals as goal

pub returns-in-Err-Input-clause-fault : goal.returns-in-Err-Input-clause-fault
returns-in-Err-Input-clause-fault g c =
    let rose = c.in-Err-Input.ensures.input (cc c.in-Err-Input.field-0-is) in
    λ e. of_each (g.I.Source.left c.args.input.now) _ _
    (λ script. of_each (g.O.Outside.files c.args.outside.now) _ _ (λ files front. inl (rose, (g.W.Sink.written c.respond.new.output, front, c.say_fault.ensures.front))))
    c.in-Err-Input.ensures.front

pub returns-in-Err-File-clause-fault : goal.returns-in-Err-File-clause-fault
returns-in-Err-File-clause-fault g c =
    let rose = c.in-Err-File.ensures.file (cc c.in-Err-File.field-0-is) in
    λ e. of_each (g.I.Source.left c.args.input.now) _ _
    (λ script. of_each (g.O.Outside.files c.args.outside.now) _ _
    (λ files front. inr (inl (rose.1, (rose.0, (g.W.Sink.written c.respond.new.output, front, c.say_fault-in-Err-File.ensures.front))))))
    c.in-Err-File.ensures.front

pub returns-in-Err-Output-clause-fault : goal.returns-in-Err-Output-clause-fault
returns-in-Err-Output-clause-fault g c =
    let rose = c.in-Err-Output.ensures.output (cc c.in-Err-Output.field-0-is) in
    λ e. of_each (g.I.Source.left c.args.input.now) _ _
    (λ script. of_each (g.O.Outside.files c.args.outside.now) _ _
    (λ files h. inr (inr (inl (rose.1, rose.2, h.0, (omega (arith, rose.0, c.say_fault-in-Err-Output.ensures.later), (g.W.Sink.written c.respond.new.output, h.1, c.say_fault-in-Err-Output.ensures.front)))))))
    (c.in-Err-Output.ensures.loaded (cc c.in-Err-Output.field-0-is))

pub returns-in-Err-Keeper-clause-fault : goal.returns-in-Err-Keeper-clause-fault
returns-in-Err-Keeper-clause-fault g c =
    let stands = c.in-Err-Keeper.ensures.before_keeper (cc c.in-Err-Keeper.field-0-is) in
    λ e. of_each (g.I.Source.left c.args.input.now) _ _
    (λ script. of_each (g.O.Outside.files c.args.outside.now) _ _
    (λ files h. inr (inr (inr (stands.0, stands.1, h.0, (g.W.Sink.written c.respond.new.output, h.1, c.say_fault-in-Err-Keeper.ensures.front))))))
    (c.in-Err-Keeper.ensures.keeper (cc c.in-Err-Keeper.field-0-is))
