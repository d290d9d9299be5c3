use Rattle.std.proofs.Common.{inl, inr, arith}
use Rattle.gateway_cli.proofs.Inputs.{of_each}
use Rattle.gateway_cli.proofs.administering.admin.Goals as goal

pub returns-in-Err-Input-clause-fault : goal.returns-in-Err-Input-clause-fault
returns-in-Err-Input-clause-fault g c =
    let told = c.in-Err-Input.ensures.input (cc c.in-Err-Input.field-0-is) in
    λ e. inl (told.0, told.1, rw (← told.2) c.say_fault.ensures.front)

pub returns-in-Err-Keeper-clause-fault : goal.returns-in-Err-Keeper-clause-fault
returns-in-Err-Keeper-clause-fault g c =
    let told = c.in-Err-Keeper.ensures.keeper (cc c.in-Err-Keeper.field-0-is) in
    λ e. inr (inl (told.0, told.1, told.2, rw (← told.3) c.say_fault-in-Err-Keeper.ensures.front))

pub returns-in-Err-Output-clause-fault : goal.returns-in-Err-Output-clause-fault
returns-in-Err-Output-clause-fault g c =
    let told = c.in-Err-Output.ensures.output (cc c.in-Err-Output.field-0-is) in
    let cut = c.in-Err-Output.ensures.cut (cc c.in-Err-Output.field-0-is) in
    λ e. inr (inr (
      told.0,
      omega (arith, told.1, c.say_fault-in-Err-Output.ensures.later),
      of_each (g.I.Source.left c.args.input.now) _ _ (λ lines cut_short. (g.W.Sink.written c.carry_out_input.new.output, cut_short, c.say_fault-in-Err-Output.ensures.front)) cut,
    ))

pub returns-in-Err-Memory-clause-memory : goal.returns-in-Err-Memory-clause-memory
returns-in-Err-Memory-clause-memory g c = λ e. c.in-Err-Memory.ensures.memory (cc c.in-Err-Memory.field-0-is)
