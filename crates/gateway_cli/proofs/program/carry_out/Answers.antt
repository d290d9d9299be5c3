use Rattle.gateway_cli.proofs.Inputs.{if_some_of}
use Rattle.gateway_cli.proofs.ByCommand.{none_asked}
use Rattle.gateway_cli.proofs.program.carry_out.Goals as goal

pub returns-in-Some-clause-serves : goal.returns-in-Some-clause-serves
returns-in-Some-clause-serves g c = if_some_of _ _ _ c.in-Some.ensures.asked c.serve.ensures.ends

pub returns-in-Some-clause-serve_fault : goal.returns-in-Some-clause-serve_fault
returns-in-Some-clause-serve_fault g c = if_some_of _ _ _ c.in-Some.ensures.asked c.serve.ensures.fault

pub returns-in-Some-store_in-clause-administers : goal.returns-in-Some-store_in-clause-administers
returns-in-Some-store_in-clause-administers g c = if_some_of _ _ _ c.in-Some-store_in.ensures c.admin.ensures.ends

pub returns-in-Some-store_in-clause-admin_memory : goal.returns-in-Some-store_in-clause-admin_memory
returns-in-Some-store_in-clause-admin_memory g c = if_some_of _ _ _ c.in-Some-store_in.ensures c.admin.ensures.memory

pub returns-in-Some-store_in-clause-admin_fault : goal.returns-in-Some-store_in-clause-admin_fault
returns-in-Some-store_in-clause-admin_fault g c = if_some_of _ _ _ c.in-Some-store_in.ensures c.admin.ensures.fault

pub returns-in-None-clause-usage : goal.returns-in-None-clause-usage
returns-in-None-clause-usage g c = λ e. none_asked c.args.command.now (c.answer.ensures.usage e) c.in_default.ensures.asked c.in-None.ensures
