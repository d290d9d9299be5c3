use Rattle.keeper_sqlite.proofs.database.answer_of.Goals as goal

pub returns-in-Err-clause-err : goal.returns-in-Err-clause-err
returns-in-Err-clause-err g c = c.load_fault.ensures.names c.args.table
