use Rattle.schema_rules.proofs.Known.{known_insert, known_kept}
use Rattle.schema_rules.proofs.memo.remember.Goals as goal

pub returns-in-Ok : goal.returns-in-Ok
returns-in-Ok c = known_insert c.args.case.now c.args.memo.now c.insert.new.self (c.args.value, c.args.schema) c.args.verdict.now c.requires.known c.requires.says c.requires.part c.in-Ok.ensures.updates

pub returns-in-Err : goal.returns-in-Err
returns-in-Err c = known_kept c.args.case.now c.args.memo.now c.insert.new.self c.in-Err.ensures.err c.requires.known
