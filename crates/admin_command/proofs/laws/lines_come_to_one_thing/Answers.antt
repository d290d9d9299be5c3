use Rattle.admin_command.proofs.Once.{one_thing}
use Rattle.admin_command.proofs.laws.lines_come_to_one_thing.Goals as goal

pub returns : goal.returns
returns c = one_thing
