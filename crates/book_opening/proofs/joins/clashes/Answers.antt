use Rattle.std.specs.Str.{bytes_eq}
use Rattle.keeper_core.specs.Lists.{plan_row}
use Rattle.book_opening.proofs.Clashes.{no_clash}
use Rattle.book_opening.proofs.joins.clashes.Goals as goal

pub returns-in-None : goal.returns-in-None
returns-in-None c = no_clash (bytes_eq c.args.other.now.key c.args.row.now.key) c.args.stages.now (plan_row c.args.tables.now.lists c.args.other.now.plan) (rw c.as_str-3.ensures at c.in-None.ensures)
