use Rattle.std.proofs.Common.{rules}
use Rattle.json_values.specs.Values.{plain_of}
use Rattle.json_values.proofs.Lookups.{counted}
use Rattle.json_values.proofs.compare.same_count.Goals as goal

pub returns : goal.returns
returns c = rw (counted (plain_of c.args.a.now) c.args.xs.now.list.items, counted (plain_of c.args.b.now) c.args.ys.now.list.items) (search rules)
