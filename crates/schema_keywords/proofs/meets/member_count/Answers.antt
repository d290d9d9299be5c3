use Rattle.std.proofs.Common.{rules}
use Rattle.json_values.specs.Values.{plain_of}
use Rattle.json_values.proofs.Lookups.{counted}
use Rattle.schema_keywords.proofs.meets.member_count.Goals as goal

pub returns : goal.returns
returns c = rw (counted (plain_of c.args.values.now) c.args.members.now.list.items) (search rules)
