use Rattle.json_values.proofs.Lookups.{indexed_push}
use Rattle.json_values.proofs.read.push_member.Goals as goal

pub returns-clause-indexed : goal.returns-clause-indexed
returns-clause-indexed c = rw c.in_ok-push.ensures.items (indexed_push c.args.members.now.list.items c.args.member c.args.members.now.index c.enter.new.index c.requires.indexed (rw c.as_str.ensures.value at c.in_ok-enter.ensures))
