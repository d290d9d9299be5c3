use Rattle.std.proofs.Common.{rules, ◌∙◌}
use Rattle.gateway_vars.proofs.Placed.{pair_set, pair_end}
use Rattle.gateway_vars.proofs.changes.put_pair.Goals as goal

pub returns-then-i-len : goal.returns-then-i-len
returns-then-i-len c = pair_set c.args.pairs.now.items c.args.name c.args.text c.place-i.result (search rules) (search rules)

pub returns-in_ok-push : goal.returns-in_ok-push
returns-in_ok-push c = c.in_ok-push.ensures.items ∙ pair_end c.args.pairs.now.items c.args.name c.args.text c.place-i.result (search rules) (search rules)
