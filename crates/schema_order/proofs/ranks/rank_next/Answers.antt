use Rattle.schema_order.specs.Leads.{lists_of}
use Rattle.schema_order.proofs.Rounds.{ranked_next}
use Rattle.schema_order.proofs.ranks.rank_next.Goals as goal

pub returns-clause-ranked : goal.returns-clause-ranked
returns-clause-ranked c = ranked_next (lists_of c.args.edges.now) c.args.ranks.now.items c.args.next c.args.k c.requires.ranked c.requires.next
