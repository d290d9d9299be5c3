use Rattle.schema_draft4.proofs.Rests.{listed_list, listed_plain}
use Rattle.schema_draft4.proofs.read_keyword.read_list.Goals as goal

pub listed-requires-clause-list : goal.listed-requires-clause-list
listed-requires-clause-list c = rw c.deref.ensures.value (listed_list c.args.doc.now c.read_part.new.values.items c.in_ok-k.k c.args.id c.args.count c.in_ok-k.ensures.sound c.in_ok-k.ensures.mirror c.in_ok-k.ensures.source c.requires.list)

pub returns-clause-items : goal.returns-clause-items
returns-clause-items c =
    listed_plain c.args.doc.now c.read_part.new.values.items c.in_ok-k.k c.args.id c.args.count c.in_ok-ids.ids.items c.in_ok-k.ensures.sound c.in_ok-k.ensures.mirror c.in_ok-k.ensures.source c.requires.list (rw c.deref.ensures.value at c.in_ok-ids.ensures.items)
