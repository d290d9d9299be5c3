use Rattle.json_subset.proofs.doc.Doc.item.Goals as goal

pub item-requires-clause-sound : goal.item-requires-clause-sound
item-requires-clause-sound c = rw (c.as_str.ensures.value, c.deref.ensures.value) c.self.invariant.sound
