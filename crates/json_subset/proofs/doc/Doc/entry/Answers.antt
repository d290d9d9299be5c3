use Rattle.json_subset.proofs.doc.Doc.entry.Goals as goal

pub entry-requires-clause-sound : goal.entry-requires-clause-sound
entry-requires-clause-sound c = rw (c.as_str.ensures.value, c.deref.ensures.value) c.self.invariant.sound
