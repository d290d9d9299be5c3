use Rattle.json_subset.proofs.doc.Doc.place.Goals as goal

pub place-requires-clause-sound : goal.place-requires-clause-sound
place-requires-clause-sound c = rw (c.as_str.ensures.value, c.deref.ensures.value) c.self.invariant.sound
