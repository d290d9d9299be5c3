use Rattle.json_subset.proofs.doc.Doc.kind.Goals as goal

pub kind-requires-clause-sound : goal.kind-requires-clause-sound
kind-requires-clause-sound c = rw (c.as_str.ensures.value, c.deref.ensures.value) c.self.invariant.sound
