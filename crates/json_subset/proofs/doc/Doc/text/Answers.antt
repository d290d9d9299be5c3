use Rattle.json_subset.proofs.doc.Doc.text.Goals as goal

pub text-requires-clause-sound : goal.text-requires-clause-sound
text-requires-clause-sound c = rw (c.as_str.ensures.value, c.deref.ensures.value) c.self.invariant.sound
