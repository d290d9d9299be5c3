use Rattle.json_subset.proofs.doc.Doc.member.Goals as goal

pub member-requires-clause-sound : goal.member-requires-clause-sound
member-requires-clause-sound c = rw (c.as_str.ensures.value, c.deref.ensures.value) c.self.invariant.sound
