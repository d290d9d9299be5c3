use Rattle.schema_draft4.proofs.schema.Schema.check.Goals as goal

pub judge_value-requires-clause-sound : goal.judge_value-requires-clause-sound
judge_value-requires-clause-sound c = record {
  nodes = rw (c.deref.ensures.value, c.deref-2.ensures.value) c.self.invariant.0;
  values = rw c.deref-3.ensures.value c.in_ok-value.ensures.sound;
  mirror = rw c.deref-3.ensures.value c.in_ok-value.ensures.mirror;
}
