use Rattle.std.proofs.Common.{refl, below_more, arith}
use Rattle.std.proofs.lemmas.Option.{slice_get_read, slice_get_within}
use Rattle.schema_rules.proofs.Nodes.{made_at, sound_here}
use Rattle.schema_rules.proofs.sound.are_sound.Goals as goal

pub is_sound_node-requires : goal.is_sound_node-requires
is_sound_node-requires c = made_at c.args.nodes.now c.loop-k.k c.index-nodes-k.result c.requires (slice_get_read _ _ _ _ refl c.loop-k-test.true c.index-nodes-k.is)

pub loop-k-preserved : goal.loop-k-preserved
loop-k-preserved c =
    below_more _ _ c.loop-k.invariant
    (sound_here c.args.nodes.now c.args.targets.now c.loop-k.k c.index-nodes-k.result (slice_get_read _ _ _ _ refl c.loop-k-test.true c.index-nodes-k.is) (c.is_sound_node.ensures c.if-not-is_sound_node.false))

pub returns : goal.returns
returns c = λ _ k x e. c.loop-k.invariant k (omega (arith, slice_get_within c.args.nodes.now k x e, c.loop-k-test.false)) x e
