use Rattle.std.proofs.Common.{length, refl, arith}
use Rattle.std.proofs.lemmas.Option.{slice_get_read}
use Rattle.schema_draft4.proofs.Linked.{rules_set}
use Rattle.schema_draft4.proofs.link.set_rank.Goals as goal

pub returns-then-k-len-clause-rules : goal.returns-then-k-len-clause-rules
returns-then-k-len-clause-rules c = rules_set c.args.nodes.now.items c.args.k c.index_mut.result.now _ (slice_get_read c.args.nodes.now.items (length c.args.nodes.now.items) c.args.k c.index_mut.result.now refl (omega (arith, c.args.nodes.now.ok.0)) c.index_mut.ensures.value) refl
