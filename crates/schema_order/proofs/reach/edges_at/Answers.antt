use Rattle.std.proofs.Common.{◌≡◌, refl, ◌∙◌}
use Rattle.std.proofs.lemmas.Option.{slice_get_read}
use Rattle.schema_order.specs.Leads.{edges_of, lists_of}
use Rattle.schema_order.proofs.Paths.{all_among, edges_past, edges_there}
use Rattle.schema_order.proofs.reach.edges_at.Goals as goal

pub returns-then-k-edges-clause-among : goal.returns-then-k-edges-clause-among
returns-then-k-edges-clause-among c =
    let there = edges_there c.args.edges.now c.args.k c.index-edges-k.result (slice_get_read _ _ _ _ refl c.if-k-edges.true c.index-edges-k.is) in
    let e : c.deref.result.now ≡ edges_of (lists_of c.args.edges.now) c.args.k = c.deref.ensures.value ∙ there in
    rw e (all_among _)

pub returns-else-k-edges-clause-value : goal.returns-else-k-edges-clause-value
returns-else-k-edges-clause-value c = edges_past c.args.edges.now c.args.k c.if-k-edges.false
