use Rattle.std.proofs.Common.{rules, ◌∙◌, length, sym, arith}
use Rattle.std.proofs.lemmas.List.{length_push}
use Rattle.std.proofs.lemmas.Slice.Zip.{zip_turn}
use Rattle.resource_tree.proofs.Fronts.{share_more}
use Rattle.resource_tree.proofs.part.shared_len.Goals as goal

pub loop-p-preserved : goal.loop-p-preserved
loop-p-preserved c =
    let first = c.args.first.now in
    let second = c.args.second.now in
    let t = zip_turn first second c.loop-p.yielded c.into_iter-p-iterator.result c.loop-p.p-iterator c.next.new.self c.next.result (search rules) (search rules) c.loop-p.yielded_by (c.in-Some.p, c.in-Some.q) c.in-Some.is c.next.ensures.steps in
    let count = c.loop-p.invariant.count in
    record {
      count = omega (arith, length_push c.loop-p.yielded (c.in-Some.p, c.in-Some.q));
      first = omega (arith, t.0);
      second = omega (arith, t.1);
      same = share_more first second (length c.loop-p.yielded) c.loop-p.shared c.in-Some.p.now c.in-Some.q.now count t.0 t.1 c.loop-p.invariant.same t.2 t.3 (sym c.same_part.ensures ∙ c.if-not-same_part.false);
    }
