use Rattle.std.proofs.Common.{◌∙◌, sym, length, rules}
use Rattle.std.proofs.lemmas.Slice.Zip.{zip_end}
use Rattle.resource_tree.proofs.Ends.{clashes_end}
use Rattle.resource_tree.proofs.part.clashes.Goals as goal

pub returns : goal.returns
returns c =
    let n = zip_end c.args.first.now c.args.second.now c.loop-p.yielded c.into_iter-p-iterator.result c.loop-p.p-iterator c.next.new.self c.next.result (search rules) (search rules) c.loop-p.yielded_by c.in-None.is c.next.ensures.steps in
    sym (clashes_end c.args.first.now c.args.second.now (length c.loop-p.yielded) n) ∙ c.loop-p.invariant
