use Rattle.std.proofs.Common.{◌≡◌, [], length, drop, subst, sym, ap, arith}
use Rattle.std.proofs.Math.ListN.{drop_of_length-le}
use Rattle.json_values.specs.Values.{plain_of}
use Rattle.json_distinct.proofs.Named.{AreFirst, all_once}
use Rattle.json_distinct.proofs.once.+once.Goals as goal

pub has_names_once-returns : goal.has_names_once-returns
has_names_once-returns t c = λ _.
    let ended : drop c.loop-member.member-index c.args.members.now.list.items ≡ [] = drop_of_length-le c.args.members.now.list.items (let past = c.loop-member-test.false in let value = ap length c.deref-member-items.ensures.value in omega (arith, past, value)) in
    all_once (plain_of c.args.values.now) c.args.members.now.list.items (c.loop-member.invariant.so_far (subst (λ z. AreFirst (plain_of c.args.values.now) c.args.members.now.list.items c.loop-member.least z) (sym ended) tt))
