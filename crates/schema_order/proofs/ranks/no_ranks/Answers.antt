use Rattle.std.proofs.Common.{◌≡◌, ℕ, length, arith, sym, subst}
use Rattle.schema_order.specs.Leads.{lists_of}
use Rattle.schema_order.proofs.Rounds.{AllWait, lists_length, none_ranked}
use Rattle.schema_order.proofs.ranks.no_ranks.Goals as goal

pub returns : goal.returns
returns c =
    let es = lists_of c.args.edges.now in
    let xs = c.loop.ranks.items in
    let P : ℕ → Type 0 = λ n. AllWait n xs in
    let all : length xs ≡ length es = omega (arith, c.loop.invariant.all, c.loop-test.false, c.loop.auto.counter-end, lists_length c.args.edges.now) in
    none_ranked es xs all (subst P (sym (lists_length c.args.edges.now)) c.loop.invariant.wait)
