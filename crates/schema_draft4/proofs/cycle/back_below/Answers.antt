use Rattle.std.proofs.Common.{List, ◌+◌, ◌-◌, sym, subst}
use Rattle.schema_draft4.specs.Cycles.{Reference, references, references_in, up_from}
use Rattle.schema_draft4.specs.Links.{IsFirst, linked_by}
use Rattle.schema_rules.specs.Verdict.{rules_of}
use Rattle.schema_draft4.proofs.Back.{first_behind, found_there, next_schema, none_there}
use Rattle.schema_draft4.proofs.cycle.back_below.Goals as goal

pub returns-then-is_some : goal.returns-then-is_some
returns-then-is_some c =
    let ss = linked_by c.args.links.now in
    let here = references_in c.loop-k.k (rules_of ss c.loop-k.k) in
    let rest = references ss (up_from (c.loop-k.k + 1) (c.args.count - (c.loop-k.k + 1))) in
    let P : List Reference → Type 0 = λ z. IsFirst ss z c.in_ok-back.back in
    c.loop-k.invariant c.in_ok-back.back (subst P (next_schema ss c.loop-k.k c.args.count c.loop-k-test.true) (found_there ss here rest c.in_ok-back.back (sym c.if-is_some.ensures) c.in_ok-back.ensures))

pub loop-k-preserved : goal.loop-k-preserved
loop-k-preserved c = λ o h.
    let ss = linked_by c.args.links.now in
    let here = references_in c.loop-k.k (rules_of ss c.loop-k.k) in
    let rest = references ss (up_from (c.loop-k.k + 1) (c.args.count - (c.loop-k.k + 1))) in
    let P : List Reference → Type 0 = λ z. IsFirst ss z o in
    c.loop-k.invariant o (subst P (next_schema ss c.loop-k.k c.args.count c.loop-k-test.true) (first_behind ss here rest o (none_there ss here c.in_ok-back.back (sym c.if-is_some.ensures) c.in_ok-back.ensures) h))
