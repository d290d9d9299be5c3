use mir.Syntax.{w64}
use mir.Val.{SFits}
use Rattle.std.proofs.Common.{rules, sym, arith}
use Rattle.std.proofs.lemmas.Int.{to_z-of_z}
use Rattle.vtl_values.specs.Ranges.{span}
use Rattle.vtl_methods.proofs.Spans.{no_texts, no_texts_null, not_null}
use Rattle.vtl_methods.proofs.Sought.{whole_at, null_at}
use Rattle.vtl_methods.proofs.lists.is_number.Goals as goal

pub returns-in-Some : goal.returns-in-Some
returns-in-Some c =
    let q : SFits w64 c.in-Some.n = search rules in
    let f = to_z-of_z w64 c.args.first c.ranges.first in
    let l = to_z-of_z w64 c.args.last c.ranges.last in
    let n = to_z-of_z w64 c.in-Some.n q in
    let v = whole_at c.args.sought.now c.in-Some.n c.in-Some.ensures in
    let none = no_texts c.in-Some.n (span c.args.first c.args.last) in
    rw v (rw (n, f, l) at c.is_between.ensures, sym none, omega (arith, none))

pub returns-then-is_null : goal.returns-then-is_null
returns-then-is_null c =
    let v = null_at c.args.sought.now c.if-is_null.ensures in
    let none = no_texts_null (span c.args.first c.args.last) in
    rw v (sym (not_null (span c.args.first c.args.last)), sym none, omega (arith, none))
