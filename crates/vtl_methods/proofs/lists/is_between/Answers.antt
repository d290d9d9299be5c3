use Rattle.std.proofs.Common.{◌∙◌}
use mir.Syntax.{w64}
use Rattle.std.proofs.lemmas.Int.{to_z-of_z}
use Rattle.vtl_methods.proofs.Spans.{in_falling, under_falling, in_rising, under_rising}
use Rattle.vtl_methods.proofs.lists.is_between.Goals as goal

pub returns-then-last-n : goal.returns-then-last-n
returns-then-last-n c =
    let f = to_z-of_z w64 c.args.first c.ranges.first in
    let l = to_z-of_z w64 c.args.last c.ranges.last in
    let n = to_z-of_z w64 c.args.n c.ranges.n in
    rw (n, f) (in_falling c.args.first c.args.last c.args.n (rw (l, f) at c.if-last-first.true) (rw (l, n) at c.if-last-n.true))

pub returns-else-last-n : goal.returns-else-last-n
returns-else-last-n c =
    let f = to_z-of_z w64 c.args.first c.ranges.first in
    let l = to_z-of_z w64 c.args.last c.ranges.last in
    let n = to_z-of_z w64 c.args.n c.ranges.n in
    c.if-last-n.false ∙ under_falling c.args.first c.args.last c.args.n (rw (l, f) at c.if-last-first.true) (rw (l, n) at c.if-last-n.false)

pub returns-then-first-n : goal.returns-then-first-n
returns-then-first-n c =
    let f = to_z-of_z w64 c.args.first c.ranges.first in
    let l = to_z-of_z w64 c.args.last c.ranges.last in
    let n = to_z-of_z w64 c.args.n c.ranges.n in
    rw (n, l) (in_rising c.args.first c.args.last c.args.n (rw (l, f) at c.if-last-first.false) (rw (f, n) at c.if-first-n.true))

pub returns-else-first-n : goal.returns-else-first-n
returns-else-first-n c =
    let f = to_z-of_z w64 c.args.first c.ranges.first in
    let l = to_z-of_z w64 c.args.last c.ranges.last in
    let n = to_z-of_z w64 c.args.n c.ranges.n in
    c.if-first-n.false ∙ under_rising c.args.first c.args.last c.args.n (rw (l, f) at c.if-last-first.false) (rw (f, n) at c.if-first-n.false)
