use mir.Syntax.{w64}
use mir.Val.{to_z, of_z}
use Rattle.std.proofs.Common.{◌≡◌, ℤ, pos, ◌+ℤ◌, ◌-ℤ◌, ◌<ℤ◌, ◌≤ℤ◌, ◌∷◌, ap, sym, ◌∙◌, arith}
use Rattle.std.proofs.lemmas.Int.{to_z-of_z, ints}
use Rattle.vtl_values.specs.Ranges.{span}
use Rattle.vtl_methods.proofs.Spans.{span_down, span_up, lt_of, ge_of, above}
use Rattle.vtl_methods.proofs.lists.next.Goals as goal

pub returns-then-last-number-clause-span : goal.returns-then-last-number-clause-span
returns-then-last-number-clause-span c =
    let n = c.args.number in
    let l = c.args.last in
    let ne = to_z-of_z w64 n c.ranges.number in
    let le = to_z-of_z w64 l c.ranges.last in
    let down = rw (le, ne) at c.if-last-number.true in
    let s : l <ℤ n = lt_of l n down in
    let e : to_z w64 (of_z w64 (to_z w64 (of_z w64 n) -ℤ pos 1)) ≡ n -ℤ pos 1 = omega (arith, ints) in
    span_down n l down ∙ ap (λ (z : ℤ). n ∷ span z l) (sym e)

pub returns-else-last-number-clause-span : goal.returns-else-last-number-clause-span
returns-else-last-number-clause-span c =
    let n = c.args.number in
    let l = c.args.last in
    let ne = to_z-of_z w64 n c.ranges.number in
    let le = to_z-of_z w64 l c.ranges.last in
    let up = rw (le, ne) at c.if-last-number.false in
    let s : (n +ℤ pos 1) ≤ℤ l = above n l (ge_of l n up) c.requires in
    let e : to_z w64 (of_z w64 (to_z w64 (of_z w64 n) +ℤ pos 1)) ≡ n +ℤ pos 1 = omega (arith, ints) in
    span_up n l up c.requires ∙ ap (λ (z : ℤ). n ∷ span z l) (sym e)
