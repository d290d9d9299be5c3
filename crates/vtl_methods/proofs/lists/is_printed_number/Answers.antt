use mir.Syntax.{w64}
use mir.Val.{to_z}
use Rattle.std.proofs.Common.{◌≡◌, map, ap, refl, ◌∙◌, List, [], ℕ, ℤ}
use Rattle.std.proofs.lemmas.Int.{to_z-of_z}
use Rattle.vtl_values.specs.Val.{whole}
use Rattle.vtl_methods.proofs.Spans.{span_head, span_one}
use Rattle.vtl_methods.proofs.Sought.{found, lost, lacking}
use Rattle.vtl_methods.proofs.lists.is_printed_number.Goals as goal

pub returns-in-Err : goal.returns-in-Err
returns-in-Err c =
    let f = to_z-of_z w64 c.args.first c.ranges.first in
    let l = to_z-of_z w64 c.args.last c.ranges.last in
    let n = to_z w64 c.loop-found.number-bits in
    let i = c.loop-found.invariant in
    let h = span_head n c.args.last in
    lacking c.args.sought.now (whole n) _ (map whole h.0) _ c.loop-found.taken c.args.room i.fits (rw (f, l) at i.bytes) (rw (f, l) at i.same)
    (ap (λ (xs : List ℤ). map whole xs) h.1) c.in-Err.lack c.in-Err.ensures

pub returns-then-hit : goal.returns-then-hit
returns-then-hit c =
    let f = to_z-of_z w64 c.args.first c.ranges.first in
    let l = to_z-of_z w64 c.args.last c.ranges.last in
    let n = to_z w64 c.loop-found.number-bits in
    let i = c.loop-found.invariant in
    let h = span_head n c.args.last in
    found c.args.sought.now (whole n) _ (map whole h.0) _ c.loop-found.taken c.args.room i.fits (rw (f, l) at i.bytes) (rw (f, l) at i.same)
    (ap (λ (xs : List ℤ). map whole xs) h.1) c.in-Ok.found c.in-Ok.ensures c.if-hit.true

pub returns-then-number-last : goal.returns-then-number-last
returns-then-number-last c =
    let f = to_z-of_z w64 c.args.first c.ranges.first in
    let l = to_z-of_z w64 c.args.last c.ranges.last in
    let n = to_z w64 c.loop-found.number-bits in
    let i = c.loop-found.invariant in
    let end : n ≡ c.args.last = ap (λ (b : ℕ). to_z w64 b) c.if-number-last.true ∙ l in
    lost c.args.sought.now (whole n) _ [] _ c.loop-found.taken c.args.room i.fits (rw (f, l) at i.bytes) (rw (f, l) at i.same)
    (ap (λ (xs : List ℤ). map whole xs) (span_one n c.args.last end)) refl c.in-Ok.found c.in-Ok.ensures c.if-hit.false
