use Rattle.std.proofs.Common.{◌≡◌, ◌∙◌, ap, sym, arith, rules, length, map, suc, ◌+◌, ℕ, Bool}
use Rattle.vtl_reader.specs.Nodes.{item_of}
use Rattle.vtl_reader.specs.Macros.{defines, macros_by}
use Rattle.vtl_eval.specs.Idle.{idle_call, idle_body, by_place, holds, row_at}
use Rattle.vtl_eval.proofs.Marks.{first_row, row_after, rows_push, length_push}
use Rattle.vtl_eval.proofs.idle.idle_rows.Goals as goal

pub loop-inside-init : goal.loop-inside-init
loop-inside-init c =
    let none : length c.new-rows.result.items ≡ 0 = ap length c.new-rows.ensures.items in
    record {
      count = none;
      rows = λ n x h. absurd (omega (arith, h, none));
      row = λ x. first_row c.args.arena.now c.args.macros.now c.new-row.result.items x c.new-row.ensures.items;
    }

pub loop-inside-preserved : goal.loop-inside-preserved
loop-inside-preserved c =
    let ns = c.args.arena.now in
    let l = c.args.macros.now in
    let count : length c.push.new.self.items ≡ length c.loop-inside.rows.items + 1 = ap length c.in_ok-push.ensures.items ∙ length_push c.loop-inside.rows.items c.loop-inside.row in
    let next : c.in_ok-next.next.items ≡ map (holds (row_at c.loop-inside.row.items)) c.in_ok-bodies.bodies.items = search rules in
    let made : (p : ℕ → Bool) → map (holds p) c.in_ok-bodies.bodies.items ≡ map (λ k. idle_body (by_place p l.names) (defines (item_of ns k))) l.ids = λ p. c.in_ok-bodies.ensures p ∙ ap (map (λ k. idle_body (by_place p l.names) (defines (item_of ns k)))) c.ids.ensures in
    let one : suc c.loop-inside._inside ≡ c.loop-inside._inside + 1 = omega arith in
    record {
      count = count ∙ ap (λ n. n + 1) c.loop-inside.invariant.count;
      rows = λ n x h. rw c.in_ok-push.ensures.items (rows_push ns l c.loop-inside.rows.items c.loop-inside.row c.loop-inside.invariant.rows (λ y. c.loop-inside.invariant.row y ∙ ap (λ k. idle_call (macros_by ns l) k y) (sym c.loop-inside.invariant.count)) n x (omega (arith, h, count)));
      row = λ x. row_after ns l c.loop-inside._inside c.loop-inside.row.items c.in_ok-next.next.items c.in_ok-bodies.bodies.items c.loop-inside.invariant.row made next x ∙ ap (λ k. idle_call (macros_by ns l) k x) one;
    }

pub returns : goal.returns
returns c =
    let ns = c.args.arena.now in
    let l = c.args.macros.now in
    λ n x h. rw c.in_ok-push-2.ensures.items (rows_push ns l c.loop-inside.rows.items c.loop-inside.row c.loop-inside.invariant.rows (λ y. c.loop-inside.invariant.row y ∙ ap (λ k. idle_call (macros_by ns l) k y) (sym c.loop-inside.invariant.count)) n x (omega (arith, h, c.loop-inside.invariant.count, c.loop-inside-test.false, c.loop-inside.auto._inside-end)))
