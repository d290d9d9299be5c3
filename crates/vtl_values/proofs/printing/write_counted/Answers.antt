use Rattle.std.proofs.Common.{◌≡◌, ◌+◌, ◌<◌, ◌≤◌, ◌++◌, ℤ, codes, length, ap, sym, ◌∙◌, arith, length-append, rules, to_z, of_z, w64}
use Rattle.std.specs.Fmt.{signed_decimal}
use Rattle.std.specs.String.{string_bytes}
use Rattle.std.proofs.lemmas.Int.{to_z-of_z}
use Rattle.vtl_values.specs.Ranges.{numbered, distance}
use Rattle.vtl_values.proofs.Numbers.{rest, range_turn, rest_whole, rest_last}
use Rattle.vtl_values.proofs.Fronts.{front_same}
use Rattle.vtl_values.proofs.Pieces.{lacking, next_piece, still_fits, finished}
use Rattle.vtl_values.proofs.printing.write_counted.Goals as goal

pub returns-in-Err-clause-writes : goal.returns-in-Err-clause-writes
returns-in-Err-clause-writes c =
    let f : ℤ = c.args.first in
    let l : ℤ = c.args.last in
    let g : ℤ = to_z w64 (of_z w64 f) in
    let m : ℤ = to_z w64 (of_z w64 l) in
    let n : ℤ = to_z w64 (of_z w64 c.number_at.result) in
    let eg : g ≡ f = to_z-of_z w64 f c.ranges.first in
    let em : m ≡ l = to_z-of_z w64 l c.ranges.last in
    let en : n ≡ numbered g m (c.loop-i.i + 1) = search (rules, c.number_at.ensures) in
    let h : c.loop-i.i < distance g m = search rules in
    let turn = range_turn f l g m n c.loop-i.i eg em en h in
    lacking c.args.most (string_bytes c.loop-i.text) (string_bytes c.write_next.new.text) (string_bytes c.args.text.now) (codes ", " ++ signed_decimal n) (rest g m (c.loop-i.i + 1)) _ c.in-Err.lack c.in-Err.ensures.writes
    (ap (λ z. string_bytes c.loop-i.text ++ z) (sym turn) ∙ c.loop-i.invariant.same ∙ ap (λ z. string_bytes c.args.text.now ++ z) (rest_whole f l g m eg em))

pub returns-in-Err-clause-front : goal.returns-in-Err-clause-front
returns-in-Err-clause-front c =
    let f : ℤ = c.args.first in
    let l : ℤ = c.args.last in
    let g : ℤ = to_z w64 (of_z w64 f) in
    let m : ℤ = to_z w64 (of_z w64 l) in
    let n : ℤ = to_z w64 (of_z w64 c.number_at.result) in
    let eg : g ≡ f = to_z-of_z w64 f c.ranges.first in
    let em : m ≡ l = to_z-of_z w64 l c.ranges.last in
    let en : n ≡ numbered g m (c.loop-i.i + 1) = search (rules, c.number_at.ensures) in
    let h : c.loop-i.i < distance g m = search rules in
    let turn = range_turn f l g m n c.loop-i.i eg em en h in
    front_same (string_bytes c.args.text.now) (string_bytes c.loop-i.text) (string_bytes c.write_next.new.text) (codes ", " ++ signed_decimal n) (rest g m (c.loop-i.i + 1)) _
    (ap (λ z. string_bytes c.loop-i.text ++ z) (sym turn) ∙ c.loop-i.invariant.same ∙ ap (λ z. string_bytes c.args.text.now ++ z) (rest_whole f l g m eg em))
    c.loop-i.invariant.longer c.in-Err.ensures.front

pub loop-i-preserved : goal.loop-i-preserved
loop-i-preserved c =
    let f : ℤ = c.args.first in
    let l : ℤ = c.args.last in
    let g : ℤ = to_z w64 (of_z w64 f) in
    let m : ℤ = to_z w64 (of_z w64 l) in
    let n : ℤ = to_z w64 (of_z w64 c.number_at.result) in
    let eg : g ≡ f = to_z-of_z w64 f c.ranges.first in
    let em : m ≡ l = to_z-of_z w64 l c.ranges.last in
    let en : n ≡ numbered g m (c.loop-i.i + 1) = search (rules, c.number_at.ensures) in
    let h : c.loop-i.i < distance g m = search rules in
    let turn = range_turn f l g m n c.loop-i.i eg em en h in
    record {
      same = next_piece (string_bytes c.loop-i.text) (string_bytes c.write_next.new.text) (string_bytes c.args.text.now) (codes ", " ++ signed_decimal n) (rest g m (c.loop-i.i + 1)) (rest g m 0) c.in-Ok.ensures.writes.0
          (ap (λ z. string_bytes c.loop-i.text ++ z) (sym turn) ∙ c.loop-i.invariant.same);
      fits = still_fits c.args.most (string_bytes c.loop-i.text) (string_bytes c.write_next.new.text) (codes ", " ++ signed_decimal n) c.in-Ok.ensures.writes.0 c.in-Ok.ensures.writes.1;
      longer = omega (arith, c.loop-i.invariant.longer, ap length c.in-Ok.ensures.writes.0, length-append (string_bytes c.loop-i.text) (codes ", " ++ signed_decimal n));
    }

pub returns-clause-writes : goal.returns-clause-writes
returns-clause-writes c =
    let f : ℤ = c.args.first in
    let l : ℤ = c.args.last in
    let g : ℤ = to_z w64 (of_z w64 f) in
    let m : ℤ = to_z w64 (of_z w64 l) in
    let eg : g ≡ f = to_z-of_z w64 f c.ranges.first in
    let em : m ≡ l = to_z-of_z w64 l c.ranges.last in
    let h : distance g m ≤ c.loop-i.i = search rules in
    finished c.args.most (string_bytes c.loop-i.text) (string_bytes c.args.text.now) (rest g m c.loop-i.i) _
    (c.loop-i.invariant.same ∙ ap (λ z. string_bytes c.args.text.now ++ z) (rest_whole f l g m eg em)) (rest_last g m c.loop-i.i h) c.loop-i.invariant.fits
