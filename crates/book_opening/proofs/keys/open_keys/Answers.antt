use Rattle.std.proofs.Common.{◌≡◌, length, take, reverse, refl, sym, ◌∙◌, arith, ap, Some}
use Rattle.std.specs.Map.{update}
use Rattle.std.specs.Str.{bytes_eq}
use Rattle.std.proofs.lemmas.List.{length-reverse, length-take-le}
use Rattle.key_index.specs.Indexes.{key_in}
use Rattle.book_rules.specs.Good.{takes_key}
use Rattle.book_opening.proofs.Keyed.{indexes_none, keyed_more, keyed_all, taken_fresh}
use Rattle.book_opening.proofs.Walks.{walk_goes_on, walk_stops}
use Rattle.book_opening.proofs.Values.{values_more, added_new}
use Rattle.book_opening.proofs.keys.open_keys.Goals as goal

pub returns-then-not-takes_key-clause-refused : goal.returns-then-not-takes_key-clause-refused
returns-then-not-takes_key-clause-refused c =
    let rows = c.args.rows.now in
    let before = reverse (take c.loop-i.i rows) in
    let row = c.index-rows-i.result in
    let placed : length before ≡ c.loop-i.i = length-reverse (take c.loop-i.i rows) ∙ length-take-le c.loop-i.i rows (omega arith) in
    let is_new = added_new c.loop-i.values (take c.loop-i.i rows) row c.as_str.result c.in_ok-is_new.is_new c.as_str.ensures c.in_ok-is_new.ensures.added c.loop-i.invariant.held in
    (refl, walk_stops takes_key rows c.loop-i.i row row c.loop-i-test.true c.index-rows-i.is (sym (c.takes_key.ensures before placed is_new) ∙ c.if-not-takes_key.true) c.loop-i.invariant.walked)

pub loop-i-preserved : goal.loop-i-preserved
loop-i-preserved c =
    let rows = c.args.rows.now in
    let before = reverse (take c.loop-i.i rows) in
    let row = c.index-rows-i.result in
    let placed : length before ≡ c.loop-i.i = length-reverse (take c.loop-i.i rows) ∙ length-take-le c.loop-i.i rows (omega arith) in
    let is_new = added_new c.loop-i.values (take c.loop-i.i rows) row c.as_str.result c.in_ok-is_new.is_new c.as_str.ensures c.in_ok-is_new.ensures.added c.loop-i.invariant.held in
    let taken : takes_key before row ≡ _ = sym (c.takes_key.ensures before placed is_new) ∙ c.if-not-takes_key.false in
    record {
      walked = walk_goes_on takes_key rows c.loop-i.i row row c.loop-i-test.true c.index-rows-i.is taken c.loop-i.invariant.walked;
      held = values_more c.loop-i.values c.insert.new.self rows c.loop-i.i row c.as_str.result c.loop-i-test.true c.index-rows-i.is c.as_str.ensures c.in_ok-is_new.ensures.updates c.loop-i.invariant.held;
      keyed = keyed_more rows c.loop-i.i row (key_in c.loop-i.index) (key_in c.enter.new.self) c.loop-i-test.true c.index-rows-i.is c.requires.order (taken_fresh before row taken)
          (λ v. c.in_ok-enter.ensures.entered v
          ∙ ap (λ k. update bytes_eq (key_in c.loop-i.index) k (Some c.as_str-in-loop-i-2.result.now) v) c.as_str-in-loop-i.ensures
          ∙ ap (λ k. update bytes_eq (key_in c.loop-i.index) row.value (Some k) v) c.as_str-in-loop-i-2.ensures) c.loop-i.invariant.keyed;
    }
