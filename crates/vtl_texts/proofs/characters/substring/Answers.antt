use mir.Syntax.{w64}
use Rattle.std.proofs.Common.{inl, inr}
use Rattle.std.proofs.lemmas.Int.{to_z-of_z}
use Rattle.vtl_texts.proofs.Counted.{between_negative, between_backwards, between_places}
use Rattle.vtl_texts.proofs.characters.substring.Goals as goal

pub returns-in_default : goal.returns-in_default
returns-in_default c =
    let e = to_z-of_z w64 c.args.from c.ranges.from in
    between_negative c.args.text.now c.args.from c.args.to (inl (rw e at c.in_default.ensures))

pub returns-in_default-place : goal.returns-in_default-place
returns-in_default-place c =
    let e = to_z-of_z w64 c.args.to c.ranges.to in
    between_negative c.args.text.now c.args.from c.args.to (inr (rw e at c.in_default-place.ensures))

pub returns-then-to-from : goal.returns-then-to-from
returns-then-to-from c =
    let e = to_z-of_z w64 c.args.from c.ranges.from in
    let f = to_z-of_z w64 c.args.to c.ranges.to in
    between_backwards c.args.text.now c.args.from c.args.to _ _ (rw e at c.in-Some.ensures) (rw f at c.in-Some-place.ensures) c.if-to-from.true

pub returns : goal.returns
returns c =
    let e = to_z-of_z w64 c.args.from c.ranges.from in
    let f = to_z-of_z w64 c.args.to c.ranges.to in
    between_places c.args.text.now c.args.from c.args.to _ _ _ (rw e at c.in-Some.ensures) (rw f at c.in-Some-place.ensures) c.between.ensures
