use mir.Syntax.{w64}
use Rattle.std.proofs.lemmas.Int.{to_z-of_z}
use Rattle.vtl_texts.proofs.Counted.{from_negative, from_place}
use Rattle.vtl_texts.proofs.characters.substring_from.Goals as goal

pub returns-in_default : goal.returns-in_default
returns-in_default c =
    let e = to_z-of_z w64 c.args.from c.ranges.from in
    from_negative c.args.text.now c.args.from (rw e at c.in_default.ensures)

pub returns : goal.returns
returns c =
    let e = to_z-of_z w64 c.args.from c.ranges.from in
    from_place c.args.text.now c.args.from c.in-Some.from _ (rw e at c.in-Some.ensures) c.past.ensures
