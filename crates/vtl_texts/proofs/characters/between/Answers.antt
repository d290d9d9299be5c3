use Rattle.std.proofs.Common.{◌-◌, arith, ap, length}
use Rattle.std.proofs.lemmas.List.{length-drop}
use Rattle.std.specs.Str.{chars}
use Rattle.vtl_texts.proofs.Counted.{between_past, seam_boundary, seam_fits, between_taken}
use Rattle.vtl_texts.proofs.characters.between.Goals as goal

pub returns-in_default : goal.returns-in_default
returns-in_default c = between_past c.args.text.now c.args.from c.args.to c.requires (omega (arith, c.in_default.ensures))

pub returns-in_default-past : goal.returns-in_default-past
returns-in_default-past c =
    let s = c.in-Some.ensures in
    between_past c.args.text.now c.args.from c.args.to c.requires (omega (arith, s.0, ap length s.1, length-drop c.args.from (chars c.args.text.now), c.in_default-past.ensures))

pub overflow_sub-start : goal.overflow_sub-start
overflow_sub-start c =
    let s = c.in-Some.ensures in
    let e = c.in-Some-past.ensures in
    seam_fits _ _ (c.args.to - c.args.from) s.2 e.2 e.1

pub split_at-requires : goal.split_at-requires
split_at-requires c =
    let s = c.in-Some.ensures in
    let e = c.in-Some-past.ensures in
    seam_boundary _ _ (c.args.to - c.args.from) s.2 e.2 e.1

pub returns : goal.returns
returns c =
    let s = c.in-Some.ensures in
    let e = c.in-Some-past.ensures in
    between_taken c.args.text.now _ _ _ c.args.from c.args.to c.requires s.0 s.1 s.2 e.0 e.1 e.2 c.split_at.ensures.front
