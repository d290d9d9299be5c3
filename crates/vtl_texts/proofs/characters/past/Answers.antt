use Rattle.std.proofs.Common.{sym, ◌∙◌}
use Rattle.std.specs.Str.{chars}
use Rattle.std.specs.Str.Iter.{chars_rest}
use Rattle.std.proofs.lemmas.Str.{IsUtf8-past_char, chars_past_char}
use Rattle.vtl_texts.proofs.Counted.{drop_next}
use Rattle.vtl_texts.proofs.characters.past.Goals as goal

pub loop-k-preserved : goal.loop-k-preserved
loop-k-preserved c =
    let bs = chars_rest c.loop-k.rest in
    let rest = chars_rest c.next.new.self in
    let step = c.in-Some.ensures.steps.0 in
    let first = chars_past_char bs rest c.in-Some._passed c.loop-k.invariant.utf8 step in
    let next = drop_next (chars c.args.text.now) c.loop-k._k c.in-Some._passed (chars rest) (sym c.loop-k.invariant.left ∙ first) in
    record {
      utf8 = IsUtf8-past_char bs rest c.in-Some._passed c.loop-k.invariant.utf8 step;
      left = sym next.0;
      fits = next.1;
    }
