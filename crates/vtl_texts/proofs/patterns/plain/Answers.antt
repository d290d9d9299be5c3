use Rattle.std.specs.Str.Iter.{chars_rest}
use Rattle.std.proofs.lemmas.Str.{IsUtf8-past_char, chars_past_char}
use Rattle.vtl_texts.proofs.Plain.{begun, escaped_more, escape_more, plain_more}
use Rattle.vtl_texts.proofs.patterns.plain.Goals as goal

pub loop-c-init : goal.loop-c-init
loop-c-init c = record {
  utf8 = rw c.chars-rest.ensures.rest c.utf8.text;
  same = begun c.args.escapes _ _ c.args.text.now c.in_ok-made.ensures.bytes c.chars-rest.ensures.rest;
}

pub loop-c-preserved-then-escaped : goal.loop-c-preserved-then-escaped
loop-c-preserved-then-escaped c =
    let rest = chars_rest c.loop-c.rest in
    let next = chars_rest c.next.new.self in
    let step = c.in-Some.ensures.steps.0 in
    let first = chars_past_char rest next c.in-Some.c c.loop-c.invariant.utf8 step in
    record {
      utf8 = IsUtf8-past_char rest next c.in-Some.c c.loop-c.invariant.utf8 step;
      same = escaped_more c.args.escapes _ _ _ c.in-Some.c c.loop-c.escaped _ c.loop-c.invariant.same first _ c.if-escaped.true c.if-not-may_be_escaped.ensures c.in_ok-push.ensures.bytes;
    }

pub loop-c-preserved-then-c-eq92 : goal.loop-c-preserved-then-c-eq92
loop-c-preserved-then-c-eq92 c =
    let rest = chars_rest c.loop-c.rest in
    let next = chars_rest c.next.new.self in
    let step = c.in-Some.ensures.steps.0 in
    let first = chars_past_char rest next c.in-Some.c c.loop-c.invariant.utf8 step in
    record {
      utf8 = IsUtf8-past_char rest next c.in-Some.c c.loop-c.invariant.utf8 step;
      same = escape_more c.args.escapes _ _ _ c.in-Some.c c.loop-c.escaped _ c.loop-c.invariant.same first c.if-escaped.false c.if-c-eq92.true;
    }

pub loop-c-preserved : goal.loop-c-preserved
loop-c-preserved c =
    let rest = chars_rest c.loop-c.rest in
    let next = chars_rest c.next.new.self in
    let step = c.in-Some.ensures.steps.0 in
    let first = chars_past_char rest next c.in-Some.c c.loop-c.invariant.utf8 step in
    record {
      utf8 = IsUtf8-past_char rest next c.in-Some.c c.loop-c.invariant.utf8 step;
      same = plain_more c.args.escapes _ _ _ c.in-Some.c c.loop-c.escaped _ c.loop-c.invariant.same first _ c.if-escaped.false c.if-c-eq92.false c.if-must_be_escaped.ensures c.in_ok-push-2.ensures.bytes;
    }
