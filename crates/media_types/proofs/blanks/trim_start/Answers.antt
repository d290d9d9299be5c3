use Rattle.std.proofs.Common.{◌≡◌, ◌<◌, ◌+◌, get_or, drop, length, rules, arith, ap, sym, ◌∙◌, true}
use Rattle.std.proofs.lemmas.List.{drop_more}
use Rattle.std.proofs.lemmas.Str.{IsCharBoundary-start, IsCharBoundary-after_ascii}
use Rattle.media_types.specs.Blanks.{is_blank, without_start}
use Rattle.media_types.proofs.Ends.{blank_is_ascii, without_start_blank}
use Rattle.media_types.proofs.blanks.trim_start.Goals as goal

pub loop-start-init : goal.loop-start-init
loop-start-init c = record {
  boundary = IsCharBoundary-start c.args.text.now c.utf8.text;
  same = search rules;
}

pub loop-start-preserved : goal.loop-start-preserved
loop-start-preserved c =
    let t = c.args.text.now in
    let k = c.loop-start.start in
    let within : k < length t = omega (arith, c.as_bytes-bytes.ensures.len, c.loop-start-test.true) in
    let blank : is_blank (get_or t k 0) ≡ true = rw c.as_bytes-bytes.ensures.value at (sym c.is_blank.ensures ∙ c.if-is_blank.true) in
    record {
      boundary = IsCharBoundary-after_ascii t k c.utf8.text within (blank_is_ascii (get_or t k 0) blank);
      same = sym (without_start_blank (get_or t k 0) (drop (k + 1) t) blank) ∙ ap without_start (sym (drop_more t k 0 within)) ∙ c.loop-start.invariant.same;
    }
