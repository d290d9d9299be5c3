use Rattle.std.proofs.Common.{◌∙◌, ap, sym, length, arith, rules}
use Rattle.std.specs.Str.{chars}
use Rattle.policy_core.specs.Views.{same_of}
use Rattle.policy_core.proofs.Scans.{left_covered, covers_run, run_left, place_left, star_is, star_covers}
use Rattle.policy_core.proofs.pattern.covers.Goals as goal

pub returns-in_default : goal.returns-in_default
returns-in_default c =
    let same = same_of c.args.case in
    sym (covers_run same (chars c.args.pattern.now) (chars c.args.text.now) ∙ ap (left_covered same) c.in_default.ensures.value)

pub loop-rest-init : goal.loop-rest-init
loop-rest-init c =
    let same = same_of c.args.case in
    let pattern = chars c.args.pattern.now in
    let text = chars c.args.text.now in
    record {
      utf8_pattern = search rules;
      utf8_text = search rules;
      is_left = (run_left same pattern text _ _ c.in-Some.ensures.value).0;
      same = sym (covers_run same pattern text ∙ ap (left_covered same) c.in-Some.ensures.value);
    }

pub returns-in_default-first_place : goal.returns-in_default-first_place
returns-in_default-first_place c =
    let same = same_of c.args.case in
    sym (sym c.loop-rest.invariant.same
    ∙ star_covers same (chars c.loop-rest.left.0.now) (chars c.in-Some-behind_star.rest.now) (chars c.loop-rest.left.1.now) c.in-Some-behind_star.ensures
    ∙ ap (left_covered same) c.in_default-first_place.ensures.value)

pub loop-rest-smaller : goal.loop-rest-smaller
loop-rest-smaller c =
    let same = same_of c.args.case in
    let starred = ap length (star_is (chars c.loop-rest.left.0.now) (chars c.in-Some-behind_star.rest.now) c.in-Some-behind_star.ensures) in
    let shorter = (place_left same (chars c.in-Some-behind_star.rest.now) (chars c.loop-rest.left.1.now) _ _ c.in-Some-first_place.ensures.value).1 in
    omega (arith, starred, shorter)

pub loop-rest-preserved : goal.loop-rest-preserved
loop-rest-preserved c =
    let same = same_of c.args.case in
    let rest = chars c.in-Some-behind_star.rest.now in
    let text = chars c.loop-rest.left.1.now in
    record {
      utf8_pattern = search rules;
      utf8_text = search rules;
      is_left = (place_left same rest text _ _ c.in-Some-first_place.ensures.value).0;
      same = sym (sym c.loop-rest.invariant.same
          ∙ star_covers same (chars c.loop-rest.left.0.now) rest text c.in-Some-behind_star.ensures
          ∙ ap (left_covered same) c.in-Some-first_place.ensures.value);
    }
