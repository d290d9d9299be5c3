use Rattle.std.proofs.Common.{arith, ◌∙◌, refl}
use Rattle.std.proofs.lemmas.Grind.{common_steps}
use Rattle.std.specs.String.{string_bytes}
use Rattle.script_records.specs.Coding.{lines_of}
use Rattle.play_script.proofs.Playing.{on_err_of, begins, goes_on, wants, breaks, stopped_at, said_at, kept_at, finished, then_left}
use Rattle.play_script.proofs.play.gather_lines.Goals as goal

pub lines-init : goal.lines-init
lines-init g c = record {
  playing = begins c.args.session.now.base c.args.number (lines_of c.args.lines.now) (g.W.Sink.written c.args.output.now) (string_bytes c.args.gathered.now) c.args.session.now.history c.requires.empty c.requires.first;
  base = refl;
  count = c.requires.number;
  kept = refl;
}

pub returns-in-Err-clause-wanting : goal.returns-in-Err-clause-wanting
returns-in-Err-clause-wanting g c =
    wants c.args.session.now.base c.args.number (lines_of c.args.lines.now) _ _ _ c.lines.number c.lines.session.history (lines_of c.lines.rest.now)
    (kept_at c.args.session.now.base c.args.number (lines_of c.args.lines.now) _ _ _ _ c.lines.number c.lines.session.history (lines_of c.lines.rest.now) c.in-Err.ensures.kept c.lines.invariant.playing)

pub returns-in-Ok-Some-clause-all : goal.returns-in-Ok-Some-clause-all
returns-in-Ok-Some-clause-all g c =
    let done = stopped_at c.args.session.now.base _ c.lines.invariant.base c.args.number (lines_of c.args.lines.now) _ _ _ _ c.lines.number c.lines.session.history _ _ _ c.first_line.ensures.lines c.lines.invariant.playing
    c.gather_line.new.session.history _ c.in-Ok-Some.end c.in-Ok-Some.field-0-is c.in-Ok-Some.ensures.said in
    rw c.status.ensures.value done

pub returns-in_default-clause-all : goal.returns-in_default-clause-all
returns-in_default-clause-all g c =
    let first = then_left _ _ _ _ c.first_line.ensures.lines c.in_default.is in
    let said = said_at c.args.session.now.base _ c.lines.invariant.base c.args.number (lines_of c.args.lines.now) _ _ _ _ c.lines.number c.lines.session.history _ _ _ first c.lines.invariant.playing
    c.gather_line.new.session.history _ c.in-Ok-None.field-0-is c.in-Ok-None.ensures.said in
    finished c.args.session.now.base c.args.number (lines_of c.args.lines.now) _ _ _ _ _ said

pub returns-in_err-write_enough-clause-front : goal.returns-in_err-write_enough-clause-front
returns-in_err-write_enough-clause-front g c =
    let first = then_left _ _ _ _ c.first_line.ensures.lines c.in-Some.is in
    let said = said_at c.args.session.now.base _ c.lines.invariant.base c.args.number (lines_of c.args.lines.now) _ _ _ _ c.lines.number c.lines.session.history _ _ _ first c.lines.invariant.playing
    c.gather_line.new.session.history _ c.in-Ok-None.field-0-is c.in-Ok-None.ensures.said in
    on_err_of c.from_residual.result _ (breaks c.args.session.now.base c.args.number (lines_of c.args.lines.now) _ _ _ _ _ _ said _ c.in_err-write_enough.ensures.front)

pub lines-preserved : goal.lines-preserved
lines-preserved g c =
    let first = then_left _ _ _ _ c.first_line.ensures.lines c.in-Some.is in
    let said = said_at c.args.session.now.base _ c.lines.invariant.base c.args.number (lines_of c.args.lines.now) _ _ _ _ c.lines.number c.lines.session.history _ _ _ first c.lines.invariant.playing
    c.gather_line.new.session.history _ c.in-Ok-None.field-0-is c.in-Ok-None.ensures.said in
    record {
      playing = goes_on c.args.session.now.base c.args.number (lines_of c.args.lines.now) _ _ _ _ _ _ said _ _ c.in_ok-write_enough.ensures.all;
      base = c.gather_line.ensures.base ∙ c.lines.invariant.base;
      count = grind (arith, common_steps);
      kept = c.in_ok-write_enough.ensures.cause.kept ∙ c.lines.invariant.kept;
    }
