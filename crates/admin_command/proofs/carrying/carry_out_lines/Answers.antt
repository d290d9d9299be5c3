use Rattle.std.proofs.Common.{refl, arith, ◌∙◌}
use Rattle.std.proofs.lemmas.Grind.{common_steps}
use Rattle.script_records.specs.Coding.{lines_of}
use Rattle.admin_command.proofs.Going.{on_err_of, begins, cut_short_at, stopped_at, said_at, finished, then_left}
use Rattle.admin_command.proofs.carrying.carry_out_lines.Goals as goal

pub lines-init : goal.lines-init
lines-init g c = record {
  carrying = begins c.args.book.now.base (lines_of c.args.lines.now) (g.W.Sink.written c.args.output.now) c.args.book.now.history c.requires.first;
  base = refl;
  count = omega (arith, c.requires.number);
  kept = refl;
}

pub returns-in_err-end-clause-cut : goal.returns-in_err-end-clause-cut
returns-in_err-end-clause-cut g c =
    on_err_of c.from_residual.result _
    (cut_short_at c.args.book.now.base _ c.lines.invariant.base (lines_of c.args.lines.now) _ _ _ c.lines.number c.lines.book.history _ _ _ c.first_line.ensures.lines c.lines.invariant.carrying
    c.say_line.new.book.history c.in_err-end.ensures.cut)

pub returns-in-Some-clause-all : goal.returns-in-Some-clause-all
returns-in-Some-clause-all g c =
    let done = stopped_at c.args.book.now.base _ c.lines.invariant.base (lines_of c.args.lines.now) _ _ _ c.lines.number c.lines.book.history _ _ _ c.first_line.ensures.lines c.lines.invariant.carrying
    c.say_line.new.book.history c.in_ok-end.field-0 c.in-Some.end c.in-Some.is c.in_ok-end.ensures.said in
    rw c.status.ensures.value done

pub returns-in_default-more-clause-all : goal.returns-in_default-more-clause-all
returns-in_default-more-clause-all g c =
    let first = then_left _ _ _ _ c.first_line.ensures.lines c.in_default-more.is in
    let said = said_at c.args.book.now.base _ c.lines.invariant.base (lines_of c.args.lines.now) _ _ _ c.lines.number c.lines.book.history _ _ _ first c.lines.invariant.carrying
    c.say_line.new.book.history c.in_ok-end.field-0 c.in_default.is c.in_ok-end.ensures.said in
    finished c.args.book.now.base (lines_of c.args.lines.now) _ _ _ _ said

pub lines-preserved : goal.lines-preserved
lines-preserved g c = record {
  carrying = said_at c.args.book.now.base _ c.lines.invariant.base (lines_of c.args.lines.now) _ _ _ c.lines.number c.lines.book.history _ _ _
      (then_left _ _ _ _ c.first_line.ensures.lines c.in-Some-more.is) c.lines.invariant.carrying
      c.say_line.new.book.history c.in_ok-end.field-0 c.in_default.is c.in_ok-end.ensures.said;
  base = c.say_line.ensures.base ∙ c.lines.invariant.base;
  count = grind (arith, common_steps);
  kept = c.in_ok-end.ensures.cause.kept ∙ c.lines.invariant.kept;
}
