use Rattle.std.proofs.Common.{arith}
use Rattle.std.proofs.lemmas.Grind.{common_steps}
use Rattle.record_fields.proofs.Digits.{read_on_more}
use Rattle.record_fields.proofs.numbers.read_digits.Goals as goal

pub returns-in_default-clause-none : goal.returns-in_default-clause-none
returns-in_default-clause-none c =
    let more = read_on_more c.loop-digit.value c.loop-digit.digit-index c.args.field.now c.loop-digit-test.true in
    grind (arith, common_steps, more, c.loop-digit.invariant.so_far, c.in_default.ensures)

pub returns-in_default-checked_add-clause-none : goal.returns-in_default-checked_add-clause-none
returns-in_default-checked_add-clause-none c =
    let more = read_on_more c.loop-digit.value c.loop-digit.digit-index c.args.field.now c.loop-digit-test.true in
    grind (arith, common_steps, more, c.loop-digit.invariant.so_far, c.in_default-checked_add.ensures, c.in-Some.ensures)
