use Rattle.std.proofs.Common.{sym}
use Rattle.script_records.proofs.Spelled.{named, plain_post}
use Rattle.script_records.proofs.plain.plain_post.Goals as goal

pub returns : goal.returns
returns c =
    plain_post c.args.line.now c.in_ok-name.name.now c.in_ok-moment.moment.now c.in_ok-word.word.now c.in_ok-name.rest.now c.in_ok-moment.rest.now c.in_ok-word.fields.now
    c.in_ok-number.field-0 c.in_ok-number-2.field-0 c.in_ok-name.ensures
    (named c.in_ok-name.name.now c.as_slice.result.now c.if-ne.ensures c.as_slice.ensures) c.in_ok-moment.ensures c.in_ok-word.ensures
    (sym c.in_ok-number.ensures) (sym c.in_ok-number-2.ensures)
