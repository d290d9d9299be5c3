use Rattle.std.proofs.Common.{rules}
use Rattle.record_fields.proofs.Digits.{if_utf8_is}
use Rattle.record_fields.proofs.fields.text_of.Goals as goal

pub returns-in_ok-from_str-in-Ok : goal.returns-in_ok-from_str-in-Ok
returns-in_ok-from_str-in-Ok c = if_utf8_is c.args.field.now c.of.result c.in-Ok.ensures.cases.1 (search rules)
