use Rattle.std.proofs.Common.{Err}
use Rattle.std.proofs.lemmas.Str.Parse.{parse_digits}
use Rattle.jsonpath_core.proofs.Numerals.{numerals}
use Rattle.wire_text.proofs.Ports.{past_or_none}
use Rattle.wire_text.proofs.aiming.number.Goals as goal

pub returns-in-Ok : goal.returns-in-Ok
returns-in-Ok c =
    let h = parse_digits numerals 16 c.args.digits.now _ c.parse.ensures.value.0 c.requires in
    let k = rw c.in-Ok.is at h in k.1

pub returns-in-Err : goal.returns-in-Err
returns-in-Err c =
    past_or_none c.args.digits.now (parse_digits numerals 16 c.args.digits.now (Err c.in-Err.field-0) c.in-Err.ensures.value.0 c.requires)
