use Rattle.std.proofs.Common.{Some, ap, ◌∙◌}
use Rattle.gateway_cli.proofs.Asked.{kept_whole, held_over}
use Rattle.gateway_cli.proofs.files.file_in.Goals as goal

pub returns-in-Ok-clause-read : goal.returns-in-Ok-clause-read
returns-in-Ok-clause-read g c =
    (c.in-Ok.bytes.items, c.in-Ok.ensures.whole, ap (λ b. Some b) c.of.ensures ∙ kept_whole c.args.limit c.in-Ok.bytes.items c.in-Ok.ensures.within)

pub returns-in-Err-TooLong-clause-read : goal.returns-in-Err-TooLong-clause-read
returns-in-Err-TooLong-clause-read g c = held_over (g.O.Outside.files c.args.outside.now) c.args.name.now c.args.limit (c.in-Err-TooLong.ensures.too_long (cc c.in-Err-TooLong.field-0-is))
