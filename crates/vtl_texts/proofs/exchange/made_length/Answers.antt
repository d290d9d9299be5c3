use Rattle.std.proofs.Common.{arith}
use Rattle.vtl_texts.proofs.Rounds.{exchanged_as_long}
use Rattle.vtl_texts.proofs.exchange.made_length.Goals as goal

pub returns-then-most-bytes : goal.returns-then-most-bytes
returns-then-most-bytes c = omega (arith, exchanged_as_long c.args.text.now c.args.from.now c.args.to.now c.if-from-to.false, c.if-most-bytes.true)

pub returns : goal.returns
returns c =
    let e = exchanged_as_long c.args.text.now c.args.from.now c.args.to.now c.if-from-to.false in
    (omega (arith, e), omega (arith, c.if-most-bytes.false))
