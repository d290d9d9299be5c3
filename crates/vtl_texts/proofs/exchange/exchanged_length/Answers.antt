use Rattle.std.proofs.Common.{arith, rules}
use Rattle.vtl_texts.proofs.Rounds.{exchanged_length_cut, exchanged_length_whole, behind_shorter}
use Rattle.vtl_texts.proofs.exchange.exchanged_length.Goals as goal

pub returns-then-room-before : goal.returns-then-room-before
returns-then-room-before c = omega (arith, exchanged_length_cut c.loop-before.rest.now c.args.from.now c.args.to.now c.in-Some.before.now c.in-Some.behind.now c.requires c.in-Some.ensures)

pub returns-then-room-to : goal.returns-then-room-to
returns-then-room-to c = omega (arith, exchanged_length_cut c.loop-before.rest.now c.args.from.now c.args.to.now c.in-Some.before.now c.in-Some.behind.now c.requires c.in-Some.ensures)

pub loop-before-smaller : goal.loop-before-smaller
loop-before-smaller c = behind_shorter _ _ _ _ c.requires c.in-Some.ensures

pub loop-before-preserved : goal.loop-before-preserved
loop-before-preserved c =
    let e = exchanged_length_cut c.loop-before.rest.now c.args.from.now c.args.to.now c.in-Some.before.now c.in-Some.behind.now c.requires c.in-Some.ensures in
    record {
      text = search rules;
      used = omega (arith, e);
      fits = omega (arith, e);
    }

pub returns-then-room-rest : goal.returns-then-room-rest
returns-then-room-rest c = omega (arith, exchanged_length_whole c.loop-before.rest.now c.args.from.now c.args.to.now c.requires c.in_default.ensures)

pub returns : goal.returns
returns c =
    let e = exchanged_length_whole c.loop-before.rest.now c.args.from.now c.args.to.now c.requires c.in_default.ensures in
    (omega (arith, e), omega arith)
