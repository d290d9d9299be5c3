use Rattle.std.proofs.Common.{◌≡◌, ◌<◌, ◌∙◌, rules}
use Rattle.gw_base.specs.Random.{next_state, word_of}
use Rattle.load_command.specs.Lines.{call_line}
use Rattle.load_command.proofs.Calling.{called, ended}
use Rattle.load_command.proofs.loading.play_calls.Goals as goal

pub returns-in-Some-clause-all : goal.returns-in-Some-clause-all
returns-in-Some-clause-all g c =
    let more : c.loop-number.number < c.args.calls = search rules in
    let spelled : c.as_bytes.result.now ≡ call_line c.loop-number.number (word_of (next_state c.loop-number.words.state)) = search rules in
    ended c.args.session.now.base _ c.loop-number.invariant.base c.args.first c.args.session.now.history c.args.seed c.args.calls c.loop-number.number c.loop-number.words.state
    c.loop-number.session.history c.loop-number.invariant.calling more _ spelled c.in_ok-said.said.text c.play_line.new.session.history c.in_ok-said.said.ends c.in-Some.end c.in-Some.is
    c.in_ok-said.ensures.does

pub loop-number-preserved : goal.loop-number-preserved
loop-number-preserved g c =
    let more : c.loop-number.number < c.args.calls = search rules in
    let spelled : c.as_bytes.result.now ≡ call_line c.loop-number.number (word_of (next_state c.loop-number.words.state)) = search rules in
    record {
      calling = called c.args.session.now.base _ c.loop-number.invariant.base c.args.first c.args.session.now.history c.args.seed c.args.calls c.loop-number.number c.loop-number.words.state
          c.loop-number.session.history c.loop-number.invariant.calling more _ spelled c.in_ok-said.said.text c.play_line.new.session.history c.in_ok-said.said.ends _ c.in_default.is
          c.next.ensures.state c.in_ok-said.ensures.does;
      base = c.play_line.ensures.base ∙ c.loop-number.invariant.base;
    }
