use Rattle.load_command.proofs.Going.{all_played, all_stopped, if_ok_map}
use Rattle.load_command.proofs.loading.play_all.Goals as goal

pub returns-in-Some-clause-all : goal.returns-in-Some-clause-all
returns-in-Some-clause-all g c =
    all_stopped c.args.session.now.base c.args.session.now.history c.first_lines.result.now c.args.seed c.args.calls c.play_lines.new.session.history _ c.in-Some.stopped
    c.first_lines.ensures.lines c.in-Some.is c.in_ok-next.ensures.all

pub returns-in-None-clause-all : goal.returns-in-None-clause-all
returns-in-None-clause-all g c =
    if_ok_map c.play_calls.result _ _
    (λ stopped loads. all_played c.args.session.now.base _ c.args.session.now.history c.first_lines.result.now c.args.seed c.args.calls c.play_lines.new.session.history _ _ _
    c.play_lines.ensures.base c.first_lines.ensures.lines c.in-None.is (c.in_ok-next.ensures.next c.in-None.is) c.in_ok-next.ensures.all loads)
    c.play_calls.ensures.all
