use Rattle.std.proofs.Common.{◌≡◌, Ok, Err, subst, ap, ◌∙◌}
use Rattle.book_rules.specs.Times.{IsInTime}
use Rattle.gate_walk.specs.Told.{reply_at, taken}
use Rattle.play_session.proofs.Taking.{is_taken, is_full_at}
use Rattle.play_session.proofs.session.Session.take.Goals as goal

pub returns-in-Ok-clause-told : goal.returns-in-Ok-clause-told
returns-in-Ok-clause-told g c =
    let t = c.in-Ok.ensures.taken in
    let s = c.args.self.now in
    is_taken s.base s.history c.args.event c.step.ensures.of_play c.step.new.self.history t.0 c.in-Ok.reply t.1 t.2 t.3 t.4
