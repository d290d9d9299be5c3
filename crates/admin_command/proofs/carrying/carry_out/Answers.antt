use Rattle.std.proofs.Common.{inr, ◌∷◌, ◌++◌, [], None, refl}
use Rattle.play_script.specs.Printed.{reply_line}
use Rattle.admin_command.proofs.Going.{on_err_of}
use Rattle.admin_command.proofs.carrying.carry_out.Goals as goal

pub returns-in_err-reply_line-in-Ok-clause-cut : goal.returns-in_err-reply_line-in-Ok-clause-cut
returns-in_err-reply_line-in-Ok-clause-cut g c =
    let taken = c.in-Ok.ensures.taken in
    on_err_of c.from_residual.result _
    (inr (record { history = c.args.book.now.history ++ taken.0 ∷ []; text = reply_line c.in-Ok.reply; ends = None }, (taken.0, c.in-Ok.reply, taken.2, taken.3, taken.4, refl), taken.1))
