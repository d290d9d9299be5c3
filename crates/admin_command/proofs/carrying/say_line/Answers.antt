use Rattle.admin_command.proofs.Going.{cut_before, on_err_of}
use Rattle.admin_command.proofs.carrying.say_line.Goals as goal

pub returns-in_err-said-clause-cut : goal.returns-in_err-said-clause-cut
returns-in_err-said-clause-cut g c =
    on_err_of c.from_residual.result _ (cut_before c.args.book.now.base c.args.number c.args.book.now.history c.do_line.new.book.history c.args.line.now _ c.in_err-said.ensures.cut)
