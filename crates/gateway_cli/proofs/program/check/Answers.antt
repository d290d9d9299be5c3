use Rattle.std.proofs.Common.{[]}
use Rattle.gateway_cli.proofs.Inputs.{of_any, on_err_of}
use Rattle.play_script.proofs.Playing.{nothing}
use Rattle.gateway_cli.proofs.program.check.Goals as goal

pub returns-in_err-document-clause-front : goal.returns-in_err-document-clause-front
returns-in_err-document-clause-front g c = on_err_of c.from_residual.result _ (of_any [] (g.O.Outside.files c.args.outside.now) _ (λ files. nothing _ _))

pub returns-in_err-shown-clause-front : goal.returns-in_err-shown-clause-front
returns-in_err-shown-clause-front g c = on_err_of c.from_residual-in_err-shown.result _ (of_any [] (g.O.Outside.files c.args.outside.now) _ (λ files. nothing _ _))
