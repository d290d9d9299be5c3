use Rattle.std.proofs.Common.{ap, sym, ◌∙◌}
use Rattle.matchit.specs.Seek.{first}
use Rattle.admin_paths.proofs.Search.{finds, form_found}
use Rattle.admin_paths.proofs.find.AdminPaths.form.Goals as goal

pub returns-in-Ok : goal.returns-in-Ok
returns-in-Ok c =
    sym (ap form_found c.in-Ok.ensures.found) ∙ (ap (λ router. form_found (first router c.args.path.now)) c.self.invariant ∙ finds c.args.path.now c.utf8.path)

pub returns-in-Err : goal.returns-in-Err
returns-in-Err c =
    sym (ap form_found c.in-Err.ensures.missing) ∙ (ap (λ router. form_found (first router c.args.path.now)) c.self.invariant ∙ finds c.args.path.now c.utf8.path)
