use Rattle.std.proofs.Common.{◌==◌, List, ℕ, map, ap, sym, ◌∙◌}
use Rattle.std.specs.Borrow.{Bor}
use Rattle.std.specs.List.{slice_split}
use Rattle.std.specs.Option.{option_and_then}
use Rattle.std.proofs.lemmas.Result.{IfOk-weaker}
use Rattle.admin_paths.specs.Paths.{read_by}
use Rattle.admin_paths.proofs.Search.{read_back}
use Rattle.admin_paths.proofs.find.AdminPaths.find.Goals as goal

pub returns : goal.returns
returns c =
    let segments = slice_split (λ b. b == 47) c.args.path.now in
    IfOk-weaker c.read_by.result _ _ (λ found h. h ∙ (ap (read_by c.in-Some.form) (ap (map (λ (part : Bor (List ℕ)). part.now)) c.deref.ensures.value ∙ c.in_ok-segments.ensures)
    ∙ (ap (option_and_then (λ form. read_by form segments)) (sym c.in-Some.is ∙ c.form.ensures) ∙ read_back segments))) c.read_by.ensures
