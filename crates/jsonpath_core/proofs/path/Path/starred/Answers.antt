use Rattle.std.proofs.Common.{ap, ◌∙◌, sym}
use Rattle.std.specs.List.{list_any}
use Rattle.jsonpath_core.specs.Steps.{starred, is_star}
use Rattle.jsonpath_core.specs.Views.{step_view}
use Rattle.jsonpath_core.proofs.Selected.{list_any-map}
use Rattle.jsonpath_core.proofs.path.Path.starred.Goals as goal

pub returns : goal.returns
returns c =
    c.starred.ensures
    ∙ ap (list_any (λ step. is_star (step_view step))) c.deref.ensures.value
    ∙ sym (list_any-map is_star step_view c.self.inside.steps.items)
    ∙ ap starred c.self.view_is
