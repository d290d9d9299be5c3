use Rattle.std.proofs.Common.{refl, ap, ◌∙◌, is_some}
use Rattle.regex.specs.Patterns.{find_str}
use Rattle.pattern_core.proofs.SearchLemmas.{search_found}
use Rattle.pattern_core.proofs.pattern.Pattern.searcher.Goals as goal

pub invariant_of-result : goal.invariant_of-result
invariant_of-result c =
    let inv = c.self.invariant in
    let read = rw (c.self.view_is, inv.0) at inv.1 in
    λ text small. ap (λ re. is_some (find_str re text 0)) c.in-Ok.ensures.pattern ∙ search_found c.args.self.now _ _ text small read _ refl
