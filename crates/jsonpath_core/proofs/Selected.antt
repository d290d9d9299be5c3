-- What steps select, one after another.
use Rattle.std.proofs.Common.{◌≡◌, ℕ, ◌+◌, ◌<◌, Bool, true, false, ◌||◌, List, [], ◌∷◌, ◌++◌, length, map, drop, get_or, refl, ap, ◌∙◌}
use Rattle.std.proofs.lemmas.List.{drop_more}
use Rattle.std.proofs.lemmas.List.Folds.{list_any_at}
use Rattle.std.specs.List.{list_any}
use Rattle.json_subset.specs.Tree.{Tree}
use Rattle.jsonpath_core.specs.declared.step.Step.{Step as CodeStep}
use Rattle.jsonpath_core.specs.Steps.{Step, is_star, starred}
use Rattle.jsonpath_core.specs.Selecting.{selected, select_from}
use Rattle.jsonpath_core.specs.Views.{step_view, steps_view}

pub list_any-map : {A B : Type 0} (p : B → Bool) (f : A → B) (xs : List A) → list_any p (map f xs) ≡ list_any (λ x. p (f x)) xs
list_any-map p f [] = refl
list_any-map p f (x ∷ xs) = ap (λ b. p (f x) || b) (list_any-map p f xs)

-- nothing is selected of nothing
pub select_nothing : (steps : List Step) → select_from steps [] ≡ []
select_nothing [] = refl
select_nothing (s ∷ steps) = select_nothing steps

-- no step of a path without a star is a star
pub starless_at : (steps : List CodeStep) (i : ℕ) (d : CodeStep) → starred (steps_view steps) ≡ false → i < length steps → is_star (step_view (get_or steps i d)) ≡ false
starless_at steps i d none less = by_test (is_star (step_view (get_or steps i d))) refl
  where
    by_test : (t : Bool) → is_star (step_view (get_or steps i d)) ≡ t → is_star (step_view (get_or steps i d)) ≡ false
    by_test false h = h
    by_test true h =
        let some = list_any_at (λ s. is_star (step_view s)) steps i d less h in
        let same = list_any-map is_star step_view steps in absurd (cc)

-- one step selects nothing, and so does the whole
pub selects_none : (steps : List CodeStep) (i : ℕ) (d : CodeStep) (t : Tree) → i < length steps → selected (step_view (get_or steps i d)) t ≡ [] → select_from (steps_view (drop i steps)) (t ∷ []) ≡ []
selects_none steps i d t less none =
    ap (λ ss. select_from (steps_view ss) (t ∷ [])) (drop_more steps i d less)
    ∙ ap (λ ts. select_from (steps_view (drop (i + 1) steps)) (ts ++ [])) none
    ∙ select_nothing (steps_view (drop (i + 1) steps))
