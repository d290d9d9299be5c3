-- Rows of a key whose plans share a stage.
use Rattle.std.proofs.Common.{◌≡◌, ℕ, ◌+◌, ◌<◌, ◌≤◌, Bool, true, false, ◌&&◌, ◌||◌, List, [], ◌∷◌, length, take, get_or, reverse, Option, None, refl, sym, ap, ◌∙◌}
use Rattle.std.specs.Str.{bytes_eq}
use Rattle.std.proofs.lemmas.List.{take_all}
use Rattle.std.proofs.lemmas.List.Folds.{list_any_more, list_any_at}
use Rattle.call_facts.specs.Pairs.{Pairs}
use Rattle.keeper_core.specs.Lists.{Lists, plan_row}
use Rattle.keeper_core.specs.declared.rows.JoinRow.{JoinRow}
use Rattle.keeper_core.specs.declared.rows.PlanRow.{PlanRow}
use Rattle.book_rules.specs.Good.{stages_by, joined_already}
use Rattle.book_rules.specs.PlanStages.{share_a_stage}
use Rattle.book_opening.proofs.Values.{list_any-reverse}

-- with no stages none is shared
shares_none : (stages : Pairs) → false ≡ share_a_stage stages []
shares_none [] = refl
shares_none (stage ∷ stages) = shares_none stages

-- another row is of the same key, and its plan shares a stage
abbrev pub clash : Lists → JoinRow → JoinRow → Bool
clash lists row other = bytes_eq other.key row.key && share_a_stage (stages_by (plan_row lists row.plan)) (stages_by (plan_row lists other.plan))

-- one row more that does not clash
pub joined_more : (lists : Lists) (row : JoinRow) (rows : List JoinRow) (n : ℕ) (other : JoinRow) → n < length rows → other ≡ get_or rows n other → clash lists row other ≡ false
    → joined_already lists (take n rows) row ≡ false → joined_already lists (take (n + 1) rows) row ≡ false
joined_more lists row rows n other inside is none so_far =
    list_any_more (clash lists row) rows n other inside ∙ ap (λ b. b || clash lists row (get_or rows n other)) so_far ∙ ap (clash lists row) (sym is) ∙ none

-- one that does
pub joined_at : (lists : Lists) (row : JoinRow) (rows : List JoinRow) (n : ℕ) (other : JoinRow) → n < length rows → other ≡ get_or rows n other → clash lists row other ≡ true
    → true ≡ joined_already lists (reverse rows) row
joined_at lists row rows n other inside is clashes =
    sym (list_any-reverse (clash lists row) rows ∙ list_any_at (clash lists row) rows n other inside (ap (clash lists row) (sym is) ∙ clashes))

-- all that do not
pub joined_none : (lists : Lists) (row : JoinRow) (rows : List JoinRow) (n : ℕ) → length rows ≤ n → joined_already lists (take n rows) row ≡ false
    → false ≡ joined_already lists (reverse rows) row
joined_none lists row rows n past none =
    sym (list_any-reverse (clash lists row) rows ∙ ap (λ r. joined_already lists r row) (sym (take_all n rows past)) ∙ none)

and_false : (b : Bool) → false ≡ (b && false)
and_false true = refl
and_false false = refl

-- a plan that does not stand shares none
pub no_clash : (same : Bool) (stages : Pairs) (plan : Option PlanRow) → None ≡ plan → false ≡ (same && share_a_stage stages (stages_by plan))
no_clash same stages plan none = and_false same ∙ ap (λ b. same && b) (shares_none stages) ∙ ap (λ p. same && share_a_stage stages (stages_by p)) none
