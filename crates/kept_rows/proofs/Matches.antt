-- The one row of a table that passes a test, and the answer of a query that asks for it.
use Rattle.std.proofs.Common.{◌≡◌, inl, inr, ℕ, pos, negsuc, List, [], ◌∷◌, map, Bool, true, false, cond, None, unwrap_or, refl, sym, ap, subst, ◌∙◌, Less, Equal, Greater}
use Rattle.std.specs.List.{AllByRecursion, list_all, flat_map}
use Rattle.std.specs.List.Sorted.{IsPermutation}
use Rattle.std.proofs.lemmas.Bool.{cases_Bool}
use Rattle.std.specs.Ordering.{match_ordering}
use Rattle.sqlite_value.specs.declared.value.Value.TheVariants.{Null, Int}
use Rattle.sqlite_value.specs.Order.{Row, value_cmp}
use Rattle.sqlite_trees.specs.Tree.{Trees, rowid, IsTable, put_row}
use Rattle.sqlite_sql.specs.Term.{Term, lit, eval_all, holds}
use Rattle.sqlite_sql.specs.Query.{Query, inner, end, Output, output, page, IsAnswerAs}
use Rattle.sqlite_sql.specs.Program.{overlay}
use Rattle.sqlite_schema.specs.declared.schema.Schema.{Schema}
use Rattle.sqlite_rules.specs.Lists.{Has}
use Rattle.sqlite_rules.proofs.ListLemmas.{all_has}
use Rattle.sqlite.specs.Effect.{Answers}
use Rattle.sqlite.proofs.Callers.{one_permutation}
use Rattle.kept_rows.proofs.Values.{self}

-- a query over one table, with no order and no limit
abbrev pub query : ℕ → List Term → List Term → Query
query tree filter project = record {
  from = inner tree end;
  filter = filter;
  group = None;
  project = project;
  distinct = false;
  collations = [];
  order = [];
  limit = lit (Int (negsuc 0));
  offset = lit (Int (pos 0));
}

module _ {B : Type 0} (test : Row → Bool) (show : Row → B) where
  abbrev pub kept : Row → List B
  kept r = cond (test r) (show r ∷ []) []

  none : (x : Row) (rows : List Row) → AllByRecursion (λ y. value_cmp (rowid x) (rowid y) ≡ Less) rows → ((y : Row) → Has rows y → test y ≡ true → rowid y ≡ rowid x) → flat_map kept rows ≡ []
  none x [] below same = refl
  none x (y ∷ rows) below same = elim (cases_Bool (test y)) [
    | inl passes ↦ absurd (let e = sym below.0 ∙ ap (value_cmp (rowid x)) (same y (inl refl) passes) ∙ self (rowid x) in cc)
    | inr fails ↦ rw fails (none x rows below.1 (λ z h. same z (inr h)))
  ]

  pub only : (rows : List Row) (r : Row) → IsTable rows → Has rows r → test r ≡ true → ((x : Row) → Has rows x → test x ≡ true → rowid x ≡ rowid r) → flat_map kept rows ≡ show r ∷ []
  only [] r table h passes same = absurd h
  only (x ∷ rows) r table (inl is) passes same =
      rw (← is, passes) (ap (λ more. show r ∷ more) (none r rows (subst (λ z. AllByRecursion (λ y. value_cmp (rowid z) (rowid y) ≡ Less) rows) (sym is) table.0) (λ y h. same y (inr h))))
  only (x ∷ rows) r table (inr later) passes same = elim (cases_Bool (test x)) [
    | inl also ↦ absurd (let e = sym (all_has _ rows r table.0 later) ∙ ap (λ v. value_cmp v (rowid r)) (same x (inl refl) also) ∙ self (rowid r) in cc)
    | inr fails ↦ rw fails (only rows r table.1 later passes (λ z h. same z (inr h)))
  ]

pub has_put : (new : Row) (rows : List Row) → Has (put_row new rows) new
has_put new [] = inl refl
has_put new (r ∷ rows) =
    elim (value_cmp (rowid r) (rowid new)) as (λ o. Has (match_ordering o (r ∷ put_row new rows) (new ∷ rows) (new ∷ r ∷ rows)) new)
    [ Less ↦ inr (has_put new rows) | Equal ↦ inl refl | Greater ↦ inl refl ]

either : (b : Bool) (rows : List Row) → unwrap_or (cond b None None) rows ≡ rows
either true rows = refl
either false rows = refl

bare : (db : Trees) (t : ℕ) → overlay db [] t ≡ db t
bare db t = either _ (db t)

-- a query that only this row of the table passes answers what it shows of the row
pub answered : (schema : Schema) (db : Trees) (tree : ℕ) (filter project : List Term) (params : Row) (r : Row) → IsTable (db tree) → Has (db tree) r → list_all (holds (params ∷ r ∷ [])) filter ≡ true
    → ((x : Row) → Has (db tree) x → list_all (holds (params ∷ x ∷ [])) filter ≡ true → rowid x ≡ rowid r)
    → (rows : List Row) → Answers (record { schema = schema; trees = db }) (record { lets = []; body = query tree filter project }) params rows → rows ≡ eval_all project (params ∷ r ∷ []) ∷ []
answered schema db tree filter project params r table has passes same rows h =
    let a : IsAnswerAs Null (query tree filter project) (overlay db []) params rows = h.answer Null in
    let staged : a.staged ≡ (params ∷ r ∷ []) ∷ [] = a.grouped ∙ ap (flat_map (kept (λ x. list_all (holds (params ∷ x ∷ [])) filter) (λ x. params ∷ x ∷ []))) (bare db tree) ∙ only _ (λ x. params ∷ x ∷ []) (db tree) r table has passes same in
    let o : Output = ([], eval_all project (params ∷ r ∷ [])) in
    let kept_are : a.kept ≡ o ∷ [] = a.distinct ∙ ap (map (output (query tree filter project))) staged in
    let ordered = one_permutation o a.ordered (subst (λ k. IsPermutation k a.ordered) kept_are a.same) in
    a.shown ∙ ap (λ xs. page (query tree filter project) params (map (λ (p : Output). p.1) xs)) ordered
