-- The one row of a key, in a table over which a row was written.
use Rattle.std.proofs.Common.{◌≡◌, inl, inr, ℕ, ℤ, Bool, true, false, not, ◌&&◌, List, [], ◌∷◌, IsTrue, Some, refl, sym, ap, subst, ◌∙◌, true≢false}
use Rattle.std.specs.List.{AllByRecursion}
use Rattle.std.proofs.lemmas.Bool.{cases_Bool, and_from}
use Rattle.sqlite_value.specs.declared.value.Value.{Value}
use Rattle.sqlite_value.specs.declared.value.Value.TheVariants.{Int}
use Rattle.sqlite_value.specs.Keys.{plain}
use Rattle.sqlite_value.specs.Order.{Row}
use Rattle.sqlite_trees.specs.declared.store.Shape.TheVariants as shape
use Rattle.sqlite_trees.specs.Tree.{Trees, rowid, IsTable, put_row, without_rowid}
use Rattle.sqlite_trees.specs.View.{is_int, IsShaped}
use Rattle.sqlite_trees.proofs.TreeLemmas.{IsTable-put_row, IsShaped-filter}
use Rattle.sqlite_schema.specs.declared.schema.Keys.{Keys}
use Rattle.sqlite_schema.specs.declared.schema.Table.{Table}
use Rattle.sqlite_schema.specs.declared.schema.Index.{Index}
use Rattle.sqlite_schema.specs.declared.schema.Schema.{Schema}
use Rattle.sqlite_schema.specs.declared.schema.Constraint.TheVariants.{Unique}
use Rattle.sqlite_schema.specs.Rules.{agree, clashes, differ, guards, passes}
use Rattle.sqlite_rules.specs.declared.error.Rowids.TheVariants.{Given}
use Rattle.sqlite_rules.specs.Lists.{Has}
use Rattle.sqlite_rules.specs.Cast.{cast_all, cast_row}
use Rattle.sqlite_rules.specs.Calls.{ids_of}
use Rattle.sqlite_rules.specs.Edit.{edit_of, Applies}
use Rattle.sqlite_rules.specs.Keys.{conflicts}
use Rattle.sqlite_rules.proofs.KeyLemmas.{agree_back, agree_chain}
use Rattle.sqlite_rules.proofs.ListLemmas.{all_has, test_has, some_from}
use Rattle.sqlite_rules.proofs.TableLemmas.{has_put, put_has, without_all_has}
use Rattle.kept_rows.proofs.Values.{cast_int, undiffer}

-- the row is the one that passes the test, in a table whose rowids rise
pub record IsOnly (test : Row → Bool) (rows : List Row) (row : Row) : Type 0 where
  pub table : IsTable rows
  pub has : Has rows row
  pub passes : test row ≡ true
  pub alone : (x : Row) → Has rows x → test x ≡ true → rowid x ≡ rowid row

put_only : (test : Row → Bool) (row : Row) (rows : List Row) → IsTable rows → test row ≡ true → ((x : Row) → Has rows x → test x ≡ true → rowid x ≡ rowid row) → IsOnly test (put_row row rows) row
put_only test row rows table passes alone = record {
  table = IsTable-put_row row rows table;
  has = has_put row rows;
  passes = passes;
  alone = λ x there good. elim (put_has row rows x there) [ inl same ↦ ap rowid same | inr was ↦ alone x was good ];
}

-- two rows that have one key under a unique index have one rowid
pub unique_key : (schema : Schema) (db : Trees) (t : Table) (i : Index) (x r : Row) → Has schema.indexes i → guards i t ≡ true → passes Unique schema db t r ≡ true → Has (db t.tree) x
    → agree i.order i.columns x i.columns r ≡ true → differ (rowid x) (rowid r) ≡ false
unique_key schema db t i x r there guarded keeps has same = elim (cases_Bool (differ (rowid x) (rowid r))) [
  | inl apart ↦
      let clash : clashes i.order i.columns (db t.tree) r ≡ true = some_from (λ other. agree i.order i.columns other i.columns r && differ (rowid other) (rowid r)) (db t.tree) x has (and_from _ _ same apart) in
      let passed = test_has (λ (j : Index). not (guards j t && clashes j.order j.columns (db t.tree) r)) schema.indexes i keeps there in
      absurd (true≢false (sym passed ∙ ap not (and_from _ _ guarded clash)))
  | inr tied ↦ tied
]

module _ (schema : Schema) (keys : Keys) (t : Table) (db next : Trees) (key : List ℕ) (cells : Row) (k : ℤ) (shaped : IsShaped shape.Table (db t.tree)) (steady : cast_all t.columns cells ≡ cells) where
  -- the row has the key of the row that is written
  abbrev pub test : Row → Bool
  test x = agree plain key x key (Int k ∷ cells)

  module _ (says : (x : Row) → conflicts (Some key) schema.indexes t (Int k ∷ cells) x ≡ test x) (alone : (x r : Row) → Has (db t.tree) x → Has (db t.tree) r → test x ≡ true → test r ≡ true → rowid x ≡ rowid r) where
    cast_same : (m : ℤ) → cast_row t (Int m ∷ cells) ≡ Int m ∷ cells
    cast_same m = rw (cast_int m, steady)

    pub put_in : test (Int k ∷ cells) ≡ true → ((x : Row) → Has (db t.tree) x → conflicts (Some key) schema.indexes t (Int k ∷ cells) x ≡ false)
        → Applies schema keys db (edit_of db t [] Given 0 ((Int k ∷ cells) ∷ [])) next → IsOnly test (next t.tree) (Int k ∷ cells)
    put_in passed free done =
        let rows : next t.tree ≡ put_row (Int k ∷ cells) (db t.tree) = done.rows ∙ ap (λ row. put_row row (db t.tree)) (cast_same k) in
        subst (λ l. IsOnly test l (Int k ∷ cells)) (sym rows)
        (put_only test (Int k ∷ cells) (db t.tree) shaped.0 passed (λ x there good. absurd (true≢false (sym good ∙ sym (says x) ∙ free x there))))

    pub put_over : (m : ℤ) (r : Row) → Has (db t.tree) r → rowid r ≡ Int m → conflicts (Some key) schema.indexes t (Int k ∷ cells) r ≡ true → test (Int m ∷ cells) ≡ true
        → (rows : List Row) → rows ≡ (Int m ∷ Int m ∷ cells) ∷ [] → Applies schema keys db (edit_of db t (ids_of rows) Given 1 rows) next → IsOnly test (next t.tree) (Int m ∷ cells)
    put_over m r there keyed conflict passed rows are done =
        let left = without_rowid m (db t.tree) in
        let one = subst (λ l. Applies schema keys db (edit_of db t (ids_of l) Given 1 l) next) are done in
        let now : next t.tree ≡ put_row (Int m ∷ cells) left = one.rows ∙ ap (λ row. put_row row left) (cast_same m) in
        subst (λ l. IsOnly test l (Int m ∷ cells)) (sym now)
        (put_only test (Int m ∷ cells) left (IsShaped-filter shape.Table _ (db t.tree) shaped).0 passed
        (λ x here good. alone x r (without_all_has (m ∷ []) (db t.tree) x here) there good (sym (says r) ∙ conflict) ∙ keyed))

-- so it is of a table whose key is that of a unique index
module _ (schema : Schema) (t : Table) (db : Trees) (i : Index) (new : Row) (ints : AllByRecursion (λ r. IsTrue (is_int (rowid r))) (db t.tree)) where
  int_of : (v : Value) → IsTrue (is_int v) → (n : ℤ) × (v ≡ Int n)
  int_of (Int n) h = (n, refl)
  int_of _ h = absurd (true≢false (sym h))

  pub rowid_of : (r : Row) → Has (db t.tree) r → (n : ℤ) × (rowid r ≡ Int n)
  rowid_of r there = int_of (rowid r) (all_has _ (db t.tree) r ints there)

  pub alone_by : Has schema.indexes i → guards i t ≡ true → AllByRecursion (λ r. passes Unique schema db t r ≡ true) (db t.tree) → (x r : Row) → Has (db t.tree) x → Has (db t.tree) r
      → agree i.order i.columns x i.columns new ≡ true → agree i.order i.columns r i.columns new ≡ true → rowid x ≡ rowid r
  alone_by there guarded keeps x r has had same also =
      let both = agree_chain i.order i.columns i.columns i.columns x new r same (agree_back i.order i.columns i.columns r new also) in
      let tied = unique_key schema db t i x r there guarded (all_has _ (db t.tree) r keeps had) has both in
      let a = rowid_of x has in
      let b = rowid_of r had in
      let even : differ (Int a.0) (Int b.0) ≡ false = sym (ap (λ v. differ v (rowid r)) a.1 ∙ ap (differ (Int a.0)) b.1) ∙ tied in
      a.1 ∙ ap Int (undiffer a.0 b.0 even) ∙ sym b.1
