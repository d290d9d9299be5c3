-- Of each table, a row that is written is read back.
use Rattle.std.proofs.Common.{◌≡◌, inl, inr, ℕ, ℤ, pos, Bool, true, false, ◌||◌, List, [], ◌∷◌, codes, Ok, Equal, arith, refl, sym, ap, subst, ◌∙◌, true≢false}
use Rattle.std.specs.List.{AllByRecursion}
use Rattle.std.specs.Prelude.{drop}
use Rattle.std.proofs.lemmas.Bool.{and_parts, and_from}
use Rattle.sqlite_value.specs.declared.value.Value.{Value}
use Rattle.sqlite_value.specs.declared.value.Value.TheVariants.{Null, Int, Real, Text, Blob}
use Rattle.sqlite_value.specs.declared.keys.Collation.TheVariants.{Binary}
use Rattle.sqlite_value.specs.Keys.{plain as in_order, first_key}
use Rattle.sqlite_value.specs.Order.{Row as Values, column, value_cmp}
use Rattle.sqlite_value.proofs.OrderLemmas.{value_cmp-apart}
use Rattle.sqlite_trees.specs.declared.store.Shape.TheVariants as shape
use Rattle.sqlite_trees.specs.Tree.{rowid}
use Rattle.sqlite_trees.specs.View.{IsShaped}
use Rattle.sqlite_schema.specs.declared.schema.Table.{Table as TableDef}
use Rattle.sqlite_schema.specs.declared.schema.Constraint.{Constraint}
use Rattle.sqlite_schema.specs.declared.schema.Constraint.TheVariants.{Unique, Datatype}
use Rattle.sqlite_schema.specs.Rules.{agree, are_typed, equal, passes, suits, Keeps}
use Rattle.sqlite_rules.specs.declared.error.Rowids.TheVariants.{Chosen}
use Rattle.sqlite_rules.specs.Lists.{Has}
use Rattle.sqlite_rules.specs.Cast.{cast_all, cast_row}
use Rattle.sqlite_rules.specs.Edit.{next_rowid, with_rowid}
use Rattle.sqlite_rules.proofs.ListLemmas.{all_has}
use Rattle.sqlite_typed.proofs.TestLemmas.{then_value}
use Rattle.sqlite.specs.Effect.{IsDatabase}
use Rattle.sqlite.specs.State.{State, Executes, Shown}
use Rattle.keeper_core.specs.Lists.{table_of}
use Rattle.keeper_core.specs.declared.rows.MetaRow.{MetaRow}
use Rattle.keeper_core.specs.declared.rows.ApiRow.{ApiRow}
use Rattle.keeper_core.specs.declared.rows.DeploymentRow.{DeploymentRow}
use Rattle.keeper_core.specs.declared.rows.StageRow.{StageRow}
use Rattle.keeper_core.specs.declared.rows.KeyRow.{KeyRow}
use Rattle.keeper_core.specs.declared.rows.PlanRow.{PlanRow}
use Rattle.keeper_core.specs.declared.rows.JoinRow.{JoinRow}
use Rattle.keeper_core.specs.declared.rows.Row.{Row}
use Rattle.keeper_core.specs.declared.rows.Row.TheVariants.{Meta, Api, Deployment, Stage, Key, Plan, Join}
use Rattle.keeper_core.specs.declared.table.Table.TheVariants.{Apis, Deployments, Stages, Keys, Plans, Joins}
use Rattle.keeper_core.specs.declared.table.Table.TheVariants.{Meta as Metas}
use Rattle.keeper_sqlite.specs.Columns.{columns, key_values, number}
use Rattle.keeper_sqlite.specs.Texts.{upsert_text, find_text}
use Rattle.kept_rows.specs.Store.{store_schema, table_in, index}
use Rattle.kept_rows.proofs.Kept.{read_back}
use Rattle.kept_rows.proofs.Places.{alone_by, rowid_of}
use Rattle.kept_rows.proofs.Values.{cast_int, cast_null, equal_is, equal_self, int_same, text_is}

-- the file is a store: its schema is the store's, its trees obey it, and the rows of each table stand in the order of their rowids
pub record IsStore (s : State) : Type 0 where
  pub schema : s.now.schema ≡ store_schema
  pub sound : IsDatabase s.now
  pub ordered : AllByRecursion (λ t. IsShaped shape.Table (s.now.trees t.tree)) store_schema.tables

or_false : (b : Bool) → (b || false) ≡ b
or_false true = refl
or_false false = refl

-- each row of a table keeps a rule that the database keeps
kept_in : (old : State) → IsStore old → (rule : Constraint) (t : TableDef) → Has store_schema.tables t → AllByRecursion (λ r. passes rule store_schema old.now.trees t r ≡ true) (old.now.trees t.tree)
kept_in old it rule t there =
    all_has (λ u. AllByRecursion (λ r. passes rule store_schema old.now.trees u r ≡ true) (old.now.trees u.tree)) store_schema.tables t (subst (λ s. Keeps rule s old.now.trees) it.schema (it.sound.obeys.rules rule)) there

shaped_in : (old : State) → IsStore old → (t : TableDef) → Has store_schema.tables t → IsShaped shape.Table (old.now.trees t.tree)
shaped_in old it t there = all_has (λ u. IsShaped shape.Table (old.now.trees u.tree)) store_schema.tables t it.ordered there

-- a value that equals a number is the number, in a column of integers
integer_is : (v : Value) (n : ℤ) (c : _) → c ≡ Rattle.kept_rows.specs.Store.column Rattle.sqlite_schema.specs.declared.schema.Kind.TheVariants.Integer (codes "number") → suits c v ≡ true → value_cmp v (Int n) ≡ Equal → v ≡ Int n
integer_is Null n c is typed same = absurd (let e = sym (value_cmp-apart Null (Int n) (λ s. omega (arith, s))) ∙ same in cc)
integer_is (Int m) n c is typed same = ap Int (int_same m n same)
integer_is (Real x) n c is typed same = absurd (let e = subst (λ c. suits c (Real x) ≡ true) is typed in true≢false (sym e))
integer_is (Text x) n c is typed same = absurd (let e = subst (λ c. suits c (Text x) ≡ true) is typed in true≢false (sym e))
integer_is (Blob x) n c is typed same = absurd (let e = subst (λ c. suits c (Blob x) ≡ true) is typed in true≢false (sym e))

meta_back : (a : MetaRow) (old mid new : State) (count : ℕ) (found : List Values) → IsStore old → Executes (upsert_text Metas) (columns (Meta a)) old mid (Ok count) → Shown (find_text Metas) (key_values (Meta a)) mid new found → found ≡ columns (Meta a) ∷ []
unfolding store_schema table_in first_key
meta_back a old mid new count found it ran seen =
    let t = table_in Metas in
    let db = old.now.trees in
    let cells = Null ∷ number a.version ∷ [] in
    let there : Has store_schema.tables t = inl refl in
    let shaped = shaped_in old it t there in
    let steady : cast_all t.columns cells ≡ cells = then_value (cast_null) (then_value (cast_int (pos a.version)) (refl)) in
    let k = pos a.id in
    let row = Int k ∷ cells in
    let rowids = rowid_of store_schema t db (index (codes "") 0 0 []) row shaped.1 in
    let new_is : with_rowid Chosen (db 0) (cast_row t (number a.id ∷ Null ∷ number a.version ∷ [])) ≡ row = ap (with_rowid Chosen (db 0)) (then_value (cast_int k) steady) in
    let itself = equal_self (number a.id) refl in
    let rowid_is : (x : Values) → Has (db 0) x → agree in_order (0 ∷ []) x (0 ∷ []) row ≡ true → rowid x ≡ Int k =
    λ x has same. let b = rowids x has in b.1 ∙ ap Int (int_same b.0 k (sym (ap (λ v. value_cmp v (Int k)) b.1) ∙ equal_is (rowid x) (Int k) (and_parts _ _ same).0)) in
    read_back Metas (number a.id ∷ number a.version ∷ []) (number a.id ∷ []) (number a.id ∷ Null ∷ number a.version ∷ []) cells (number a.id ∷ number a.version ∷ []) old refl refl refl (λ keys olds news. refl) shaped steady k new_is
    (record { self = and_from _ _ itself refl; finds = λ x. refl; shows = refl })
    (λ x. or_false (agree in_order (0 ∷ []) x (0 ∷ []) row)) (λ x r has had same also. rowid_is x has same ∙ sym (rowid_is r had also)) rowids (λ r x. refl)
    (λ m r has keyed same.
    let is : Int m ≡ Int k = sym keyed ∙ rowid_is r has same in
    record {
      row = then_value keyed (then_value keyed refl);
      passes = and_from _ _ (ap (λ v. equal Binary v (Int k)) is ∙ itself) refl;
      shows = then_value is refl;
    })
    mid new count found it.schema ran seen

apis_back : (a : ApiRow) (old mid new : State) (count : ℕ) (found : List Values) → IsStore old → Executes (upsert_text Apis) (columns (Api a)) old mid (Ok count) → Shown (find_text Apis) (key_values (Api a)) mid new found → found ≡ columns (Api a) ∷ []
unfolding store_schema table_in first_key
apis_back a old mid new count found it ran seen =
    let t = table_in Apis in
    let db = old.now.trees in
    let cells = Text a.api ∷ number a.text ∷ Text a.source ∷ [] in
    let there : Has store_schema.tables t = inr (inl refl) in
    let shaped = shaped_in old it t there in
    let steady : cast_all t.columns cells ≡ cells = then_value (refl) (then_value (cast_int (pos a.text)) (then_value (refl) (refl))) in
    let k = next_rowid (db 1) in
    let row = Int k ∷ cells in
    let unique = index (codes "sqlite_autoindex_apis_1") 2 1 (1 ∷ []) in
    let new_is : with_rowid Chosen (db 1) (cast_row t (Null ∷ Text a.api ∷ number a.text ∷ Text a.source ∷ [])) ≡ row = ap (with_rowid Chosen (db 1)) (then_value cast_null steady) in
    let itself = and_from _ _ (equal_self (Text a.api) refl) (refl) in
    read_back Apis cells (Text a.api ∷ []) (Null ∷ Text a.api ∷ number a.text ∷ Text a.source ∷ []) cells cells old refl refl refl (λ keys olds news. refl) shaped steady k new_is
    (record { self = itself; finds = λ x. refl; shows = refl })
    (λ x. or_false (agree in_order (1 ∷ []) x (1 ∷ []) row)) (alone_by store_schema t db unique row shaped.1 (inl refl) refl (kept_in old it Unique t there))
    (rowid_of store_schema t db unique row shaped.1) (λ r x. refl)
    (λ m r has keyed same.
    let api_is = text_is (column r 1) a.api (equal_is (column r 1) (Text a.api) (and_parts _ _ same).0) in
    record { row = then_value keyed (then_value keyed (then_value api_is (refl))); passes = itself; shows = refl })
    mid new count found it.schema ran seen

number_kept : (r : Values) (n : ℤ) → are_typed (table_in Deployments).key 0 (table_in Deployments).columns (drop 1 r) ≡ true → value_cmp (column r 2) (Int n) ≡ Equal → column r 2 ≡ Int n
unfolding table_in
number_kept [] n typed same = absurd (let e = sym (value_cmp-apart Null (Int n) (λ s. omega (arith, s))) ∙ same in cc)
number_kept (u ∷ []) n typed same = absurd (let e = sym (value_cmp-apart Null (Int n) (λ s. omega (arith, s))) ∙ same in cc)
number_kept (u ∷ v ∷ []) n typed same = absurd (let e = sym (value_cmp-apart Null (Int n) (λ s. omega (arith, s))) ∙ same in cc)
number_kept (u ∷ v ∷ x ∷ more) n typed same = integer_is x n _ refl (and_parts _ _ (and_parts _ _ typed).1).0 same

deployments_back : (a : DeploymentRow) (old mid new : State) (count : ℕ) (found : List Values) → IsStore old → Executes (upsert_text Deployments) (columns (Deployment a)) old mid (Ok count) → Shown (find_text Deployments) (key_values (Deployment a)) mid new found → found ≡ columns (Deployment a) ∷ []
unfolding store_schema table_in first_key
deployments_back a old mid new count found it ran seen =
    let t = table_in Deployments in
    let db = old.now.trees in
    let cells = Text a.api ∷ number a.number ∷ number a.text ∷ Text a.source ∷ [] in
    let there : Has store_schema.tables t = inr (inr (inl refl)) in
    let shaped = shaped_in old it t there in
    let steady : cast_all t.columns cells ≡ cells = then_value (refl) (then_value (cast_int (pos a.number)) (then_value (cast_int (pos a.text)) (then_value (refl) (refl)))) in
    let k = next_rowid (db 3) in
    let row = Int k ∷ cells in
    let unique = index (codes "sqlite_autoindex_deployments_1") 4 3 (1 ∷ 2 ∷ []) in
    let typed = kept_in old it Datatype t there in
    let new_is : with_rowid Chosen (db 3) (cast_row t (Null ∷ Text a.api ∷ number a.number ∷ number a.text ∷ Text a.source ∷ [])) ≡ row = ap (with_rowid Chosen (db 3)) (then_value cast_null steady) in
    let itself = and_from _ _ (equal_self (Text a.api) refl) (and_from _ _ (equal_self (number a.number) refl) (refl)) in
    read_back Deployments cells (Text a.api ∷ number a.number ∷ []) (Null ∷ Text a.api ∷ number a.number ∷ number a.text ∷ Text a.source ∷ []) cells cells old refl refl refl (λ keys olds news. refl) shaped steady k new_is
    (record { self = itself; finds = λ x. refl; shows = refl })
    (λ x. or_false (agree in_order (1 ∷ 2 ∷ []) x (1 ∷ 2 ∷ []) row)) (alone_by store_schema t db unique row shaped.1 (inr (inl refl)) refl (kept_in old it Unique t there))
    (rowid_of store_schema t db unique row shaped.1) (λ r x. refl)
    (λ m r has keyed same.
    let api_is = text_is (column r 1) a.api (equal_is (column r 1) (Text a.api) (and_parts _ _ same).0) in
    let number_is = number_kept r (pos a.number) (and_parts _ _ (all_has _ (db 3) r typed has)).0 (equal_is (column r 2) (number a.number) (and_parts _ _ (and_parts _ _ same).1).0) in
    record { row = then_value keyed (then_value keyed (then_value api_is (then_value number_is (refl)))); passes = itself; shows = refl })
    mid new count found it.schema ran seen

stages_back : (a : StageRow) (old mid new : State) (count : ℕ) (found : List Values) → IsStore old → Executes (upsert_text Stages) (columns (Stage a)) old mid (Ok count) → Shown (find_text Stages) (key_values (Stage a)) mid new found → found ≡ columns (Stage a) ∷ []
unfolding store_schema table_in first_key
stages_back a old mid new count found it ran seen =
    let t = table_in Stages in
    let db = old.now.trees in
    let cells = Text a.api ∷ Text a.stage ∷ number a.deployment ∷ Text a.vars ∷ number a.canary ∷ number a.share ∷ Text a.canary_vars ∷ [] in
    let there : Has store_schema.tables t = inr (inr (inr (inl refl))) in
    let shaped = shaped_in old it t there in
    let steady : cast_all t.columns cells ≡ cells = then_value (refl) (then_value (refl) (then_value (cast_int (pos a.deployment)) (then_value (refl) (then_value (cast_int (pos a.canary)) (then_value (cast_int (pos a.share)) (then_value (refl) (refl))))))) in
    let k = next_rowid (db 5) in
    let row = Int k ∷ cells in
    let unique = index (codes "sqlite_autoindex_stages_1") 6 5 (1 ∷ 2 ∷ []) in
    let new_is : with_rowid Chosen (db 5) (cast_row t (Null ∷ Text a.api ∷ Text a.stage ∷ number a.deployment ∷ Text a.vars ∷ number a.canary ∷ number a.share ∷ Text a.canary_vars ∷ [])) ≡ row = ap (with_rowid Chosen (db 5)) (then_value cast_null steady) in
    let itself = and_from _ _ (equal_self (Text a.api) refl) (and_from _ _ (equal_self (Text a.stage) refl) (refl)) in
    read_back Stages cells (Text a.api ∷ Text a.stage ∷ []) (Null ∷ Text a.api ∷ Text a.stage ∷ number a.deployment ∷ Text a.vars ∷ number a.canary ∷ number a.share ∷ Text a.canary_vars ∷ []) cells cells old refl refl refl (λ keys olds news. refl) shaped steady k new_is
    (record { self = itself; finds = λ x. refl; shows = refl })
    (λ x. or_false (agree in_order (1 ∷ 2 ∷ []) x (1 ∷ 2 ∷ []) row)) (alone_by store_schema t db unique row shaped.1 (inr (inr (inl refl))) refl (kept_in old it Unique t there))
    (rowid_of store_schema t db unique row shaped.1) (λ r x. refl)
    (λ m r has keyed same.
    let api_is = text_is (column r 1) a.api (equal_is (column r 1) (Text a.api) (and_parts _ _ same).0) in
    let stage_is = text_is (column r 2) a.stage (equal_is (column r 2) (Text a.stage) (and_parts _ _ (and_parts _ _ same).1).0) in
    record { row = then_value keyed (then_value keyed (then_value api_is (then_value stage_is (refl)))); passes = itself; shows = refl })
    mid new count found it.schema ran seen

keys_back : (a : KeyRow) (old mid new : State) (count : ℕ) (found : List Values) → IsStore old → Executes (upsert_text Keys) (columns (Key a)) old mid (Ok count) → Shown (find_text Keys) (key_values (Key a)) mid new found → found ≡ columns (Key a) ∷ []
unfolding store_schema table_in first_key
keys_back a old mid new count found it ran seen =
    let t = table_in Keys in
    let db = old.now.trees in
    let cells = Text a.key ∷ Text a.value ∷ number a.enabled ∷ [] in
    let there : Has store_schema.tables t = inr (inr (inr (inr (inl refl)))) in
    let shaped = shaped_in old it t there in
    let steady : cast_all t.columns cells ≡ cells = then_value (refl) (then_value (refl) (then_value (cast_int (pos a.enabled)) (refl))) in
    let k = next_rowid (db 7) in
    let row = Int k ∷ cells in
    let unique = index (codes "sqlite_autoindex_keys_1") 8 7 (1 ∷ []) in
    let new_is : with_rowid Chosen (db 7) (cast_row t (Null ∷ Text a.key ∷ Text a.value ∷ number a.enabled ∷ [])) ≡ row = ap (with_rowid Chosen (db 7)) (then_value cast_null steady) in
    let itself = and_from _ _ (equal_self (Text a.key) refl) (refl) in
    read_back Keys cells (Text a.key ∷ []) (Null ∷ Text a.key ∷ Text a.value ∷ number a.enabled ∷ []) cells cells old refl refl refl (λ keys olds news. refl) shaped steady k new_is
    (record { self = itself; finds = λ x. refl; shows = refl })
    (λ x. or_false (agree in_order (1 ∷ []) x (1 ∷ []) row)) (alone_by store_schema t db unique row shaped.1 (inr (inr (inr (inl refl)))) refl (kept_in old it Unique t there))
    (rowid_of store_schema t db unique row shaped.1) (λ r x. refl)
    (λ m r has keyed same.
    let key_is = text_is (column r 1) a.key (equal_is (column r 1) (Text a.key) (and_parts _ _ same).0) in
    record { row = then_value keyed (then_value keyed (then_value key_is (refl))); passes = itself; shows = refl })
    mid new count found it.schema ran seen

plans_back : (a : PlanRow) (old mid new : State) (count : ℕ) (found : List Values) → IsStore old → Executes (upsert_text Plans) (columns (Plan a)) old mid (Ok count) → Shown (find_text Plans) (key_values (Plan a)) mid new found → found ≡ columns (Plan a) ∷ []
unfolding store_schema table_in first_key
plans_back a old mid new count found it ran seen =
    let t = table_in Plans in
    let db = old.now.trees in
    let cells = Text a.plan ∷ number a.rate ∷ number a.burst ∷ number a.tversion ∷ number a.qlimit ∷ number a.qoffset ∷ number a.qkind ∷ Text a.stages ∷ [] in
    let there : Has store_schema.tables t = inr (inr (inr (inr (inr (inl refl))))) in
    let shaped = shaped_in old it t there in
    let steady : cast_all t.columns cells ≡ cells = then_value (refl) (then_value (cast_int (pos a.rate)) (then_value (cast_int (pos a.burst)) (then_value (cast_int (pos a.tversion)) (then_value (cast_int (pos a.qlimit)) (then_value (cast_int (pos a.qoffset)) (then_value (cast_int (pos a.qkind)) (then_value (refl) (refl)))))))) in
    let k = next_rowid (db 10) in
    let row = Int k ∷ cells in
    let unique = index (codes "sqlite_autoindex_plans_1") 11 10 (1 ∷ []) in
    let new_is : with_rowid Chosen (db 10) (cast_row t (Null ∷ Text a.plan ∷ number a.rate ∷ number a.burst ∷ number a.tversion ∷ number a.qlimit ∷ number a.qoffset ∷ number a.qkind ∷ Text a.stages ∷ [])) ≡ row = ap (with_rowid Chosen (db 10)) (then_value cast_null steady) in
    let itself = and_from _ _ (equal_self (Text a.plan) refl) (refl) in
    read_back Plans cells (Text a.plan ∷ []) (Null ∷ Text a.plan ∷ number a.rate ∷ number a.burst ∷ number a.tversion ∷ number a.qlimit ∷ number a.qoffset ∷ number a.qkind ∷ Text a.stages ∷ []) cells cells old refl refl refl (λ keys olds news. refl) shaped steady k new_is
    (record { self = itself; finds = λ x. refl; shows = refl })
    (λ x. or_false (agree in_order (1 ∷ []) x (1 ∷ []) row)) (alone_by store_schema t db unique row shaped.1 (inr (inr (inr (inr (inr (inl refl)))))) refl (kept_in old it Unique t there))
    (rowid_of store_schema t db unique row shaped.1) (λ r x. refl)
    (λ m r has keyed same.
    let plan_is = text_is (column r 1) a.plan (equal_is (column r 1) (Text a.plan) (and_parts _ _ same).0) in
    record { row = then_value keyed (then_value keyed (then_value plan_is (refl))); passes = itself; shows = refl })
    mid new count found it.schema ran seen

joins_back : (a : JoinRow) (old mid new : State) (count : ℕ) (found : List Values) → IsStore old → Executes (upsert_text Joins) (columns (Join a)) old mid (Ok count) → Shown (find_text Joins) (key_values (Join a)) mid new found → found ≡ columns (Join a) ∷ []
unfolding store_schema table_in first_key
joins_back a old mid new count found it ran seen =
    let t = table_in Joins in
    let db = old.now.trees in
    let cells = Text a.plan ∷ Text a.key ∷ number a.level ∷ number a.at ∷ number a.tversion ∷ number a.pkind ∷ number a.pnumber ∷ number a.allowance ∷ number a.used ∷ number a.first ∷ [] in
    let there : Has store_schema.tables t = inr (inr (inr (inr (inr (inr (inl refl)))))) in
    let shaped = shaped_in old it t there in
    let steady : cast_all t.columns cells ≡ cells = then_value (refl) (then_value (refl) (then_value (cast_int (pos a.level)) (then_value (cast_int (pos a.at)) (then_value (cast_int (pos a.tversion)) (then_value (cast_int (pos a.pkind)) (then_value (cast_int (pos a.pnumber)) (then_value (cast_int (pos a.allowance)) (then_value (cast_int (pos a.used)) (then_value (cast_int (pos a.first)) (refl)))))))))) in
    let k = next_rowid (db 12) in
    let row = Int k ∷ cells in
    let unique = index (codes "sqlite_autoindex_joins_1") 13 12 (1 ∷ 2 ∷ []) in
    let new_is : with_rowid Chosen (db 12) (cast_row t (Null ∷ Text a.plan ∷ Text a.key ∷ number a.level ∷ number a.at ∷ number a.tversion ∷ number a.pkind ∷ number a.pnumber ∷ number a.allowance ∷ number a.used ∷ number a.first ∷ [])) ≡ row = ap (with_rowid Chosen (db 12)) (then_value cast_null steady) in
    let itself = and_from _ _ (equal_self (Text a.plan) refl) (and_from _ _ (equal_self (Text a.key) refl) (refl)) in
    read_back Joins cells (Text a.plan ∷ Text a.key ∷ []) (Null ∷ Text a.plan ∷ Text a.key ∷ number a.level ∷ number a.at ∷ number a.tversion ∷ number a.pkind ∷ number a.pnumber ∷ number a.allowance ∷ number a.used ∷ number a.first ∷ []) cells cells old refl refl refl (λ keys olds news. refl) shaped steady k new_is
    (record { self = itself; finds = λ x. refl; shows = refl })
    (λ x. or_false (agree in_order (1 ∷ 2 ∷ []) x (1 ∷ 2 ∷ []) row)) (alone_by store_schema t db unique row shaped.1 (inr (inr (inr (inr (inr (inr (inl refl))))))) refl (kept_in old it Unique t there))
    (rowid_of store_schema t db unique row shaped.1) (λ r x. refl)
    (λ m r has keyed same.
    let plan_is = text_is (column r 1) a.plan (equal_is (column r 1) (Text a.plan) (and_parts _ _ same).0) in
    let key_is = text_is (column r 2) a.key (equal_is (column r 2) (Text a.key) (and_parts _ _ (and_parts _ _ same).1).0) in
    record { row = then_value keyed (then_value keyed (then_value plan_is (then_value key_is (refl)))); passes = itself; shows = refl })
    mid new count found it.schema ran seen

-- of each table
pub row_back : (row : Row) (old mid new : State) (count : ℕ) (found : List Values) → IsStore old → Executes (upsert_text (table_of row)) (columns row) old mid (Ok count)
    → Shown (find_text (table_of row)) (key_values row) mid new found → found ≡ columns row ∷ []
row_back (Meta a) = meta_back a
row_back (Api a) = apis_back a
row_back (Deployment a) = deployments_back a
row_back (Stage a) = stages_back a
row_back (Key a) = keys_back a
row_back (Plan a) = plans_back a
row_back (Join a) = joins_back a
