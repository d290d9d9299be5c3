-- A row that is written is the one that its key finds, of any table whose text and rows are known.
use Rattle.std.proofs.Common.{◌≡◌, ℕ, ℤ, ◌/◌, true, false, ◌&&◌, List, [], ◌∷◌, ◌++◌, length, slice_get, Some, None, Ok, refl, sym, ap, subst, ◌∙◌}
use Rattle.std.specs.List.{list_all}
use Rattle.std.proofs.lemmas.Bool.{and_parts}
use Rattle.sqlite_value.specs.declared.value.Value.TheVariants.{Int}
use Rattle.sqlite_value.specs.declared.keys.Collation.TheVariants.{Binary}
use Rattle.sqlite_value.specs.Keys.{plain as in_order}
use Rattle.sqlite_value.specs.Order.{Row}
use Rattle.sqlite_trees.specs.declared.store.Shape.TheVariants as shape
use Rattle.sqlite_trees.specs.Tree.{Trees, rowid, IsTable}
use Rattle.sqlite_trees.specs.View.{IsShaped}
use Rattle.sqlite_sql.specs.Term.{eval_all, holds}
use Rattle.sqlite_schema.specs.declared.schema.Keys.{Keys}
use Rattle.sqlite_schema.specs.Rules.{agree, equal}
use Rattle.sqlite_rules.specs.declared.error.Rowids.TheVariants.{Chosen, Given}
use Rattle.sqlite_rules.specs.Lists.{Has}
use Rattle.sqlite_rules.specs.Action.{works}
use Rattle.sqlite_rules.specs.Cast.{cast_all, cast_row}
use Rattle.sqlite_rules.specs.Edit.{edit_of, with_rowid, Applies}
use Rattle.sqlite_rules.specs.Keys.{conflicts}
use Rattle.sqlite.specs.Effect.{Database, Answers, value_rows}
use Rattle.sqlite.specs.Rows.{shown}
use Rattle.sqlite.specs.Does.{Tally, Does, OnRows}
use Rattle.sqlite.specs.State.{State, mode_of, Executes, Shown}
use Rattle.sqlite.specs.Listing.{understood}
use Rattle.sqlite.proofs.Callers.{statement_of, runs_as, reads_as}
use Rattle.keeper_core.specs.declared.table.Table.{Table}
use Rattle.keeper_sqlite.specs.Texts.{upsert_text, find_text}
use Rattle.kept_rows.specs.Store.{store_schema, table_in}
use Rattle.kept_rows.proofs.Matches.{answered}
use Rattle.kept_rows.proofs.Places.{IsOnly, put_in, put_over}
use Rattle.kept_rows.proofs.Texts.{number_of, tree_of, width_of, key_of, terms_of, terms_width, filter_of, shown_of, over_of, over, clause, upsert, find, names_of, equals, upsert_is, upsert_plain, find_is, find_plain, find_unlisted}
use Rattle.kept_rows.proofs.Upserts.{went, same_value, plain, upserted, done, Done, put, updated}
use Rattle.kept_rows.proofs.Values.{equal_is, equal_self, int_same}

-- what is known of a row before it is written: where it stands in its table, and what its key finds
pub record Fits (t : Table) (keyed cells columns : Row) (k : ℤ) : Type 0 where
  pub self : agree in_order (key_of t) (Int k ∷ cells) (key_of t) (Int k ∷ cells) ≡ true
  pub finds : (x : Row) → list_all (holds (keyed ∷ x ∷ [])) (filter_of t) ≡ agree in_order (key_of t) x (key_of t) (Int k ∷ cells)
  pub shows : eval_all (shown_of t) (keyed ∷ (Int k ∷ cells) ∷ []) ≡ columns

-- what is known of a row over which it is written
pub record Replaces (t : Table) (params keyed cells columns : Row) (k m : ℤ) (r : Row) : Type 0 where
  pub row : eval_all (over_of t) ((params ++ rowid r ∷ shown (plain (table_in t)) (Int k ∷ cells)) ∷ r ∷ []) ≡ Int m ∷ Int m ∷ cells
  pub passes : agree in_order (key_of t) (Int m ∷ cells) (key_of t) (Int k ∷ cells) ≡ true
  pub shows : eval_all (shown_of t) (keyed ∷ (Int m ∷ cells) ∷ []) ≡ columns

module _ (t : Table) (params keyed source cells columns : Row) (old : State)
    (listed : slice_get store_schema.tables (number_of t) ≡ Some (plain (table_in t)))
    (sources : value_rows params (terms_width t) (length (terms_of t) / terms_width t) (terms_of t) ≡ source ∷ [])
    (tree : (plain (table_in t)).tree ≡ tree_of t)
    (quiet : (keys : Keys) (olds news : List Row) → works store_schema keys 0 (plain (table_in t)).tree olds news ≡ [])
    (shaped : IsShaped shape.Table (old.now.trees (plain (table_in t)).tree))
    (steady : cast_all (plain (table_in t)).columns cells ≡ cells)
    (k : ℤ) (new_is : with_rowid Chosen (old.now.trees (plain (table_in t)).tree) (cast_row (plain (table_in t)) source) ≡ Int k ∷ cells)
    (fits : Fits t keyed cells columns k)
    (says : (x : Row) → conflicts (Some (key_of t)) store_schema.indexes (plain (table_in t)) (Int k ∷ cells) x ≡ agree in_order (key_of t) x (key_of t) (Int k ∷ cells))
    (alone : (x r : Row) → Has (old.now.trees (plain (table_in t)).tree) x → Has (old.now.trees (plain (table_in t)).tree) r
    → agree in_order (key_of t) x (key_of t) (Int k ∷ cells) ≡ true → agree in_order (key_of t) r (key_of t) (Int k ∷ cells) ≡ true → rowid x ≡ rowid r)
    (rowids : (r : Row) → Has (old.now.trees (plain (table_in t)).tree) r → (m : ℤ) × (rowid r ≡ Int m))
    (tests : (r x : Row) → list_all (holds ((params ++ rowid r ∷ shown (plain (table_in t)) (Int k ∷ cells)) ∷ x ∷ [])) (equals 0 (width_of t) ∷ []) ≡ (equal Binary (rowid x) (rowid r) && true))
    (replaces : (m : ℤ) (r : Row) → Has (old.now.trees (plain (table_in t)).tree) r → rowid r ≡ Int m → agree in_order (key_of t) r (key_of t) (Int k ∷ cells) ≡ true → Replaces t params keyed cells columns k m r)
  where
    abbrev of : Rattle.sqlite_schema.specs.declared.schema.Table.Table
    of = plain (table_in t)

    abbrev db : Trees
    db = old.now.trees

    -- the table has one row with the key, and it is the one that was written
    record Stands (next : Trees) : Type 0 where
      m : ℤ
      only : IsOnly (λ x. agree in_order (key_of t) x (key_of t) (Int k ∷ cells)) (next of.tree) (Int m ∷ cells)
      shows : eval_all (shown_of t) (keyed ∷ (Int m ∷ cells) ∷ []) ≡ columns

    abbrev IsDone : Trees → Type 0
    IsDone = Done old.step_limit (mode_of old) params store_schema db (number_of t) (table_in t) listed (terms_width t) (terms_of t) source sources (clause t) (key_of t) (over t)

    same_rowid : (x r : Row) → Has (db of.tree) x → Has (db of.tree) r → (equal Binary (rowid x) (rowid r) && true) ≡ true → rowid x ≡ rowid r
    same_rowid x r has had h =
        let a = rowids x has in
        let b = rowids r had in
        let e = equal_is (rowid x) (rowid r) (and_parts _ _ h).0 in
        a.1 ∙ ap Int (int_same a.0 b.0 (sym (ap (λ v. Rattle.sqlite_value.specs.Order.value_cmp v (rowid r)) a.1 ∙ ap (Rattle.sqlite_value.specs.Order.value_cmp (Int a.0)) b.1) ∙ e)) ∙ sym b.1

    stands : (next : Trees) → IsDone next → Stands next
    stands next (put fresh made) =
        record {
          m = k;
          only = put_in store_schema (mode_of old).keys of db next (key_of t) cells k shaped steady says alone fits.self
              (subst (λ new. (x : Row) → Has (db of.tree) x → conflicts (Some (key_of t)) store_schema.indexes of new x ≡ false) new_is fresh)
              (subst (λ new. Applies store_schema (mode_of old).keys db (edit_of db of [] Given 0 (new ∷ [])) next) new_is made);
          shows = fits.shows;
        }
    stands next (updated r has conflict rows answers made) =
        let b = rowids r has in
        let clash = subst (λ new. conflicts (Some (key_of t)) store_schema.indexes of new r ≡ true) new_is conflict in
        let there = replaces b.0 r has b.1 (sym (says r) ∙ clash) in
        let given = params ++ rowid r ∷ shown of (Int k ∷ cells) in
        let reads = subst (λ new. Answers (record { schema = store_schema; trees = db }) (over t) (params ++ rowid r ∷ shown of new) rows) new_is answers in
        let itself : equal Binary (rowid r) (rowid r) ≡ true = equal_self (rowid r) (ap Rattle.sqlite_sql.specs.Ops.is_null b.1) in
        let one = answered store_schema db (tree_of t) (equals 0 (width_of t) ∷ []) (over_of t) given r
        (subst (λ n. IsTable (db n)) tree shaped.0) (subst (λ n. Has (db n) r) tree has) (tests r r ∙ ap (λ b. b && true) itself)
        (λ x here good. same_rowid x r (subst (λ n. Has (db n) x) (sym tree) here) has (sym (tests r x) ∙ good)) rows reads in
        record {
          m = b.0;
          only = put_over store_schema (mode_of old).keys of db next (key_of t) cells k shaped steady says alone b.0 r has b.1 clash there.passes rows (one ∙ ap (λ l. l ∷ []) there.row) made;
          shows = there.shows;
        }

    keeps_schema : (text : List ℕ) (tally : Tally) (after : Database) → Does old.step_limit (mode_of old) params (record { schema = store_schema; trees = db }) text None (upsert t) (Ok (tally, after)) → after.schema ≡ store_schema
    keeps_schema text tally after h = on_rows (rw listed at h)
      where
        on_rows : OnRows (record { limit = old.step_limit; keys = (mode_of old).keys; schema = store_schema; table = of; params = params }) (mode_of old) None (upsert t) db (Ok (tally, after)) → after.schema ≡ store_schema
        on_rows h = let all = went h in let ends = went (went all.2).2 in ap (λ (p : Tally × Database). p.1.schema) (same_value ends.2)

    pub read_back : (mid new : State) (count : ℕ) (found : List Row) → old.now.schema ≡ store_schema → Executes (upsert_text t) params old mid (Ok count) → Shown (find_text t) keyed mid new found → found ≡ columns ∷ []
    read_back mid new count found has ran seen =
        let text = statement_of (upsert_text t) (understood store_schema (upsert_text t)) in
        let w = runs_as (upsert_text t) params old mid store_schema has (upsert t) (upsert_is t) (upsert_plain t) count ran in
        let does = subst (λ s. Does old.step_limit (mode_of old) params (record old.now { schema = s }) text None (upsert t) (Ok (w.tally, mid.now))) has w.changed in
        let made = upserted old.step_limit (mode_of old) params store_schema db (number_of t) (table_in t) listed (terms_width t) (terms_of t) source sources (clause t) text w.tally mid.now does in
        let did = done old.step_limit (mode_of old) params store_schema db (number_of t) (table_in t) listed (terms_width t) (terms_of t) source sources (clause t) (key_of t) (over t) refl (quiet (mode_of old).keys) made.0 made.1 in
        let it = stands made.0.trees did in
        let only = subst (λ (d : Trees). IsOnly (λ x. agree in_order (key_of t) x (key_of t) (Int k ∷ cells)) (d (tree_of t)) (Int it.m ∷ cells)) (sym made.2)
        (subst (λ n. IsOnly (λ x. agree in_order (key_of t) x (key_of t) (Int k ∷ cells)) (made.0.trees n) (Int it.m ∷ cells)) tree it.only) in
        let reads = reads_as (find_text t) keyed mid new store_schema (keeps_schema text w.tally mid.now does) (find t (names_of t)) (find_is t) (find_plain t) (find_unlisted t) found seen in
        answered mid.now.schema mid.now.trees (tree_of t) (filter_of t) (shown_of t) keyed (Int it.m ∷ cells) only.table only.has (fits.finds (Int it.m ∷ cells) ∙ only.passes)
        (λ x here good. only.alone x here (sym (fits.finds x) ∙ good)) found reads ∙ ap (λ l. l ∷ []) it.shows
