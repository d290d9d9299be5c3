-- What an upsert of one row makes of the trees.
use Rattle.std.proofs.Common.{◌≡◌, ◌⊎◌, inl, inr, ℕ, ℤ, ◌/◌, List, [], ◌∷◌, ◌++◌, append-nil, length, slice_get, true, false, Option, Some, None, Ok, Err, Result, refl, sym, ap, subst, ◌∙◌}
use Rattle.sqlite_value.specs.Order.{Row}
use Rattle.sqlite_trees.specs.Tree.{Trees, rowid}
use Rattle.sqlite_sql.specs.Term.{Term}
use Rattle.sqlite_schema.specs.declared.schema.Table.{Table}
use Rattle.sqlite_schema.specs.declared.schema.Schema.{Schema}
use Rattle.sqlite_schema.specs.declared.program.Program.{Program}
use Rattle.sqlite_schema.specs.declared.command.Source.TheVariants.{Values}
use Rattle.sqlite_schema.specs.declared.command.Upsert.{Upsert}
use Rattle.sqlite_schema.specs.declared.command.Conflict.TheVariants.{Abort}
use Rattle.sqlite_schema.specs.declared.command.Command.TheVariants.{InsertOr}
use Rattle.sqlite_rules.specs.Lists.{Has}
use Rattle.sqlite_rules.specs.Keys.{conflicts, AreConflicts}
use Rattle.sqlite_rules.specs.Cast.{cast_row}
use Rattle.sqlite_rules.specs.Calls.{ids_of}
use Rattle.sqlite_rules.specs.Edit.{edit_of, taken_by, with_rowid, Applies}
use Rattle.sqlite_rules.specs.Action.{works}
use Rattle.sqlite_rules.specs.declared.error.Rowids.TheVariants.{Chosen, Given}
use Rattle.sqlite.specs.declared.run.Mode.{Mode}
use Rattle.sqlite.specs.Effect.{Database, Answers, value_rows}
use Rattle.sqlite.specs.Rows.{Task, Written, Upserts, TriesEach, nothing, shown, stamped, Tries, Judged, Clears, Meets, Counts, count_of, InsertsOr}
use Rattle.sqlite.specs.Does.{Tally, Does, OnRows}
use Rattle.sqlite.proofs.Callers.{one_step}
use Rattle.sqlite_trees.proofs.TreeLemmas.{not_true}

-- a part that gave a value did not stop on the way
pub went : {B E R : Type 0} {b : B} {Stops : E → Type 0} → ((stop : E) × Stops stop × (Ok b ≡ Err stop)) ⊎ R → R
went (inl stopped) = absurd (let e = stopped.2 in cc)
went (inr on) = on

pub same_value : {B E : Type 0} {a b : B} → ◌≡◌ {A = Result B E} (Ok a) (Ok b) → a ≡ b
same_value e = cc

-- the table, with no AUTOINCREMENT and no default that reads the time
abbrev pub plain : Table → Table
plain u = record u { stamps = record { places = []; terms = []; formats = [] }; is_counted = false }

module _ (limit : Option ℕ) (mode : Mode) (params : Row) (schema : Schema) (db : Trees) (at : ℕ) (u : Table) (listed : slice_get schema.tables at ≡ Some (plain u)) (width : ℕ) (terms : List Term) (source : Row) (sources : value_rows params width (length terms / width) terms ≡ source ∷ []) (clause : Upsert) where
  abbrev pub t : Table
  t = plain u

  abbrev pub task : Task
  task = record { limit = limit; keys = mode.keys; schema = schema; table = t; params = params }

  abbrev pub new_row : Row
  new_row = with_rowid Chosen (db t.tree) (cast_row t source)

  judged : (verdict : Option _) (one : Written) → Judged task Abort (clause ∷ []) new_row db verdict (Ok one) → Upserts task Abort new_row db (clause ∷ []) (Ok one)
  judged None one h = h
  judged (Some why) one h = absurd cc

  either : (one : Written) → Tries task Abort (clause ∷ []) new_row db (Ok one) → Upserts task Abort new_row db (clause ∷ []) (Ok one)
  either one (inl stuck) = absurd (let e = stuck.1 in cc)
  either one (inr so) = judged so.0 one so.2

  tried : (out : Written × ℤ) (top : ℤ) → TriesEach task Abort (clause ∷ []) (source ∷ []) top (nothing db) (Ok out) → (one : Written) × Upserts task Abort new_row db (clause ∷ []) (Ok one) × (out.0.trees ≡ one.trees)
  tried out top h =
      let it = went h in
      let one : Upserts task Abort new_row db (clause ∷ []) (Ok it.0) = either it.0 it.1 in
      (it.0, one, ap (λ (p : Written × ℤ). p.0.trees) (same_value it.2))

  inserted : (w : Written) → InsertsOr task Abort (clause ∷ []) (Values terms width) db (Ok w) → (one : Written) × Upserts task Abort new_row db (clause ∷ []) (Ok one) × (w.trees ≡ one.trees)
  inserted w h =
      let sourced = went h in
      let counter = went sourced.2 in
      let done = went counter.2 in
      let counts = went done.2 in
      let full : stamped t params ≡ params = append-nil params in
      let rows : sourced.0 ≡ source ∷ [] = sourced.1.1 ∙ subst (λ p. value_rows p width (length terms / width) terms ≡ source ∷ []) (sym full) sources in
      let top = count_of counter.0 in
      let it = tried done.0 top (subst (λ r. TriesEach task Abort (clause ∷ []) r top (nothing db) (Ok done.0)) rows done.1) in
      let next : counts.0 ≡ done.0.0.trees = uncounts counts.0 done.0.0.trees counter.0 done.0.1 counts.1 in
      (it.0, it.1, ap (λ (w : Written). w.trees) (same_value counts.2) ∙ next ∙ it.2)
    where
      uncounts : (next mid : Trees) (counter : Option Row) (top : ℤ) → Counts task mid counter top (Ok next) → next ≡ mid
      uncounts next mid counter top c = same_value c

  pub upserted : (text : List ℕ) (tally : Tally) (after : Database) → Does limit mode params (record { schema = schema; trees = db }) text None (InsertOr at Abort (Values terms width) (clause ∷ [])) (Ok (tally, after))
      → (one : Written) × Upserts task Abort new_row db (clause ∷ []) (Ok one) × (after.trees ≡ one.trees)
  upserted text tally after h = on_rows (rw listed at h)
    where
      on_rows : OnRows task mode None (InsertOr at Abort (Values terms width) (clause ∷ [])) db (Ok (tally, after)) → (one : Written) × Upserts task Abort new_row db (clause ∷ []) (Ok one) × (after.trees ≡ one.trees)
      on_rows k =
          let all = went k in
          let ends = went (went all.2).2 in
          let it = inserted all.0 all.1 in
          (it.0, it.1, ap (λ (p : Tally × Database). p.1.trees) (same_value ends.2) ∙ it.2)

  -- what one upsert did: the row is new, or it is written over one that has its key
  pub data Done (key : List ℕ) (q : Program) (next : Trees) : Type 0 where
    put : ((r : Row) → Has (db t.tree) r → conflicts (Some key) schema.indexes t new_row r ≡ false) → Applies schema mode.keys db (edit_of db t [] Given 0 (new_row ∷ [])) next → Done key q next
    updated : (r : Row) → Has (db t.tree) r → conflicts (Some key) schema.indexes t new_row r ≡ true → (rows : List Row)
        → Answers (record { schema = schema; trees = db }) q (params ++ rowid r ∷ shown t new_row) rows → Applies schema mode.keys db (edit_of db t (ids_of rows) Given 1 rows) next → Done key q next

  module _ (key : List ℕ) (q : Program) (is : clause ≡ record { target = Some key; update = Some q }) (quiet : (olds news : List Row) → works schema mode.keys 0 t.tree olds news ≡ []) where
    puts : (one : Written) (found : List Row) → ((r : Row) → Has (db t.tree) r → conflicts (Some key) schema.indexes t new_row r ≡ false) → Clears task Abort new_row db found (Ok one) → Done key q one.trees
    puts one [] fresh h = let e = went h in put fresh (let edit = edit_of db t [] Given 0 (new_row ∷ []) in subst (Applies schema mode.keys db edit) (sym (ap (λ (w : Written). w.trees) (same_value e.2))) (one_step schema mode.keys db e.0 edit (quiet (taken_by db edit) edit.news) e.1))
    puts one (x ∷ more) fresh h = let e = went h in put fresh (let edit = edit_of db t [] Given 0 (new_row ∷ []) in subst (Applies schema mode.keys db edit) (sym (ap (λ (w : Written). w.trees) (same_value e.2))) (one_step schema mode.keys db e.0 edit (quiet (taken_by db edit) edit.news) e.1))

    none_is : (r : Row) → (conflicts (Some key) schema.indexes t new_row r ≡ true → ⊥) → conflicts (Some key) schema.indexes t new_row r ≡ false
    none_is r = not_true _

    meets : (one : Written) (found : List Row) → AreConflicts (Some key) schema.indexes t (db t.tree) new_row found
        → Meets task (Upserts task Abort new_row db []) new_row db (record { target = Some key; update = Some q }) found (Ok one) → Done key q one.trees
    meets one [] are h = puts one h.0 (λ r has. none_is r (λ c. are.complete r has c)) h.2
    meets one (x ∷ more) are h =
        let s = are.sound x (inl refl) in
        let e = went h in
        let f = went e.2 in
        let id : rowid x ≡ rowid s.0 = ap rowid s.3 in
        updated s.0 s.1 s.2 e.0 (subst (λ v. Answers (record { schema = schema; trees = db }) q (params ++ v ∷ shown t new_row) e.0) id e.1)
        (let edit = edit_of db t (ids_of e.0) Given 1 e.0 in subst (Applies schema mode.keys db edit) (sym (ap (λ (w : Written). w.trees) (same_value f.2))) (one_step schema mode.keys db f.0 edit (quiet (taken_by db edit) edit.news) f.1))

    pub done : (one : Written) → Upserts task Abort new_row db (clause ∷ []) (Ok one) → Done key q one.trees
    done one h = let k = rw is at h in meets one k.0 k.1 k.2
