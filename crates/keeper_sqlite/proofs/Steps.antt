-- Changes of the file, one after another.
use Rattle.std.proofs.Common.{◌≡◌, ◌⊎◌, ◌+◌, ◌<◌, ℕ, length, take, List, [], ◌∷◌, ◌++◌, true, false, cond, Option, Some, None, Result, Ok, Err, IfOk, IfErr, OnOk, OnErr, IsErr, IsTrue, inl, inr, refl, sym, ap, subst, subst₂, ◌∙◌, arith}
use Rattle.std.specs.Prelude.{slice_index_or}
use Rattle.std.proofs.lemmas.Bool.{cases_Bool}
use Rattle.std.proofs.lemmas.List.{take_more}
use Rattle.sqlite_trees.specs.declared.store.Store.{Ghosts}
use Rattle.sqlite_trees.specs.Tree.{Trees}
use Rattle.sqlite_value.specs.Order.{Row as Values}
use Rattle.sqlite_value.specs.declared.value.Value.{Value}
use Rattle.sqlite_resolve.specs.declared.compiled.Compiled.{Compiled}
use Rattle.sqlite_schema.specs.declared.command.Returning.{Returning}
use Rattle.sqlite.specs.declared.error.Error.{Error}
use Rattle.sqlite.specs.Effect.{Database}
use Rattle.sqlite.specs.Held.{Held, state}
use Rattle.sqlite.specs.State.{State, HasCleanDisk, KeepsCommit, Survives, IsRolledBack, IsUnchanged, IsNotRun, ExecutesInside, Shown, ShowsRows, FailsToQuery, FailsToShow, IsTooLate}
use Rattle.sqlite.specs.Steps.{FailsToCommit}
use Rattle.sqlite.proofs.Callers.{survives_begin}
use Rattle.sqlite.proofs.InsideLemmas.{unchanged_keeps, inside_keeps, keeps_then}
use Rattle.sqlite.proofs.StateLemmas.{survives_then, survives_weaker}
use Rattle.keeper_core.specs.declared.rows.Row.{Row}
use Rattle.keeper_sqlite.specs.declared.undo.Undo.{Undo}
use Rattle.keeper_sqlite.specs.Steps.{IsInside, IsCommit, IsWritten, AreWritten, AreUndone, Ran, IsLeftBy, IsOneStep}
use Rattle.keeper_sqlite.specs.Undos.{undo_text, undo_values}

pub keeps_same : (s : State) → KeepsCommit s s
keeps_same s = record { was_open = λ h. h; committed = λ _. refl }

pub inside_then : (a b c : State) → IsInside a b → IsInside b c → IsInside a c
inside_then a b c one two = record {
  crash = survives_then a b c (λ _. ⊥) (λ _. ⊥) (λ _. ⊥) (λ _ db none. none) (λ _ db none. none) one.crash two.crash;
  kept = λ clean. keeps_then a b c (one.kept (omega (arith, two.crash.clean))) (two.kept clean);
}

-- nothing is done
pub inside_same : (s : State) → IsInside s s
inside_same s = record {
  crash = record { clean = omega arith; shield = λ h. h; counts = omega arith; limit = refl; closes = λ _ h. inl h; crash = λ _ db h. inl h };
  kept = λ _. keeps_same s;
}

-- a transaction that is let go
pub inside_undone : (a b : State) → (HasCleanDisk b → IsRolledBack a b) → Survives a b (λ _. ⊥) → IsInside a b
inside_undone a b undone crash = record { crash = crash; kept = λ clean. unchanged_keeps a b (inr (undone clean)) }

-- a statement in a transaction
pub inside_ran : {S : Type 0} (g : Ghosts S) (old new : Held S) (sql : List ℕ) (params : Values) (r : Result ℕ Error) (late : Error)
    → (old.in_transaction ≡ false → (r ≡ Err late) × (new ≡ old)) → (HasCleanDisk (state g new) → IsTrue old.in_transaction → ExecutesInside 0 sql params (state g old) (state g new) r)
    → Survives (state g old) (state g new) (λ _. ⊥) → IsInside (state g old) (state g new)
inside_ran {S} g old new sql params r late ended runs crash = record {
  crash = crash;
  kept = λ clean. elim (cases_Bool old.in_transaction) [
    | inl inside ↦ inside_keeps (state g old) (state g new) 0 false sql params r (runs clean inside)
    | inr outside ↦ subst (λ (h : Held S). KeepsCommit (state g old) (state g h)) (sym (ended outside).1) (keeps_same (state g old))
  ];
}

module _ (old new : State) (sql : List ℕ) where
  rows_keep : (c : Compiled) (params : Values) (rows : List Values) (returning : Option Returning) → IsTrue old.in_transaction → ShowsRows old new sql c params rows returning → KeepsCommit old new
  rows_keep c params rows None inside h = unchanged_keeps old new (inl h.3)
  rows_keep c params rows (Some what) inside h =
      let shown = h.1.shown in record { was_open = λ _. shown.was_open; committed = λ _. shown.committed_is ∙ ap (λ b. cond b old.committed new.now) inside }

  -- a question in a transaction
  pub shown_keeps : (params : Values) (rows : List Values) → IsTrue old.in_transaction → Shown sql params old new rows → KeepsCommit old new
  unfolding Shown
  shown_keeps params rows inside h = rows_keep h.0 _ rows h.0.returning inside h.2

  pub not_run_keeps : (params : Values) (e : Error) → IsNotRun old new sql params e → KeepsCommit old new
  unfolding IsNotRun
  not_run_keeps params e (inl refused) = unchanged_keeps old new (inl refused.1)
  not_run_keeps params e (inr failed) = unchanged_keeps old new (inr failed.3)

  fails_to_show : (c : Compiled) (params : Values) (e : Error) (returning : Option Returning) → FailsToShow old new sql c params e returning → KeepsCommit old new
  fails_to_show c params e None h = unchanged_keeps old new (inl h.3)
  fails_to_show c params e (Some what) (inl refused) = unchanged_keeps old new (inl refused.1)
  fails_to_show c params e (Some what) (inr failed) = unchanged_keeps old new (inr failed.3)

  pub failed_query_keeps : (params : Values) (e : Error) → FailsToQuery sql params old new e ⊎ IsTooLate sql params old new e → KeepsCommit old new
  unfolding FailsToQuery
  failed_query_keeps params e (inl (inl not_run)) = not_run_keeps params e not_run
  failed_query_keeps params e (inl (inr ran)) = fails_to_show ran.0 _ e ran.0.returning ran.2
  failed_query_keeps params e (inr late) = unchanged_keeps old new (inl late.5)

-- a statement that is made ready, or is not
pub prepared_keeps : {X : Type 0} (a b : State) (sql : List ℕ) (P : X → Type 0) (r : Result X Error) → IfOk r (λ s. P s × IsUnchanged a b) → IfErr r (λ e. (params : Values) → IsNotRun a b sql params e) → KeepsCommit a b
prepared_keeps a b sql P (Ok v) ok err = unchanged_keeps a b (inl ok.1)
prepared_keeps a b sql P (Err e) ok err = not_run_keeps a b sql [] e (err [])

-- a commit that fails
failed_keeps : (old new : State) (e : Error) → FailsToCommit old new e → KeepsCommit old new
failed_keeps old new e (inl fails) = unchanged_keeps old new (inr fails.3)
failed_keeps old new e (inr late) = unchanged_keeps old new (inl late.2)

pub commit_fails : {T E : Type 0} (a b : State) (e : E) (cause : Error) → Survives a b (λ db. db ≡ a.now.trees) → (HasCleanDisk b → FailsToCommit a b cause) → IsCommit {T = T} a b (Err e)
commit_fails a b e cause crash fails = record { crash = crash; kept = λ _. tt; left = λ clean. failed_keeps a b cause (fails clean) }

pub commit_ends : {T E : Type 0} (a b : State) (v : T) → Survives a b (λ db. db ≡ a.now.trees) → (HasCleanDisk b → b.committed ≡ a.now) → IsCommit {E = E} a b (Ok v)
commit_ends a b v crash committed = record { crash = crash; kept = λ clean. ap (λ (d : Database). d.trees) (committed clean); left = λ _. tt }

pub next_taken : {X : Type 0} (xs : List X) (i : ℕ) (x : X) → i < length xs → x ≡ slice_index_or xs i x → take (i + 1) xs ≡ take i xs ++ x ∷ []
next_taken xs i x inside is = take_more xs i x inside ∙ ap (λ y. take i xs ++ y ∷ []) (sym is)

module _ {S : Type 0} (g : Ghosts S) where
  -- the same statement under another name
  pub ran_as : {T E : Type 0} (text text' : List ℕ) (values values' : List Value) (old new : Held S) (r : Result T E) → text ≡ text' → values ≡ values' → OnOk r (Ran g text values old new) → OnOk r (Ran g text' values' old new)
  ran_as text text' values values' old new r texts same ran = subst₂ (λ t v. OnOk r (Ran g t v old new)) texts same ran

  -- one row more is written
  pub written_more : (rows : List Row) (undos : List Undo) (row : Row) (undo : Undo) (a b c : Held S) → AreWritten g rows undos a b → IsWritten g row undo b c → AreWritten g (rows ++ row ∷ []) (undos ++ undo ∷ []) a c
  written_more [] [] row undo a b c same one = (c, subst (λ (h : Held S). IsWritten g row undo h c) same one, refl)
  written_more [] (other ∷ undos) row undo a b c none one = absurd none
  written_more (other ∷ rows) [] row undo a b c none one = absurd none
  written_more (other ∷ rows) (first ∷ undos) row undo a b c are one = (are.0, are.1, written_more rows undos row undo are.0 b c are.2 one)

  -- one change more is undone
  pub undone_more : (undos : List Undo) (undo : Undo) (a b c : Held S) → AreUndone g undos a b → Ran g (undo_text undo) (undo_values undo) b c → AreUndone g (undos ++ undo ∷ []) a c
  undone_more [] undo a b c same one = (c, subst (λ (h : Held S). Ran g (undo_text undo) (undo_values undo) h c) same one, refl)
  undone_more (other ∷ undos) undo a b c are one = (are.0, are.1, undone_more undos undo are.0 b c are.2 one)

  module _ {T E : Type 0} (Runs : Held S → Held S → Type 0) where
    left_by : (old mid : Held S) (db : Trees) (r : Result T E) (P : Type 0) → OnOk r P → (P → (db ≡ (state g mid).now.trees)) → IsLeftBy g Runs old (state g mid).now.trees
        → OnOk r ((db ≡ (state g mid).now.trees) × IsLeftBy g Runs old (state g mid).now.trees)
    left_by old mid db (Ok v) P kept is by = (is kept, by)
    left_by old mid db (Err e) P kept is by = tt

    still : (a b c : State) (r : Result T E) → KeepsCommit a b → OnErr r (KeepsCommit b c) → OnErr r (KeepsCommit a c)
    still a b c (Ok v) one two = tt
    still a b c (Err e) one two = keeps_then a b c one two

    begun : (old : Held S) (c : State) (r : Result T E) → OnErr r (KeepsCommit (state g (record old { in_transaction = true })) c) → OnErr r (KeepsCommit (state g old) c)
    begun old c (Ok v) left = tt
    begun old c (Err e) left = record { was_open = left.was_open; committed = left.committed }

    step_of : (old mid end : Held S) (r : Result T E) → let start = record old { in_transaction = true } in IsInside (state g start) (state g mid) → (HasCleanDisk (state g mid) → Runs start mid) → IsCommit (state g mid) (state g end) r
        → IsOneStep g Runs old end r
    step_of old mid end r inside ran commit =
        let start = record old { in_transaction = true } in
        let by : HasCleanDisk (state g end) → IsLeftBy g Runs old (state g mid).now.trees = λ clean. (mid, ran (omega (arith, commit.crash.clean)), refl) in
        record {
          after = (state g mid).now.trees;
          crash = survives_begin g old (state g end) _
              (survives_then (state g start) (state g mid) (state g end) (λ _. ⊥) (λ db. db ≡ (state g mid).now.trees) _ (λ _ db none. absurd none) (λ clean db is. (is, by clean)) inside.crash commit.crash);
          kept = λ clean. left_by old mid (state g end).committed.trees r _ (commit.kept clean) (λ is. is) (by clean);
          left = λ clean. begun old (state g end) r (still (state g start) (state g mid) (state g end) r (inside.kept (omega (arith, commit.crash.clean))) (commit.left clean));
        }

    -- a transaction from its beginning to its commit
    pub one_step : (old start mid last end : Held S) (r : Result T E) → start ≡ record old { in_transaction = true } → IsInside (state g start) (state g mid) → (HasCleanDisk (state g mid) → Runs start mid)
        → IsCommit (state g mid) (state g last) r → last ≡ end → IsOneStep g Runs old end r
    one_step old start mid last end r begins inside ran commit ends =
        subst (λ (h : Held S). IsOneStep g Runs old h r) ends
        (step_of old mid last r (subst (λ (h : Held S). IsInside (state g h) (state g mid)) begins inside) (λ clean. subst (λ (h : Held S). Runs h mid) begins (ran clean)) commit)

    refused : (old end : Held S) (r : Result T E) → IsErr r → IsInside (state g (record old { in_transaction = true })) (state g end) → IsOneStep g Runs old end r
    refused old end (Ok v) fails inside = absurd cc
    refused old end (Err e) fails inside = record {
      after = (state g old).now.trees;
      crash = survives_begin g old (state g end) _ (survives_weaker (state g (record old { in_transaction = true })) (state g end) (λ _. ⊥) _ (λ _ db none. absurd none) inside.crash);
      kept = λ _. tt;
      left = λ clean. let left = inside.kept clean in record { was_open = left.was_open; committed = left.committed };
    }

    -- a transaction that is let go
    pub one_undone : (old start mid last end : Held S) (r : Result T E) → IsErr r → start ≡ record old { in_transaction = true } → IsInside (state g start) (state g mid)
        → (HasCleanDisk (state g last) → IsRolledBack (state g mid) (state g last)) → Survives (state g mid) (state g last) (λ _. ⊥) → last ≡ end → IsOneStep g Runs old end r
    one_undone old start mid last end r fails begins inside undone crash ends =
        subst (λ (h : Held S). IsOneStep g Runs old h r) ends
        (refused old last r fails
        (subst (λ (h : Held S). IsInside (state g h) (state g last)) begins (inside_then (state g start) (state g mid) (state g last) inside (inside_undone (state g mid) (state g last) undone crash))))

    -- a refused change, and then a question
    pub step_asked : (old mid end : Held S) (e : E) → IsOneStep g {T = T} Runs old mid (Err e) → IsInside (state g mid) (state g end) → IsOneStep g {T = T} Runs old end (Err e)
    step_asked old mid end e step inside = record {
      after = step.after;
      crash = survives_then (state g old) (state g mid) (state g end) _ (λ _. ⊥) _ (λ _ db it. it) (λ _ db none. absurd none) step.crash inside.crash;
      kept = λ _. tt;
      left = λ clean. keeps_then (state g old) (state g mid) (state g end) (step.left (omega (arith, inside.crash.clean))) (inside.kept clean);
    }
