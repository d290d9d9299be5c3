-- The connection to the file, from one call to the next.
use Rattle.std.proofs.Common.{◌≡◌, List, [], Option, Some, None, Ok, OnOk, IsSome, false, true, ◌∷◌, IsTrue, refl, ap, subst, subst₂, inl, inr}
use Rattle.std.specs.Prelude.{is_some, Result, Err}
use Rattle.sqlite_trees.specs.declared.store.Store.{Ghosts}
use Rattle.sqlite.specs.Held.{Held}
use Rattle.keeper_core.specs.declared.keeper.KeepFault.{KeepFault}
use Rattle.keeper_core.specs.declared.rows.JoinRow.{JoinRow}
use Rattle.keeper_core.specs.declared.rows.Row.{Row}
use Rattle.keeper_core.specs.declared.rows.Row.TheVariants.{Join}
use Rattle.keeper_sqlite.specs.Columns.{can_be_written}
use Rattle.keeper_sqlite.specs.declared.undo.Undo.{Undo}
use Rattle.keeper_sqlite.specs.Links.{Linked, IsSettled, IsReopened, IsReadyAs, IsReady, IsChange, IsRewrite, IsLoad}
use Rattle.keeper_sqlite.specs.Steps.{AreWritten, IsOneStep}

module _ {S : Type 0} (g : Ghosts S) (is_fresh : Held S → Type 0) where
  -- a connection that is there is ready
  pub ready_at : (conn : Option (Held S)) (owed : List Undo) (x : Held S) → conn ≡ Some x → IsReadyAs g is_fresh conn owed x
  ready_at None owed x is = absurd cc
  ready_at (Some y) owed x is = cc

  -- one that was opened anew is ready where there was none
  pub reopened_at : (conn : Option (Held S)) (owed now : List Undo) (x : Held S) → is_some conn ≡ false → now ≡ owed → IsReopened g is_fresh now x → IsReadyAs g is_fresh conn owed x
  reopened_at None owed now x none same opened = subst (λ o. IsReopened g is_fresh o x) same opened
  reopened_at (Some y) owed now x none same opened = absurd cc

  -- the connection was there, and nothing was owed
  pub ready_now : (conn : Option (Held S)) (owed : List Undo) → IsTrue (is_some conn) → IsSettled (record { conn = conn; owed = owed })
      → (x : Held S) × IsReadyAs g is_fresh conn owed x × ◌≡◌ {A = Linked S} (record { conn = conn; owed = owed }) (record { conn = Some x; owed = [] })
  ready_now None owed there settled = absurd cc
  ready_now (Some x) owed there settled = (x, refl, ap (λ o. record { conn = Some x; owed = o }) settled.1)

  -- a change of a link that was made ready is one of the link as it was
  pub change_since : (rows : List Row) (old mid new : Linked S) (x : Held S) (r : Result (Unit {0}) KeepFault) → IsReady g is_fresh old x → mid ≡ record { conn = Some x; owed = [] }
      → IsChange g is_fresh rows mid new r → IsChange g is_fresh rows old new r
  change_since rows old mid new x (Ok v) ready is change =
      let w = change.2 in
      let from : w.from ≡ x = subst (λ (m : Linked S). IsReady g is_fresh m w.from) is w.ready in
      (change.0, change.1, record { from = x; ready = ready; step = subst (λ (h : Held S). IsOneStep g {T = Unit {0}} {E = KeepFault} (AreWritten g rows change.0) h change.1 (Ok v)) from w.step }, change.3, change.4)
  change_since rows old mid new x (Err fault) ready is (inl not_ready) = absurd (let none : mid.conn ≡ None = not_ready.0 in let some : mid.conn ≡ Some x = ap (λ (m : Linked S). m.conn) is in cc)
  change_since rows old mid new x (Err fault) ready is (inr change) =
      let w = change.2 in
      let from : w.from ≡ x = subst (λ (m : Linked S). IsReady g is_fresh m w.from) is w.ready in
      inr (
        change.0,
        change.1,
        record { from = x; ready = ready; step = subst (λ (h : Held S). IsOneStep g {T = Unit {0}} {E = KeepFault} (AreWritten g rows change.0) h change.1 (Err fault)) from w.step },
        change.3,
      )

  pub rewrites : (row copy : JoinRow) (old new : Linked S) (r : Result (Unit {0}) KeepFault) → copy ≡ row → can_be_written (Join row) ≡ true → IsChange g is_fresh (Join copy ∷ []) old new r
      → IsRewrite g is_fresh row old new r
  rewrites row copy old new (Ok v) same fits change = (fits, subst (λ (it : JoinRow). IsChange g is_fresh (Join it ∷ []) old new (Ok v)) same change)
  rewrites row copy old new (Err fault) same fits change = inr (subst (λ (it : JoinRow). IsChange g is_fresh (Join it ∷ []) old new (Err fault)) same change)

  some_of : (conn : Option (Held S)) → IsSome conn → (x : Held S) × (conn ≡ Some x)
  some_of None there = absurd cc
  some_of (Some x) there = (x, refl)

  pub loads : {T E : Type 0} (old new : Linked S) (x : Held S) (r : Result T E) → IsReady g is_fresh old x → OnOk r (IsSome new.conn) → new.owed ≡ [] → IsLoad g is_fresh old new r
  loads old new x (Ok v) ready there owed = let now = some_of new.conn there in (x, ready, now.0, now.1, owed)
  loads old new x (Err e) ready there owed = inr (x, ready, owed)

  -- the same, where the parts have other names
  pub change_as : (rows rows' : List Row) (old old' new new' : Linked S) (r r' : Result (Unit {0}) KeepFault) → rows ≡ rows' → old ≡ old' → new ≡ new' → r ≡ r' → IsChange g is_fresh rows old new r
      → IsChange g is_fresh rows' old' new' r'
  change_as rows rows' old old' new new' r r' a b c d change =
      subst (IsChange g is_fresh rows' old' new') d (subst (λ (n : Linked S). IsChange g is_fresh rows' old' n r) c (subst₂ (λ (x : List Row) (y : Linked S). IsChange g is_fresh x y new r) a b change))

  pub rewrite_as : (row : JoinRow) (old old' new new' : Linked S) (r r' : Result (Unit {0}) KeepFault) → old ≡ old' → new ≡ new' → r ≡ r' → IsRewrite g is_fresh row old new r
      → IsRewrite g is_fresh row old' new' r'
  rewrite_as row old old' new new' r r' b c d change = subst (IsRewrite g is_fresh row old' new') d (subst₂ (λ (x y : Linked S). IsRewrite g is_fresh row x y r) b c change)

pub settled_at : {S : Type 0} (conn : Option (Held S)) (owed : List Undo) (x : Held S) → conn ≡ Some x → IsSettled (record { conn = conn; owed = owed }) → owed ≡ []
settled_at None owed x is settled = absurd cc
settled_at (Some y) owed x is settled = settled.1
