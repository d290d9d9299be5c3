-- Sessions that were held between the opening of a store and the giving back.
use Rattle.std.proofs.Common.{◌≡◌, ℕ, zero, suc, true, false, List, [], ◌∷◌, ◌++◌, All, length, map, Option, Some, None, IfSome, Result, Ok, Err, IfOk, IfErr, IsErrOf, inl, inr, ap, sym, ◌∙◌, subst, arith, refl}
use Rattle.std.specs.Prelude.{is_some}
use Rattle.std.specs.Io.KnownBytes.{Appends}
use Rattle.std.specs.List.{list_any}
use Rattle.backend_core.specs.Exchanges.{gained}
use Rattle.book_core.specs.declared.start.StartFault.{StartFault}
use Rattle.book_core.specs.declared.start.StartFault.TheVariants.{BadStore, StoreFault, Memory}
use Rattle.book_rules.specs.History.{Base}
use Rattle.book_rules.specs.declared.events.Entry.{Entry}
use Rattle.book_rules.specs.declared.events.Limits.{Limits}
use Rattle.gate_walk.specs.declared.ended.LaneEnd.{LaneEnd}
use Rattle.gw_base.specs.Outside.{Rose}
use Rattle.gw_base.specs.Whole.{AppendsFront}
use Rattle.keeper_core.specs.Keeping.{KeeperFacts}
use Rattle.keeper_core.specs.Lists.{Lists}
use Rattle.outside_core.specs.Lending.{behind, gained_all}
use Rattle.outside_core.specs.Stores.{stored}
use Rattle.outside_core.specs.Told.{LaneTold}
use Rattle.session_chain.specs.Chains.{Chain, HeldSession}
use Rattle.session_chain.specs.Ends.{has_port_fault, wants_memory}
use Rattle.session_chain.specs.Served.{Around, HasEnded, IsRefused, NextFails, WasCut, IfRefused}
use Rattle.serve_command.proofs.Telling.{chain_tells}
use Rattle.session_chain.specs.declared.fault.AllFault.{AllFault}
use Rattle.session_chain.specs.declared.fault.AllFault.TheVariants as all
use Rattle.serve_command.specs.Ends.{IfServed, IfStopped, stop_by_all, stop_by_next}
use Rattle.serve_command.specs.Holding.{AreBack, has_failed}
use Rattle.serve_command.specs.Opening.{Opened, NotOpened, IfBadStore}
use Rattle.serve_command.specs.Serving.{Ends, Held, IsByKeeper, KeeperFails, NotHeld, OutputFails, PortFails}
use Rattle.serve_command.specs.Shelves.{Shelves}
use Rattle.serve_command.specs.declared.open.OpenStop.{OpenStop}
use Rattle.serve_command.specs.declared.open.OpenStop.TheVariants as stop
use Rattle.serve_command.specs.declared.stop.ServeStop.{ServeStop}
use Rattle.serve_command.specs.declared.stop.ServeStop.TheVariants as serving
use Rattle.serve_command.proofs.Giving.{above_none, any_failed}

pub all_mapped : {A B : Type 0} (f : A → B) (P : A → Type 0) (Q : B → Type 0) → ((x : A) → P x → Q (f x)) → (xs : List A) → All P xs → All Q (map f xs)
all_mapped f P Q h [] all k d lt = absurd (omega (arith, lt))
all_mapped f P Q h (x ∷ xs) all zero d lt = h x (all 0 x (omega arith))
all_mapped f P Q h (x ∷ xs) all (suc k) d lt = all_mapped f P Q h xs (λ j e l. all (suc j) e (omega (arith, l))) k d (omega (arith, lt))

-- what the sessions left as the lending of the lanes left it
pub record Stays (lent served : Shelves) : Type 0 where
  pub stores : served.stores ≡ lent.stores
  pub waiting : served.waiting ≡ lent.waiting
  pub kept_back : served.kept_back ≡ lent.kept_back
  pub returned : served.returned ≡ lent.returned
  pub faults : served.faults ≡ lent.faults

-- what the lending of the lanes left as the opening of the store left it
pub record Lends (lanes : List LaneTold) (opened lent : Shelves) : Type 0 where
  pub waiting : opened.waiting ≡ behind lanes lent.waiting
  pub stores : lent.stores ≡ opened.stores
  pub kept_back : lent.kept_back ≡ opened.kept_back
  pub returned : lent.returned ≡ opened.returned
  pub sessions : lent.sessions ≡ opened.sessions
  pub faults : lent.faults ≡ opened.faults

told_by : {A : Type 0} {P Q : A → Type 0} (o : Option A) → ((a : A) → P a → Q a) → IfSome o P → IfSome o Q
told_by None h p = tt
told_by (Some a) h p = h a p

-- where stores are told, tables are
untold : {A B : Type 0} (stores : Option A) (tables : Option B) → IfSome stores (λ told. is_some tables ≡ true) → tables ≡ None → stores ≡ None
untold None tables tells none = refl
untold (Some told) tables tells none = absurd (differ (sym (ap is_some none) ∙ tells))
  where
    differ : false ≡ true → ⊥
    differ e = cc

-- from the opening of the store, through the lending of the lanes and the sessions, to the giving back
module _ (limits : Limits) (name : List ℕ) (number : ℕ) (first opened lent served back : Shelves) (base : Base) (empty : List Entry) (lanes now_lanes : List LaneTold) (keeper : KeeperFacts)
    (written now : Option (List ℕ)) (o : Opened limits name first opened base empty) (l : Lends lanes opened lent) (many : length lanes ≡ number) (s : Stays lent served) (b : AreBack name keeper now_lanes served back) where
  abbrev pub around : Around
  around = record { lent = lanes; back = now_lanes; archived = lent.sessions; archive = served.sessions; written = written; now = now }

  last_tells : (full : List HeldSession) (last : HeldSession) → Chain limits base lanes now_lanes lent.sessions served.sessions full last → is_some last.keeper.tables ≡ is_some base.start.tables
  last_tells full last chain = chain_tells limits base lanes now_lanes lent.sessions served.sessions full last chain

  held : (full : List HeldSession) (last : HeldSession) → Chain limits base lanes now_lanes lent.sessions served.sessions full last → keeper.tables ≡ last.keeper.tables
      → Held limits name number first back full last keeper
  held full last chain same = record {
    base = base;
    limited = o.limited;
    opening = o.opening;
    good = o.good;
    lent = lanes;
    back = now_lanes;
    numbered = many;
    waited = sym (ap (λ x. x.waiting) o.lent) ∙ l.waiting ∙ ap (behind lanes) (sym (b.waiting ∙ s.waiting));
    returned = b.returned ∙ ap (λ r. gained_all r now_lanes) (s.returned ∙ l.returned ∙ ap (λ x. x.returned) o.lent);
    chain = subst (λ a. Chain limits base lanes now_lanes a back.sessions full last) (l.sessions ∙ ap (λ x. x.sessions) o.lent)
        (subst (λ a. Chain limits base lanes now_lanes lent.sessions a full last) (sym b.sessions) chain);
    kept_back = b.kept_back ∙ ap (λ r. gained r keeper) (s.kept_back ∙ l.kept_back ∙ ap (λ x. x.kept_back) o.lent);
    tables = same;
    tells = told_by first.stores (λ told same_tables. ap (λ (k : Option Lists). is_some k) same ∙ last_tells full last chain ∙ ap is_some same_tables) o.tells;
    stored = b.stores ∙ ap (stored name keeper.tables) (s.stores ∙ l.stores ∙ ap (λ x. x.stores) o.lent);
  }

  rose : Rose served.faults back.faults → Rose first.faults back.faults
  rose r = subst (λ n. Rose n back.faults) (s.faults ∙ l.faults ∙ ap (λ x. x.faults) o.lent) r

  ended_ends : (r : Result ℕ ServeStop) (told ends : List LaneEnd) → told ≡ ends → HasEnded limits base around keeper ends
      → IfOk r (λ status. (status ≡ 0) × ((list_any wants_memory told ≡ false) × (list_any has_port_fault told ≡ false))) → IfOk r (Ends limits name number first back written now)
  ended_ends (Err e) told ends same h t = tt
  ended_ends (Ok status) told ends same h t = inl (
    h.0,
    h.1,
    subst (Held limits name number first back h.0 h.1) (sym h.3) (held h.0 h.1 h.2 (ap (λ k. k.tables) (sym h.3))),
    ap (list_any wants_memory) (h.4 ∙ sym same) ∙ t.1.0,
    ap (list_any has_port_fault) (h.4 ∙ sym same) ∙ t.1.1,
    h.5,
    t.0,
    h.6,
  )

  ended_port : (told ends : List LaneEnd) → told ≡ ends → HasEnded limits base around keeper ends → (list_any wants_memory told ≡ false) × (list_any has_port_fault told ≡ true)
      → PortFails limits name number first back written now
  ended_port told ends same h t =
      let fault : list_any has_port_fault h.1.ends ≡ true = ap (list_any has_port_fault) (h.4 ∙ sym same) ∙ t.1 in
      let looked = any_failed h.1.base 1 h.1.before h.1.now h.1.ends h.1.history h.2.held.session.lanes fault in (
        rose (b.look (ap (list_any has_failed) h.2.left ∙ looked)),
        inr (
          h.0,
          h.1,
          subst (Held limits name number first back h.0 h.1) (sym h.3) (held h.0 h.1 h.2 (ap (λ k. k.tables) (sym h.3))),
          ap (list_any wants_memory) (h.4 ∙ sym same) ∙ t.0,
          fault,
          h.6,
        ),
      )

  by_keeper : (fault : StartFault) (before : KeeperFacts) → IfSome first.stores (λ told. is_some before.tables ≡ true) → NextFails before fault keeper → stop_by_next fault ≡ serving.Keeper → IsByKeeper first back fault
  by_keeper (BadStore table row) before tells fails is = untold first.stores before.tables tells fails.0
  by_keeper StoreFault before tells fails is = rose (b.load (above_none before.loads keeper.loads fails))
  by_keeper Memory before tells fails is = absurd (differ is)
    where
      differ : serving.Memory ≡ serving.Keeper → ⊥
      differ e = cc

  -- the next session was refused, or its line was cut
  stopped_keeper : (fault : AllFault) → IfRefused fault (IsRefused limits base around keeper) → stop_by_all fault ≡ serving.Keeper → KeeperFails limits name number first back written now
  stopped_keeper (all.Start fault) h is = inr (
    h.0,
    h.1,
    keeper,
    fault,
    held h.0 h.1 h.2 h.4,
    h.3,
    by_keeper fault h.1.keeper (subst (λ (t : Option Lists). IfSome first.stores (λ told. is_some t ≡ true)) h.4 (held h.0 h.1 h.2 h.4).tells) h.3 is,
    h.5,
    h.6,
  )
  stopped_keeper all.Output h is = absurd (differ is)
    where
      differ : serving.Output ≡ serving.Keeper → ⊥
      differ e = cc
  stopped_keeper all.Memory h is = absurd (differ is)
    where
      differ : serving.Memory ≡ serving.Keeper → ⊥
      differ e = cc

  pub cut_output : (before counted : ℕ) → Rose before counted × WasCut limits base around keeper → Rose before counted × OutputFails limits name number first back written now
  cut_output before counted c =
      let h = c.1 in
      (c.0, inl (h.0, h.1, subst (Held limits name number first back h.0 h.1) (sym h.3) (held h.0 h.1 h.2 (ap (λ k. k.tables) (sym h.3))), h.4))

  -- by what the sessions came to
  module _ {V : Type 0} (items : V → List LaneEnd) (outcome : Result V AllFault) where
    pub serves : (r : Result ℕ ServeStop) → IfOk outcome (λ v. HasEnded limits base around keeper (items v))
        → IfOk r (λ status. (status ≡ 0) × IfServed outcome (λ v. (list_any wants_memory (items v) ≡ false) × (list_any has_port_fault (items v) ≡ false)))
        → IfOk r (Ends limits name number first back written now)
    serves r h t = go outcome r h t
      where
        go : (outcome : Result V AllFault) (r : Result ℕ ServeStop) → IfOk outcome (λ v. HasEnded limits base around keeper (items v))
            → IfOk r (λ status. (status ≡ 0) × IfServed outcome (λ v. (list_any wants_memory (items v) ≡ false) × (list_any has_port_fault (items v) ≡ false)))
            → IfOk r (Ends limits name number first back written now)
        go (Ok v) r h t = ended_ends r (items v) (items v) refl h t
        go (Err fault) (Ok status) h t = absurd t.1
        go (Err fault) (Err e) h t = tt

    pub serves_port : IfOk outcome (λ v. HasEnded limits base around keeper (items v)) → IfServed outcome (λ v. (list_any wants_memory (items v) ≡ false) × (list_any has_port_fault (items v) ≡ true))
        → PortFails limits name number first back written now
    serves_port h t = go outcome h t
      where
        go : (outcome : Result V AllFault) → IfOk outcome (λ v. HasEnded limits base around keeper (items v)) → IfServed outcome (λ v. (list_any wants_memory (items v) ≡ false) × (list_any has_port_fault (items v) ≡ true))
            → PortFails limits name number first back written now
        go (Ok v) h t = ended_port (items v) (items v) refl h t
        go (Err fault) h t = absurd t

    pub serves_keeper : IfErr outcome (λ e. IfRefused e (IsRefused limits base around keeper)) → IfStopped outcome (λ fault. stop_by_all fault ≡ serving.Keeper) → KeeperFails limits name number first back written now
    serves_keeper h t = go outcome h t
      where
        go : (outcome : Result V AllFault) → IfErr outcome (λ e. IfRefused e (IsRefused limits base around keeper)) → IfStopped outcome (λ fault. stop_by_all fault ≡ serving.Keeper) → KeeperFails limits name number first back written now
        go (Ok v) h t = absurd t
        go (Err fault) h t = stopped_keeper fault h t

    pub serves_output : (before counted : ℕ) → (IsErrOf outcome all.Output → Rose before counted × WasCut limits base around keeper) → IfStopped outcome (λ fault. fault ≡ all.Output)
        → Rose before counted × OutputFails limits name number first back written now
    serves_output before counted h t = cut_output before counted (go outcome h t)
      where
        go : (outcome : Result V AllFault) → (IsErrOf outcome all.Output → Rose before counted × WasCut limits base around keeper) → IfStopped outcome (λ fault. fault ≡ all.Output)
            → Rose before counted × WasCut limits base around keeper
        go (Ok v) h t = absurd t
        go (Err fault) h t = h (ap Err t)

-- no book opened
module _ (limits : Limits) (name : List ℕ) (number : ℕ) (first now : Shelves) (written after : Option (List ℕ)) where
  pub unopened_ends : (r : Result ℕ ServeStop) (why : OpenStop) → NotOpened name first now why → IfOk r (λ status. (status ≡ 1) × IfBadStore why (λ line. Appends written after line)) → IfOk r (Ends limits name number first now written after)
  unopened_ends (Err e) why n told = tt
  unopened_ends (Ok status) (stop.BadStore table row) n told = inr (table, row, n.cause, n.none, told.0, told.1)
  unopened_ends (Ok status) stop.Keeper n told = absurd told.1
  unopened_ends (Ok status) stop.Memory n told = absurd told.1

  pub unopened_output : (why : OpenStop) (before counted : ℕ) → NotOpened name first now why → Rose before counted × IfBadStore why (λ line. AppendsFront written after line) → Rose before counted × OutputFails limits name number first now written after
  unopened_output (stop.BadStore table row) before counted n told = (told.0, inr (table, row, n.cause, n.none, told.1))
  unopened_output stop.Keeper before counted n told = absurd told.1
  unopened_output stop.Memory before counted n told = absurd told.1

  pub unopened_keeper : (why : OpenStop) → NotOpened name first now why → (why ≡ stop.Keeper) × (after ≡ written) → KeeperFails limits name number first now written after
  unopened_keeper (stop.BadStore table row) n told = absurd (differ told.0)
    where
      differ : stop.BadStore table row ≡ stop.Keeper → ⊥
      differ e = cc
  unopened_keeper stop.Keeper n told = inl (n.cause, n.none, told.1)
  unopened_keeper stop.Memory n told = absurd (differ told.0)
    where
      differ : stop.Memory ≡ stop.Keeper → ⊥
      differ e = cc
