-- How a book starts.
use Rattle.std.proofs.Common.{◌≡◌, ◌⊎◌, inl, ℕ, ◌+◌, ◌-◌, ◌^◌, ◌≤◌, min, Bool, true, false, List, [], length, Option, Some, None, Result, Ok, Err, IfSome, ap, sym, ◌∙◌, refl, subst, arith}
use Rattle.std.specs.Prelude.{is_some}
use Rattle.std.specs.List.{AllByRecursion}
use Rattle.std.specs.Option.{option_map}
use Rattle.keeper_core.specs.Lists.{Lists}
use Rattle.keeper_core.specs.Held.{Held}
use Rattle.keeper_core.specs.Keeping.{KeeperFacts, Planned, IsPlanned, HasLoadCause, is_failed_load, load_wants_memory, is_bad_row, fails_now}
use Rattle.keeper_core.specs.declared.keeper.LoadFault.{LoadFault}
use Rattle.keeper_core.specs.declared.keeper.LoadFault.TheVariants.{BadRow, Failed}
use Rattle.keeper_core.specs.declared.keeper.LoadFault.TheVariants as load
use Rattle.keeper_core.specs.declared.table.Table.{Table}
use Rattle.policy_memory.specs.Kept.{Kept, Remembers}
use Rattle.book_rules.proofs.Histories.{state_after-nil, plan_after-nil}
use Rattle.book_rules.specs.History.{Base, state_after, tables_after, plan_after, not_kept}
use Rattle.book_rules.specs.Machine.{opened}
use Rattle.book_rules.specs.declared.events.Entry.{Entry}
use Rattle.good_tables.specs.Laws.{is_stated_in}
use Rattle.book_core.specs.Books.{Keeps, happened_after}
use Rattle.book_core.specs.Starts.{StartFails, IsNamed, FailsAt, is_store_fault, fault_of}

-- a load fails exactly where it is told to
pub fails_at : (planned now : Option Planned) (failed memory : Bool) → IsPlanned planned failed memory now → FailsAt planned failed
fails_at None now failed memory went = tt
fails_at (Some plan) now failed memory went = went.fails

-- and so the book fails to start
pub fails_by : (T : Type 0) (planned now : Option Planned) (fault : LoadFault) → IsPlanned planned (is_failed_load {T = T} (Err fault)) (load_wants_memory {T = T} (Err fault)) now
    → FailsAt planned (is_store_fault (fault_of fault))
fails_by T planned now (BadRow table row) went = fails_at planned now false false went
fails_by T planned now Failed went = fails_at planned now true false went
fails_by T planned now load.Memory went = fails_at planned now false true went

module _ {T : Type 0} where
  named_by_load : (tables : Option Lists) (before now : KeeperFacts) (table : Table) (row : ℕ) → HasLoadCause {T = T} before now (Err (BadRow table row))
      → IfSome tables (λ _. is_bad_row {T = T} (Err (BadRow table row)) ≡ false) → IsNamed tables before table row now
  named_by_load None before now table row cause good = inl (cause.failed refl).1
  named_by_load (Some lists) before now table row cause good = absurd (let e : true ≡ false = good in cc)

  -- a load that failed is why the book did not start
  pub by_load : (fault : LoadFault) (before now : KeeperFacts) → HasLoadCause {T = T} before now (Err fault)
      → IfSome before.tables (λ _. is_bad_row {T = T} (Err fault) ≡ false)
      → StartFails before (fault_of fault) now
  by_load (BadRow table row) before now cause good = named_by_load before.tables before now table row cause good
  by_load Failed before now cause good = (cause.failed refl).1
  by_load load.Memory before now cause good = tt

told_first : (opening : Lists) (tables : Option Lists) → IfSome tables (λ lists. opening ≡ lists) → IfSome tables (λ lists. lists ≡ tables_after opening [])
told_first opening None same = tt
told_first opening (Some lists) same = sym same ∙ sym (ap (λ s. s.lists) (state_after-nil opening))

planned_first : (opening : Lists) (planned : Option Planned) → planned ≡ option_map (λ plan. plan_after opening plan []) planned
planned_first opening None = refl
planned_first opening (Some plan) = ap Some (sym (plan_after-nil opening plan))

keeps_none : (base : Base) (now : KeeperFacts) → base.start ≡ now → now.staged ≡ [] → IfSome now.tables (λ lists. base.opening ≡ lists) → Keeps base [] now
keeps_none base now same staged loaded =
    record {
      told = told_first base.opening now.tables loaded;
      tells = sym (ap (λ (k : KeeperFacts). is_some k.tables) same);
      staged = staged;
      counted = subst (λ k. min (base.start.faults + 0) (2 ^ 64 - 1) ≤ k.faults) same (omega arith);
      planned = subst (λ k. k.planned ≡ option_map (λ plan. plan_after base.opening plan []) base.start.planned) same (planned_first base.opening base.start.planned);
    }

-- a keeper before the first entry
pub keeps_first : (base : Base) (entries : List Entry) (now : KeeperFacts) → entries ≡ [] → base.start ≡ now → now.staged ≡ []
    → IfSome now.tables (λ lists. base.opening ≡ lists) → Keeps base entries now
keeps_first base entries now none same staged loaded = subst (λ e. Keeps base e now) (sym none) (keeps_none base now same staged loaded)

-- what stands before the first entry
pub remembers_first : (opening : Lists) (entries : List Entry) (policies : Kept) → entries ≡ [] → Remembers [] 0 policies
    → Remembers (happened_after opening entries) (length entries) policies
remembers_first opening entries policies none first =
    subst (λ e. Remembers (happened_after opening e) (length e) policies) (sym none)
    (subst (λ s. Remembers s.happened 0 policies) (sym (state_after-nil opening)) first)

pub stands_happened : (opening : Lists) (entries : List Entry) → entries ≡ [] → [] ≡ happened_after opening entries
stands_happened opening entries none = ap (λ s. s.happened) (sym (state_after-nil opening)) ∙ ap (happened_after opening) (sym none)

pub stands_first : (opening : Lists) (entries : List Entry) → entries ≡ [] → opened opening ≡ state_after opening entries
stands_first opening entries none = sym (state_after-nil opening) ∙ ap (state_after opening) (sym none)

pub stated_first : (entries : List Entry) → entries ≡ [] → AllByRecursion (λ (entry : Entry). is_stated_in entry.event ≡ true) entries
stated_first entries none = subst (AllByRecursion (λ (entry : Entry). is_stated_in entry.event ≡ true)) (sym none) tt
