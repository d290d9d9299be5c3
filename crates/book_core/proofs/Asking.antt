-- What a keeper shows after it was asked for a change.
use Rattle.std.proofs.Common.{◌≡◌, ℕ, ◌+◌, ◌-◌, ◌^◌, ◌≤◌, min, Bool, true, false, not, ◌&&◌, ◌||◌, cond, List, [], ◌∷◌, Option, Some, None, Result, Ok, Err, OnOk, OnErr, ap, sym, ◌∙◌, refl, subst, arith}
use Rattle.std.specs.Option.{option_map}
use Rattle.gw_base.specs.Outside.{Rose}
use Rattle.keeper_core.specs.Lists.{Lists, put_all}
use Rattle.keeper_core.specs.Keeping.{KeeperFacts, Planned, HasKeepCause, IsKeptAsPlanned, IsPlanned, is_failed, wants_memory, with_rows, fails_now, one_more}
use Rattle.keeper_core.specs.declared.keeper.KeepFault.{KeepFault}
use Rattle.keeper_core.specs.declared.keeper.KeepFault.TheVariants.{Failed, Memory}
use Rattle.keeper_core.specs.declared.rows.Row.{Row}
use Rattle.book_rules.specs.Machine.{put_kept}
use Rattle.book_core.specs.Keeps.{Went, WentAsPlanned, Stays}

tables_kept : (row : Row) (tables now : Option Lists) → now ≡ with_rows (row ∷ []) tables → now ≡ option_map (put_kept (Some row) true) tables
tables_kept row None now e = e
tables_kept row (Some lists) now e = e

tables_lost : (row : Row) (tables now : Option Lists) → now ≡ tables → now ≡ option_map (put_kept (Some row) false) tables
tables_lost row None now e = e
tables_lost row (Some lists) now e = e

planned_kept : (planned now : Option Planned) → IsKeptAsPlanned planned false false now → WentAsPlanned false true true planned now
planned_kept None now went = went
planned_kept (Some plan) now went = ((λ _. ap not went.fails), went.counts)

planned_lost : (planned now : Option Planned) → IsKeptAsPlanned planned true false now → WentAsPlanned false true false planned now
planned_lost None now went = went
planned_lost (Some plan) now went = ((λ _. ap not went.fails), went.counts)

-- no call was counted where memory is wanted
uncounted : (fails : Bool) (plan more further : Planned) → false ≡ (fails || false) → Some (cond fails more plan) ≡ Some plan
uncounted true plan more further e = absurd cc
uncounted false plan more further e = refl

planned_left : (planned now : Option Planned) → IsKeptAsPlanned planned false true now → now ≡ planned
planned_left None now went = went
planned_left (Some plan) now went = went.counts ∙ uncounted (fails_now plan) plan (one_more plan) plan went.fails

pub went_kept : (row : Row) (before now : KeeperFacts) (r : Result (Unit {0}) KeepFault) (v : Unit {0}) → r ≡ Ok v
    → OnOk r (now.tables ≡ with_rows (row ∷ []) before.tables) → now.staged ≡ [] → HasKeepCause before now r
    → IsKeptAsPlanned before.planned (is_failed r) (wants_memory r) now.planned → Went false (Some row) true before now
went_kept row before now (Ok v) v' e ok staged cause planned =
    record {
      tables = tables_kept row before.tables now.tables ok;
      staged = staged;
      faults = let h = cause.later in omega (arith, h);
      else_kept = λ h. refl;
      planned = planned_kept before.planned now.planned planned;
    }
went_kept row before now (Err Failed) v' e ok staged cause planned = absurd cc
went_kept row before now (Err Memory) v' e ok staged cause planned = absurd cc

pub went_lost : (row : Row) (before now : KeeperFacts) (r : Result (Unit {0}) KeepFault) → r ≡ Err Failed
    → OnErr r (now.tables ≡ before.tables) → now.staged ≡ [] → HasKeepCause before now r
    → IsKeptAsPlanned before.planned (is_failed r) (wants_memory r) now.planned → Went false (Some row) false before now
went_lost row before now (Err Failed) e err staged cause planned =
    record {
      tables = tables_lost row before.tables now.tables err;
      staged = staged;
      faults = cause.failed refl;
      else_kept = λ h. absurd cc;
      planned = planned_lost before.planned now.planned planned;
    }
went_lost row before now (Err Memory) e err staged cause planned = absurd cc
went_lost row before now (Ok v) e err staged cause planned = absurd cc

pub stays_as_it_was : (before now : KeeperFacts) (r : Result (Unit {0}) KeepFault) → r ≡ Err Memory
    → OnErr r (now.tables ≡ before.tables) → now.staged ≡ [] → HasKeepCause before now r
    → IsKeptAsPlanned before.planned (is_failed r) (wants_memory r) now.planned → Stays before now
stays_as_it_was before now (Err Memory) e err staged cause planned =
    record { tables = err; staged = staged; faults = cause.later; planned = planned_left before.planned now.planned planned }
stays_as_it_was before now (Err Failed) e err staged cause planned = absurd cc
stays_as_it_was before now (Ok v) e err staged cause planned = absurd cc

-- The same of a row that was written in its place.
rewritten_kept : (planned now : Option Planned) → IsPlanned planned false false now → WentAsPlanned true true true planned now
rewritten_kept None now went = went
rewritten_kept (Some plan) now went = ((λ _. ap not went.fails), went.counts)

rewritten_lost : (planned now : Option Planned) → IsPlanned planned true false now → WentAsPlanned true true false planned now
rewritten_lost None now went = went
rewritten_lost (Some plan) now went = ((λ _. ap not went.fails), went.counts)

rewritten_left : (planned now : Option Planned) → IsPlanned planned false true now → now ≡ planned
rewritten_left None now went = went
rewritten_left (Some plan) now went = went.counts

pub rewrote : (row : Row) (before now : KeeperFacts) (r : Result (Unit {0}) KeepFault) (v : Unit {0}) → r ≡ Ok v
    → OnOk r (now.tables ≡ with_rows (row ∷ []) before.tables) → now.staged ≡ [] → HasKeepCause before now r
    → IsPlanned before.planned (is_failed r) (wants_memory r) now.planned → Went true (Some row) true before now
rewrote row before now (Ok v) v' e ok staged cause planned =
    record {
      tables = tables_kept row before.tables now.tables ok;
      staged = staged;
      faults = let h = cause.later in omega (arith, h);
      else_kept = λ h. refl;
      planned = rewritten_kept before.planned now.planned planned;
    }
rewrote row before now (Err Failed) v' e ok staged cause planned = absurd cc
rewrote row before now (Err Memory) v' e ok staged cause planned = absurd cc

pub rewrote_none : (row : Row) (before now : KeeperFacts) (r : Result (Unit {0}) KeepFault) → r ≡ Err Failed
    → OnErr r (now.tables ≡ before.tables) → now.staged ≡ [] → HasKeepCause before now r
    → IsPlanned before.planned (is_failed r) (wants_memory r) now.planned → Went true (Some row) false before now
rewrote_none row before now (Err Failed) e err staged cause planned =
    record {
      tables = tables_lost row before.tables now.tables err;
      staged = staged;
      faults = cause.failed refl;
      else_kept = λ h. absurd cc;
      planned = rewritten_lost before.planned now.planned planned;
    }
rewrote_none row before now (Err Memory) e err staged cause planned = absurd cc
rewrote_none row before now (Ok v) e err staged cause planned = absurd cc

pub stays_unwritten : (before now : KeeperFacts) (r : Result (Unit {0}) KeepFault) → r ≡ Err Memory
    → OnErr r (now.tables ≡ before.tables) → now.staged ≡ [] → HasKeepCause before now r
    → IsPlanned before.planned (is_failed r) (wants_memory r) now.planned → Stays before now
stays_unwritten before now (Err Memory) e err staged cause planned =
    record { tables = err; staged = staged; faults = cause.later; planned = rewritten_left before.planned now.planned planned }
stays_unwritten before now (Err Failed) e err staged cause planned = absurd cc
stays_unwritten before now (Ok v) e err staged cause planned = absurd cc

-- an event that writes no row asks the keeper nothing
pub went_without : (rewriting : Bool) (before : KeeperFacts) → before.staged ≡ [] → Went rewriting None true before before
went_without rewriting before staged =
    record { tables = no_row before.tables; staged = staged; faults = omega arith; else_kept = λ h. refl; planned = no_calls before.planned }
  where
    no_row : (tables : Option Lists) → tables ≡ option_map (put_kept None true) tables
    no_row None = refl
    no_row (Some lists) = refl

    no_calls : (planned : Option Planned) → WentAsPlanned rewriting false true planned planned
    no_calls None = refl
    no_calls (Some plan) = ((λ h. absurd cc), refl)
