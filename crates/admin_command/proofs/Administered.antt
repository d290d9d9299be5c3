-- From the opening of a store to its keeper's return.
use Rattle.std.proofs.Common.{◌≡◌, ◌⊎◌, inl, inr, ℕ, ◌+◌, ◌-◌, ◌^◌, ◌≤◌, min, List, [], length, Option, Result, Ok, Err, IfOk, ap, ◌∙◌, subst, arith}
use Rattle.std.specs.Io.KnownBytes.{Appends}
use Rattle.backend_core.specs.Exchanges.{gained}
use Rattle.book_rules.specs.History.{Base, not_kept}
use Rattle.book_rules.specs.declared.events.Entry.{Entry}
use Rattle.book_rules.specs.declared.events.Limits.{Limits}
use Rattle.gw_base.specs.Whole.{AppendsFront}
use Rattle.outside_core.specs.Stores.{stored}
use Rattle.serve_command.specs.Opening.{Opened, NotOpened, IfBadStore}
use Rattle.serve_command.specs.Shelves.{Shelves}
use Rattle.serve_command.specs.declared.open.OpenStop.{OpenStop}
use Rattle.serve_command.specs.declared.open.OpenStop.TheVariants as stop
use Rattle.serve_command.specs.declared.stop.ServeStop.{ServeStop}
use Rattle.admin_command.specs.Administering.{Administers, CarriedOut, Came, lost_in}
use Rattle.admin_command.specs.Ends.{AdminEnds, IsCutShort, OverStore, WantsMemory}
use Rattle.admin_command.specs.Giving.{IsGivenBack}
use Rattle.admin_command.proofs.Lost.{as_many}

-- no more changes were lost than faults are counted
fewer_lost : (start lost all faults : ℕ) → all ≡ lost → min (start + lost) (2 ^ 64 - 1) ≤ faults → min all (2 ^ 64 - 1) ≤ faults
fewer_lost start lost all faults e h = omega (arith, e, h)

over_base : (limits : Limits) (name : List ℕ) (first opened now : Shelves) (base : Base) (empty history : List Entry)
    → Opened limits name first opened base empty → IsGivenBack name base history opened now → OverStore limits name first now base history
over_base limits name first opened now base empty history o b = record {
  limited = o.limited;
  opening = o.opening;
  good = o.good;
  keeper = b.keeper;
  kept_back = b.kept_back ∙ ap (λ r. gained r b.keeper) (ap (λ s. s.kept_back) o.lent);
  keeps = b.keeps;
  stores = b.stores ∙ ap (stored name b.keeper.tables) (ap (λ s. s.stores) o.lent);
  lost = fewer_lost base.start.faults (not_kept history) (length (lost_in history)) b.keeper.faults (as_many 0 history) b.keeps.counted;
  apart = record {
    waiting = b.waiting ∙ ap (λ s. s.waiting) o.lent;
    returned = b.returned ∙ ap (λ s. s.returned) o.lent;
    sessions = b.sessions ∙ ap (λ s. s.sessions) o.lent;
  };
}

-- the book kept its base
pub over_store : (limits : Limits) (name : List ℕ) (first opened now : Shelves) (base kept : Base) (empty history : List Entry) → kept ≡ base
    → Opened limits name first opened base empty → IsGivenBack name kept history opened now → OverStore limits name first now base history
over_store limits name first opened now base kept empty history same o b =
    over_base limits name first opened now base empty history o (subst (λ (x : Base). IsGivenBack name x history opened now) same b)

module _ (limits : Limits) (name : List ℕ) (lines : List (List ℕ)) (first now : Shelves) (written after : Option (List ℕ)) where
  -- no book opened
  pub unopened_ends : (r : Result ℕ ServeStop) (why : OpenStop) → NotOpened name first now why → IfOk r (λ status. (status ≡ 1) × IfBadStore why (λ line. Appends written after line)) → IfOk r (AdminEnds limits name lines first now written after)
  unopened_ends (Err e) why n told = tt
  unopened_ends (Ok status) (stop.BadStore table row) n told = inr (told.0, (table, row, n.cause, n.none, told.1))
  unopened_ends (Ok status) stop.Keeper n told = absurd told.1
  unopened_ends (Ok status) stop.Memory n told = absurd told.1

  pub unopened_cut : (why : OpenStop) → NotOpened name first now why → IfBadStore why (λ line. AppendsFront written after line) → IsCutShort limits name lines first now written after
  unopened_cut (stop.BadStore table row) n told = inr (table, row, n.cause, n.none, told)
  unopened_cut stop.Keeper n told = absurd told
  unopened_cut stop.Memory n told = absurd told

  pub unopened_memory : (why : OpenStop) → NotOpened name first now why → IfBadStore why (λ line. AppendsFront written after line) ⊎ (after ≡ written) → WantsMemory limits name lines first now written after
  unopened_memory why n (inl told) = inl (unopened_cut why n told)
  unopened_memory why n (inr same) = inr (n.none, same)

  -- the lines were carried out, and the keeper given back
  pub all_ends : (status : ℕ) (base : Base) (history : List Entry) → OverStore limits name first now base history
      → (came : Came) × Administers base 1 [] lines came × (history ≡ came.history) × (status ≡ came.status) × Appends written after came.text
      → AdminEnds limits name lines first now written after status
  all_ends status base history over (came, administers, left, is, wrote) =
      inl (base, came, subst (λ (h : List Entry). OverStore limits name first now base h) left over, administers, is, wrote)

  pub cut_ends : (base : Base) (history : List Entry) → OverStore limits name first now base history
      → (front : List ℕ) × CarriedOut base 1 [] lines front history × Appends written after front
      → IsCutShort limits name lines first now written after
  cut_ends base history over (front, out, wrote) = inl (base, history, front, over, out, wrote)
