-- When a store is refused for a row that no book opens with, where an outside tells its stores.
use Rattle.std.specs.Prelude.{◌≡◌, ℕ, false, List, [], ◌∷◌, ◌++◌, Option, Some, MatchOption}
use Rattle.std.specs.Io.KnownBytes.{Appends}
use Rattle.admin_command.specs.Administering.{Administers, Came}
use Rattle.admin_command.specs.Ends.{AdminEnds, OverStore}
use Rattle.book_rules.specs.Good.{bad_row}
use Rattle.book_rules.specs.History.{Base}
use Rattle.book_rules.specs.declared.events.Limits.{Limits}
use Rattle.gw_base.specs.Outside.{Rose}
use Rattle.keeper_core.specs.declared.table.Table.{Table}
use Rattle.outside_core.specs.Stores.{Stores, store_of}
use Rattle.serve_command.specs.Ends.{bad_store_line}
use Rattle.serve_command.specs.Serving.{Ends, Held, NotHeld}
use Rattle.serve_command.specs.Shelves.{Shelves}
use Rattle.session_chain.specs.Chains.{HeldSession, lines_of}
use Rattle.session_chain.specs.Ends.{has_next}

-- the outside counted no fault
abbrev pub CountsNone : Shelves → Shelves → Type 0
CountsNone old new = Rose old.faults new.faults → ⊥

-- the line of this row was written, with status 1, and nothing else was done
abbrev pub IsRefused : Shelves → Shelves → Option (List ℕ) → Option (List ℕ) → ℕ → Table × ℕ → Type 0
IsRefused old new written now status bad = (status ≡ 1) × NotHeld old new × Appends written now (bad_store_line bad.0 bad.1)

-- the lines were administered over the tables of the store
pub record IsAdministered (limits : Limits) (name : List ℕ) (lines : List (List ℕ)) (old new : Shelves) (told : Stores) (written now : Option (List ℕ)) (status : ℕ) : Type 0 where
  pub base : Base
  pub came : Came
  pub over : OverStore limits name old new base came.history
  pub opening : base.opening ≡ store_of name told
  pub administers : Administers base 1 [] lines came
  pub answered : status ≡ came.status
  pub wrote : Appends written now came.text

-- `admin` refuses a store exactly where a row of it is none that can be, and then names the first such row
abbrev pub AdminRefusesBadStores : Type 0
AdminRefusesBadStores =
    (limits : Limits) (name : List ℕ) (lines : List (List ℕ)) (old new : Shelves) (told : Stores) (written now : Option (List ℕ)) (status : ℕ)
    → old.stores ≡ Some told → CountsNone old new → AdminEnds limits name lines old new written now status
    → MatchOption (bad_row (store_of name told)) (IsAdministered limits name lines old new told written now status) (IsRefused old new written now status)

-- sessions were held, of which the first opened with the tables of the store
pub record IsServed (limits : Limits) (name : List ℕ) (number : ℕ) (old new : Shelves) (told : Stores) (written now : Option (List ℕ)) (status : ℕ) : Type 0 where
  pub full : List HeldSession
  pub last : HeldSession
  pub held : Held limits name number old new full last last.keeper
  pub opening : held.base.opening ≡ store_of name told
  pub ended : has_next last.ends last.history ≡ false
  pub answered : status ≡ 0
  pub wrote : Appends written now (lines_of (full ++ last ∷ []))

-- `serve` refuses a store exactly where a row of it is none that can be, and then names the first such row
abbrev pub ServeRefusesBadStores : Type 0
ServeRefusesBadStores =
    (limits : Limits) (name : List ℕ) (number : ℕ) (old new : Shelves) (told : Stores) (written now : Option (List ℕ)) (status : ℕ)
    → old.stores ≡ Some told → CountsNone old new → Ends limits name number old new written now status
    → MatchOption (bad_row (store_of name told)) (IsServed limits name number old new told written now status) (IsRefused old new written now status)
