-- What giving a book's keeper back leaves of an outside.
use Rattle.std.specs.Prelude.{◌≡◌, ℕ, List, drop}
use Rattle.backend_core.specs.Exchanges.{gained}
use Rattle.book_core.specs.Books.{Keeps}
use Rattle.book_rules.specs.History.{Base}
use Rattle.book_rules.specs.declared.events.Entry.{Entry}
use Rattle.keeper_core.specs.Keeping.{KeeperFacts}
use Rattle.outside_core.specs.Stores.{stored}
use Rattle.serve_command.specs.Shelves.{Shelves}

-- the keeper has the tables of the history, where it tells them, and so has the store; all else stays
pub record IsGivenBack (name : List ℕ) (base : Base) (history : List Entry) (old new : Shelves) : Type 0 where
  pub keeper : KeeperFacts
  pub keeps : Keeps base history keeper
  pub kept_back : new.kept_back ≡ gained old.kept_back keeper
  pub stores : new.stores ≡ stored name keeper.tables old.stores
  pub waiting : new.waiting ≡ old.waiting
  pub returned : new.returned ≡ old.returned
  pub sessions : new.sessions ≡ old.sessions
  pub keepers : new.keepers_out ≡ drop 1 old.keepers_out
  pub lanes : new.lanes_out ≡ old.lanes_out
