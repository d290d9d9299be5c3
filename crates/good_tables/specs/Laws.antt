-- Tables that a book starts from stay such.
use Rattle.std.specs.Prelude.{◌≡◌, Bool, true, List, None}
use Rattle.std.specs.List.{AllByRecursion}
use Rattle.keeper_core.specs.Lists.{AreInOrder, Lists}
use Rattle.book_rules.specs.Good.{bad_row, is_stated}
use Rattle.book_rules.specs.History.{tables_after}
use Rattle.book_rules.specs.declared.events.Command.{Command}
use Rattle.book_rules.specs.declared.events.Command.TheVariants.{PutApi, Deploy, PutStage, PutCanary, PromoteCanary, PutKey, PutPlan, JoinKey, Grant, Flush, Usage, Shutdown}
use Rattle.book_rules.specs.declared.events.Entry.{Entry}
use Rattle.book_rules.specs.declared.events.Event.{Event}
use Rattle.book_rules.specs.declared.events.Event.TheVariants.{Enter, Recall, Learn, Admit, Admin, Leave}

-- the definition that a command puts is one that a document or a text states
abbrev pub puts_stated : Command → Bool
puts_stated (PutApi api definition) = is_stated definition
puts_stated (Deploy api) = true
puts_stated (PutStage api stage number variables) = true
puts_stated (PutCanary api stage number share variables) = true
puts_stated (PromoteCanary api stage) = true
puts_stated (PutKey key value enabled) = true
puts_stated (PutPlan plan throttle quota stages) = true
puts_stated (JoinKey plan key) = true
puts_stated (Grant plan key amount) = true
puts_stated (Flush api stage) = true
puts_stated (Usage plan key) = true
puts_stated Shutdown = true

abbrev pub is_stated_in : Event → Bool
is_stated_in (Enter moment word api stage) = true
is_stated_in (Recall moment name) = true
is_stated_in (Learn moment name policy ttl) = true
is_stated_in (Admit moment api stage value) = true
is_stated_in (Admin moment command) = puts_stated command
is_stated_in (Leave status cause) = true

-- GOOD TABLES STAY GOOD: where a book starts from the opening tables, one starts from those after any history
abbrev pub GoodTablesStayGood : Type 0
GoodTablesStayGood =
    (opening : Lists) (history : List Entry) → AreInOrder opening → bad_row opening ≡ None → AllByRecursion (λ (entry : Entry). is_stated_in entry.event ≡ true) history
    → bad_row (tables_after opening history) ≡ None
