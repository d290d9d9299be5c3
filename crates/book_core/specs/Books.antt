-- What is always true of a book.
use Rattle.std.specs.Prelude.{◌≡◌, ℕ, ◌+◌, ◌-◌, ◌^◌, ◌≤◌, min, Bool, true, false, List, [], ◌∷◌, length, reverse, Option, Some, None, IfSome, is_some, if◌then◌else◌}
use Rattle.std.specs.List.{AllByRecursion}
use Rattle.std.specs.Option.{option_map}
use Rattle.keeper_core.specs.Lists.{AreInOrder, Lists}
use Rattle.keeper_core.specs.Keeping.{KeeperFacts}
use Rattle.book_rules.specs.Fits.{AreFit}
use Rattle.book_rules.specs.Good.{bad_row}
use Rattle.book_rules.specs.History.{Base, state_of, state_after, tables_after, plan_after, total_size, not_kept, is_full}
use Rattle.book_rules.specs.Machine.{State, opened, outcome_of, told}
use Rattle.book_rules.specs.declared.replies.Reply.{Reply}
use Rattle.book_rules.specs.declared.replies.Reply.TheVariants.{Entered, NoStage, Remembered, NotRemembered, Learned, Admitted, InvalidKey, Throttled, QuotaExceeded, Store, Left, Done, Deployed, Refused}
use Rattle.book_rules.specs.declared.replies.Reply.TheVariants.{Usage as Used}
use Rattle.book_rules.specs.declared.events.Entry.{Entry}
use Rattle.book_rules.specs.declared.events.Event.{Event}
use Rattle.book_rules.specs.declared.events.Event.TheVariants.{Enter, Recall, Learn, Admit, Admin, Leave}
use Rattle.book_core.specs.declared.counts.Counts.{Counts}
use Rattle.book_core.specs.declared.book.StepFault.{StepFault}
use Rattle.book_core.specs.declared.book.StepFault.TheVariants.{SessionFull, Memory}
use Rattle.book_rules.specs.declared.events.Limits.{Limits}
use Rattle.book_opening.specs.Ready.{AreReady}
use Rattle.good_tables.specs.Laws.{is_stated_in}
use Rattle.policy_memory.specs.Kept.{Remembers}
use Rattle.policy_memory.specs.Remembered.{Happening}
use Rattle.book_core.specs.Standing.{standing}
use Rattle.book_core.specs.declared.current.Current.{Current}

-- a keeper after a history: its tables, where it tells them, are the history's, and it tells them where it did at the start; nothing is
-- staged; it counted a fault for each entry that is not kept; and where it tells which of its calls fail, so many were made as the
-- history's changes make
pub record Keeps (base : Base) (history : List Entry) (keeper : KeeperFacts) : Type 0 where
  pub told : IfSome keeper.tables (λ lists. lists ≡ tables_after base.opening history)
  pub tells : is_some keeper.tables ≡ is_some base.start.tables
  pub staged : keeper.staged ≡ []
  pub counted : min (base.start.faults + not_kept history) (2 ^ 64 - 1) ≤ keeper.faults
  pub planned : keeper.planned ≡ option_map (λ plan. plan_after base.opening plan history) base.start.planned

-- what a contract sees of a book: its keeper, what no event changes, and its history
pub record BookFacts (K : Type 0) : Type 0 where
  pub keeper : K
  pub base : Base
  pub history : List Entry

-- How often a session was called, how its calls for admission were replied, and how many changes it did not keep.
abbrev pub is_call : Event → Bool
is_call (Enter moment word api stage) = true
is_call (Recall moment name) = false
is_call (Learn moment name policy ttl) = false
is_call (Admit moment api stage value) = false
is_call (Admin moment command) = false
is_call (Leave status cause) = false

abbrev pub is_admitted : Reply → Bool
is_admitted (Admitted key plan) = true
is_admitted reply = false

abbrev pub is_throttled : Reply → Bool
is_throttled (Throttled level) = true
is_throttled reply = false

abbrev pub is_exceeded : Reply → Bool
is_exceeded (QuotaExceeded allowance used) = true
is_exceeded reply = false

abbrev pub one_if : Bool → ℕ
one_if b = if b then 1 else 0

-- with an event more, that was replied so
abbrev pub counted_with : Event → Reply → Bool → Counts → Counts
counted_with event reply kept counts =
    record {
      calls = counts.calls + one_if (is_call event);
      admitted = counts.admitted + one_if (is_admitted reply);
      throttled = counts.throttled + one_if (is_throttled reply);
      quota = counts.quota + one_if (is_exceeded reply);
      not_kept = counts.not_kept + (if kept then 0 else 1);
    }

abbrev pub no_counts : Counts
no_counts = record { calls = 0; admitted = 0; throttled = 0; quota = 0; not_kept = 0 }

-- the reply to an entry behind this state; its place changes none that is counted
abbrev pub replied : State → Entry → Reply
replied before entry = told (is_some (outcome_of before 0 entry.event).row) (outcome_of before 0 entry.event).reply entry.kept

-- the counts of some entries, the newest first
abbrev pub counts_by : Lists → List Entry → Counts
counts_by opening [] = no_counts
counts_by opening (newest ∷ older) = counted_with newest.event (replied (state_of (opened opening) older) newest) newest.kept (counts_by opening older)

unfoldable pub counts_of : Lists → List Entry → Counts
counts_of opening history = counts_by opening (reverse history)

-- what happened to the policies that are remembered, the newest first
abbrev pub happened_after : Lists → List Entry → List Happening
happened_after opening history = (state_after opening history).happened

-- the tables that a book opened with are good and in order, and those that stand are the history's, with what they hold ready and rows that
-- may stand; each definition that the history puts is stated; the policies are remembered that were learned in the history; it is within its
-- limits, with room for all of it, and counted
pub record IsBook (base : Base) (history : List Entry) (keeper : KeeperFacts) (current : Current) (room bytes : ℕ) (counts : Counts) : Type 0 where
  pub good : bad_row base.opening ≡ None
  pub order : AreInOrder base.opening
  pub stated : AllByRecursion (λ (entry : Entry). is_stated_in entry.event ≡ true) history
  pub stands : standing (happened_after base.opening history) current ≡ state_after base.opening history
  pub remembers : Remembers (happened_after base.opening history) (length history) current.policies
  pub ready : AreReady current.tables.lists current.ready
  pub fits : AreFit current.tables.lists current.latest
  pub keeps : Keeps base history keeper
  pub bytes_are : bytes ≡ total_size history
  pub within : bytes ≤ base.limits.bytes
  pub entries : length history ≤ base.limits.entries
  pub reserved : base.limits.entries ≤ room
  pub counted : counts ≡ counts_of base.opening history

-- why a book refuses an event: a limit that it would pass, with the history's numbers as they stand, or want of memory
abbrev pub Refuses : Base → List Entry → ℕ → Event → StepFault → Type 0
Refuses base before seat event (SessionFull entries bytes) = (is_full base.limits before event ≡ true) × (entries ≡ length before) × (bytes ≡ total_size before)
Refuses base before seat event Memory = Unit {0}
