-- What is shown of quotas at each point of a session's one history, and which calls are refused there.
use Rattle.std.specs.Prelude.{◌≡◌, ℕ, ◌+◌, ◌≤◌, nat_le, Bool, true, false, List, [], ◌∷◌, ◌++◌, All, ⊤, Option, Some, None, unwrap_or, if◌then◌else◌}
use Rattle.keeper_core.specs.Lists.{Lists}
use Rattle.usage_meter.specs.Allowances.{allowance_at}
use Rattle.usage_meter.specs.declared.allowance.Allowance.{Allowance}
use Rattle.usage_meter.specs.declared.period.Period.{Period}
use Rattle.usage_plans.specs.Deeds.{Account, Receipt, allowed_by, level_by, receipts_of, standing_by, used_by}
use Rattle.usage_plans.specs.Tallies.{is_spent, level_under}
use Rattle.book_rules.specs.Good.{bad_row}
use Rattle.book_rules.specs.History.{Base, Answers, state_after, tables_after}
use Rattle.book_rules.specs.Machine.{time_of}
use Rattle.book_rules.specs.PlanCommands.{key_with, usage_shown}
use Rattle.book_rules.specs.declared.events.Command.TheVariants.{Usage}
use Rattle.book_rules.specs.declared.events.Entry.{Entry}
use Rattle.book_rules.specs.declared.events.Event.{Event}
use Rattle.book_rules.specs.declared.events.Event.TheVariants.{Enter, Recall, Learn, Admit, Admin, Leave}
use Rattle.book_rules.specs.declared.replies.Reply.{Reply}
use Rattle.book_rules.specs.declared.replies.Reply.TheVariants.{Admitted, InvalidKey, QuotaExceeded, Store, Throttled}
use Rattle.book_ledgers.specs.Laws.{IsHeld, IsLedger, IsNow}
use Rattle.book_ledgers.specs.Ledgers.{Ledger, asks_by}
use Rattle.gate_walk.specs.Acts.{Act, took, refused, sent, entry_of}
use Rattle.gate_walk.specs.Lanes.{acts_of_all}
use Rattle.gate_walk.specs.declared.ended.LaneEnd.{LaneEnd}
use Rattle.gate_session.specs.Sessions.{LaneDid, LanesDid, Session}
use Rattle.outside_core.specs.Told.{LaneTold}

-- the receipts of a ledger
abbrev pub received : Ledger → List Receipt
received ledger = receipts_of ledger.opening ledger.events

-- the level of a ledger at t, and what stands of its period
abbrev pub level_in : Ledger → ℕ → Option ℕ
level_in ledger t = level_by ledger.opening (received ledger) t

abbrev pub standing_in : Ledger → ℕ → Option Allowance
standing_in ledger t = standing_by ledger.opening (received ledger) t

-- After this history there is a ledger of the plan and the key. Their account shows its level and its counts at t, and no period is
-- used beyond what the ledger allows.
pub record ShowsItsLedger (opening : Lists) (earlier : List Entry) (plan key : List ℕ) (account : Account) (t : ℕ) : Type 0 where
  pub ledger : Ledger
  pub its : IsLedger opening earlier plan key ledger
  pub level : level_under account.terms account.tally t ≡ level_in ledger t
  pub counts : allowance_at account.tally.allowance account.terms.quota t ≡ standing_in ledger t
  pub within : (p : Period) → used_by ledger.opening (received ledger) p ≤ allowed_by ledger.opening (received ledger) p

-- QUOTAS ARE CONSERVED at each point of a session's history
abbrev pub QuotasAreConserved : Type 0
QuotasAreConserved =
    (base : Base) (before now : List LaneTold) (ends : List LaneEnd) (history earlier later : List Entry) (plan key : List ℕ) (account : Account) (t : ℕ)
    → Session base before now ends history → history ≡ earlier ++ later
    → IsNow base.opening earlier t → IsHeld base.opening earlier plan key account
    → ShowsItsLedger base.opening earlier plan key account t

-- the reply to a call that is not refused, by whether its entry was kept
abbrev pub passed : List ℕ → List ℕ → Bool → Reply
passed plan key kept = if kept then Admitted key plan else Store

-- the reply to a call whose bucket is not spent, by what stands of its period
abbrev pub counted : List ℕ → List ℕ → Bool → Option Allowance → Reply
counted plan key kept None = passed plan key kept
counted plan key kept (Some standing) =
    if nat_le standing.allowance standing.used then QuotaExceeded standing.allowance standing.used else passed plan key kept

-- THE REPLY TO A CALL by its level and by what stands of its period
abbrev pub called : List ℕ → List ℕ → Bool → Option ℕ → Option Allowance → Reply
called plan key kept level standing = if is_spent level then Throttled (unwrap_or level 0) else counted plan key kept standing

-- after this history there is a ledger of the plan and the key, and the reply to a call at t is by its numbers
pub record IsByLedger (opening : Lists) (earlier : List Entry) (plan key : List ℕ) (t : ℕ) (kept : Bool) (answer : Reply) : Type 0 where
  pub ledger : Ledger
  pub its : IsLedger opening earlier plan key ledger
  pub exact : answer ≡ called plan key kept (level_in ledger t) (standing_in ledger t)

-- after this history a call of the stage with the value is by this plan and key
abbrev pub calls_by : Lists → List Entry → List ℕ × List ℕ → List ℕ → List ℕ → List ℕ → Bool
calls_by opening earlier stage value plan key = asks_by (tables_after opening earlier) stage plan key (key_with (tables_after opening earlier) value)

-- the reply to a call at t is by the ledger of the plan and the key that it is by, and InvalidKey where it is by none
pub record IsExact (opening : Lists) (earlier : List Entry) (stage : List ℕ × List ℕ) (value : List ℕ) (t : ℕ) (kept : Bool) (answer : Reply) : Type 0 where
  pub by_ledger : (plan key : List ℕ) → calls_by opening earlier stage value plan key ≡ true → IsByLedger opening earlier plan key t kept answer
  pub by_none : ((plan key : List ℕ) → calls_by opening earlier stage value plan key ≡ false) → answer ≡ InvalidKey

-- an event that asks for an admission has such a reply, at the moment at which it happens
abbrev pub IsExactFor : Lists → List Entry → Event → Bool → Reply → Type 0
IsExactFor opening earlier (Enter moment word api stage) kept answer = ⊤
IsExactFor opening earlier (Recall moment name) kept answer = ⊤
IsExactFor opening earlier (Learn moment name policy ttl) kept answer = ⊤
IsExactFor opening earlier (Admit moment api stage value) kept answer = IsExact opening earlier (api, stage) value (time_of (state_after opening earlier) moment) kept answer
IsExactFor opening earlier (Admin moment command) kept answer = ⊤
IsExactFor opening earlier (Leave status cause) kept answer = ⊤

-- CALLS ARE EXACT: so is each reply of a book
abbrev pub CallsAreExact : Type 0
CallsAreExact =
    (base : Base) (earlier : List Entry) (entry : Entry) (answer : Reply)
    → bad_row base.opening ≡ None → Answers base earlier entry answer → IsExactFor base.opening earlier entry.event entry.kept answer

-- a step that the seat took stands in the history, with the book's reply there, and where it asks for an admission that is exact
pub record StandsExactly (base : Base) (number : ℕ) (history : List Entry) (event : Event) (kept : Bool) (answer : Reply) : Type 0 where
  pub earlier : List Entry
  pub later : List Entry
  pub place : history ≡ earlier ++ entry_of number event kept ∷ later
  pub answered : Answers base earlier (entry_of number event kept) answer
  pub exact : IsExactFor base.opening earlier event kept answer

abbrev pub ActIsExact : Base → ℕ → List Entry → Act → Type 0
ActIsExact base number history (took event kept answer) = StandsExactly base number history event kept answer
ActIsExact base number history (refused event full) = ⊤
ActIsExact base number history (sent request outcome) = ⊤

-- each act of a lane does so
abbrev pub LaneIsExact : (base : Base) (number : ℕ) (b a : LaneTold) (e : LaneEnd) (history : List Entry) → LaneDid base number b a e history → Type 0
LaneIsExact base number b a e history did = All (ActIsExact base number history) (acts_of_all did.visits)

-- each lane from this number on does
abbrev pub LanesAreExact : (base : Base) (number : ℕ) (before now : List LaneTold) (ends : List LaneEnd) (history : List Entry)
    → LanesDid base number before now ends history → Type 0
LanesAreExact base number [] [] [] history did = ⊤
LanesAreExact base number [] [] (e ∷ ends) history did = ⊥
LanesAreExact base number [] (a ∷ now) ends history did = ⊥
LanesAreExact base number (b ∷ before) [] ends history did = ⊥
LanesAreExact base number (b ∷ before) (a ∷ now) [] history did = ⊥
LanesAreExact base number (b ∷ before) (a ∷ now) (e ∷ ends) history did =
    LaneIsExact base number b a e history did.0 × LanesAreExact base (number + 1) before now ends history did.1

-- REFUSALS ARE EXACT in every session
abbrev pub RefusalsAreExactInEverySession : Type 0
RefusalsAreExactInEverySession =
    (base : Base) (before now : List LaneTold) (ends : List LaneEnd) (history : List Entry)
    → bad_row base.opening ≡ None → (session : Session base before now ends history) → LanesAreExact base 1 before now ends history session.lanes

-- after this history there is a ledger of the plan and the key, and the usage that is told at t is what stands of its period
pub record TellsItsLedger (opening : Lists) (earlier : List Entry) (plan key : List ℕ) (t : ℕ) (answer : Reply) : Type 0 where
  pub ledger : Ledger
  pub its : IsLedger opening earlier plan key ledger
  pub exact : answer ≡ (usage_shown (standing_in ledger t)).reply

-- THE USAGE that is told is what the ledger comes to, where the tables hold an account
abbrev pub UsageIsExact : Type 0
UsageIsExact =
    (base : Base) (earlier : List Entry) (entry : Entry) (answer : Reply) (moment : ℕ) (plan key : List ℕ) (account : Account)
    → bad_row base.opening ≡ None → Answers base earlier entry answer → entry.event ≡ Admin moment (Usage plan key)
    → IsHeld base.opening earlier plan key account
    → TellsItsLedger base.opening earlier plan key (time_of (state_after base.opening earlier) moment) answer
