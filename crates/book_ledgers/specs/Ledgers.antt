-- What befell each key under each plan, by a history alone.
use Rattle.std.specs.Prelude.{◌≡◌, ℕ, ◌==◌, Bool, false, ◌&&◌, List, [], ◌∷◌, reverse, Option, Some, None, is_none, is_some, option_map, if◌then◌else◌}
use Rattle.std.specs.Str.{bytes_eq}
use Rattle.keeper_core.specs.Lists.{Lists, plan_row, join_row}
use Rattle.keeper_core.specs.declared.rows.KeyRow.{KeyRow}
use Rattle.keeper_core.specs.declared.rows.PlanRow.{PlanRow}
use Rattle.keeper_core.specs.declared.rows.JoinRow.{JoinRow}
use Rattle.usage_plans.specs.Deeds.{Account, Deed, call, grant, put, account_after}
use Rattle.usage_plans.specs.Deeds.{Event as Befell}
use Rattle.usage_plans.specs.Rows.{tally_in, terms_in}
use Rattle.usage_plans.specs.Tallies.{joined_at}
use Rattle.book_rules.specs.Admissions.{plan_for}
use Rattle.book_rules.specs.Good.{bad_row}
use Rattle.book_rules.specs.History.{state_of, tables_after}
use Rattle.book_rules.specs.Machine.{State, opened, time_at, time_of}
use Rattle.book_rules.specs.Outcomes.{first_refusal}
use Rattle.book_rules.specs.PlanCommands.{join_key, key_with, put_plan_tests}
use Rattle.book_rules.specs.declared.events.Command.{Command}
use Rattle.book_rules.specs.declared.events.Command.TheVariants.{PutPlan, JoinKey, Grant}
use Rattle.book_rules.specs.declared.events.Entry.{Entry}
use Rattle.book_rules.specs.declared.events.Event.{Event}
use Rattle.book_rules.specs.declared.events.Event.TheVariants.{Admit, Admin}

-- the account of a key under a plan: the plan's terms, and the tally of the join
abbrev pub account_of : Option PlanRow → Option JoinRow → Option Account
account_of None row = None
account_of (Some plan) None = None
account_of (Some plan) (Some row) = Some (record { terms = terms_in plan; tally = tally_in row })

abbrev pub account_in : Lists → List ℕ → List ℕ → Option Account
account_in lists plan key = account_of (plan_row lists plan) (join_row lists plan key)

-- A LEDGER: the account that it began with, and what befell it since, the newest first
pub record Ledger : Type 0 where
  pub opening : Account
  pub events : List Befell

abbrev pub begins : Account → Ledger
begins account = record { opening = account; events = [] }

-- a call asks by this key and this plan
abbrev pub is_named : List ℕ → Option (List ℕ) → Bool
is_named plan None = false
is_named plan (Some name) = bytes_eq name plan

abbrev pub asks_by : Lists → List ℕ × List ℕ → List ℕ → List ℕ → Option KeyRow → Bool
asks_by lists stage plan key None = false
asks_by lists stage plan key (Some row) = (row.enabled == 1) && bytes_eq row.key key && is_named plan (plan_for lists stage row.key)

-- what a command is to an account
abbrev pub deed_by : Lists → Command → List ℕ → List ℕ → Option Deed
deed_by lists (Grant p k amount) plan key = if bytes_eq p plan && bytes_eq k key then Some (grant amount) else None
deed_by lists (PutPlan p throttle quota stages) plan key =
    if bytes_eq p plan && is_none (first_refusal (put_plan_tests lists p throttle quota stages)) then Some (put throttle quota) else None
deed_by lists command plan key = None

-- what an event is to an account
abbrev pub deed_of : State → Event → List ℕ → List ℕ → Option Deed
deed_of s (Admit moment api stage value) plan key = if asks_by s.lists (api, stage) plan key (key_with s.lists value) then Some call else None
deed_of s (Admin moment command) plan key = deed_by s.lists command plan key
deed_of s event plan key = None

-- a key that joins: a full bucket, and no period
abbrev pub joined_account : Lists → ℕ → List ℕ → List ℕ → Option Account
joined_account lists t plan key =
    if is_some (join_key lists t plan key).row then option_map (λ (row : PlanRow). record { terms = terms_in row; tally = joined_at (terms_in row) t }) (plan_row lists plan) else None

abbrev pub joined_by : Lists → ℕ → Command → List ℕ → List ℕ → Option Account
joined_by lists t (JoinKey p k) plan key = if bytes_eq p plan && bytes_eq k key then joined_account lists t p k else None
joined_by lists t command plan key = None

abbrev pub begun_by : State → Event → Bool → List ℕ → List ℕ → Option Account
begun_by s (Admin moment command) kept plan key = if kept then joined_by s.lists (time_of s moment) command plan key else None
begun_by s event kept plan key = None

-- a ledger with what an event was to it
abbrev pub with_deed : ℕ → Bool → Option Deed → Ledger → Ledger
with_deed t kept None ledger = ledger
with_deed t kept (Some deed) ledger = record ledger { events = record { at = t; deed = deed; kept = kept } ∷ ledger.events }

abbrev pub ledger_after : State → Entry → List ℕ → List ℕ → Option Ledger → Option Ledger
ledger_after s entry plan key None = option_map begins (begun_by s entry.event entry.kept plan key)
ledger_after s entry plan key (Some ledger) = Some (with_deed (time_at s entry.event) entry.kept (deed_of s entry.event plan key) ledger)

-- THE LEDGER of a plan and a key after some entries, the newest first
abbrev pub ledger_by : Lists → List Entry → List ℕ → List ℕ → Option Ledger
ledger_by opening [] plan key = option_map begins (account_in opening plan key)
ledger_by opening (newest ∷ older) plan key = ledger_after (state_of (opened opening) older) newest plan key (ledger_by opening older plan key)

abbrev pub balance : Ledger → Account
balance ledger = account_after ledger.opening ledger.events

-- ROWS FOLLOW THEIR LEDGERS
abbrev pub RowsFollowTheirLedgers : Type 0
RowsFollowTheirLedgers =
    (opening : Lists) (history : List Entry) (plan key : List ℕ) → bad_row opening ≡ None
    → account_in (tables_after opening history) plan key ≡ option_map balance (ledger_by opening (reverse history) plan key)
