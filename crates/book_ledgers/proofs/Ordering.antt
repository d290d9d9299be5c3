-- Each ledger begins with a row that may open, and in it time never falls.
use Rattle.std.proofs.Common.{◌≡◌, ◌∙◌, sym, ap, subst, refl, ℕ, ◌*◌, ◌≤◌, ◌==◌, max, Bool, true, false, not, ◌&&◌, List, [], ◌∷◌, length, map, reverse, find, Option, Some, None, IfSome, option_map, cond, arith}
use Rattle.std.specs.Prelude.{is_some, nat_le, nat_lt, unwrap_or}
use Rattle.std.specs.Str.{bytes_eq}
use Rattle.std.proofs.lemmas.Bool.{and_parts}
use Rattle.keeper_core.specs.Lists.{Lists, is_join, key_row, plan_row, join_row}
use Rattle.keeper_core.specs.declared.rows.PlanRow.{PlanRow}
use Rattle.keeper_core.specs.declared.rows.JoinRow.{JoinRow}
use Rattle.usage_meter.specs.Levels.{capacity}
use Rattle.usage_meter.specs.Periods.{number_at}
use Rattle.usage_meter.specs.Windows.{AreInOrder}
use Rattle.usage_meter.specs.declared.period.Period.{Period}
use Rattle.usage_meter.specs.declared.period.PeriodKind.{PeriodKind}
use Rattle.usage_meter.specs.declared.throttle.Throttle.{Throttle}
use Rattle.usage_plans.specs.Deeds.{Account, Deed}
use Rattle.usage_plans.specs.Laws.{IsOpened, IsOpening}
use Rattle.usage_plans.specs.Rows.{kind_in, tally_in, terms_in}
use Rattle.usage_plans.specs.Tallies.{IsFilled, joined_at}
use Rattle.usage_plans.specs.declared.terms.TheConstants.{MOST_UNITS}
use Rattle.usage_plans.specs.declared.terms.Terms.{Terms}
use Rattle.book_rules.proofs.Times.{opens_in_time}
use Rattle.book_rules.specs.Good.{bad_row, is_flag, joined_already, takes_join, takes_level, takes_of_plan, takes_period}
use Rattle.book_rules.specs.History.{state_of, state_after}
use Rattle.book_rules.specs.Limits.{most_joins}
use Rattle.book_rules.specs.Machine.{State, last_moment, latest_of, opened, time_at, time_of}
use Rattle.book_rules.specs.PlanCommands.{join_key}
use Rattle.book_rules.specs.declared.events.Command.{Command}
use Rattle.book_rules.specs.declared.events.Command.TheVariants.{PutApi, Deploy, PutStage, PutCanary, PromoteCanary, PutKey, PutPlan, JoinKey, Grant, Flush, Usage, Shutdown}
use Rattle.book_rules.specs.declared.events.Entry.{Entry}
use Rattle.book_rules.specs.declared.events.Event.{Event}
use Rattle.book_rules.specs.declared.events.Event.TheVariants.{Enter, Recall, Learn, Admit, Admin, Leave}
use Rattle.book_ledgers.specs.Ledgers.{Ledger, account_in, account_of, begins, begun_by, deed_of, joined_account, joined_by, ledger_after, ledger_by, with_deed}
use Rattle.book_ledgers.specs.Laws.{IsLedger, LatestIsEarly, LedgersAreInOrder}
use Rattle.book_ledgers.proofs.Planned.{joins_taken, named, taken_found}

some_same : {A : Type 0} (a b : A) → Some a ≡ Some b → a ≡ b
some_same a b same = cc

-- AN ACCOUNT that may open a ledger, and does so at t or before
record OpensBy (account : Account) (t : ℕ) : Type 0 where
  may : IsOpening account
  before : account.tally.bucket.at ≤ t

-- A LEDGER that is in order up to t
record InOrder (ledger : Ledger) (t : ℕ) : Type 0 where
  may : IsOpening ledger.opening
  order : AreInOrder ledger.opening.tally.bucket.at (map (λ e. e.at) ledger.events) t

-- A KEY THAT JOINS has a full bucket, and no period
joined_filled : (terms : Terms) (t : ℕ) → IfSome terms.throttle (λ throttle. (joined_at terms t).bucket.level ≤ capacity throttle)
joined_filled terms t = by_throttle terms.throttle
  where
    by_throttle : (th : Option Throttle) → IfSome th (λ throttle. unwrap_or (option_map capacity th) 0 ≤ capacity throttle)
    by_throttle None = tt
    by_throttle (Some th) = omega arith

joined_opens : (terms : Terms) (t : ℕ) → OpensBy (record { terms = terms; tally = joined_at terms t }) t
joined_opens terms t =
    record {
      may = record { version = omega arith; filled = λ same. joined_filled terms t; opened = record { begun = tt; within = omega arith } };
      before = omega arith;
    }

-- THE ROWS OF TABLES THAT A BOOK STARTS FROM: what a join that is taken says
record JoinTaken (lists : Lists) (row : JoinRow) : Type 0 where
  plan : takes_of_plan row (plan_row lists row.plan) ≡ true
  period : takes_period row (kind_in row.pkind) ≡ true

join_taken : (lists : Lists) (before : List JoinRow) (row : JoinRow) → takes_join lists before row ≡ true → JoinTaken lists row
join_taken lists before row h =
    let a = nat_lt (length before) most_joins in
    let b = is_some (key_row lists row.key) in
    let c = takes_of_plan row (plan_row lists row.plan) in
    let d = nat_lt row.at 4102444800000 in
    let e = takes_period row (kind_in row.pkind) in
    let at_e = and_parts (a && b && c && d) e (and_parts (a && b && c && d && e) (not (joined_already lists before row)) h).0 in
    let at_d = and_parts (a && b && c) d at_e.0 in
    record { plan = (and_parts (a && b) c at_d.0).1; period = at_e.1 }

le_of : (x y : ℕ) → nat_le x y ≡ true → x ≤ y
le_of x y e = grind arith

zero_of : (n : ℕ) → (n == 0) ≡ true → n ≡ 0
zero_of n e = grind arith

row_opened : (row : JoinRow) (kind : Option PeriodKind) → kind_in row.pkind ≡ kind → takes_period row kind ≡ true → IsOpened (tally_in row).allowance row.at
row_opened row None is h =
    let at_used = and_parts ((row.pkind == 0) && (row.first == 1) && (row.pnumber == 0) && (row.allowance == 0)) (row.used == 0) h in
    let used = zero_of row.used at_used.1 in
    record {
      begun = subst (λ k. IfSome (option_map (λ (kind : PeriodKind). record { kind = kind; number = row.pnumber }) k) (λ (p : Period). p.number ≤ number_at p.kind row.at)) (sym is) tt;
      within = omega (arith, used);
    }
row_opened row (Some kind) is h =
    let at_used = and_parts (is_flag row.first && nat_le row.pnumber (number_at kind row.at) && nat_le row.allowance MOST_UNITS) (nat_le row.used row.allowance) h in
    let at_allowance = and_parts (is_flag row.first && nat_le row.pnumber (number_at kind row.at)) (nat_le row.allowance MOST_UNITS) at_used.0 in
    let at_number = and_parts (is_flag row.first) (nat_le row.pnumber (number_at kind row.at)) at_allowance.0 in
    record {
      begun = subst (λ k. IfSome (option_map (λ (kind : PeriodKind). record { kind = kind; number = row.pnumber }) k) (λ (p : Period). p.number ≤ number_at p.kind row.at)) (sym is)
          (le_of row.pnumber (number_at kind row.at) at_number.1);
      within = le_of row.used row.allowance at_used.1;
    }

row_filled : (of : PlanRow) (row : JoinRow) → takes_level row of ≡ true → IsFilled (terms_in of) (tally_in row)
row_filled of row h same = pick (of.burst == 0)
  where
    pick : (b : Bool) → IfSome (cond b None (Some (record { rate = of.rate; burst = of.burst }))) (λ (throttle : Throttle). row.level ≤ capacity throttle)
    pick true = tt
    pick false = level
      where
        level : row.level ≤ 1000 * of.burst
        level = grind (arith, h, same)

version_below : (of : PlanRow) (row : JoinRow) → takes_level row of ≡ true → row.tversion ≤ of.tversion
version_below of row h = grind (arith, h)

-- no row is later than the latest
latest_least : (p : JoinRow → Bool) (rows : List JoinRow) (row : JoinRow) → find p rows ≡ Some row → row.at ≤ latest_of rows
latest_least p [] row e = absurd cc
latest_least p (y ∷ ys) row e = pick (p y) e (latest_least p ys row)
  where
    pick : (b : Bool) → cond b (Some y) (find p ys) ≡ Some row → (find p ys ≡ Some row → row.at ≤ latest_of ys) → row.at ≤ max y.at (latest_of ys)
    pick true f more = subst (λ (r : JoinRow). r.at ≤ max y.at (latest_of ys)) (some_same y row f) (omega arith)
    pick false f more = let l = more f in omega (arith, l)

row_opens : (lists : Lists) (plan key : List ℕ) → bad_row lists ≡ None → (of : PlanRow) (row : JoinRow) → plan_row lists plan ≡ Some of → join_row lists plan key ≡ Some row
    → OpensBy (record { terms = terms_in of; tally = tally_in row }) (latest_of lists.joins)
row_opens lists plan key good of row f j =
    let found = taken_found (takes_join lists) (is_join plan key) [] lists.joins row (joins_taken lists good) j in
    let said = join_taken lists found.0 row found.1 in
    let level : takes_level row of ≡ true = subst (λ o. takes_of_plan row o ≡ true) (ap (plan_row lists) (named lists plan key row j).0 ∙ f) said.plan in
    record {
      may = record { version = version_below of row level; filled = row_filled of row level; opened = row_opened row (kind_in row.pkind) refl said.period };
      before = latest_least (is_join plan key) lists.joins row j;
    }

account_opens : (lists : Lists) (plan key : List ℕ) → bad_row lists ≡ None → (of : Option PlanRow) (row : Option JoinRow) → plan_row lists plan ≡ of → join_row lists plan key ≡ row
    → IfSome (account_of of row) (λ account. OpensBy account (latest_of lists.joins))
account_opens lists plan key good None row f j = tt
account_opens lists plan key good (Some of) None f j = tt
account_opens lists plan key good (Some of) (Some row) f j = row_opens lists plan key good of row f j

-- WHAT BEGINS by an event
accounts_open : (some : Bool) (t : ℕ) (of : Option PlanRow)
    → IfSome (cond some (option_map (λ (row : PlanRow). record { terms = terms_in row; tally = joined_at (terms_in row) t }) of) None) (λ (account : Account). OpensBy account t)
accounts_open false t of = tt
accounts_open true t None = tt
accounts_open true t (Some of) = joined_opens (terms_in of) t

if_opens : (b : Bool) (t : ℕ) (account : Option Account) → IfSome account (λ a. OpensBy a t) → IfSome (cond b account None) (λ (a : Account). OpensBy a t)
if_opens true t account h = h
if_opens false t account h = tt

command_opens : (lists : Lists) (t : ℕ) (command : Command) (plan key : List ℕ) → IfSome (joined_by lists t command plan key) (λ a. OpensBy a t)
command_opens lists t (PutApi api definition) plan key = tt
command_opens lists t (Deploy api) plan key = tt
command_opens lists t (PutStage api stage number variables) plan key = tt
command_opens lists t (PutCanary api stage number share variables) plan key = tt
command_opens lists t (PromoteCanary api stage) plan key = tt
command_opens lists t (PutKey k value enabled) plan key = tt
command_opens lists t (PutPlan p throttle quota stages) plan key = tt
command_opens lists t (JoinKey p k) plan key =
    if_opens (bytes_eq p plan && bytes_eq k key) t (joined_account lists t p k) (accounts_open (is_some (join_key lists t p k).row) t (plan_row lists p))
command_opens lists t (Grant p k amount) plan key = tt
command_opens lists t (Flush api stage) plan key = tt
command_opens lists t (Usage p k) plan key = tt
command_opens lists t Shutdown plan key = tt

event_opens : (s : State) (event : Event) (kept : Bool) (plan key : List ℕ) → IfSome (begun_by s event kept plan key) (λ a. OpensBy a (time_at s event))
event_opens s (Enter moment word api stage) kept plan key = tt
event_opens s (Recall moment name) kept plan key = tt
event_opens s (Learn moment name policy ttl) kept plan key = tt
event_opens s (Admit moment api stage value) kept plan key = tt
event_opens s (Admin moment command) kept plan key = if_opens kept (time_of s moment) (joined_by s.lists (time_of s moment) command plan key) (command_opens s.lists (time_of s moment) command plan key)
event_opens s (Leave status cause) kept plan key = tt

-- TIME never falls
time_on : (s : State) (event : Event) → s.latest ≤ time_at s event
time_on s (Enter moment word api stage) = omega arith
time_on s (Recall moment name) = omega arith
time_on s (Learn moment name policy ttl) = omega arith
time_on s (Admit moment api stage value) = omega arith
time_on s (Admin moment command) = omega arith
time_on s (Leave status cause) = omega arith

order_later : (begin : ℕ) (moments : List ℕ) (x t : ℕ) → x ≤ t → AreInOrder begin moments x → AreInOrder begin moments t
order_later begin [] x t le h = omega (arith, le, h)
order_later begin (y ∷ ys) x t le h = (let first = h.0 in omega (arith, le, first), h.1)

-- STEP BY STEP
begun_ordered : (t : ℕ) (account : Option Account) → IfSome account (λ a. OpensBy a t) → IfSome (option_map begins account) (λ (l : Ledger). InOrder l t)
begun_ordered t None h = tt
begun_ordered t (Some account) h = record { may = h.may; order = h.before }

deed_ordered : (ledger : Ledger) (x t : ℕ) (kept : Bool) (deed : Option Deed) → x ≤ t → InOrder ledger x → InOrder (with_deed t kept deed ledger) t
deed_ordered ledger x t kept None le h = record { may = h.may; order = order_later ledger.opening.tally.bucket.at (map (λ e. e.at) ledger.events) x t le h.order }
deed_ordered ledger x t kept (Some deed) le h =
    record { may = h.may; order = (omega arith, order_later ledger.opening.tally.bucket.at (map (λ e. e.at) ledger.events) x t le h.order) }

entry_ordered : (s : State) (entry : Entry) (plan key : List ℕ) (ledger : Option Ledger) → IfSome ledger (λ l. InOrder l s.latest)
    → IfSome (ledger_after s entry plan key ledger) (λ l. InOrder l (time_at s entry.event))
entry_ordered s entry plan key None h = begun_ordered (time_at s entry.event) (begun_by s entry.event entry.kept plan key) (event_opens s entry.event entry.kept plan key)
entry_ordered s entry plan key (Some ledger) h =
    deed_ordered ledger s.latest (time_at s entry.event) entry.kept (deed_of s entry.event plan key) (time_on s entry.event) h

ordered : (opening : Lists) (plan key : List ℕ) → bad_row opening ≡ None → (entries : List Entry)
    → IfSome (ledger_by opening entries plan key) (λ l. InOrder l (state_of (opened opening) entries).latest)
ordered opening plan key good [] =
    begun_ordered (latest_of opening.joins) (account_in opening plan key) (account_opens opening plan key good (plan_row opening plan) (join_row opening plan key) refl refl)
ordered opening plan key good (newest ∷ older) = entry_ordered (state_of (opened opening) older) newest plan key (ledger_by opening older plan key) (ordered opening plan key good older)

-- of the ledger that is there
if_there : (ledger : Option Ledger) (l : Ledger) (t : ℕ) → IfSome ledger (λ l. InOrder l t) → ledger ≡ Some l → InOrder l t
if_there None l t h e = absurd cc
if_there (Some found) l t h e = subst (λ x. InOrder x t) (some_same found l e) h

ordered_after : (opening : Lists) (history : List Entry) (plan key : List ℕ) (ledger : Ledger) → bad_row opening ≡ None → IsLedger opening history plan key ledger
    → InOrder ledger (state_after opening history).latest
unfolding state_after
ordered_after opening history plan key ledger good is =
    if_there (ledger_by opening (reverse history) plan key) ledger (state_of (opened opening) (reverse history)).latest (ordered opening plan key good (reverse history)) is

pub may_open : (opening : Lists) (history : List Entry) (plan key : List ℕ) (ledger : Ledger) → bad_row opening ≡ None → IsLedger opening history plan key ledger → IsOpening ledger.opening
may_open opening history plan key ledger good is = (ordered_after opening history plan key ledger good is).may

pub in_order : LedgersAreInOrder
in_order opening history plan key ledger t now is =
    let h = ordered_after opening history plan key ledger now.good is in
    (h.may, record { order = order_later ledger.opening.tally.bucket.at (map (λ e. e.at) ledger.events) (state_after opening history).latest t now.latest h.order; early = now.early })

-- THE LATEST MOMENT is before the year 2100
time_within : (s : State) (moment : ℕ) → s.latest ≤ 4102444799999 → time_of s moment ≤ 4102444799999
unfolding last_moment
time_within s moment h = omega (arith, h)

event_within : (s : State) (event : Event) → s.latest ≤ 4102444799999 → time_at s event ≤ 4102444799999
event_within s (Enter moment word api stage) h = time_within s moment h
event_within s (Recall moment name) h = time_within s moment h
event_within s (Learn moment name policy ttl) h = time_within s moment h
event_within s (Admit moment api stage value) h = time_within s moment h
event_within s (Admin moment command) h = time_within s moment h
event_within s (Leave status cause) h = h

latest_within : (opening : Lists) → latest_of opening.joins ≤ 4102444799999 → (entries : List Entry) → (state_of (opened opening) entries).latest ≤ 4102444799999
latest_within opening h [] = h
latest_within opening h (newest ∷ older) = event_within (state_of (opened opening) older) newest.event (latest_within opening h older)

pub latest_early : LatestIsEarly
unfolding state_after
latest_early opening history good = let l = latest_within opening (opens_in_time opening good) (reverse history) in omega (arith, l)
