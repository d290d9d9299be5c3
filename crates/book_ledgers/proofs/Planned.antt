-- After every history over tables that a book starts from, each join has a plan.
use Rattle.std.proofs.Common.{◌≡◌, ◌∙◌, sym, ap, subst, refl, ℕ, ◌+◌, ◌==◌, Bool, true, false, not, ◌&&◌, List, [], ◌∷◌, length, find, Option, Some, None, IfSome, Result, Ok, Err, cond}
use Rattle.std.specs.Prelude.{is_some, nat_le, nat_lt}
use Rattle.std.specs.Str.{bytes_eq}
use Rattle.std.proofs.lemmas.Bool.{and_parts}
use Rattle.std.proofs.lemmas.Slice.Eq.{bytes_eq-Decides}
use Rattle.keeper_core.specs.Lists.{Lists, is_plan, is_join, plan_behind, join_behind, key_row, plan_row, join_row, put, put_by}
use Rattle.keeper_core.specs.declared.rows.PlanRow.{PlanRow}
use Rattle.keeper_core.specs.declared.rows.JoinRow.{JoinRow}
use Rattle.keeper_core.proofs.Finding.{find_put, find_beside_put}
use Rattle.keeper_core.specs.Lists.{api_row, stage_row}
use Rattle.keeper_core.specs.declared.rows.Row.{Row}
use Rattle.keeper_core.specs.declared.rows.Row.TheVariants.{Meta, Api, Deployment, Stage, Key, Plan, Join}
use Rattle.keeper_core.specs.declared.rows.ApiRow.{ApiRow}
use Rattle.keeper_core.specs.declared.rows.KeyRow.{KeyRow}
use Rattle.keeper_core.specs.declared.rows.StageRow.{StageRow}
use Rattle.keeper_core.specs.declared.table.Table.{Table}
use Rattle.keeper_core.specs.declared.table.Table.TheVariants as table
use Rattle.usage_meter.specs.Allowances.{allowance_at}
use Rattle.usage_meter.specs.declared.allowance.Allowance.{Allowance}
use Rattle.usage_meter.specs.declared.period.Period.{Period}
use Rattle.usage_plans.specs.Rows.{kind_in, row_with, tally_in, terms_in}
use Rattle.usage_plans.specs.Tallies.{admission_of, grant_of, joined_at}
use Rattle.usage_plans.specs.declared.tally.Admission.{Admission}
use Rattle.usage_plans.specs.declared.tally.Admission.TheVariants as admission
use Rattle.usage_plans.specs.declared.tally.GrantRefusal.{GrantRefusal}
use Rattle.usage_plans.specs.declared.tally.Tally.{Tally}
use Rattle.book_rules.proofs.Viewing.{found_holds}
use Rattle.book_rules.specs.Admissions.{admitted_by, admitted_under, admitted_with, decided, plan_for}
use Rattle.book_rules.specs.Commands.{commanded}
use Rattle.book_rules.specs.Good.{bad_row, first_bad, first_refused, refused_by, takes_meta, takes_api, takes_deployment, takes_stage, takes_key, takes_plan, takes_join, takes_of_plan, takes_period, joined_already}
use Rattle.book_rules.specs.History.{state_of}
use Rattle.book_rules.specs.Limits.{most_deployments, most_joins}
use Rattle.book_rules.specs.Machine.{State, opened, put_kept, row_of, time_of}
use Rattle.book_rules.specs.Outcomes.{Outcome, first_refusal, says, unless, writes}
use Rattle.book_rules.specs.PlanCommands.{granted, grant_by, join_anew, join_by, join_tests, key_with, put_key_tests, put_plan_tests, unused, usage_by, usage_shown, used_of}
use Rattle.book_rules.specs.StageCommands.{canary_for, deployed, deployment_by, flush, next_deployment, promote, promote_tests, put_api_tests, put_canary_tests, put_stage_tests}
use Rattle.book_rules.specs.declared.events.Command.{Command}
use Rattle.book_rules.specs.declared.events.Command.TheVariants.{PutApi, Deploy, PutStage, PutCanary, PromoteCanary, PutKey, PutPlan, JoinKey, Grant, Flush, Usage, Shutdown}
use Rattle.book_rules.specs.declared.events.Entry.{Entry}
use Rattle.book_rules.specs.declared.events.Event.{Event}
use Rattle.book_rules.specs.declared.events.Event.TheVariants.{Enter, Recall, Learn, Admit, Admin, Leave}
use Rattle.book_rules.specs.declared.replies.Refusal.{Refusal}
use Rattle.book_rules.specs.declared.replies.Refusal.TheVariants.{Full}
use Rattle.book_rules.specs.declared.replies.Reply.TheVariants.{Deployed, Done, InvalidKey, Refused}

same_text : (a b : List ℕ) → bytes_eq a b ≡ true → a ≡ b
same_text a b e = (bytes_eq-Decides a b).0 e

is_itself : (a : List ℕ) → bytes_eq a a ≡ true
is_itself a = (bytes_eq-Decides a a).1 refl

-- what is found after a plan was put, and after a join was
pub plan_put : (rows : List PlanRow) (row : PlanRow) (plan : List ℕ) (b : Bool) → bytes_eq row.plan plan ≡ b
    → find (is_plan plan) (put_by (is_plan row.plan) (plan_behind row.plan) row rows) ≡ cond b (Some row) (find (is_plan plan) rows)
plan_put rows row plan true e =
    subst (λ p. find (is_plan p) (put_by (is_plan row.plan) (plan_behind row.plan) row rows) ≡ Some row) (same_text row.plan plan e) (find_put (is_plan row.plan) (plan_behind row.plan) row (is_itself row.plan) rows)
plan_put rows row plan false e = find_beside_put (is_plan row.plan) (plan_behind row.plan) (is_plan plan) row e (λ y h. ap (λ p. bytes_eq p plan) (same_text y.plan row.plan h) ∙ e) rows

both_are : (a b : Bool) → a ≡ true → b ≡ true → (a && b) ≡ true
both_are true true e f = refl
both_are true false e f = f
both_are false b e f = absurd cc

pub join_put : (rows : List JoinRow) (row : JoinRow) (plan key : List ℕ) (b : Bool) → (bytes_eq row.plan plan && bytes_eq row.key key) ≡ b
    → find (is_join plan key) (put_by (is_join row.plan row.key) (join_behind row.plan row.key) row rows) ≡ cond b (Some row) (find (is_join plan key) rows)
join_put rows row plan key true e =
    let parts = and_parts (bytes_eq row.plan plan) (bytes_eq row.key key) e in
    subst (λ p. find (is_join p key) (put_by (is_join row.plan row.key) (join_behind row.plan row.key) row rows) ≡ Some row) (same_text row.plan plan parts.0)
    (subst (λ k. find (is_join row.plan k) (put_by (is_join row.plan row.key) (join_behind row.plan row.key) row rows) ≡ Some row) (same_text row.key key parts.1)
    (find_put (is_join row.plan row.key) (join_behind row.plan row.key) row (both_are (bytes_eq row.plan row.plan) (bytes_eq row.key row.key) (is_itself row.plan) (is_itself row.key)) rows))
join_put rows row plan key false e =
    find_beside_put (is_join row.plan row.key) (join_behind row.plan row.key) (is_join plan key) row e
    (λ y h. let parts = and_parts (bytes_eq y.plan row.plan) (bytes_eq y.key row.key) h in
    ap (λ p. bytes_eq p plan && bytes_eq y.key key) (same_text y.plan row.plan parts.0) ∙ ap (λ k. bytes_eq row.plan plan && bytes_eq k key) (same_text y.key row.key parts.1) ∙ e) rows

some_same : {A : Type 0} (a b : A) → Some a ≡ Some b → a ≡ b
some_same a b same = cc

-- a join that is found has its names
pub named : (lists : Lists) (plan key : List ℕ) (row : JoinRow) → join_row lists plan key ≡ Some row → (row.plan ≡ plan) × (row.key ≡ key)
named lists plan key row found =
    let parts = and_parts (bytes_eq row.plan plan) (bytes_eq row.key key) (found_holds (is_join plan key) lists.joins row found) in
    (same_text row.plan plan parts.0, same_text row.key key parts.1)

-- EACH JOIN HAS A PLAN
abbrev pub HavePlans : Lists → Type 0
HavePlans lists = (plan key : List ℕ) (row : JoinRow) → join_row lists plan key ≡ Some row → is_some (plan_row lists plan) ≡ true

-- a row that is put leaves it so, where a join's plan stands
abbrev pub IsPlanned : Lists → Row → Type 0
IsPlanned lists (Meta row) = Unit {0}
IsPlanned lists (Api row) = Unit {0}
IsPlanned lists (Deployment row) = Unit {0}
IsPlanned lists (Stage row) = Unit {0}
IsPlanned lists (Key row) = Unit {0}
IsPlanned lists (Plan row) = Unit {0}
IsPlanned lists (Join row) = is_some (plan_row lists row.plan) ≡ true

abbrev RowPlanned : Lists → Outcome → Type 0
RowPlanned lists outcome = IfSome outcome.row (IsPlanned lists)

some_of : {R : Type 0} (b : Bool) (row : R) (before : Option R) → is_some before ≡ true → is_some (cond b (Some row) before) ≡ true
some_of true row before e = refl
some_of false row before e = e

put_planned : (row : Row) (lists : Lists) → IsPlanned lists row → HavePlans lists → HavePlans (put row lists)
put_planned (Meta row) lists new h = h
put_planned (Api row) lists new h = h
put_planned (Deployment row) lists new h = h
put_planned (Stage row) lists new h = h
put_planned (Key row) lists new h = h
put_planned (Plan row) lists new h = λ plan key join e.
    ap is_some (plan_put lists.plans row plan (bytes_eq row.plan plan) refl) ∙ some_of (bytes_eq row.plan plan) row (plan_row lists plan) (h plan key join e)
put_planned (Join row) lists new h = λ plan key join e. pick plan key join (bytes_eq row.plan plan && bytes_eq row.key key) refl (sym (join_put lists.joins row plan key (bytes_eq row.plan plan && bytes_eq row.key key) refl) ∙ e)
  where
    pick : (plan key : List ℕ) (join : JoinRow) (b : Bool) → (bytes_eq row.plan plan && bytes_eq row.key key) ≡ b → cond b (Some row) (join_row lists plan key) ≡ Some join → is_some (plan_row lists plan) ≡ true
    pick plan key join true same f = subst (λ p. is_some (plan_row lists p) ≡ true) (same_text row.plan plan (and_parts (bytes_eq row.plan plan) (bytes_eq row.key key) same).0) new
    pick plan key join false same f = h plan key join f

unless_planned : (lists : Lists) (refusal : Option Refusal) (outcome : Outcome) → RowPlanned lists outcome → RowPlanned lists (unless refusal outcome)
unless_planned lists None outcome h = h
unless_planned lists (Some refusal) outcome h = tt

deployed_planned : (lists : Lists) (found : Option ApiRow) (count : ℕ) → RowPlanned lists (deployment_by found count)
deployed_planned lists None count = tt
deployed_planned lists (Some row) count = full_or (nat_le most_deployments count)
  where
    full_or : (full : Bool) → RowPlanned lists (cond full (says (Refused Full)) (writes (Deployment (next_deployment row count)) (Deployed (count + 1))))
    full_or true = tt
    full_or false = tt

canary_planned : (lists : Lists) (found : Option StageRow) (number share : ℕ) (vars : List ℕ) → RowPlanned lists (canary_for found number share vars)
canary_planned lists None number share vars = tt
canary_planned lists (Some row) number share vars = tt

promoted_planned : (lists : Lists) (found : Option StageRow) → RowPlanned lists (promote found)
promoted_planned lists None = tt
promoted_planned lists (Some row) = unless_planned lists (first_refusal (promote_tests row)) _ tt

flush_planned : (lists : Lists) (found : Option StageRow) → RowPlanned lists (flush found)
flush_planned lists None = tt
flush_planned lists (Some row) = tt

granted_planned : (lists : Lists) (row : JoinRow) (made : Result Tally GrantRefusal) → is_some (plan_row lists row.plan) ≡ true → RowPlanned lists (granted row made)
granted_planned lists row (Ok tally) h = h
granted_planned lists row (Err refusal) h = tt

grant_planned : (lists : Lists) (t : ℕ) (plan key : List ℕ) (amount : ℕ) (row : Option JoinRow) (of : Option PlanRow) → join_row lists plan key ≡ row → plan_row lists plan ≡ of
    → RowPlanned lists (grant_by row of amount t)
grant_planned lists t plan key amount None of j p = tt
grant_planned lists t plan key amount (Some row) None j p = tt
grant_planned lists t plan key amount (Some row) (Some of) j p =
    granted_planned lists row (grant_of (terms_in of) (tally_in row) amount t) (ap (λ n. is_some (plan_row lists n)) (named lists plan key row j).0 ∙ ap is_some p)

used_planned : (lists : Lists) (period : Option Period) (standing : Allowance) → RowPlanned lists (used_of period standing)
used_planned lists None standing = tt
used_planned lists (Some period) standing = tt

shown_planned : (lists : Lists) (standing : Option Allowance) → RowPlanned lists (usage_shown standing)
shown_planned lists None = tt
shown_planned lists (Some standing) = used_planned lists standing.period standing

usage_planned : (lists : Lists) (t : ℕ) (row : Option JoinRow) (plan : Option PlanRow) → RowPlanned lists (usage_by row plan t)
usage_planned lists t None plan = tt
usage_planned lists t (Some row) None = tt
usage_planned lists t (Some row) (Some plan) = shown_planned lists (allowance_at (tally_in row).allowance (terms_in plan).quota t)

joined_planned : (lists : Lists) (t : ℕ) (plan key : List ℕ) (of : PlanRow) (found : Option JoinRow) → plan_row lists plan ≡ Some of → RowPlanned lists (join_anew lists t plan key of found)
joined_planned lists t plan key of (Some joined) p = tt
joined_planned lists t plan key of None p =
    unless_planned lists (first_refusal (join_tests lists plan key of)) (writes (Join (row_with (unused plan key) (joined_at (terms_in of) t))) Done) (ap is_some p)

join_planned : (lists : Lists) (t : ℕ) (plan key : List ℕ) (of : Option PlanRow) (found : Option KeyRow) → plan_row lists plan ≡ of → RowPlanned lists (join_by lists t plan key of found)
join_planned lists t plan key None found p = tt
join_planned lists t plan key (Some of) None p = tt
join_planned lists t plan key (Some of) (Some found) p = joined_planned lists t plan key of (join_row lists plan key) p

command_planned : (lists : Lists) (t : ℕ) (command : Command) → RowPlanned lists (commanded lists t command)
command_planned lists t (PutApi api definition) = unless_planned lists (first_refusal (put_api_tests lists api)) _ tt
command_planned lists t (Deploy api) = deployed_planned lists (api_row lists api) (deployed lists api)
command_planned lists t (PutStage api stage number variables) = unless_planned lists (first_refusal (put_stage_tests lists api stage number variables)) _ tt
command_planned lists t (PutCanary api stage number share variables) =
    unless_planned lists (first_refusal (put_canary_tests lists api stage number share variables)) _ (canary_planned lists (stage_row lists api stage) number share _)
command_planned lists t (PromoteCanary api stage) = promoted_planned lists (stage_row lists api stage)
command_planned lists t (PutKey key value enabled) = unless_planned lists (first_refusal (put_key_tests lists key value)) _ tt
command_planned lists t (PutPlan plan throttle quota stages) = unless_planned lists (first_refusal (put_plan_tests lists plan throttle quota stages)) _ tt
command_planned lists t (JoinKey plan key) = join_planned lists t plan key (plan_row lists plan) (key_row lists key) refl
command_planned lists t (Grant plan key amount) = grant_planned lists t plan key amount (join_row lists plan key) (plan_row lists plan) refl refl
command_planned lists t (Flush api stage) = flush_planned lists (stage_row lists api stage)
command_planned lists t (Usage plan key) = usage_planned lists t (join_row lists plan key) (plan_row lists plan)
command_planned lists t Shutdown = tt

decided_planned : (lists : Lists) (name : List ℕ) (of : PlanRow) (row : JoinRow) (made : Admission) → is_some (plan_row lists row.plan) ≡ true → RowPlanned lists (decided name of row made)
decided_planned lists name of row (admission.Admitted tally) h = h
decided_planned lists name of row (admission.Throttled level) h = tt
decided_planned lists name of row (admission.QuotaExceeded allowance used) h = tt

by_planned : (lists : Lists) (t : ℕ) (plan key : List ℕ) (of : Option PlanRow) (row : Option JoinRow) → plan_row lists plan ≡ of → join_row lists plan key ≡ row → RowPlanned lists (admitted_by key of row t)
by_planned lists t plan key None row p j = tt
by_planned lists t plan key (Some of) None p j = tt
by_planned lists t plan key (Some of) (Some row) p j =
    decided_planned lists key of row (admission_of (terms_in of) (tally_in row) t) (ap (λ n. is_some (plan_row lists n)) (named lists plan key row j).0 ∙ ap is_some p)

under_planned : (lists : Lists) (t : ℕ) (key : List ℕ) (plan : Option (List ℕ)) → RowPlanned lists (admitted_under lists t key plan)
under_planned lists t key None = tt
under_planned lists t key (Some plan) = by_planned lists t plan key (plan_row lists plan) (join_row lists plan key) refl refl

enabled_planned : (lists : Lists) (t : ℕ) (key : List ℕ) (plan : Option (List ℕ)) (enabled : Bool) → RowPlanned lists (cond enabled (admitted_under lists t key plan) (says InvalidKey))
enabled_planned lists t key plan true = under_planned lists t key plan
enabled_planned lists t key plan false = tt

admission_planned : (lists : Lists) (t : ℕ) (stage : List ℕ × List ℕ) (found : Option KeyRow) → RowPlanned lists (admitted_with lists t stage found)
admission_planned lists t stage None = tt
admission_planned lists t stage (Some row) = enabled_planned lists t row.key (plan_for lists stage row.key) (row.enabled == 1)

kept_planned : (lists : Lists) (row : Option Row) (kept : Bool) → IfSome row (IsPlanned lists) → HavePlans lists → HavePlans (put_kept row kept lists)
kept_planned lists None kept new h = h
kept_planned lists (Some row) true new h = put_planned row lists new h
kept_planned lists (Some row) false new h = h

event_planned : (s : State) (event : Event) (kept : Bool) → HavePlans s.lists → HavePlans (put_kept (row_of s event) kept s.lists)
event_planned s (Enter moment word api stage) kept h = h
event_planned s (Recall moment name) kept h = h
event_planned s (Learn moment name policy ttl) kept h = h
event_planned s (Admit moment api stage value) kept h =
    kept_planned s.lists (row_of s (Admit moment api stage value)) kept (admission_planned s.lists (time_of s moment) (api, stage) (key_with s.lists value)) h
event_planned s (Admin moment command) kept h = kept_planned s.lists (row_of s (Admin moment command)) kept (command_planned s.lists (time_of s moment) command) h
event_planned s (Leave status cause) kept h = h

-- TABLES THAT A BOOK STARTS FROM
taken_first : (b : Bool) (n : ℕ) (rest : Option ℕ) → cond (not b) (Some n) rest ≡ None → (b ≡ true) × (rest ≡ None)
taken_first true n rest e = (refl, e)
taken_first false n rest e = absurd cc

pub taken_found : (takes : List JoinRow → JoinRow → Bool) (p : JoinRow → Bool) (before rows : List JoinRow) (row : JoinRow) → first_refused (λ b r. not (takes b r)) before rows ≡ None
    → find p rows ≡ Some row → (b : List JoinRow) × (takes b row ≡ true)
taken_found takes p before [] row e found = absurd cc
taken_found takes p before (y ∷ ys) row e found =
    let here = taken_first (takes before y) (length before) (first_refused (λ b r. not (takes b r)) (y ∷ before) ys) e in
    pick (p y) found here.0 (taken_found takes p (y ∷ before) ys row here.1)
  where
    pick : (b : Bool) → cond b (Some y) (find p ys) ≡ Some row → takes before y ≡ true → (find p ys ≡ Some row → (b : List JoinRow) × (takes b row ≡ true)) → (b : List JoinRow) × (takes b row ≡ true)
    pick true f here more = (before, subst (λ r. takes before r ≡ true) (some_same y row f) here)
    pick false f here more = more f

later_bad : (table : Table) (found : Option ℕ) (more : List (Table × Option ℕ)) → first_bad ((table, found) ∷ more) ≡ None → (found ≡ None) × (first_bad more ≡ None)
later_bad table None more e = (refl, e)
later_bad table (Some row) more e = absurd cc

pub joins_taken : (lists : Lists) → bad_row lists ≡ None → refused_by (takes_join lists) lists.joins ≡ None
unfolding bad_row
joins_taken lists e =
    let from_joins : List (Table × Option ℕ) = (table.Joins, refused_by (takes_join lists) lists.joins) ∷ [] in
    let from_plans : List (Table × Option ℕ) = (table.Plans, refused_by (takes_plan lists) lists.plans) ∷ from_joins in
    let from_keys : List (Table × Option ℕ) = (table.Keys, refused_by takes_key lists.keys) ∷ from_plans in
    let from_stages : List (Table × Option ℕ) = (table.Stages, refused_by (takes_stage lists) lists.stages) ∷ from_keys in
    let from_deployments : List (Table × Option ℕ) = (table.Deployments, refused_by (takes_deployment lists) lists.deployments) ∷ from_stages in
    let from_apis : List (Table × Option ℕ) = (table.Apis, refused_by takes_api lists.apis) ∷ from_deployments in
    let apis = (later_bad table.Meta (refused_by takes_meta lists.metas) from_apis e).1 in
    let deployments = (later_bad table.Apis (refused_by takes_api lists.apis) from_deployments apis).1 in
    let stages = (later_bad table.Deployments (refused_by (takes_deployment lists) lists.deployments) from_stages deployments).1 in
    let keys = (later_bad table.Stages (refused_by (takes_stage lists) lists.stages) from_keys stages).1 in
    let plans = (later_bad table.Keys (refused_by takes_key lists.keys) from_plans keys).1 in
    let joins = (later_bad table.Plans (refused_by (takes_plan lists) lists.plans) from_joins plans).1 in
    (later_bad table.Joins (refused_by (takes_join lists) lists.joins) [] joins).0

opens_planned : (lists : Lists) → bad_row lists ≡ None → HavePlans lists
opens_planned lists good plan key row found =
    let taken = taken_found (takes_join lists) (is_join plan key) [] lists.joins row (joins_taken lists good) found in
    let a = nat_lt (length taken.0) most_joins in
    let b = is_some (key_row lists row.key) in
    let c = takes_of_plan row (plan_row lists row.plan) in
    let d = nat_lt row.at 4102444800000 in
    let e = takes_period row (kind_in row.pkind) in
    let at_e = and_parts (a && b && c && d) e (and_parts (a && b && c && d && e) (not (joined_already lists taken.0 row)) taken.1).0 in
    let at_c = and_parts (a && b) c (and_parts (a && b && c) d at_e.0).0 in
    subst (λ p. is_some (plan_row lists p) ≡ true) (named lists plan key row found).0 (stands_if (plan_row lists row.plan) at_c.1)
  where
    stands_if : (of : Option PlanRow) → takes_of_plan row of ≡ true → is_some of ≡ true
    stands_if None e = absurd cc
    stands_if (Some of) e = refl

pub have_plans : (opening : Lists) (entries : List Entry) → bad_row opening ≡ None → HavePlans (state_of (opened opening) entries).lists
have_plans opening [] good = opens_planned opening good
have_plans opening (newest ∷ older) good = event_planned (state_of (opened opening) older) newest.event newest.kept (have_plans opening older good)
