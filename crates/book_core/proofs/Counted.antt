-- One entry more is counted.
use Rattle.std.proofs.Common.{◌≡◌, ℕ, ◌+◌, ◌≤◌, Bool, true, false, List, [], ◌∷◌, ◌++◌, length, reverse, suc, cond, Option, Some, None, ap, sym, subst, ◌∙◌, refl, arith}
use Rattle.std.proofs.lemmas.List.{reverse-append, length-reverse}
use Rattle.std.specs.Prelude.{is_some}
use Rattle.call_facts.specs.declared.vars.Vars.{Vars}
use Rattle.keeper_core.specs.Lists.{Lists, deployment_row, stage_row}
use Rattle.keeper_core.specs.declared.rows.DeploymentRow.{DeploymentRow}
use Rattle.keeper_core.specs.declared.rows.StageRow.{StageRow}
use Rattle.book_rules.specs.History.{state_of, state_after}
use Rattle.book_rules.specs.Machine.{State, entered, entered_as, is_taken, opened, outcome_of, time_of, told, viewed}
use Rattle.book_rules.specs.Stored.{merged_in, variables_in}
use Rattle.book_rules.specs.declared.events.Event.TheVariants.{Enter, Recall, Learn, Admit, Admin, Leave}
use Rattle.book_rules.specs.declared.events.Entry.{Entry}
use Rattle.book_rules.specs.declared.events.Event.{Event}
use Rattle.book_rules.specs.declared.replies.Reply.{Reply}
use Rattle.book_core.specs.Books.{counted_with, counts_by, counts_of, is_admitted, is_call, is_exceeded, is_throttled, one_if, replied}
use Rattle.book_core.specs.declared.counts.Counts.{Counts}

pub counts_of-more : (opening : Lists) (history : List Entry) (entry : Entry)
    → counts_of opening (history ++ entry ∷ []) ≡ counted_with entry.event (replied (state_after opening history) entry) entry.kept (counts_of opening history)
unfolding counts_of state_after
counts_of-more opening history entry = ap (counts_by opening) (reverse-append history (entry ∷ []))

-- no count passes the number of entries
pub record AreFew (counts : Counts) (n : ℕ) : Type 0 where
  pub calls : counts.calls ≤ n
  pub admitted : counts.admitted ≤ n
  pub throttled : counts.throttled ≤ n
  pub quota : counts.quota ≤ n
  pub not_kept : counts.not_kept ≤ n

few_more : (event : Event) (reply : Reply) (kept : Bool) (counts : Counts) (n : ℕ) → AreFew counts n → AreFew (counted_with event reply kept counts) (suc n)
few_more event reply kept counts n h =
    record {
      calls = one_more (is_call event) counts.calls h.calls;
      admitted = one_more (is_admitted reply) counts.admitted h.admitted;
      throttled = one_more (is_throttled reply) counts.throttled h.throttled;
      quota = one_more (is_exceeded reply) counts.quota h.quota;
      not_kept = or_none kept counts.not_kept h.not_kept;
    }
  where
    one_more : (b : Bool) (m : ℕ) → m ≤ n → m + one_if b ≤ suc n
    one_more true m l = omega (arith, l)
    one_more false m l = omega (arith, l)

    or_none : (b : Bool) (m : ℕ) → m ≤ n → m + cond b 0 1 ≤ suc n
    or_none true m l = omega (arith, l)
    or_none false m l = omega (arith, l)

few_by : (opening : Lists) (entries : List Entry) → AreFew (counts_by opening entries) (length entries)
few_by opening [] = record { calls = omega arith; admitted = omega arith; throttled = omega arith; quota = omega arith; not_kept = omega arith }
few_by opening (newest ∷ older) =
    few_more newest.event (replied (state_of (opened opening) older) newest) newest.kept (counts_by opening older) (length older) (few_by opening older)

pub few_of : (opening : Lists) (history : List Entry) → AreFew (counts_of opening history) (length history)
unfolding counts_of
few_of opening history = subst (AreFew (counts_by opening (reverse history))) (length-reverse history) (few_by opening (reverse history))

pub counts_of-none : (opening : Lists) → counts_of opening [] ≡ record { calls = 0; admitted = 0; throttled = 0; quota = 0; not_kept = 0 }
unfolding counts_of
counts_of-none opening = refl

-- The place of an event changes no count.
same_counts : (event : Event) (r q : Reply) (kept : Bool) (counts : Counts) → is_admitted r ≡ is_admitted q → is_throttled r ≡ is_throttled q → is_exceeded r ≡ is_exceeded q
    → counted_with event r kept counts ≡ counted_with event q kept counts
same_counts event r q kept counts a t x =
    ap (λ b. record {
      calls = counts.calls + one_if (is_call event);
      admitted = counts.admitted + one_if b;
      throttled = counts.throttled + one_if (is_throttled r);
      quota = counts.quota + one_if (is_exceeded r);
      not_kept = counts.not_kept + cond kept 0 1;
    }) a
    ∙ ap (λ b. record {
      calls = counts.calls + one_if (is_call event);
      admitted = counts.admitted + one_if (is_admitted q);
      throttled = counts.throttled + one_if b;
      quota = counts.quota + one_if (is_exceeded r);
      not_kept = counts.not_kept + cond kept 0 1;
    }) t
    ∙ ap (λ b. record {
      calls = counts.calls + one_if (is_call event);
      admitted = counts.admitted + one_if (is_admitted q);
      throttled = counts.throttled + one_if (is_throttled q);
      quota = counts.quota + one_if b;
      not_kept = counts.not_kept + cond kept 0 1;
    }) x

-- the view of a stage is none of the replies that are counted
record IsNone (reply : Reply) : Type 0 where
  admitted : is_admitted reply ≡ false
  throttled : is_throttled reply ≡ false
  exceeded : is_exceeded reply ≡ false

viewed_none : (place at : ℕ) (canary : Bool) (number : ℕ) (variables : Vars) (found : Option DeploymentRow) → IsNone (viewed place at canary number variables found)
viewed_none place at canary number variables None = record { admitted = refl; throttled = refl; exceeded = refl }
viewed_none place at canary number variables (Some deployment) = record { admitted = refl; throttled = refl; exceeded = refl }

as_none : (lists : Lists) (place at : ℕ) (canary : Bool) (row : StageRow) → IsNone (entered_as lists place at canary row)
as_none lists place at true row = viewed_none place at true row.canary (merged_in row) (deployment_row lists row.api row.canary)
as_none lists place at false row = viewed_none place at false row.deployment (variables_in row.vars) (deployment_row lists row.api row.deployment)

entered_none : (lists : Lists) (place at word : ℕ) (found : Option StageRow) → IsNone (entered lists place at word found)
entered_none lists place at word None = record { admitted = refl; throttled = refl; exceeded = refl }
entered_none lists place at word (Some row) = as_none lists place at (is_taken row word) row

pub counts_at : (s : State) (place : ℕ) (event : Event) (kept : Bool) (counts : Counts)
    → counted_with event (told (is_some (outcome_of s 0 event).row) (outcome_of s place event).reply kept) kept counts
    ≡ counted_with event (told (is_some (outcome_of s 0 event).row) (outcome_of s 0 event).reply kept) kept counts
counts_at s place (Enter moment word api stage) kept counts =
    let here = entered_none s.lists place (time_of s moment) word (stage_row s.lists api stage) in
    let first = entered_none s.lists 0 (time_of s moment) word (stage_row s.lists api stage) in
    same_counts (Enter moment word api stage) (entered s.lists place (time_of s moment) word (stage_row s.lists api stage)) (entered s.lists 0 (time_of s moment) word (stage_row s.lists api stage))
    kept counts (here.admitted ∙ sym first.admitted) (here.throttled ∙ sym first.throttled) (here.exceeded ∙ sym first.exceeded)
counts_at s place (Recall moment name) kept counts = refl
counts_at s place (Learn moment name policy ttl) kept counts = refl
counts_at s place (Admit moment api stage value) kept counts = refl
counts_at s place (Admin moment command) kept counts = refl
counts_at s place (Leave status cause) kept counts = refl
