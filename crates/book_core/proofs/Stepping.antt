-- What a step leaves.
use Rattle.std.proofs.Common.{◌≡◌, ℕ, ◌+◌, ◌-◌, ◌^◌, ◌≤◌, min, Bool, true, false, List, [], ◌∷◌, ◌++◌, length, length-append, cond, Option, Some, None, IfSome, ap, sym, ◌∙◌, refl, subst, arith}
use Rattle.std.specs.Prelude.{sum_by, is_some}
use Rattle.std.specs.List.{AllByRecursion}
use Rattle.std.specs.Option.{option_map}
use Rattle.std.proofs.lemmas.List.Sums.{sum_by-append}
use Rattle.std.proofs.lemmas.Grind.{common_steps}
use Rattle.policy_memory.specs.Kept.{Kept, Remembers}
use Rattle.keeper_core.specs.Lists.{Lists}
use Rattle.keeper_core.specs.Keeping.{KeeperFacts, Planned}
use Rattle.keeper_core.specs.declared.rows.Row.{Row}
use Rattle.book_rules.proofs.Histories.{state_after-more, plan_after-more}
use Rattle.book_rules.specs.Machine.{State, happened_behind, row_of, put_kept, outcome_of, told}
use Rattle.book_rules.specs.History.{Base, Answers, IsAsPlanned, state_after, tables_after, plan_after, calls_of, is_changing, is_full, keeps, not_kept, reply, rewrites}
use Rattle.book_rules.specs.Times.{IsInTime}
use Rattle.book_rules.specs.declared.events.Entry.{Entry}
use Rattle.book_rules.specs.declared.replies.Reply.{Reply}
use Rattle.good_tables.specs.Laws.{is_stated_in}
use Rattle.book_core.specs.Books.{Keeps, happened_after}
use Rattle.book_core.specs.Keeps.{Went, WentAsPlanned}

told_more : (opening : Lists) (history : List Entry) (entry : Entry) (before now : Option Lists)
    → IfSome before (λ lists. lists ≡ tables_after opening history)
    → now ≡ option_map (put_kept (row_of (state_after opening history) entry.event) entry.kept) before
    → IfSome now (λ lists. lists ≡ tables_after opening (history ++ entry ∷ []))
told_more opening history entry None now same e = subst (λ t. IfSome t (λ lists. lists ≡ tables_after opening (history ++ entry ∷ []))) (sym e) tt
told_more opening history entry (Some lists) now same e =
    subst (λ t. IfSome t (λ lists. lists ≡ tables_after opening (history ++ entry ∷ []))) (sym e)
    (ap (put_kept (row_of (state_after opening history) entry.event) entry.kept) same ∙ sym (ap (λ s. s.lists) (state_after-more opening history entry)))

tells_more : (change : Lists → Lists) (before now : Option Lists) → now ≡ option_map change before → is_some now ≡ is_some before
tells_more change None now e = ap is_some e
tells_more change (Some lists) now e = ap is_some e

planned_more : (opening : Lists) (history : List Entry) (entry : Entry) (start before now : Option Planned)
    → before ≡ option_map (λ plan. plan_after opening plan history) start
    → WentAsPlanned (rewrites entry.event) (is_changing opening history entry.event) entry.kept before now
    → now ≡ option_map (λ plan. plan_after opening plan (history ++ entry ∷ [])) start
planned_more opening history entry None before now same went = subst (λ b. WentAsPlanned (rewrites entry.event) (is_changing opening history entry.event) entry.kept b now) same went
planned_more opening history entry (Some plan) before now same went =
    (subst (λ b. WentAsPlanned (rewrites entry.event) (is_changing opening history entry.event) entry.kept b now) same went).1
    ∙ ap Some (sym (plan_after-more opening plan history entry))

not_kept-more : (history : List Entry) (entry : Entry) → not_kept (history ++ entry ∷ []) ≡ not_kept history + cond entry.kept 0 1
not_kept-more history entry = grind (arith, common_steps, sum_by-append (λ (e : Entry). cond e.kept 0 1) history (entry ∷ []))

counted_more : (start n one faults now : ℕ) → min (start + n) (2 ^ 64 - 1) ≤ faults → min (faults + one) (2 ^ 64 - 1) ≤ now → min (start + (n + one)) (2 ^ 64 - 1) ≤ now
counted_more start n one faults now h went = omega (arith, h, went)

-- a keeper goes on as its history does
pub keeps_more : (base : Base) (history : List Entry) (entry : Entry) (before now : KeeperFacts)
    → Keeps base history before → Went (rewrites entry.event) (row_of (state_after base.opening history) entry.event) entry.kept before now → Keeps base (history ++ entry ∷ []) now
keeps_more base history entry before now h went =
    record {
      tells = tells_more (put_kept (row_of (state_after base.opening history) entry.event) entry.kept) before.tables now.tables went.tables ∙ h.tells;
      told = told_more base.opening history entry before.tables now.tables h.told went.tables;
      staged = went.staged;
      counted = subst (λ n. min (base.start.faults + n) (2 ^ 64 - 1) ≤ now.faults) (sym (not_kept-more history entry))
          (counted_more base.start.faults (not_kept history) (cond entry.kept 0 1) before.faults now.faults h.counted went.faults);
      planned = planned_more base.opening history entry base.start.planned before.planned now.planned h.planned went.planned;
    }

as_planned : (base : Base) (history : List Entry) (entry : Entry) (start before now : Option Planned)
    → before ≡ option_map (λ plan. plan_after base.opening plan history) start
    → WentAsPlanned (rewrites entry.event) (is_changing base.opening history entry.event) entry.kept before now → IsAsPlanned base history entry start
as_planned base history entry None before now same went = tt
as_planned base history entry (Some plan) before now same went =
    (subst (λ b. WentAsPlanned (rewrites entry.event) (is_changing base.opening history entry.event) entry.kept b now) same went).0

-- and so the entry answers
pub answers_at : (base : Base) (history : List Entry) (entry : Entry) (answer : Reply) (before now : KeeperFacts)
    → Keeps base history before → Went (rewrites entry.event) (row_of (state_after base.opening history) entry.event) entry.kept before now
    → is_full base.limits history entry.event ≡ false → answer ≡ reply base.opening history entry.event entry.kept → IsInTime answer → Answers base history entry answer
answers_at base history entry answer before now h went room is in_time =
    record {
      room = room;
      reply = is;
      in_time = in_time;
      else_kept = went.else_kept;
      planned = as_planned base history entry base.start.planned before.planned now.planned h.planned went.planned;
    }

-- and so the policies are remembered
pub remembers_more : (opening : Lists) (history : List Entry) (entry : Entry) (items : List Entry) (policies : Kept) → items ≡ history ++ entry ∷ []
    → Remembers (happened_behind (state_after opening history) entry.event) (length history + 1) policies → Remembers (happened_after opening items) (length items) policies
remembers_more opening history entry items policies same r =
    subst (λ h. Remembers (happened_after opening h) (length h) policies) (sym same)
    (subst (λ n. Remembers (happened_after opening (history ++ entry ∷ [])) n policies) (sym (length-append history (entry ∷ [])))
    (subst (λ s. Remembers s.happened (length history + 1) policies) (sym (state_after-more opening history entry)) r))

-- and so each definition of the history is stated
pub stated_more : (history : List Entry) (entry : Entry) (items : List Entry) → items ≡ history ++ entry ∷ [] → AllByRecursion (λ (e : Entry). is_stated_in e.event ≡ true) history
    → is_stated_in entry.event ≡ true → AllByRecursion (λ (e : Entry). is_stated_in e.event ≡ true) items
stated_more history entry items same all one = subst (AllByRecursion (λ (e : Entry). is_stated_in e.event ≡ true)) (sym same) (joined history all)
  where
    joined : (es : List Entry) → AllByRecursion (λ (e : Entry). is_stated_in e.event ≡ true) es → AllByRecursion (λ (e : Entry). is_stated_in e.event ≡ true) (es ++ entry ∷ [])
    joined [] all = (one, tt)
    joined (e ∷ es) all = (all.0, joined es all.1)
