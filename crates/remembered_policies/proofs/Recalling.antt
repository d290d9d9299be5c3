-- What a Recall is replied, by the history.
use Rattle.std.proofs.Common.{◌≡◌, ◌∙◌, ap, subst, sym, refl, ℕ, ◌+◌, ◌*◌, ◌<◌, Bool, true, false, List, [], ◌∷◌, ◌++◌, length, reverse, take, cond, Option, Some, None}
use Rattle.std.specs.Prelude.{nat_lt}
use Rattle.std.specs.List.{list_any}
use Rattle.std.specs.Option.{option_and_then}
use Rattle.std.proofs.lemmas.Bool.{lt-ltb, ltb-true}
use Rattle.std.proofs.lemmas.List.{append_assoc, reverse-append, reverse-reverse}
use Rattle.keeper_core.specs.Lists.{Lists}
use Rattle.policy_core.specs.declared.policy.Policy.{Policy}
use Rattle.policy_memory.specs.Names.{same_name}
use Rattle.policy_memory.specs.Remembered.{Happening, Learned, each_once, latest_names, learned_names, remembered, standing, usable}
use Rattle.policy_memory.specs.declared.names.PolicyName.{PolicyName}
use Rattle.book_rules.specs.History.{state_after, state_of}
use Rattle.book_rules.specs.Machine.{State, happened_behind, opened, recalled, time_of}
use Rattle.book_rules.specs.declared.events.Entry.{Entry}
use Rattle.book_rules.specs.declared.events.Event.TheVariants.{Learn}
use Rattle.book_rules.specs.declared.replies.Reply.TheVariants.{Remembered}
use Rattle.remembered_policies.specs.Laws.{IsNoneOf, NoneForgets, RemembersNothingElse, RemembersTheLastLesson, names_in}
use Rattle.remembered_policies.proofs.Lessons.{LessonIn, entries_stand, entry_names, lesson_in, states_on}
use Rattle.remembered_policies.proofs.Names.{Behind, among_first, few_before, itself, once_none, stands_behind}

-- WHAT IS REMEMBERED, in parts
by_parts : (happened : List Happening) (name : PolicyName) (t : ℕ) (what : Learned) → list_any (same_name name) (latest_names happened) ≡ true → standing name happened ≡ Some what
    → t < what.at + 1000 * what.ttl → remembered happened name t ≡ Some what.policy
unfolding remembered
by_parts happened name t what among stands below =
    ap (λ b. cond b (option_and_then (usable t) (standing name happened)) None) among
    ∙ ap (option_and_then (usable t)) stands
    ∙ ap (λ b. cond b (Some what.policy) None) (lt-ltb t (what.at + 1000 * what.ttl) below)

record Parts (happened : List Happening) (name : PolicyName) (t : ℕ) (policy : Policy) : Type 0 where
  what : Learned
  among : list_any (same_name name) (latest_names happened) ≡ true
  stands : standing name happened ≡ Some what
  below : t < what.at + 1000 * what.ttl
  is : what.policy ≡ policy

some_same : {A : Type 0} (a b : A) → Some a ≡ Some b → a ≡ b
some_same a b same = cc

in_parts : (happened : List Happening) (name : PolicyName) (t : ℕ) (policy : Policy) → remembered happened name t ≡ Some policy → Parts happened name t policy
unfolding remembered
in_parts happened name t policy e = pick (list_any (same_name name) (latest_names happened)) (standing name happened) refl refl e
  where
    told : (what : Learned) (b : Bool) → nat_lt t (what.at + 1000 * what.ttl) ≡ b → cond b (Some what.policy) None ≡ Some policy → (t < what.at + 1000 * what.ttl) × (what.policy ≡ policy)
    told what true below f = (ltb-true t (what.at + 1000 * what.ttl) below, some_same what.policy policy f)
    told what false below f = absurd cc

    pick : (b : Bool) (o : Option Learned) → list_any (same_name name) (latest_names happened) ≡ b → standing name happened ≡ o → cond b (option_and_then (usable t) o) None ≡ Some policy
        → Parts happened name t policy
    pick true (Some what) among stands f =
        let told = told what (nat_lt t (what.at + 1000 * what.ttl)) refl f in record { what = what; among = among; stands = stands; below = told.0; is = told.1 }
    pick true None among stands f = absurd cc
    pick false o among stands f = absurd cc

-- OVER ENTRIES, the newest first: behind a lesson
taught : (state : State) (event_of : Entry) (moment : ℕ) (name : PolicyName) (policy : Policy) (ttl : ℕ) → event_of.event ≡ Learn moment name policy ttl
    → happened_behind state event_of.event ≡ happened_behind state (Learn moment name policy ttl)
taught state entry moment name policy ttl e = ap (happened_behind state) e

names_behind : (state : State) (behind : List Entry) (lesson : Entry) (before : List Entry) (moment : ℕ) (name : PolicyName) (policy : Policy) (ttl : ℕ) → lesson.event ≡ Learn moment name policy ttl
    → learned_names (state_of state (behind ++ lesson ∷ before)).happened ≡ names_in behind ++ name ∷ learned_names (state_of state before).happened
names_behind state behind lesson before moment name policy ttl e =
    ap (λ (s : State). learned_names s.happened) (states_on state behind (lesson ∷ before))
    ∙ entry_names (state_of state (lesson ∷ before)) behind
    ∙ ap (λ h. names_in behind ++ learned_names h) (taught (state_of state before) lesson moment name policy ttl e)

stands_there : (state : State) (behind : List Entry) (lesson : Entry) (before : List Entry) (moment : ℕ) (name : PolicyName) (policy : Policy) (ttl : ℕ) → lesson.event ≡ Learn moment name policy ttl
    → IsNoneOf name (names_in behind) → NoneForgets (state_of state (lesson ∷ before)) name behind
    → standing name (state_of state (behind ++ lesson ∷ before)).happened ≡ Some (record { policy = policy; ttl = ttl; at = time_of (state_of state before) moment })
stands_there state behind lesson before moment name policy ttl e last stands =
    ap (λ (s : State). standing name s.happened) (states_on state behind (lesson ∷ before))
    ∙ entries_stand (state_of state (lesson ∷ before)) behind name last stands
    ∙ ap (standing name) (taught (state_of state before) lesson moment name policy ttl e)
    ∙ ap (λ b. cond b (Some (record { policy = policy; ttl = ttl; at = time_of (state_of state before) moment })) (standing name (state_of state before).happened)) (itself name)

is_among : (names : List PolicyName) (name : PolicyName) (rest : List PolicyName) → IsNoneOf name names → length (each_once names) < 1024
    → list_any (same_name name) (take 1024 (each_once (names ++ name ∷ rest))) ≡ true
is_among names name rest last few =
    let there : Behind names name rest = stands_behind names name rest last in
    ap (λ l. list_any (same_name name) (take 1024 l)) there.is ∙ among_first 1024 name (each_once names) there.tail few

are_few : (names : List PolicyName) (name : PolicyName) (rest : List PolicyName) → IsNoneOf name names
    → list_any (same_name name) (take 1024 (each_once (names ++ name ∷ rest))) ≡ true → length (each_once names) < 1024
are_few names name rest last among =
    let there : Behind names name rest = stands_behind names name rest last in
    few_before 1024 name (each_once names) (name ∷ there.tail) (once_none name names last)
    (sym (ap (λ l. list_any (same_name name) (take 1024 l)) there.is) ∙ among)

remembers_there : (state : State) (behind : List Entry) (lesson : Entry) (before : List Entry) (moment : ℕ) (name : PolicyName) (policy : Policy) (ttl t : ℕ) → lesson.event ≡ Learn moment name policy ttl
    → IsNoneOf name (names_in behind) → NoneForgets (state_of state (lesson ∷ before)) name behind → length (each_once (names_in behind)) < 1024
    → t < time_of (state_of state before) moment + 1000 * ttl → remembered (state_of state (behind ++ lesson ∷ before)).happened name t ≡ Some policy
remembers_there state behind lesson before moment name policy ttl t e last stands few below =
    let happened = (state_of state (behind ++ lesson ∷ before)).happened in
    let rest = learned_names (state_of state before).happened in
    by_parts happened name t (record { policy = policy; ttl = ttl; at = time_of (state_of state before) moment })
    (ap (λ l. list_any (same_name name) (take 1024 (each_once l))) (names_behind state behind lesson before moment name policy ttl e) ∙ is_among (names_in behind) name rest last few)
    (stands_there state behind lesson before moment name policy ttl e last stands)
    below

-- OVER A HISTORY, the oldest first
newest_first : (before : List Entry) (lesson : Entry) (behind : List Entry) → reverse (before ++ lesson ∷ behind) ≡ reverse behind ++ lesson ∷ reverse before
newest_first before lesson behind =
    reverse-append before (lesson ∷ behind)
    ∙ ap (λ l. l ++ reverse before) (reverse-append (lesson ∷ []) behind)
    ∙ append_assoc (reverse behind) (lesson ∷ []) (reverse before)

right_behind : (opening : Lists) (before : List Entry) (lesson : Entry) → state_after opening (before ++ lesson ∷ []) ≡ state_of (opened opening) (lesson ∷ reverse before)
unfolding state_after
right_behind opening before lesson = ap (state_of (opened opening)) (newest_first before lesson [])

after_all : (opening : Lists) (before : List Entry) (lesson : Entry) (behind : List Entry)
    → state_after opening (before ++ lesson ∷ behind) ≡ state_of (opened opening) (reverse behind ++ lesson ∷ reverse before)
unfolding state_after
after_all opening before lesson behind = ap (state_of (opened opening)) (newest_first before lesson behind)

after_it : (opening : Lists) (history : List Entry) → state_after opening history ≡ state_of (opened opening) (reverse history)
unfolding state_after
after_it opening history = refl

pub remembers : RemembersTheLastLesson
remembers opening before lesson behind learned name policy ttl moment kept is below =
    let history = before ++ lesson ∷ behind in
    let s = opened opening in
    let t = time_of (state_after opening history) moment in
    ap recalled
    (ap (λ (state : State). remembered state.happened name t) (after_all opening before lesson behind)
    ∙ remembers_there s (reverse behind) lesson (reverse before) learned name policy ttl t is.learns is.last
    (subst (λ (state : State). NoneForgets state name (reverse behind)) (right_behind opening before lesson) is.stands)
    is.few
    (subst (λ (state : State). t < time_of state learned + 1000 * ttl) (after_it opening before) below))

told_policy : (found : Option Policy) (policy : Policy) → recalled found ≡ Remembered policy → found ≡ Some policy
told_policy None policy e = absurd cc
told_policy (Some other) policy e = cc

pub nothing_else : RemembersNothingElse
nothing_else opening history name policy moment kept e =
    let s = opened opening in
    let t = time_of (state_after opening history) moment in
    let found : remembered (state_of s (reverse history)).happened name t ≡ Some policy =
    sym (ap (λ (state : State). remembered state.happened name t) (after_it opening history)) ∙ told_policy (remembered (state_after opening history).happened name t) policy e in
    let parts : Parts (state_of s (reverse history)).happened name t policy = in_parts (state_of s (reverse history)).happened name t policy found in
    let there : LessonIn s (reverse history) name parts.what = lesson_in s (reverse history) name parts.what refl parts.stands in
    let back : reverse (reverse there.behind) ≡ there.behind = reverse-reverse there.behind in
    let learns : there.lesson.event ≡ Learn there.moment name policy parts.what.ttl = there.learns ∙ ap (λ p. Learn there.moment name p parts.what.ttl) parts.is in
    let rest = learned_names (state_of s there.before).happened in
    let among : list_any (same_name name) (take 1024 (each_once (names_in there.behind ++ name ∷ rest))) ≡ true =
    sym (ap (λ l. list_any (same_name name) (take 1024 (each_once l)))
    (ap (λ l. learned_names (state_of s l).happened) there.parts ∙ names_behind s there.behind there.lesson there.before there.moment name policy parts.what.ttl learns)) ∙ parts.among in
    record {
      before = reverse there.before;
      lesson = there.lesson;
      behind = reverse there.behind;
      learned = there.moment;
      ttl = parts.what.ttl;
      parts = sym (reverse-reverse history) ∙ ap reverse there.parts ∙ newest_first there.behind there.lesson there.before;
      is = record {
        learns = learns;
        last = subst (λ l. IsNoneOf name (names_in l)) (sym back) there.last;
        stands =
            subst (λ l. NoneForgets (state_after opening (reverse there.before ++ there.lesson ∷ [])) name l) (sym back)
            (subst (λ (state : State). NoneForgets state name there.behind)
            (sym (right_behind opening (reverse there.before) there.lesson ∙ ap (λ l. state_of s (there.lesson ∷ l)) (reverse-reverse there.before))) there.stands);
        few = subst (λ l. length (each_once (names_in l)) < 1024) (sym back) (are_few (names_in there.behind) name rest there.last among);
      };
      in_time =
          subst (λ (state : State). t < time_of state there.moment + 1000 * parts.what.ttl)
          (sym (after_it opening (reverse there.before) ∙ ap (state_of s) (reverse-reverse there.before)))
          (subst (λ a. t < a + 1000 * parts.what.ttl) there.at parts.below);
    }
