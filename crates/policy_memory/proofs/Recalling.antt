-- What the memory recalls is what is remembered.
use Rattle.std.proofs.Common.{◌≡◌, ℕ, ◌+◌, ◌<◌, ◌≤◌, nat_lt, Bool, true, false, not, cond, List, [], ◌∷◌, map, Option, Some, None, IfSome, is_some, option_and_then, refl, sym, ap, subst, ◌∙◌, arith}
use Rattle.std.proofs.lemmas.Bool.Decides.{nat_tests}
use Rattle.std.specs.List.{list_any}
use Rattle.std.specs.Map.{keys_of, lookup}
use Rattle.lru.specs.LruCache.{lru_cache, put_entries}
use Rattle.policy_core.specs.declared.policy.Policy.{Policy}
use Rattle.policy_memory.specs.declared.lessons.Lesson.{Lesson}
use Rattle.policy_memory.specs.declared.names.PolicyName.{PolicyName}
use Rattle.policy_memory.specs.Kept.{Kept, Placed, AreBelow, Flushes, Remembers, learned_of, lesson_at, happenings, lessons_with, lessons_of, flush_with, last_flush, last_in, is_behind, found_with, found}
use Rattle.policy_memory.specs.Names.{same_name, same_name-equal, same_stage}
use Rattle.policy_memory.specs.Remembered.{Learned, Happening, learned, flushed, learned_names, each_once, latest_names, standing, usable, remembered}
use Rattle.policy_memory.proofs.Keys.{AreApart, any-without, AreApart-filter, lookup-any, keys-put, lookup-put_same, lookup-put_other}

-- ---- the names that have a place

pub each_once-apart : (names : List PolicyName) → AreApart same_name (each_once names)
each_once-apart [] = tt
each_once-apart (name ∷ names) = (any-without same_name name (each_once names), AreApart-filter same_name (λ other. not (same_name name other)) (each_once names) (each_once-apart names))

keys_with : (place : ℕ) (x : Happening) (es : List (PolicyName × Lesson)) (older : List Happening) → keys_of es ≡ latest_names older → keys_of (lessons_with place x es) ≡ latest_names (x ∷ older)
keys_with place (learned name what) es older h = keys-put same_name same_name-equal 1023 es name (lesson_at place what) (each_once (learned_names older)) h (each_once-apart (learned_names older))
keys_with place (flushed api stage) es older h = h

pub lessons-keys : (placed : List Placed) → keys_of (lessons_of placed) ≡ latest_names (happenings placed)
lessons-keys [] = refl
lessons-keys (p ∷ older) = keys_with p.place p.happening (lessons_of older) (happenings older) (lessons-keys older)

-- ---- what was learned last, with its place

abbrev held_with : ℕ → Happening → PolicyName → Option Lesson → Option Lesson
held_with place (learned other what) name older = cond (same_name name other) (Some (lesson_at place what)) older
held_with place (flushed api stage) name older = older

abbrev held : List Placed → PolicyName → Option Lesson
held [] name = None
held (p ∷ older) name = held_with p.place p.happening name (held older name)

below_later : (place next : ℕ) → place < next → (o : Option Lesson) → IfSome o (λ l. l.place < place) → IfSome o (λ l. l.place < next)
below_later place next lt None h = tt
below_later place next lt (Some l) h = omega (arith, h, lt)

flush_later : (place next : ℕ) → place < next → (o : Option ℕ) → IfSome o (λ f. f < place) → IfSome o (λ f. f < next)
flush_later place next lt None h = tt
flush_later place next lt (Some f) h = omega (arith, h, lt)

module _ (name : PolicyName) where
  found_before : (place : ℕ) (x : Happening) (es : List (PolicyName × Lesson)) (older : Option Lesson) → ((l : Lesson) → lookup (same_name name) es ≡ Some l → older ≡ Some l)
      → (l : Lesson) → lookup (same_name name) (lessons_with place x es) ≡ Some l → held_with place x name older ≡ Some l
  found_before place (learned other what) es older before l h = (elim (same_name name other) as (λ b. same_name name other ≡ b → cond b (Some (lesson_at place what)) older ≡ Some l) [
    | true ↦ λ t. sym (lookup-put_same same_name same_name-equal 1023 es other (lesson_at place what) name t) ∙ h
    | false ↦ λ t. before l (lookup-put_other same_name same_name-equal 1023 es other (lesson_at place what) name t l h)
  ]) refl
  found_before place (flushed api stage) es older before l h = before l h

  lessons-held : (placed : List Placed) (l : Lesson) → lookup (same_name name) (lessons_of placed) ≡ Some l → held placed name ≡ Some l
  lessons-held [] l h = absurd cc
  lessons-held (p ∷ older) l h = found_before p.place p.happening (lessons_of older) (held older name) (lessons-held older) l h

  held_below_with : (place next : ℕ) → place < next → (x : Happening) (older : Option Lesson) → IfSome older (λ l. l.place < place) → IfSome (held_with place x name older) (λ l. l.place < next)
  held_below_with place next lt (learned other what) older h = (elim (same_name name other) as (λ b. IfSome (cond b (Some (lesson_at place what)) older) (λ l. l.place < next)) [
    | true ↦ lt
    | false ↦ below_later place next lt older h
  ])
  held_below_with place next lt (flushed api stage) older h = below_later place next lt older h

  held-below : (next : ℕ) (placed : List Placed) → AreBelow next placed → IfSome (held placed name) (λ l. l.place < next)
  held-below next [] order = tt
  held-below next (p ∷ older) order = held_below_with p.place next order.0 p.happening (held older name) (held-below p.place older order.1)

module _ (api stage : List ℕ) where
  flush_below_with : (place next : ℕ) → place < next → (x : Happening) (older : Option ℕ) → IfSome older (λ f. f < place) → IfSome (flush_with place x api stage older) (λ f. f < next)
  flush_below_with place next lt (learned other what) older h = flush_later place next lt older h
  flush_below_with place next lt (flushed other_api other_stage) older h = (elim (same_stage other_api other_stage api stage) as (λ b. IfSome (cond b (Some place) older) (λ f. f < next)) [
    | true ↦ lt
    | false ↦ flush_later place next lt older h
  ])

  flush-below : (next : ℕ) (placed : List Placed) → AreBelow next placed → IfSome (last_flush placed api stage) (λ f. f < next)
  flush-below next [] order = tt
  flush-below next (p ∷ older) order = flush_below_with p.place next order.0 p.happening (last_flush older api stage) (flush-below p.place older order.1)

-- ---- whether it stands

abbrev stands : Option ℕ → Option Lesson → Option Learned
stands flush None = None
stands flush (Some l) = cond (is_behind l.place flush) None (Some (learned_of l))

not_behind : (place : ℕ) (flush : Option ℕ) → IfSome flush (λ f. f < place) → is_behind place flush ≡ false
not_behind place None h = refl
not_behind place (Some f) h = grind (arith, nat_tests, h)

gone : (place : ℕ) (o : Option Lesson) → IfSome o (λ l. l.place < place) → stands (Some place) o ≡ None
gone place None h = refl
gone place (Some l) h = let behind : nat_lt l.place place ≡ true = grind (arith, nat_tests, h) in rw behind refl

module _ (name : PolicyName) where
  stands_with : (place : ℕ) (x : Happening) (older : List Placed) → AreBelow place older → stands (last_flush older name.api name.stage) (held older name) ≡ standing name (happenings older)
      → stands (flush_with place x name.api name.stage (last_flush older name.api name.stage)) (held_with place x name (held older name)) ≡ standing name (x ∷ happenings older)
  stands_with place (learned other what) older order h = (elim (same_name name other) as (λ b. stands (last_flush older name.api name.stage) (cond b (Some (lesson_at place what)) (held older name)) ≡ cond b (Some what) (standing name (happenings older))) [
    | true ↦ ap (λ b. cond b None (Some what)) (not_behind place (last_flush older name.api name.stage) (flush-below name.api name.stage place older order))
    | false ↦ h
  ])
  stands_with place (flushed api stage) older order h = (elim (same_stage api stage name.api name.stage) as (λ b. stands (cond b (Some place) (last_flush older name.api name.stage)) (held older name) ≡ cond b None (standing name (happenings older))) [
    | true ↦ gone place (held older name) (held-below name place older order)
    | false ↦ h
  ])

  standing-is : (next : ℕ) (placed : List Placed) → AreBelow next placed → stands (last_flush placed name.api name.stage) (held placed name) ≡ standing name (happenings placed)
  standing-is next [] order = refl
  standing-is next (p ∷ older) order = stands_with p.place p.happening older order.1 (standing-is p.place older order.1)

  agrees : (t : ℕ) (flush : Option ℕ) (l : Lesson) → found_with t flush l ≡ option_and_then (usable t) (stands flush (Some l))
  agrees t flush l = (elim (is_behind l.place flush) as (λ b. cond b None (usable t (learned_of l)) ≡ option_and_then (usable t) (cond b None (Some (learned_of l)))) [
    | true ↦ refl
    | false ↦ refl
  ])

  looked : (t next : ℕ) (placed : List Placed) → AreBelow next placed → (o : Option Lesson) → lookup (same_name name) (lessons_of placed) ≡ o
      → option_and_then (found_with t (last_flush placed name.api name.stage)) o ≡ cond (list_any (same_name name) (latest_names (happenings placed))) (option_and_then (usable t) (standing name (happenings placed))) None
  looked t next placed order None h =
      let has : list_any (same_name name) (latest_names (happenings placed)) ≡ false = ap (list_any (same_name name)) (sym (lessons-keys placed)) ∙ lookup-any (same_name name) (lessons_of placed) ∙ ap is_some h in
      sym (ap (λ b. cond b (option_and_then (usable t) (standing name (happenings placed))) None) has)
  looked t next placed order (Some l) h =
      let has : list_any (same_name name) (latest_names (happenings placed)) ≡ true = ap (list_any (same_name name)) (sym (lessons-keys placed)) ∙ lookup-any (same_name name) (lessons_of placed) ∙ ap is_some h in
      let stood : stands (last_flush placed name.api name.stage) (Some l) ≡ standing name (happenings placed) = ap (stands (last_flush placed name.api name.stage)) (sym (lessons-held name placed l h)) ∙ standing-is next placed order in
      agrees t (last_flush placed name.api name.stage) l
      ∙ ap (λ s. option_and_then (usable t) s) stood
      ∙ sym (ap (λ b. cond b (option_and_then (usable t) (standing name (happenings placed))) None) has)

-- THE THEOREM: a look finds what is remembered
pub found-remembered : (happened : List Happening) (next : ℕ) (kept : Kept) (name : PolicyName) (t : ℕ) → Remembers happened next kept → found kept name t ≡ remembered happened name t
unfolding remembered
found-remembered happened next kept name t r =
    ap (λ es. option_and_then (found_with t (last_in kept.flushes name.api name.stage)) (lookup (same_name name) es)) r.lessons
    ∙ ap (λ f. option_and_then (found_with t f) (lookup (same_name name) (lessons_of r.placed))) (r.flushes name.api name.stage)
    ∙ looked name t next r.placed r.order (lookup (same_name name) (lessons_of r.placed)) refl
    ∙ ap (λ hs. cond (list_any (same_name name) (latest_names hs)) (option_and_then (usable t) (standing name hs)) None) r.same

-- ---- the relation goes on

pub remembers-learned : (happened : List Happening) (old new : Kept) (name : PolicyName) (lesson : Lesson) → new.lessons ≡ put_entries same_name (lru_cache old.lessons 1024) name lesson → new.flushes ≡ old.flushes
    → Remembers happened lesson.place old → Remembers (learned name (learned_of lesson) ∷ happened) (lesson.place + 1) new
remembers-learned happened old new name lesson e f r =
    record {
      placed = record { place = lesson.place; happening = learned name (learned_of lesson) } ∷ r.placed;
      same = ap (λ hs. learned name (learned_of lesson) ∷ hs) r.same;
      order = (omega arith, r.order);
      lessons = e ∙ ap (λ es. put_entries same_name (lru_cache es 1024) name lesson) r.lessons;
      flushes = λ api stage. ap (λ fs. last_in fs api stage) f ∙ r.flushes api stage;
    }

pub remembers-flushed : (happened : List Happening) (old new : Kept) (api stage : List ℕ) (place : ℕ) → new.lessons ≡ old.lessons → Flushes old.flushes api stage place new.flushes
    → Remembers happened place old → Remembers (flushed api stage ∷ happened) (place + 1) new
remembers-flushed happened old new api stage place e f r =
    record {
      placed = record { place = place; happening = flushed api stage } ∷ r.placed;
      same = ap (λ hs. flushed api stage ∷ hs) r.same;
      order = (omega arith, r.order);
      lessons = e ∙ r.lessons;
      flushes = λ a s. f a s ∙ ap (λ o. cond (same_stage api stage a s) (Some place) o) (r.flushes a s);
    }

order-later : (next later : ℕ) (placed : List Placed) → AreBelow next placed → next ≤ later → AreBelow later placed
order-later next later [] order le = tt
order-later next later (p ∷ older) order le = (omega (arith, order.0, le), order.1)

pub remembers-later : (happened : List Happening) (next later : ℕ) (kept : Kept) → Remembers happened next kept → next ≤ later → Remembers happened later kept
remembers-later happened next later kept r le = record { placed = r.placed; same = r.same; order = order-later next later r.placed r.order le; lessons = r.lessons; flushes = r.flushes }
