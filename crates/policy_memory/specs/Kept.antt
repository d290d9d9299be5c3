-- How the memory stands for what happened.
use Rattle.std.specs.Prelude.{◌≡◌, ℕ, ◌<◌, nat_lt, Bool, true, false, List, [], ◌∷◌, length, take, get_or, map, Option, Some, None, option_and_then, if◌then◌else◌}
use Rattle.std.specs.Map.{lookup}
use Rattle.lru.specs.LruCache.{lru_cache, put_entries}
use Rattle.policy_core.specs.declared.policy.Policy.{Policy}
use Rattle.policy_memory.specs.declared.flushes.StageFlush.{StageFlush}
use Rattle.policy_memory.specs.declared.lessons.Lesson.{Lesson}
use Rattle.policy_memory.specs.declared.names.PolicyName.{PolicyName}
use Rattle.policy_memory.specs.Names.{same_name, same_stage}
use Rattle.policy_memory.specs.Remembered.{Learned, Happening, learned, flushed, usable}

-- the lessons of the names that have a place, the name that was learned last first; and the last flush of each stage
pub record Kept : Type 0 where
  pub lessons : List (PolicyName × Lesson)
  pub flushes : List StageFlush

-- a happening, and its place in the session
pub record Placed : Type 0 where
  pub place : ℕ
  pub happening : Happening

-- what a lesson says, whatever its place
abbrev pub learned_of : Lesson → Learned
learned_of lesson = record { policy = lesson.policy; ttl = lesson.ttl; at = lesson.at }

abbrev pub lesson_at : ℕ → Learned → Lesson
lesson_at place what = record { policy = what.policy; ttl = what.ttl; at = what.at; place = place }

-- the happenings, without their places
abbrev pub happenings : List Placed → List Happening
happenings placed = map (λ p. p.happening) placed

-- places fall from the newest happening to the oldest, and all lie below the next
abbrev pub AreBelow : ℕ → List Placed → Type 0
AreBelow next [] = Unit {0}
AreBelow next (p ∷ older) = (p.place < next) × AreBelow p.place older

-- what learning and flushing leave of the lessons
abbrev pub lessons_with : ℕ → Happening → List (PolicyName × Lesson) → List (PolicyName × Lesson)
lessons_with place (learned name what) older = put_entries same_name (lru_cache older 1024) name (lesson_at place what)
lessons_with place (flushed api stage) older = older

abbrev pub lessons_of : List Placed → List (PolicyName × Lesson)
lessons_of [] = []
lessons_of (p ∷ older) = lessons_with p.place p.happening (lessons_of older)

-- the place of the last flush of an API and stage
abbrev pub flush_with : ℕ → Happening → List ℕ → List ℕ → Option ℕ → Option ℕ
flush_with place (learned name what) api stage older = older
flush_with place (flushed other_api other_stage) api stage older = if same_stage other_api other_stage api stage then Some place else older

abbrev pub last_flush : List Placed → List ℕ → List ℕ → Option ℕ
last_flush [] api stage = None
last_flush (p ∷ older) api stage = flush_with p.place p.happening api stage (last_flush older api stage)

-- the same, as it is kept
abbrev pub last_in : List StageFlush → List ℕ → List ℕ → Option ℕ
last_in [] api stage = None
last_in (f ∷ fs) api stage = if same_stage f.api f.stage api stage then Some f.place else last_in fs api stage

-- flushes are kept as before, but the last one of this API and stage is at this place
abbrev pub Flushes : List StageFlush → List ℕ → List ℕ → ℕ → List StageFlush → Type 0
Flushes old api stage place new =
    (other_api other_stage : List ℕ) → last_in new other_api other_stage ≡ (if same_stage api stage other_api other_stage then Some place else last_in old other_api other_stage)

-- THE RELATION: the memory stands for these happenings, at places below the next
pub record Remembers (happened : List Happening) (next : ℕ) (kept : Kept) : Type 0 where
  pub placed : List Placed
  pub same : happenings placed ≡ happened
  pub order : AreBelow next placed
  pub lessons : kept.lessons ≡ lessons_of placed
  pub flushes : (api stage : List ℕ) → last_in kept.flushes api stage ≡ last_flush placed api stage

-- a flush came behind a place
abbrev pub is_behind : ℕ → Option ℕ → Bool
is_behind place None = false
is_behind place (Some flush) = nat_lt place flush

-- what a look finds
abbrev pub found_with : ℕ → Option ℕ → Lesson → Option Policy
found_with t flush lesson = if is_behind lesson.place flush then None else usable t (learned_of lesson)

abbrev pub found : Kept → PolicyName → ℕ → Option Policy
found kept name t = option_and_then (found_with t (last_in kept.flushes name.api name.stage)) (lookup (same_name name) kept.lessons)

-- the first row of this API and stage stands here
pub record IsFirstFlush (rows : List StageFlush) (api stage : List ℕ) (at : ℕ) : Type 0 where
  pub within : at < length rows
  pub matches : (d : StageFlush) → same_stage (get_or rows at d).api (get_or rows at d).stage api stage ≡ true
  pub before : last_in (take at rows) api stage ≡ None
