-- What events leave of the policies that are remembered.
use Rattle.std.proofs.Common.{◌≡◌, ℕ, ◌+◌, Bool, true, false, not, ◌&&◌, ◌||◌, List, Result, Ok, Err, OnOk, OnErr, refl, arith}
use Rattle.policy_memory.proofs.Lawful.{places-left-out}
use Rattle.policy_memory.specs.Kept.{Kept, Remembers}
use Rattle.policy_memory.specs.Remembered.{Happening}
use Rattle.book_rules.specs.Machine.{State, happened_by, is_flush}
use Rattle.book_rules.specs.declared.events.Command.{Command}
use Rattle.book_rules.specs.declared.events.Command.TheVariants.{PutApi, Deploy, PutStage, PutCanary, PromoteCanary, PutKey, PutPlan, JoinKey, Grant, Flush, Usage, Shutdown}

-- another event takes a place
pub remembers_next : (happened : List Happening) (place : ℕ) (kept : Kept) → Remembers happened place kept → Remembers happened (place + 1) kept
remembers_next happened place kept r = places-left-out happened place (place + 1) kept r (omega arith)

-- what holds always holds where a call succeeds
pub always : {A E : Type 0} (r : Result A E) (P : Type 0) → P → OnOk r P
always (Ok x) P p = p
always (Err e) P p = tt

pub always_err : {A E : Type 0} (r : Result A E) (P : Type 0) → P → OnErr r P
always_err (Ok x) P p = tt
always_err (Err e) P p = p

pub on_err : {A E : Type 0} (r : Result A E) (P Q : Type 0) → (P → Q) → OnErr r P → OnErr r Q
on_err (Ok x) P Q f p = tt
on_err (Err e) P Q f p = f p

pub or_first : (a b : Bool) → a ≡ true → (a || b) ≡ true
or_first true b e = refl
or_first false b e = absurd cc

-- an event that rewrites no row
pub shared_wants : (a in_place b : Bool) → a ≡ true → (a && not (in_place && false) || b) ≡ true
shared_wants true true b e = refl
shared_wants true false b e = refl
shared_wants false in_place b e = absurd cc

-- a command that is no Flush forgets nothing
pub unflushed : (s : State) (command : Command) → ((api stage : List ℕ) → command ≡ Flush api stage → ⊥) → happened_by s command ≡ s.happened
unflushed s (PutApi api definition) other = refl
unflushed s (Deploy api) other = refl
unflushed s (PutStage api stage number variables) other = refl
unflushed s (PutCanary api stage number share variables) other = refl
unflushed s (PromoteCanary api stage) other = refl
unflushed s (PutKey key value enabled) other = refl
unflushed s (PutPlan plan throttle quota stages) other = refl
unflushed s (JoinKey plan key) other = refl
unflushed s (Grant plan key amount) other = refl
unflushed s (Flush api stage) other = absurd (other api stage refl)
unflushed s (Usage plan key) other = refl
unflushed s Shutdown other = refl
