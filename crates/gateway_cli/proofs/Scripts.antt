-- Scripts over their limit, and within it.
use Rattle.play_script.proofs.Playing.{opened_nothing, says_front}
use Rattle.book_rules.specs.declared.events.Limits.{Limits}
use Rattle.std.proofs.Common.{◌≡◌, ℕ, Bool, ◌<◌, ◌≤◌, true, false, nat_lt, List, [], length, Option, Result, Ok, Err, IfOk, OnOk, OnErr, refl, sym, ◌∙◌, subst, arith}
use Rattle.std.proofs.lemmas.Grind.{common_steps}
use borrow.Author.Tests.{lt-ltb}
use Rattle.std.specs.Io.KnownBytes.{Appends}
use Rattle.gw_base.specs.Whole.{AppendsFront}
use Rattle.play_script.specs.Play.{SaysFront, Output, PlaysOpened, OpenedFront, PlayedBy, Played, PlayedFrontBy, PlayedFront, FailsToLoad, names_load, opening_of, script_limit, session_limits, too_long, IsFront}
use Rattle.play_script.specs.declared.stops.PlayStop.{PlayStop}
use Rattle.play_script.specs.declared.stops.PlayStop.TheVariants as play
use Rattle.gateway_cli.specs.Top.{Says, play_stopped_by}
use Rattle.gateway_cli.specs.declared.stopped.Stopped.{Stopped}
use Rattle.gateway_cli.specs.declared.stopped.Stopped.TheVariants as stopped

pub over : (script : List ℕ) → 67108864 < length script → nat_lt script_limit (length script) ≡ true
unfolding script_limit
over script h = lt-ltb 67108864 (length script) h

pub within : (script : List ℕ) → length script ≤ 67108864 → nat_lt script_limit (length script) ≡ false
unfolding script_limit
within script h = grind (arith, common_steps)

-- what is printed of a script over its limit
pub over_limit : (script : List ℕ) → 67108864 < length script → Played script too_long
unfolding Played
over_limit script h = subst (λ b. PlayedBy b script too_long) (sym (over script h)) refl

pub front_over_limit : (script front : List ℕ) → 67108864 < length script → IsFront front too_long.text → PlayedFront script front
unfolding PlayedFront
front_over_limit script front h is = subst (λ b. PlayedFrontBy b script front) (sym (over script h)) is

-- and within it
pub within_limit : (script : List ℕ) (output : Output) → length script ≤ 67108864 → PlaysOpened session_limits (opening_of script) output → Played script output
unfolding Played
within_limit script output h plays = subst (λ b. PlayedBy b script output) (sym (within script h)) plays

pub front_within_limit : (script front : List ℕ) → length script ≤ 67108864 → OpenedFront session_limits (opening_of script) front → PlayedFront script front
unfolding PlayedFront
front_within_limit script front h plays = subst (λ b. PlayedFrontBy b script front) (sym (within script h)) plays

-- nothing is a front of all
pub none_played : (script : List ℕ) → PlayedFront script []
unfolding PlayedFront
none_played script = go (nat_lt script_limit (length script))
  where
    go : (b : Bool) → PlayedFrontBy b script []
    go true = (too_long.text, refl)
    go false = opened_nothing session_limits (opening_of script) (names_load (opening_of script))

-- a script within its limit was played
pub plays_says : (script : List ℕ) (limits : Limits) (a b : Option (List ℕ)) (status : ℕ) → limits ≡ session_limits → length script ≤ 67108864
    → (text : List ℕ) × PlaysOpened limits (opening_of script) (record { text = text; status = status }) × Appends a b text → Says a b (Played script) status
plays_says script limits a b status same h (text, plays, wrote) =
    let output : Output = record { text = text; status = status } in
    (output, within_limit script output h (subst (λ (l : Limits). PlaysOpened l (opening_of script) output) same plays), (refl, wrote))

pub plays_front : (script : List ℕ) (limits : Limits) (a b : Option (List ℕ)) → limits ≡ session_limits → length script ≤ 67108864
    → SaysFront a b (OpenedFront limits (opening_of script)) → SaysFront a b (PlayedFront script)
plays_front script limits a b same h (text, plays, wrote) =
    (text, front_within_limit script text h (subst (λ (l : Limits). OpenedFront l (opening_of script) text) same plays), wrote)

-- a script over its limit was refused
pub says_too_long : {E : Type 0} (r : Result ℕ E) (script : List ℕ) (a b : Option (List ℕ)) → 67108864 < length script → IfOk r (λ s. s ≡ 1) → OnOk r (Appends a b too_long.text)
    → IfOk r (Says a b (Played script))
says_too_long (Ok s) script a b h is wrote = (too_long, over_limit script h, (is, wrote))
says_too_long (Err e) script a b h is wrote = tt

pub says_front_too_long : {E : Type 0} (r : Result ℕ E) (script : List ℕ) (a b : Option (List ℕ)) → 67108864 < length script → AppendsFront a b too_long.text
    → OnErr r (SaysFront a b (PlayedFront script))
says_front_too_long (Ok s) script a b h f = tt
says_front_too_long (Err e) script a b h f =
    let front = says_front a b too_long.text f in
    (front.0, front_over_limit script front.0 h front.1, front.2)

-- a script within its limit told the load to fail
pub told_to_fail : (script : List ℕ) → length script ≤ 67108864 → names_load (opening_of script) ≡ true → FailsToLoad script
unfolding FailsToLoad
told_to_fail script h named = (within script h, named)

-- and so the program stops for the keeper
pub told_by_script : (script : List ℕ) (stop : PlayStop) (told : Stopped) → length script ≤ 67108864 → told ≡ play_stopped_by stop
    → (stop ≡ play.Keeper → names_load (opening_of script) ≡ true) → told ≡ stopped.Keeper → FailsToLoad script
told_by_script script play.Keeper told h is named e = told_to_fail script h (named refl)
told_by_script script play.Output told h is named e = absurd cc
told_by_script script play.Memory told h is named e = absurd cc

-- a script over its limit told nothing
pub nothing_told : (script : List ℕ) → 67108864 < length script → FailsToLoad script → ⊥
unfolding FailsToLoad
nothing_told script h told = differ (sym (over script h) ∙ told.0)
  where
    differ : true ≡ false → ⊥
    differ e = cc

-- and the program stops for the output only where the load was not told to fail
pub not_told_by_script : (script : List ℕ) (stop : PlayStop) (told : Stopped) → told ≡ play_stopped_by stop
    → (stop ≡ play.Output → names_load (opening_of script) ≡ false) → told ≡ stopped.Output → FailsToLoad script → ⊥
unfolding FailsToLoad
not_told_by_script script play.Keeper told is named e fails = absurd cc
not_told_by_script script play.Output told is named e fails = differ (sym fails.1 ∙ named refl)
  where
    differ : true ≡ false → ⊥
    differ e = cc
not_told_by_script script play.Memory told is named e fails = absurd cc
