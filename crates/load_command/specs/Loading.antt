-- What a load comes to.
use Rattle.std.specs.Prelude.{◌≡◌, ◌⊎◌, ℕ, ◌+◌, List, [], ◌∷◌, ◌++◌, Option, Some, None}
use Rattle.book_rules.specs.History.{Base}
use Rattle.book_rules.specs.declared.events.Entry.{Entry}
use Rattle.book_rules.specs.declared.events.Limits.{Limits}
use Rattle.keeper_core.specs.Lists.{no_rows}
use Rattle.script_records.specs.Coding.{lines_of}
use Rattle.play_script.specs.Play.{IsFront, IsTurn, Output, Turn, status_at}
use Rattle.play_script.specs.declared.turns.End.{End}
use Rattle.play_session.specs.Sessions.{base_of}
use Rattle.load_command.specs.Lines.{call_lines, first_lines}
use Rattle.load_command.specs.Summary.{summary_of}

-- the history behind some lines, and the line that ended the load with what it printed, where one did
pub record Behind : Type 0 where
  pub history : List Entry
  pub stopped : Option (List ℕ × End)

-- what follows a line, unless the load ends there
abbrev pub GoesOn : Option End → Turn → (Behind → Type 0) → Behind → Type 0
GoesOn None now further behind = further behind
GoesOn (Some end) now further behind = behind ≡ record { history = now.history; stopped = Some (now.text, end) }

-- what lines come to behind a history, the first of them having this number: what each prints is let go but for the one that ends it
abbrev pub Loads : Base → ℕ → List Entry → List (List ℕ) → Behind → Type 0
Loads base number history [] behind = behind ≡ record { history = history; stopped = None }
Loads base number history (line ∷ lines) behind =
    (now : Turn) × IsTurn base number history line now × GoesOn now.ends now (Loads base (number + 1) now.history lines) behind

-- what is printed, and the status: the summary, or the line that ended the load
abbrev pub told_by : ℕ → List Entry → Option (List ℕ × End) → Output
told_by calls history None = record { text = summary_of no_rows history calls; status = 0 }
told_by calls history (Some stopped) = record { text = stopped.0; status = status_at stopped.1 }

abbrev pub load_lines : ℕ → ℕ → List (List ℕ)
load_lines seed calls = lines_of first_lines ++ call_lines seed 0 calls

-- what a load of so many calls by this seed prints, in a session of these limits
abbrev pub LoadedWithin : Limits → ℕ → ℕ → Output → Type 0
LoadedWithin limits seed calls output =
    (behind : Behind) × Loads (base_of limits []) 1 [] (load_lines seed calls) behind × (output ≡ told_by calls behind.history behind.stopped)

-- a front of it, where it is cut short: nothing, or some of what is printed
abbrev pub LoadedFront : Limits → ℕ → ℕ → List ℕ → Type 0
LoadedFront limits seed calls front = (front ≡ []) ⊎ ((output : Output) × LoadedWithin limits seed calls output × IsFront front output.text)
