-- What lines of commands do over a book, and what they print.
use Rattle.std.specs.Prelude.{◌≡◌, ◌⊎◌, ℕ, ◌+◌, Bool, true, false, List, [], ◌∷◌, ◌++◌, Option, Some, None, Ok, Err, if◌then◌else◌}
use Rattle.book_rules.specs.History.{Base, Answers, is_full}
use Rattle.book_rules.specs.declared.events.Entry.{Entry}
use Rattle.book_rules.specs.declared.events.Event.{Event}
use Rattle.book_rules.specs.declared.events.Event.TheVariants.{Admin}
use Rattle.book_rules.specs.declared.replies.Reply.{Reply}
use Rattle.gate_walk.specs.Told.{numbers_of}
use Rattle.script_records.specs.Coding.{is_passed_over}
use Rattle.play_script.specs.Play.{Turn, refused, status_at, IsFront}
use Rattle.play_script.specs.Printed.{reply_line, full_line}
use Rattle.play_script.specs.declared.turns.End.{End}
use Rattle.play_script.specs.declared.turns.End.TheVariants as ends
use Rattle.admin_command.specs.Lines.{Asked, asked_in}

-- an event is taken as one entry of seat 0, and the line of its reply is printed
abbrev pub IsTaken : Base → List Entry → Event → Turn → Type 0
IsTaken base history event now =
    (entry : Entry) × (answer : Reply) × (entry.seat ≡ 0) × (entry.event ≡ event) × Answers base history entry answer
    × (now ≡ record { history = history ++ entry ∷ []; text = reply_line answer; ends = None })

-- or the session is full, and nothing more is carried out
abbrev pub IsFull : Base → List Entry → Event → Turn → Type 0
IsFull base history event now =
    (is_full base.limits history event ≡ true) × (now ≡ record { history = history; text = full_line (numbers_of history); ends = Some ends.Full })

-- a command is carried out, or its line is refused
abbrev pub DoesOrNot : Base → ℕ → List Entry → Asked → Turn → Type 0
DoesOrNot base number history (Ok order) now =
    IsTaken base history (Admin order.moment order.command) now ⊎ IsFull base history (Admin order.moment order.command) now
DoesOrNot base number history (Err fault) now = now ≡ refused number history fault

abbrev pub PassesOrDoes : Base → ℕ → List Entry → List ℕ → Bool → Turn → Type 0
PassesOrDoes base number history line true now = now ≡ record { history = history; text = []; ends = None }
PassesOrDoes base number history line false now = DoesOrNot base number history (asked_in line) now

-- what the line of this number does behind this history
abbrev pub IsTurn : Base → ℕ → List Entry → List ℕ → Turn → Type 0
IsTurn base number history line now = PassesOrDoes base number history line (is_passed_over line) now

-- the history behind some lines, what they print, and the status
pub record Came : Type 0 where
  pub history : List Entry
  pub text : List ℕ
  pub status : ℕ

abbrev pub before : List ℕ → Came → Came
before text came = record { history = came.history; text = text ++ came.text; status = came.status }

-- what follows a line, unless nothing is carried out behind it
abbrev pub GoesOn : Option End → Turn → (Came → Type 0) → Came → Type 0
GoesOn None now further came = (rest : Came) × further rest × (came ≡ before now.text rest)
GoesOn (Some end) now further came = came ≡ record { history = now.history; text = now.text; status = status_at end }

-- what lines come to behind a history, the first of them having this number
abbrev pub Administers : Base → ℕ → List Entry → List (List ℕ) → Came → Type 0
Administers base number history [] came = came ≡ record { history = history; text = []; status = 0 }
Administers base number history (line ∷ lines) came =
    (now : Turn) × IsTurn base number history line now × GoesOn now.ends now (Administers base (number + 1) now.history lines) came

-- some of the lines, from the first on, were carried out, and a front of what they print was written
pub record CarriedOut (base : Base) (number : ℕ) (history : List Entry) (lines : List (List ℕ)) (front : List ℕ) (after : List Entry) : Type 0 where
  pub first : List (List ℕ)
  pub rest : List (List ℕ)
  pub parted : first ++ rest ≡ lines
  pub came : Came
  pub come : Administers base number history first came
  pub left : after ≡ came.history
  pub is_front : IsFront front came.text

-- the places of the changes that were not kept
abbrev pub lost_from : ℕ → List Entry → List ℕ
lost_from place [] = []
lost_from place (entry ∷ entries) = if entry.kept then lost_from (place + 1) entries else place ∷ lost_from (place + 1) entries

abbrev pub lost_in : List Entry → List ℕ
lost_in history = lost_from 0 history
