-- What a script does, and what it prints.
use Rattle.std.specs.Prelude.{◌≡◌, ◌⊎◌, ℕ, ◌+◌, ◌==◌, ◌||◌, nat_lt, List, [], ◌∷◌, ◌++◌, length, codes, Option, Some, None, Result, Ok, Err, Bool, true, false, if◌then◌else◌}
use Rattle.std.specs.Io.KnownBytes.{Appends}
use Rattle.api_model.specs.Definition.{document, text}
use Rattle.backend_core.specs.declared.outcome.Outcome.{Outcome}
use Rattle.gw_base.specs.Feed.{is_listed}
use Rattle.book_rules.specs.History.{Base}
use Rattle.book_rules.specs.declared.events.Limits.{Limits}
use Rattle.book_rules.specs.declared.events.Command.{Command}
use Rattle.book_rules.specs.declared.events.Command.TheVariants as command
use Rattle.book_rules.specs.declared.events.Event.TheVariants.{Admin}
use Rattle.book_rules.specs.declared.events.Entry.{Entry}
use Rattle.book_rules.specs.declared.replies.Reply.{Reply}
use Rattle.gate_walk.specs.Told.{Came, ComesTo, reply_at, taken}
use Rattle.play_session.specs.Sessions.{base_of}
use Rattle.gate_walk.specs.declared.ended.SessionFull.{SessionFull}
use Rattle.play_script.specs.Calls.{post_bytes, AreOutcomes, BreaksOutcomes, end_of, connection_lines}
use Rattle.script_records.specs.Coding.{lines_of, is_passed_over}
use Rattle.script_records.specs.Definitions.{Taken, taken as taken_of}
use Rattle.play_script.specs.Printed.{line_feed, reply_line, refused_line, full_line}
use Rattle.script_records.specs.Records.{fails_in, record_in}
use Rattle.script_records.specs.declared.records.Record.{Record}
use Rattle.script_records.specs.declared.records.Record.TheVariants.{PutText, PutDocument, Ask, Post, Call}
use Rattle.script_records.specs.declared.records.LineFault.{LineFault}
use Rattle.script_records.specs.declared.records.LineFault.TheVariants.{BadRecord}
use Rattle.play_script.specs.declared.turns.End.{End}
use Rattle.play_script.specs.declared.turns.End.TheVariants as ends

-- what a line leaves and prints, and why the play ends there, where it does
pub record Turn : Type 0 where
  pub history : List Entry
  pub text : List ℕ
  pub ends : Option End

-- a command prints its reply's line, where there is room for it
abbrev pub commanded_by : Result (List Entry) SessionFull → List Entry → Reply → Turn
commanded_by (Ok after) history told = record { history = after; text = reply_line told; ends = None }
commanded_by (Err full) history told = record { history = history; text = full_line full; ends = Some ends.Full }

unfoldable pub commanded : Base → List Entry → ℕ → Command → Turn
commanded base history moment asked =
    commanded_by (taken 0 base history (Admin moment asked)) history (reply_at base history (Admin moment asked))

-- a line that is refused ends the play
abbrev pub refused : ℕ → List Entry → LineFault → Turn
refused number history fault = record { history = history; text = refused_line number fault; ends = Some ends.Refused }

-- a definition is put where it is taken
abbrev pub put : Base → ℕ → List Entry → ℕ → List ℕ → Taken → Turn
put base number history moment api (Ok definition) = commanded base history moment (command.PutApi api definition)
put base number history moment api (Err fault) = refused number history fault

-- what a connection came to
abbrev pub talked : Came → Turn
talked came = record { history = came.history; text = connection_lines came.sent came.written came.ended; ends = end_of came.ended }

-- a connection with these bytes, whose exchanges with backends come to these outcomes
abbrev pub IsTalk : Base → List Entry → ℕ → ℕ → List ℕ → List Outcome → Turn → Type 0
IsTalk base history moment word bytes script now = (came : Came) × ComesTo base 0 moment word history bytes script came × (now ≡ talked came)

-- a connection whose fields tell outcomes, or a line that is refused
abbrev pub IsCall : Base → ℕ → List Entry → ℕ → ℕ → List ℕ → List (List ℕ) → Turn → Type 0
IsCall base number history moment word bytes fields now =
    ((script : List Outcome) × AreOutcomes fields script × IsTalk base history moment word bytes script now) ⊎ (BreaksOutcomes fields × (now ≡ refused number history BadRecord))

-- what a record does
abbrev pub Does : Base → ℕ → List Entry → Record → Turn → Type 0
Does base number history (PutText moment api template) now = now ≡ put base number history moment api (taken_of (text template))
Does base number history (PutDocument moment api source) now = now ≡ put base number history moment api (taken_of (document source))
Does base number history (Ask moment asked) now = now ≡ commanded base history moment asked
Does base number history (Post moment word api stage body) now = IsTalk base history moment word (post_bytes api stage body) [] now
Does base number history (Call moment word bytes outcomes) now = IsCall base number history moment word bytes outcomes now

abbrev pub DoesOrNot : Base → ℕ → List Entry → Result Record LineFault → Turn → Type 0
DoesOrNot base number history (Ok found) now = Does base number history found now
DoesOrNot base number history (Err fault) now = now ≡ refused number history fault

abbrev pub PassesOrDoes : Base → ℕ → List Entry → List ℕ → Bool → Turn → Type 0
PassesOrDoes base number history line true now = now ≡ record { history = history; text = []; ends = None }
PassesOrDoes base number history line false now = DoesOrNot base number history (record_in line) now

-- what the line of this number does after this history
abbrev pub IsTurn : Base → ℕ → List Entry → List ℕ → Turn → Type 0
IsTurn base number history line now = PassesOrDoes base number history line (is_passed_over line) now

-- what is printed, and the status
pub record Output : Type 0 where
  pub text : List ℕ
  pub status : ℕ

abbrev pub before : List ℕ → Output → Output
before text output = record { text = text ++ output.text; status = output.status }

-- the status with which a play ends: 1 at a line that is refused, 4 where the session is full
abbrev pub status_at : End → ℕ
status_at ends.Refused = 1
status_at ends.Full = 4

-- the statuses of a command that was carried out or refused
abbrev pub is_command_status : ℕ → Bool
is_command_status status = status == 0 || status == 1 || status == 4

-- what follows a line, unless the play ends there
abbrev pub GoesOn : Option End → List ℕ → (Output → Type 0) → Output → Type 0
GoesOn None text further output = (rest : Output) × further rest × (output ≡ before text rest)
GoesOn (Some end) text further output = output ≡ record { text = text; status = status_at end }

-- what the lines print after this history, the first of them having this number
abbrev pub Plays : Base → ℕ → List Entry → List (List ℕ) → Output → Type 0
Plays base number history [] output = output ≡ record { text = []; status = 0 }
Plays base number history (line ∷ lines) output =
    (now : Turn) × IsTurn base number history line now × GoesOn now.ends now.text (Plays base (number + 1) now.history lines) output

-- a text begins with this
abbrev pub IsFront : List ℕ → List ℕ → Type 0
IsFront front text = (rest : List ℕ) × (front ++ rest ≡ text)

-- such a front was written
abbrev pub SaysFront : Option (List ℕ) → Option (List ℕ) → (List ℕ → Type 0) → Type 0
SaysFront old new Front = (text : List ℕ) × Front text × Appends old new text

-- a front of what a line prints, or all of it and a front of what follows
abbrev pub GoesOnInFront : Option End → List ℕ → (List ℕ → Type 0) → List ℕ → Type 0
GoesOnInFront None text further front = (more : List ℕ) × further more × (front ≡ text ++ more)
GoesOnInFront (Some end) text further front = ⊥

abbrev pub PlaysFront : Base → ℕ → List Entry → List (List ℕ) → List ℕ → Type 0
PlaysFront base number history [] front = front ≡ []
PlaysFront base number history (line ∷ lines) front =
    (front ≡ []) ⊎ ((now : Turn) × IsTurn base number history line now
    × (IsFront front now.text ⊎ GoesOnInFront now.ends now.text (PlaysFront base (number + 1) now.history lines) front))

-- how a play opens: which calls of its keeper fail, and the lines behind that, the first of which has this number
pub record Opening : Type 0 where
  pub number : ℕ
  pub fails : List ℕ
  pub lines : List (List ℕ)

-- a `keepfails` that is the first record tells which calls fail; where none is, no call does
abbrev pub opening_by : ℕ → List ℕ → List (List ℕ) → Option (List ℕ) → Opening
opening_by number line lines None = record { number = number; fails = []; lines = line ∷ lines }
opening_by number line lines (Some fails) = record { number = number + 1; fails = fails; lines = lines }

abbrev pub opening_from : ℕ → List (List ℕ) → Opening
opening_from number [] = record { number = number; fails = []; lines = [] }
opening_from number (line ∷ lines) =
    if is_passed_over line then opening_from (number + 1) lines else opening_by number line lines (fails_in line)

abbrev pub opening_of : List ℕ → Opening
opening_of script = opening_from 1 (lines_of script)

-- the load, which is the keeper's call 0, is told to fail
abbrev pub names_load : Opening → Bool
names_load opening = is_listed opening.fails 0

-- what a session prints that opens so, where its load is not told to fail
abbrev pub PlaysOpened : Limits → Opening → Output → Type 0
PlaysOpened limits opening output =
    (names_load opening ≡ false) × Plays (base_of limits opening.fails) opening.number [] opening.lines output

-- and a front of it; nothing, where it is
abbrev pub OpenedFrontBy : Bool → Limits → Opening → List ℕ → Type 0
OpenedFrontBy true limits opening front = front ≡ []
OpenedFrontBy false limits opening front = PlaysFront (base_of limits opening.fails) opening.number [] opening.lines front

abbrev pub OpenedFront : Limits → Opening → List ℕ → Type 0
OpenedFront limits opening front = OpenedFrontBy (names_load opening) limits opening front

-- the limits of a session
unfoldable pub session_limits : Limits
session_limits = record { entries = 1048576; bytes = 268435456 }

unfoldable pub script_limit : ℕ
script_limit = 67108864

-- what is printed of a script that is longer than its limit
abbrev pub too_long : Output
too_long = record { text = codes "refused TooLong" ++ line_feed; status = 1 }

abbrev pub PlayedBy : Bool → List ℕ → Output → Type 0
PlayedBy true script output = output ≡ too_long
PlayedBy false script output = PlaysOpened session_limits (opening_of script) output

-- what a script prints
unfoldable pub Played : List ℕ → Output → Type 0
Played script output = PlayedBy (nat_lt script_limit (length script)) script output

abbrev pub PlayedFrontBy : Bool → List ℕ → List ℕ → Type 0
PlayedFrontBy true script front = IsFront front too_long.text
PlayedFrontBy false script front = OpenedFront session_limits (opening_of script) front

-- a script within its limit, which tells its keeper's load to fail
unfoldable pub FailsToLoad : List ℕ → Type 0
FailsToLoad script = (nat_lt script_limit (length script) ≡ false) × (names_load (opening_of script) ≡ true)

-- a front of what a script prints, where it is cut short
unfoldable pub PlayedFront : List ℕ → List ℕ → Type 0
PlayedFront script front = PlayedFrontBy (nat_lt script_limit (length script)) script front
