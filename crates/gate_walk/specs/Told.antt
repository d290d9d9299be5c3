-- What events and connections come to, where all that is outside of the book is told: what follows is fixed then.
use Rattle.std.specs.Prelude.{◌≡◌, ◌≢◌, ℕ, Bool, true, not, ◌||◌, List, [], ◌∷◌, ◌++◌, length, Option, Some, None, IsSome, Result, Ok, Err, if◌then◌else◌}
use Rattle.backend_core.specs.declared.outcome.Outcome.{Outcome}
use Rattle.backend_core.specs.declared.request.WireRequest.{WireRequest}
use Rattle.book_rules.specs.History.{Base, is_changing, is_full, keeps, plan_after, reply, rewrites, total_size}
use Rattle.book_rules.specs.declared.events.Entry.{Entry}
use Rattle.book_rules.specs.declared.events.Event.{Event}
use Rattle.book_rules.specs.declared.replies.Reply.{Reply}
use Rattle.gate_ports.specs.Facts.{ConnTold}
use Rattle.gate_walk.specs.Acts.{Draws, Stand, entry_of, entries_of, given_to, sent_by}
use Rattle.gate_walk.specs.Stories.{Story, Tells, acts_of}
use Rattle.gate_walk.specs.declared.ended.Ended.{Ended}
use Rattle.gate_walk.specs.declared.ended.Ended.TheVariants.{Memory}
use Rattle.gate_walk.specs.declared.ended.SessionFull.{SessionFull}
use Rattle.keeper_core.specs.Keeping.{Planned}

-- a change is kept, where the failing calls of the keeper are told, unless one of its calls is among them
abbrev pub is_planned : Base → List Entry → Event → Option Planned → Bool
is_planned base history event None = true
is_planned base history event (Some plan) = keeps (rewrites event) (plan_after base.opening plan history)

-- an event after this history is kept: it changes nothing, or its change is kept
abbrev pub is_kept : Base → List Entry → Event → Bool
is_kept base history event = not (is_changing base.opening history event) || is_planned base history event base.start.planned

-- the entry of an event of a seat there, and the reply to it
abbrev pub entry_at : ℕ → Base → List Entry → Event → Entry
entry_at n base history event = entry_of n event (is_kept base history event)

abbrev pub reply_at : Base → List Entry → Event → Reply
reply_at base history event = reply base.opening history event (is_kept base history event)

-- the numbers of a history that has no room
abbrev pub numbers_of : List Entry → SessionFull
numbers_of history = record { entries = length history; bytes = total_size history }

-- the history with an event of a seat, or the numbers that show that it is full
abbrev pub taken : ℕ → Base → List Entry → Event → Result (List Entry) SessionFull
taken n base history event =
    if is_full base.limits history event then Err (numbers_of history) else Ok (history ++ entry_at n base history event ∷ [])

-- one seat made each entry of a history
abbrev pub IsAlone : ℕ → List Entry → Type 0
IsAlone n history = entries_of n history ≡ history

-- the history behind a connection, the requests that it sent to backends, all bytes that were written on it, and how it ended
pub record Came : Type 0 where
  pub history : List Entry
  pub sent : List WireRequest
  pub written : List ℕ
  pub ended : Ended

-- what a connection tells on which these bytes are left, and these were written, where no read and no write of it has failed
abbrev pub faultless : List ℕ → List ℕ → ConnTold
faultless left written = record { left = Some left; written = Some written; read_faults = 0; write_faults = 0 }

-- What a connection with these bytes comes to behind a history all of whose entries are of one seat, at this moment and with this
-- word, where backends give these outcomes, and past their end fail:
pub record ComesTo (base : Base) (n moment word : ℕ) (before : List Entry) (bytes : List ℕ) (script : List Outcome) (came : Came) : Type 0 where
  -- it has a story,
  pub story : Story
  pub left : List ℕ
  pub tells : Tells (Some moment) (Some word) (faultless bytes []) (faultless left came.written) came.ended story
  -- whose requests were sent, with these outcomes one after another,
  pub sends : came.sent ≡ sent_by (acts_of story)
  pub to_come : List Outcome
  pub draws : Draws script (given_to (acts_of story)) to_come
  -- whose acts stand in the history with nothing between them,
  pub stands : Stand base n before (acts_of story) came.history
  pub alone : IsAlone n came.history
  -- and memory was not wanting.
  pub ample : came.ended ≢ Memory

-- Where it is told which calls of the keeper fail, a connection comes to one thing.
abbrev pub ComesToOneThing : Type 0
ComesToOneThing =
    (base : Base) (n moment word : ℕ) (before : List Entry) (bytes : List ℕ) (script : List Outcome) (first second : Came) → IsSome base.start.planned
    → ComesTo base n moment word before bytes script first → ComesTo base n moment word before bytes script second → first ≡ second
