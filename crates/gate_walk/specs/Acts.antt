-- What is done on a message's way, and how it stands in the history.
use Rattle.std.specs.Prelude.{◌≡◌, ℕ, ◌==◌, Bool, true, false, List, [], ◌∷◌, ◌++◌, drop, length, Option, Some, None}
use Rattle.std.specs.List.{filter, list_any}
use Rattle.backend_core.specs.Exchanges.{next_of}
use Rattle.backend_core.specs.declared.outcome.Outcome.{Outcome}
use Rattle.backend_core.specs.declared.request.WireRequest.{WireRequest}
use Rattle.book_rules.specs.History.{Base, Answers, is_full, total_size}
use Rattle.book_rules.specs.declared.events.Entry.{Entry}
use Rattle.book_rules.specs.declared.events.Event.{Event}
use Rattle.book_rules.specs.declared.events.Event.TheVariants.{Enter, Recall, Learn, Admit, Admin, Leave}
use Rattle.book_rules.specs.declared.replies.Reply.{Reply}
use Rattle.gate_walk.specs.Walk.{Call, asks, sends, answers, closing_by}
use Rattle.gate_walk.specs.declared.ended.SessionFull.{SessionFull}

-- A step that was taken, with whether its change was kept and its reply; a step that was refused, since the session is full; an
-- exchange, with its outcome.
pub data Act : Type 0 where
  took : Event → Bool → Reply → Act
  refused : Event → SessionFull → Act
  sent : WireRequest → Outcome → Act

-- These acts lead from the one to the other: each is what was asked next. Nothing follows a refusal.
abbrev pub Goes : Call → List Act → Call → Type 0
Goes call [] after = after ≡ call
Goes (asks e next) (took event kept reply ∷ acts) after = (event ≡ e) × Goes (next reply) acts after
Goes (asks e next) (refused event full ∷ acts) after = (event ≡ e) × (acts ≡ []) × (after ≡ asks e next)
Goes (sends request next) (sent other outcome ∷ acts) after = (other ≡ request) × Goes (next outcome) acts after
Goes (asks e next) (sent request outcome ∷ acts) after = ⊥
Goes (sends request next) (took event kept reply ∷ acts) after = ⊥
Goes (sends request next) (refused event full ∷ acts) after = ⊥
Goes (answers cause bytes closing) (act ∷ acts) after = ⊥

-- the entry of a step of a seat
abbrev pub entry_of : ℕ → Event → Bool → Entry
entry_of n event kept = record { seat = n; event = event; kept = kept }

-- the entries of one seat, in order
abbrev pub entries_of : ℕ → List Entry → List Entry
entries_of n history = filter (λ (e : Entry). e.seat == n) history

-- the history went on without an entry of this seat
abbrev pub WentOn : ℕ → List Entry → List Entry → Type 0
WentOn n before after = (more : List Entry) × (after ≡ before ++ more) × (entries_of n more ≡ [])

-- the history had no room for the event, and these are its numbers
abbrev pub IsFullAt : Base → List Entry → Event → SessionFull → Type 0
IsFullAt base here event full = (is_full base.limits here event ≡ true) × (full.entries ≡ length here) × (full.bytes ≡ total_size here)

-- The acts of a seat stand in the history, which goes on from the one to the other: each step was taken, or refused, where it stood
-- then, with entries of other seats between them.
abbrev pub Stand : Base → ℕ → List Entry → List Act → List Entry → Type 0
Stand base n before [] after = WentOn n before after
Stand base n before (took event kept reply ∷ acts) after =
    (here : List Entry) × WentOn n before here × Answers base here (entry_of n event kept) reply × Stand base n (here ++ entry_of n event kept ∷ []) acts after
Stand base n before (refused event full ∷ acts) after = (here : List Entry) × WentOn n before here × IsFullAt base here event full × Stand base n here acts after
Stand base n before (sent request outcome ∷ acts) after = Stand base n before acts after

-- the entries that the acts of a seat made
abbrev pub made_by : ℕ → List Act → List Entry
made_by n [] = []
made_by n (took event kept reply ∷ acts) = entry_of n event kept ∷ made_by n acts
made_by n (refused event full ∷ acts) = made_by n acts
made_by n (sent request outcome ∷ acts) = made_by n acts

-- the requests that were sent, and the outcomes that were given
abbrev pub sent_by : List Act → List WireRequest
sent_by [] = []
sent_by (took event kept reply ∷ acts) = sent_by acts
sent_by (refused event full ∷ acts) = sent_by acts
sent_by (sent request outcome ∷ acts) = request ∷ sent_by acts

abbrev pub given_to : List Act → List Outcome
given_to [] = []
given_to (took event kept reply ∷ acts) = given_to acts
given_to (refused event full ∷ acts) = given_to acts
given_to (sent request outcome ∷ acts) = outcome ∷ given_to acts

-- these outcomes are the next of a script, one after another, and this is left of it: past its end each is a failure
abbrev pub Draws : List Outcome → List Outcome → List Outcome → Type 0
Draws script [] left = left ≡ script
Draws script (outcome ∷ outcomes) left = (outcome ≡ next_of script) × Draws (drop 1 script) outcomes left

-- where what is to come is told, the outcomes are drawn from it, and it stays told
abbrev pub DrawsFrom : Option (List Outcome) → List Outcome → Option (List Outcome) → Type 0
DrawsFrom None outcomes after = after ≡ None
DrawsFrom (Some script) outcomes after = (left : List Outcome) × (after ≡ Some left) × Draws script outcomes left

-- a Leave was replied that the session is closing
abbrev pub leaves_closing : Event → Reply → Bool
leaves_closing (Leave status cause) reply = closing_by reply
leaves_closing (Enter moment word api stage) reply = false
leaves_closing (Recall moment name) reply = false
leaves_closing (Learn moment name policy ttl) reply = false
leaves_closing (Admit moment api stage value) reply = false
leaves_closing (Admin moment command) reply = false

abbrev pub tells_closing : Act → Bool
tells_closing (took event kept reply) = leaves_closing event reply
tells_closing (refused event full) = false
tells_closing (sent request outcome) = false

abbrev pub tell_closing : List Act → Bool
tell_closing acts = list_any tells_closing acts
