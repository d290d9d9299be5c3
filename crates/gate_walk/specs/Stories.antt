-- What was done on one connection.
use Rattle.std.specs.Prelude.{◌≡◌, ◌⊎◌, ℕ, ◌+◌, Bool, true, false, List, [], ◌∷◌, ◌++◌, flat_map, Option, Some, None, ⊤, Ok, Err, IfSome}
use Rattle.call_facts.specs.declared.kind.Kind.{Kind}
use Rattle.call_facts.specs.declared.request.Request.{Request}
use Rattle.gate_ports.specs.Facts.{ConnTold}
use Rattle.gate_walk.specs.Acts.{Act, refused, Goes}
use Rattle.gate_walk.specs.Walk.{Call, asks, answers, walk}
use Rattle.gate_walk.specs.declared.ended.Ended.{Ended}
use Rattle.gate_walk.specs.declared.ended.Ended.TheVariants.{Closed, Cut, BadHead, BadChunk, HeadTooLong, ReadFault, WriteFault, SessionFull, Memory}
use Rattle.gate_walk.specs.declared.message.Message.{Message}
use Rattle.gw_base.specs.Outside.{Rose}
use Rattle.book_rules.specs.declared.events.Event.{Event}
use Rattle.http_edge.specs.Answers.{edge_bytes, edge_status}
use Rattle.http_edge.specs.Messages.{IsNext, Stops}
use Rattle.http_edge.specs.declared.incoming.Incoming.{Incoming}
use Rattle.http_edge.specs.declared.incoming.Incoming.TheVariants.{Whole, TooLarge, End}
use Rattle.http_framing.specs.declared.fault.EdgeFault.{EdgeFault}
use Rattle.http_framing.specs.declared.fault.EdgeFault.TheVariants as edge

-- a message that was served: its acts, and the answer, behind which the connection closes or stays open
pub record Turn : Type 0 where
  pub message : Message
  pub acts : List Act
  pub cause : Option Kind
  pub answer : List ℕ
  pub closes : Bool

-- a message in hand: what was done of it, and what would come next
pub record Hand : Type 0 where
  pub message : Message
  pub acts : List Act
  pub next : Call

-- the messages that were served, in order, and the one in hand where the connection ended within one
pub record Story : Type 0 where
  pub turns : List Turn
  pub hand : Option Hand

abbrev pub acts_in : Option Hand → List Act
acts_in None = []
acts_in (Some hand) = hand.acts

-- all acts, in order
abbrev pub acts_of : Story → List Act
acts_of story = flat_map (λ (t : Turn). t.acts) story.turns ++ acts_in story.hand

abbrev pub answers_of : List Turn → List ℕ
answers_of turns = flat_map (λ (t : Turn). t.answer) turns

-- The messages from this number on went their whole way, one after another; only the last may close the connection.
abbrev pub AreServed : ℕ → List Turn → Type 0
AreServed number [] = ⊤
AreServed number (t ∷ ts) =
    (t.message.number ≡ number) × Goes (walk t.message) t.acts (answers t.cause t.answer t.closes) × (t.closes ≡ true → ts ≡ []) × AreServed (number + 1) ts

-- none of them closes it, or the last does
abbrev pub StaysOpen : List Turn → Type 0
StaysOpen [] = ⊤
StaysOpen (t ∷ ts) = (t.closes ≡ false) × StaysOpen ts

abbrev pub HasClosed : List Turn → Type 0
HasClosed [] = ⊥
HasClosed (t ∷ []) = t.closes ≡ true
HasClosed (t ∷ u ∷ ts) = HasClosed (u ∷ ts)

-- the number behind theirs
abbrev pub number_behind : ℕ → List Turn → ℕ
number_behind number [] = number
number_behind number (t ∷ ts) = number_behind (number + 1) ts

-- the message in hand is the next one, and these are the first acts of its way
abbrev pub IsInHand : List Turn → Hand → Type 0
IsInHand turns hand = StaysOpen turns × (hand.message.number ≡ number_behind 1 turns) × Goes (walk hand.message) hand.acts hand.next

-- the session was full at the last of its acts
abbrev pub WasRefused : ℕ → ℕ → Hand → Type 0
WasRefused entries bytes hand =
    (front : List Act) × (event : Event) × (hand.acts ≡ front ++ refused event (record { entries = entries; bytes = bytes }) ∷ [])

-- how the story ends, whatever is told of the bytes
abbrev pub EndsBy : Ended → List Turn → Option Hand → Type 0
EndsBy Closed turns hand = hand ≡ None
EndsBy WriteFault turns hand = hand ≡ None
EndsBy (SessionFull entries bytes) turns None = ⊥
EndsBy (SessionFull entries bytes) turns (Some hand) = IsInHand turns hand × WasRefused entries bytes hand
EndsBy Memory turns None = ⊤
EndsBy Memory turns (Some hand) = IsInHand turns hand
EndsBy ended turns hand = (hand ≡ None) × StaysOpen turns

-- a message as it is read
abbrev pub incoming_of : Bool → Request → Incoming
incoming_of true r = TooLarge r
incoming_of false r = Whole r

abbrev pub StandsNext : List ℕ → Message → List ℕ → Type 0
StandsNext bytes m rest = IsNext bytes (Ok (incoming_of m.too_large m.request)) rest

-- the messages of the turns stand first in the bytes, and this is left behind them
abbrev pub Reads : List ℕ → List Turn → List ℕ → Type 0
Reads bytes [] rest = rest ≡ bytes
Reads bytes (t ∷ ts) rest = (mid : List ℕ) × StandsNext bytes t.message mid × Reads mid ts rest

abbrev pub IsFront : List ℕ → List ℕ → Type 0
IsFront part whole = (rest : List ℕ) × (whole ≡ part ++ rest)

-- a fault that stands next, where it is answered at the edge, and the bytes of that answer
abbrev pub IsAtEdge : List ℕ → List ℕ → Type 0
IsAtEdge bytes answer = (fault : EdgeFault) × (status : ℕ) × IsNext bytes (Err fault) [] × (edge_status fault ≡ Some status) × (answer ≡ edge_bytes status)

-- the fault that an end names
abbrev pub EndsAt : EdgeFault → List ℕ → List Turn → List ℕ → List ℕ → Type 0
EndsAt fault answer turns rest written = IsNext rest (Err fault) [] × (written ≡ answers_of turns ++ answer)

-- of the last answer, or of the one at the edge behind the answers, a front was written
abbrev pub IsCutOff : List Turn → List ℕ → List ℕ → Type 0
IsCutOff turns rest written =
    ((front : List Turn) × (t : Turn) × (part : List ℕ) × (turns ≡ front ++ t ∷ []) × (written ≡ answers_of front ++ part) × IsFront part t.answer)
    ⊎ (StaysOpen turns × (answer : List ℕ) × (part : List ℕ) × IsAtEdge rest answer × (written ≡ answers_of turns ++ part) × IsFront part answer)

-- behind the answers nothing was written, or, where the message in hand had gone its whole way, a front of its answer
abbrev pub IsFrontOf : Call → List ℕ → Type 0
IsFrontOf (asks event next) part = part ≡ []
IsFrontOf (answers cause bytes closing) part = IsFront part bytes
IsFrontOf call part = part ≡ []

-- or, where the session was full at the last of its acts, a front of the answer at the edge
abbrev pub IsHandFront : Hand → List ℕ → Type 0
IsHandFront hand part = IsFrontOf hand.next part ⊎ ((entries : ℕ) × (bytes : ℕ) × WasRefused entries bytes hand × IsFront part (edge_bytes 503))

-- the answer at the edge where the session is full: all of it, or a front where a write failed
abbrev pub IsBusy : Type 0 → List ℕ → Type 0
IsBusy WriteFailed part = (part ≡ edge_bytes 503) ⊎ (WriteFailed × IsFront part (edge_bytes 503))

-- behind the answers nothing was written, or a front of the answer at the edge
abbrev pub IsEdgeFront : List ℕ → List ℕ → Type 0
IsEdgeFront rest part = (part ≡ []) ⊎ ((answer : List ℕ) × IsAtEdge rest answer × IsFront part answer)

-- What stands behind the messages that were served, what was written, and what is left then, by the end, and by whether a write failed.
abbrev pub Writes : Type 0 → Ended → List Turn → Option Hand → List ℕ → List ℕ → List ℕ → Type 0
Writes WriteFailed Closed turns hand rest written left = (written ≡ answers_of turns) × (HasClosed turns ⊎ IsNext rest (Ok End) [])
Writes WriteFailed (Cut n) turns hand rest written left = EndsAt (edge.Cut n) [] turns rest written
Writes WriteFailed BadHead turns hand rest written left = EndsAt edge.BadHead (edge_bytes 400) turns rest written
Writes WriteFailed BadChunk turns hand rest written left = EndsAt edge.BadChunk (edge_bytes 400) turns rest written
Writes WriteFailed HeadTooLong turns hand rest written left = EndsAt edge.HeadTooLong (edge_bytes 431) turns rest written
-- neither a message nor a fault stands in what was taken
Writes WriteFailed ReadFault turns hand rest written left = (written ≡ answers_of turns) × (taken : List ℕ) × (rest ≡ taken ++ left) × Stops taken
Writes WriteFailed WriteFault turns hand rest written left = IsCutOff turns rest written
Writes WriteFailed (SessionFull entries bytes) turns None rest written left = ⊥
Writes WriteFailed (SessionFull entries bytes) turns (Some hand) rest written left =
    (mid : List ℕ) × StandsNext rest hand.message mid × (part : List ℕ) × (written ≡ answers_of turns ++ part) × IsBusy WriteFailed part
Writes WriteFailed Memory turns None rest written left = (part : List ℕ) × (written ≡ answers_of turns ++ part) × IsEdgeFront rest part
Writes WriteFailed Memory turns (Some hand) rest written left =
    (mid : List ℕ) × StandsNext rest hand.message mid × (part : List ℕ) × (written ≡ answers_of turns ++ part) × IsHandFront hand part

-- where the bytes are told that were left and written before, they are told behind it: these were written, and what is left is the end of what was left
abbrev pub Bytewise : Option (List ℕ) → Option (List ℕ) → Option (List ℕ) → Option (List ℕ) → (List ℕ → List ℕ → List ℕ → Type 0) → Type 0
Bytewise (Some left) (Some written) (Some after) (Some now) Holds =
    (more : List ℕ) × (now ≡ written ++ more) × ((taken : List ℕ) × (left ≡ taken ++ after)) × Holds left more after
Bytewise (Some left) (Some written) None now Holds = ⊥
Bytewise (Some left) (Some written) (Some after) None Holds = ⊥
Bytewise None written after now Holds = ⊤
Bytewise (Some left) None after now Holds = ⊤

-- with these bytes left at first, these written, and these left then
abbrev pub IsBytewise : Type 0 → Ended → Story → List ℕ → List ℕ → List ℕ → Type 0
IsBytewise WriteFailed ended story left written after = (rest : List ℕ) × Reads left story.turns rest × Writes WriteFailed ended story.turns story.hand rest written after

-- a reading is the fixed one, where that is told
abbrev pub IsFixed : Option ℕ → ℕ → Type 0
IsFixed fixed reading = IfSome fixed (λ told. reading ≡ told)

abbrev pub IsReadAt : Option ℕ → Option ℕ → Message → Type 0
IsReadAt moment word m = IsFixed moment m.moment × IsFixed word m.word

abbrev pub AreReadAt : Option ℕ → Option ℕ → List Turn → Type 0
AreReadAt moment word [] = ⊤
AreReadAt moment word (t ∷ ts) = IsReadAt moment word t.message × AreReadAt moment word ts

abbrev pub IsHandReadAt : Option ℕ → Option ℕ → Option Hand → Type 0
IsHandReadAt moment word None = ⊤
IsHandReadAt moment word (Some hand) = IsReadAt moment word hand.message

-- a fault is told only where its count rose
abbrev pub HasRisen : Ended → ConnTold → ConnTold → Type 0
HasRisen ReadFault old new = Rose old.read_faults new.read_faults
HasRisen WriteFault old new = Rose old.write_faults new.write_faults
HasRisen ended old new = ⊤

-- What was done on a connection, with what it tells before and after, and the fixed readings of the clock and of the random words.
pub record Tells (moment word : Option ℕ) (old new : ConnTold) (ended : Ended) (story : Story) : Type 0 where
  -- the messages went their way,
  pub served : AreServed 1 story.turns
  pub ends : EndsBy ended story.turns story.hand
  -- at these moments and with these words;
  pub readings : AreReadAt moment word story.turns
  pub hand_readings : IsHandReadAt moment word story.hand
  -- they are those in the bytes, and their answers were written;
  pub bytes : Bytewise old.left old.written new.left new.written (IsBytewise (Rose old.write_faults new.write_faults) ended story)
  -- and a fault has its count.
  pub risen : HasRisen ended old new
