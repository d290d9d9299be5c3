-- What serving a message leaves of a seat, and how far the message came.
use Rattle.std.specs.Prelude.{◌≡◌, ℕ, Bool, true, false, List, [], ◌∷◌, ◌++◌, Option, Some, None, ⊤, IfSome}
use Rattle.std.specs.Option.{option_map}
use Rattle.backend_core.specs.declared.outcome.Outcome.{Outcome}
use Rattle.backend_core.specs.declared.request.WireRequest.{WireRequest}
use Rattle.book_core.specs.declared.book.StepFault.{StepFault}
use Rattle.book_core.specs.declared.book.StepFault.TheVariants as step
use Rattle.book_rules.specs.History.{Base}
use Rattle.book_rules.specs.declared.events.Entry.{Entry}
use Rattle.book_rules.specs.declared.events.Event.{Event}
use Rattle.book_rules.specs.declared.events.Event.TheVariants.{Enter, Recall, Learn, Admit}
use Rattle.call_facts.specs.declared.kind.Kind.{Kind}
use Rattle.call_facts.specs.declared.target.Target.{Target}
use Rattle.gate_serve.specs.declared.called.Called.{Called}
use Rattle.gate_serve.specs.declared.called.Called.TheVariants.{Answered, Full, Memory}
use Rattle.gate_walk.specs.Acts.{Act, refused, DrawsFrom, Goes, Stand, given_to, made_by, sent_by}
use Rattle.gate_walk.specs.Walk.{Call, asks, answers, name_of}
use Rattle.gate_walk.specs.declared.ended.Ended.{Ended}
use Rattle.gate_walk.specs.declared.ended.Ended.TheVariants as ended
use Rattle.gate_walk.specs.declared.ended.LaneEnd.{LaneEnd}
use Rattle.gate_walk.specs.declared.ended.LaneEnd.TheVariants as lane
use Rattle.gate_walk.specs.declared.message.Message.{Message}
use Rattle.gate_walk.specs.declared.ended.SessionFull.{SessionFull}
use Rattle.gw_base.specs.declared.outside.WriteStop.{WriteStop}
use Rattle.gw_base.specs.declared.outside.WriteStop.TheVariants as stop
use Rattle.http_framing.specs.declared.fault.EdgeFault.{EdgeFault}
use Rattle.http_framing.specs.declared.fault.EdgeFault.TheVariants as edge
use Rattle.method_answers.specs.Calls.{Call as Routed}
use Rattle.method_answers.specs.Keys.{key_value}
use Rattle.method_answers.specs.Questions.{Consulting}
use Rattle.policy_core.specs.declared.policy.Policy.{Policy}
use Rattle.turn_desk.specs.Calls.{SeatFacts, IsSameSeat, HasItsOwn}
use Rattle.turn_desk.specs.Entries.{HasNoneFrom}

abbrev pub seat_of : Entry → ℕ
seat_of e = e.seat

-- A seat did these acts:
pub record Did (before now : SeatFacts Entry Base) (acts : List Act) : Type 0 where
  -- it is the same seat;
  pub same : IsSameSeat before now
  -- they stand in the history, from what it had seen to what it has seen;
  pub stand : IfSome before.base (λ base. Stand base before.number before.seen acts now.seen)
  -- its entries are those that it had and those that they made, and all that the history has of it.
  pub mine : now.mine ≡ before.mine ++ made_by before.number acts
  pub own : HasItsOwn seat_of now
  -- No number that the desk does not have gets an entry.
  pub none_from : HasNoneFrom seat_of before.seats before.seen → HasNoneFrom seat_of now.seats now.seen

-- these acts lead to here
abbrev pub Reaches : Call → List Act → Called → Type 0
Reaches call acts (Answered cause bytes closes) = Goes call acts (answers cause bytes closes)
Reaches call acts (Full full) = (next : Call) × Goes call acts next × (front : List Act) × (event : Event) × (acts ≡ front ++ refused event full ∷ [])
Reaches call acts Memory = (next : Call) × Goes call acts next

-- the answer that stands there
abbrev pub Gives : Call → Called → Type 0
Gives call (Answered cause bytes closes) = call ≡ answers cause bytes closes
Gives call (Full full) = ⊥
Gives call Memory = ⊤

-- where a refused step leads
abbrev pub called_by : StepFault → Called
called_by (step.SessionFull entries bytes) = Full (record { entries = entries; bytes = bytes })
called_by step.Memory = Memory

abbrev pub enter_at : Message → Target → Event
enter_at m target = Enter m.moment m.word target.api target.stage

abbrev pub admit_at : Message → Routed → Event
admit_at m c = Admit m.moment c.target.api c.target.stage (key_value c.request)

abbrev pub recall_at : Message → Consulting → Event
recall_at m a = Recall m.moment (name_of a.call.target a.question)

abbrev pub learn_at : Message → Consulting → Policy → Event
learn_at m a policy = Learn m.moment (name_of a.call.target a.question) policy a.question.ttl

-- a list that is told goes on by these
abbrev pub GoesOnBy : {A : Type 0} → Option (List A) → Option (List A) → List A → Type 0
GoesOnBy old new more = new ≡ option_map (λ items. items ++ more) old

-- what a backend tells: the requests and the outcomes so far, and the outcomes that are to come
pub record BackendTold : Type 0 where
  pub sent : Option (List WireRequest)
  pub given : Option (List Outcome)
  pub to_come : Option (List Outcome)

-- A backend was asked just what these acts asked of one: it tells their requests and their outcomes behind those of before, and their
-- outcomes are the next of those that were to come.
pub record Asked (old new : BackendTold) (acts : List Act) : Type 0 where
  pub sends : GoesOnBy old.sent new.sent (sent_by acts)
  pub gives : GoesOnBy old.given new.given (given_to acts)
  pub draws : DrawsFrom old.to_come (given_to acts) new.to_come

-- the end that a fault of the input is, and the end that a stopped write is
abbrev pub ended_by : EdgeFault → Ended
ended_by (edge.Cut n) = ended.Cut n
ended_by edge.BadHead = ended.BadHead
ended_by edge.BadChunk = ended.BadChunk
ended_by edge.HeadTooLong = ended.HeadTooLong
ended_by edge.ReadFault = ended.ReadFault
ended_by edge.Memory = ended.Memory

abbrev pub stopped_by : WriteStop → Ended
stopped_by stop.Failed = ended.WriteFault
stopped_by stop.Memory = ended.Memory

-- the end of a lane behind a connection that ended so, where it serves no other one
abbrev pub lane_end_behind : Ended → Bool → Option LaneEnd
lane_end_behind (ended.SessionFull entries bytes) closing = Some (lane.Full entries bytes)
lane_end_behind ended.Memory closing = Some lane.Memory
lane_end_behind end true = Some lane.Closing
lane_end_behind end false = None
