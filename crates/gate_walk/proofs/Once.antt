-- A connection comes to one thing.
use Rattle.std.proofs.Common.{◌≡◌, ◌≢◌, ◌⊎◌, inl, inr, ℕ, ◌+◌, ◌-◌, ◌^◌, ◌≤◌, min, Bool, true, false, List, [], ◌∷◌, ◌++◌, drop, Option, Some, None, IsSome, Result, Ok, Err, ap, sym, ◌∙◌, append-nil, append_assoc, subst, refl, arith}
use Rattle.std.specs.Prelude.{flat_map}
use Rattle.backend_core.specs.declared.outcome.Outcome.{Outcome}
use Rattle.backend_core.specs.declared.request.WireRequest.{WireRequest}
use Rattle.book_rules.specs.History.{Base}
use Rattle.book_rules.specs.declared.events.Entry.{Entry}
use Rattle.book_rules.specs.declared.events.Event.{Event}
use Rattle.call_facts.specs.declared.kind.Kind.{Kind}
use Rattle.call_facts.specs.declared.request.Request.{Request}
use Rattle.gate_walk.specs.Acts.{Act, took, refused, sent, Draws, Goes, given_to, sent_by}
use Rattle.gate_walk.specs.Stories.{Turn, Hand, Story, acts_in, acts_of, answers_of, AreServed, StaysOpen, HasClosed, number_behind, IsInHand, WasRefused, EndsBy, StandsNext, Reads, EndsAt, IsBusy, Writes, IsBytewise, incoming_of, IsReadAt, AreReadAt, IsHandReadAt, HasRisen}
use Rattle.gate_walk.specs.Told.{Came, ComesTo, ComesToOneThing, faultless}
use Rattle.gate_walk.specs.Walk.{Call, asks, sends, answers, walk}
use Rattle.gate_walk.specs.declared.ended.Ended.{Ended}
use Rattle.gate_walk.specs.declared.ended.Ended.TheVariants.{Closed, Cut, BadHead, BadChunk, HeadTooLong, ReadFault, WriteFault, SessionFull, Memory}
use Rattle.gate_walk.specs.declared.ended.SessionFull.{SessionFull as Numbers}
use Rattle.gate_walk.specs.declared.message.Message.{Message}
use Rattle.gate_walk.proofs.Doing.{EndsRefused, IsOver, acts_are, one_place}
use Rattle.gate_walk.proofs.Following.{Follow, follows, one_after, apart}
use Rattle.gate_walk.proofs.Drawing.{draws_apart, one_left}
use Rattle.gate_walk.proofs.Standing.{given_both, sent_both}
use Rattle.gw_base.specs.Outside.{Rose}
use Rattle.http_edge.specs.Answers.{edge_bytes}
use Rattle.http_edge.specs.Messages.{IsNext}
use Rattle.http_edge.proofs.NextUnique.{next_unique}
use Rattle.http_edge.specs.declared.incoming.Incoming.{Incoming}
use Rattle.http_edge.specs.declared.incoming.Incoming.TheVariants.{Whole, TooLarge, End}
use Rattle.http_framing.specs.declared.fault.EdgeFault.{EdgeFault}
use Rattle.http_framing.specs.declared.fault.EdgeFault.TheVariants as edge

abbrev acts_in_all : List Turn → List Act
acts_in_all turns = flat_map (λ (t : Turn). t.acts) turns

differ : true ≡ false → ⊥
differ e = cc

-- where no message stands next: how the connection ends, and what is written then
abbrev end_for : Result Incoming EdgeFault → Option (Ended × List ℕ)
end_for (Ok End) = Some (Closed, [])
end_for (Ok (Whole r)) = None
end_for (Ok (TooLarge r)) = None
end_for (Err (edge.Cut k)) = Some (Cut k, [])
end_for (Err edge.BadHead) = Some (BadHead, edge_bytes 400)
end_for (Err edge.BadChunk) = Some (BadChunk, edge_bytes 400)
end_for (Err edge.HeadTooLong) = Some (HeadTooLong, edge_bytes 431)
end_for (Err edge.ReadFault) = None
end_for (Err edge.Memory) = None

module _ (base : Base) (n moment word : ℕ) where
  -- No message stood next; or the session was full at the one in hand.
  abbrev NoMessage : List ℕ → List ℕ → Ended → Type 0
  NoMessage bytes written ended = (stands : Result Incoming EdgeFault) × IsNext bytes stands [] × (end_for stands ≡ Some (ended, written))

  record AtFull (number : ℕ) (bytes written : List ℕ) (ended : Ended) (hand : Hand) : Type 0 where
    full : Numbers
    ended_so : ended ≡ SessionFull full.entries full.bytes
    numbered : hand.message.number ≡ number
    goes : Goes (walk hand.message) hand.acts hand.next
    over : EndsRefused hand.acts
    at : over.2 ≡ full
    mid : List ℕ
    next : StandsNext bytes hand.message mid
    busy : written ≡ edge_bytes 503

  -- how a connection ends where no more messages are served
  abbrev AtLast : ℕ → List ℕ → List ℕ → Ended → Option Hand → Type 0
  AtLast number bytes written ended None = NoMessage bytes written ended
  AtLast number bytes written ended (Some hand) = AtFull number bytes written ended hand

  -- What is written from a message on, and how the connection ends: by the messages that are served from here on.
  abbrev Ending : ℕ → List ℕ → List Turn → List ℕ → Ended → Option Hand → Type 0
  Ending number bytes [] written ended hand = AtLast number bytes written ended hand
  Ending number bytes (t ∷ ts) written ended hand =
      (mid : List ℕ) × (more : List ℕ) × StandsNext bytes t.message mid × (written ≡ t.answer ++ more)
      × (((ts ≡ []) × (more ≡ []) × (ended ≡ Closed) × (hand ≡ None) × (t.closes ≡ true)) ⊎ (Ending (number + 1) mid ts more ended hand × (t.closes ≡ false)))

  -- how the whole ends: by its last message, where none stood next, or where the session was full
  abbrev ClosedAtLast : List Turn → List ℕ → Ended → Option Hand → Type 0
  ClosedAtLast turns written ended hand = (ended ≡ Closed) × (hand ≡ None) × HasClosed turns × (written ≡ answers_of turns)

  abbrev NoneAtLast : List Turn → List ℕ → List ℕ → Ended → Option Hand → Type 0
  NoneAtLast turns rest written ended hand =
      (hand ≡ None) × StaysOpen turns × (text : List ℕ) × NoMessage rest text ended × (written ≡ answers_of turns ++ text)

  abbrev FullAtLast : ℕ → List Turn → List ℕ → List ℕ → Ended → Option Hand → Type 0
  FullAtLast number turns rest written ended hand =
      (h : Hand) × (hand ≡ Some h) × StaysOpen turns × (text : List ℕ) × AtFull (number_behind number turns) rest text ended h × (written ≡ answers_of turns ++ text)

  abbrev Final : ℕ → List Turn → List ℕ → List ℕ → Ended → Option Hand → Type 0
  Final number turns rest written ended hand =
      ClosedAtLast turns written ended hand ⊎ (NoneAtLast turns rest written ended hand ⊎ FullAtLast number turns rest written ended hand)

  true_false : {b : Bool} → b ≡ true → b ≡ false → ⊥
  true_false e f = differ (sym e ∙ f)

  has_closed_behind : (t : Turn) (ts : List Turn) → t.closes ≡ false → HasClosed (t ∷ ts) → HasClosed ts
  has_closed_behind t [] open_still closed = absurd (true_false closed open_still)
  has_closed_behind t (u ∷ us) open_still closed = closed

  -- behind a message that does not close
  final_behind : (number : ℕ) (t : Turn) (ts : List Turn) (rest written : List ℕ) (ended : Ended) (hand : Option Hand) → t.closes ≡ false
      → Final number (t ∷ ts) rest written ended hand → (more : List ℕ) × (written ≡ t.answer ++ more) × Final (number + 1) ts rest more ended hand
  final_behind number t ts rest written ended hand open_still (inl (is, none, closed, wrote)) =
      (answers_of ts, wrote, inl (is, none, has_closed_behind t ts open_still closed, refl))
  final_behind number t ts rest written ended hand open_still (inr (inl (none, stays, text, met, wrote))) =
      (answers_of ts ++ text, wrote ∙ append_assoc t.answer (answers_of ts) text, inr (inl (none, stays.1, text, met, refl)))
  final_behind number t ts rest written ended hand open_still (inr (inr (h, is, stays, text, full, wrote))) =
      (answers_of ts ++ text, wrote ∙ append_assoc t.answer (answers_of ts) text, inr (inr (h, is, stays.1, text, full, refl)))

  -- at a message that closes
  final_at : (number : ℕ) (t : Turn) (rest written : List ℕ) (ended : Ended) (hand : Option Hand) → t.closes ≡ true
      → Final number (t ∷ []) rest written ended hand → (written ≡ t.answer ++ []) × (ended ≡ Closed) × (hand ≡ None)
  final_at number t rest written ended hand closes (inl (is, none, closed, wrote)) = (wrote, is, none)
  final_at number t rest written ended hand closes (inr (inl (none, stays, text, met, wrote))) = absurd (true_false closes stays.0)
  final_at number t rest written ended hand closes (inr (inr (h, is, stays, text, full, wrote))) = absurd (true_false closes stays.0)

  ending_by : (b : Bool) (number : ℕ) (t : Turn) (ts : List Turn) (mid rest written : List ℕ) (ended : Ended) (hand : Option Hand) → t.closes ≡ b → (t.closes ≡ true → ts ≡ [])
      → ((more : List ℕ) → Final (number + 1) ts rest more ended hand → Ending (number + 1) mid ts more ended hand) → Final number (t ∷ ts) rest written ended hand
      → (more : List ℕ) × (written ≡ t.answer ++ more)
      × (((ts ≡ []) × (more ≡ []) × (ended ≡ Closed) × (hand ≡ None) × (t.closes ≡ true)) ⊎ (Ending (number + 1) mid ts more ended hand × (t.closes ≡ false)))
  ending_by true number t ts mid rest written ended hand is last further final =
      let none = last is in
      let so = final_at number t rest written ended hand is (subst (λ us. Final number (t ∷ us) rest written ended hand) none final) in
      ([], so.0, inl (none, refl, so.1, so.2, is))
  ending_by false number t ts mid rest written ended hand is last further final =
      let so = final_behind number t ts rest written ended hand is final in
      (so.0, so.1, inr (further so.0 so.2, is))

  ending : (turns : List Turn) (number : ℕ) (bytes rest written : List ℕ) (ended : Ended) (hand : Option Hand) → AreServed number turns → Reads bytes turns rest
      → Final number turns rest written ended hand → Ending number bytes turns written ended hand
  ending [] number bytes rest written ended hand served reads (inl (is, none, closed, wrote)) = absurd closed
  ending [] number bytes rest written ended hand served reads (inr (inl (none, stays, text, met, wrote))) =
      subst (AtLast number bytes written ended) (sym none) (subst (λ r. NoMessage r written ended) reads (subst (λ w. NoMessage rest w ended) (sym wrote) met))
  ending [] number bytes rest written ended hand served reads (inr (inr (h, is, stays, text, full, wrote))) =
      subst (AtLast number bytes written ended) (sym is) (subst (λ r. AtFull number r written ended h) reads (subst (λ w. AtFull number rest w ended h) (sym wrote) full))
  ending (t ∷ ts) number bytes rest written ended hand (numbered, goes, last, served) (mid, next, reads) final =
      let so = ending_by t.closes number t ts mid rest written ended hand refl last (λ more f. ending ts (number + 1) mid rest more ended hand served reads f) final in
      (mid, so.0, next, so.1, so.2)

  -- From a message on: what is left of a story.
  record Rest (number : ℕ) (bytes : List ℕ) (history : List Entry) (script : List Outcome) (turns : List Turn) (hand : Option Hand) (came : Came) : Type 0 where
    served : AreServed number turns
    readings : AreReadAt (Some moment) (Some word) turns
    hand_readings : IsHandReadAt (Some moment) (Some word) hand
    ends : Ending number bytes turns came.written came.ended hand
    follow : Follow base n history (acts_in_all turns ++ acts_in hand) came.history
    sends : came.sent ≡ sent_by (acts_in_all turns ++ acts_in hand)
    left : List Outcome
    draws : Draws script (given_to (acts_in_all turns ++ acts_in hand)) left

  -- A message of it, and what is left then: nothing, or from the next message on.
  record Step (number : ℕ) (bytes : List ℕ) (history : List Entry) (script : List Outcome) (t : Turn) (ts : List Turn) (hand : Option Hand) (came : Came) : Type 0 where
    numbered : t.message.number ≡ number
    read_at : IsReadAt (Some moment) (Some word) t.message
    goes : Goes (walk t.message) t.acts (answers t.cause t.answer t.closes)
    mid : List ℕ
    next : StandsNext bytes t.message mid
    after : List Entry
    follow : Follow base n history t.acts after
    to_come : List Outcome
    draws : Draws script (given_to t.acts) to_come
    requests : List WireRequest
    sends : came.sent ≡ sent_by t.acts ++ requests
    more : List ℕ
    wrote : came.written ≡ t.answer ++ more
    then : ((more ≡ []) × (came.ended ≡ Closed) × (came.history ≡ after) × (requests ≡ []) × (t.closes ≡ true))
        ⊎ (Rest (number + 1) mid after to_come ts hand (record { history = came.history; sent = requests; written = more; ended = came.ended }) × (t.closes ≡ false))

  no_acts : (turns : List Turn) (hand : Option Hand) → turns ≡ [] → hand ≡ None → acts_in_all turns ++ acts_in hand ≡ []
  no_acts turns hand none also = ap (λ ts. acts_in_all ts ++ acts_in hand) none ∙ ap acts_in also

  step_of : (number : ℕ) (bytes : List ℕ) (history : List Entry) (script : List Outcome) (t : Turn) (ts : List Turn) (hand : Option Hand) (came : Came)
      → Rest number bytes history script (t ∷ ts) hand came → Step number bytes history script t ts hand came
  step_of number bytes history script t ts hand came r =
      let further : List Act = acts_in_all ts ++ acts_in hand in
      let is : acts_in_all (t ∷ ts) ++ acts_in hand ≡ t.acts ++ further = append_assoc t.acts (acts_in_all ts) (acts_in hand) in
      let parts = apart base n t.acts further history came.history (subst (λ acts. Follow base n history acts came.history) is r.follow) in
      let drawn = draws_apart (given_to t.acts) (given_to further) script r.left (subst (λ o. Draws script o r.left) (ap given_to is ∙ given_both t.acts further) r.draws) in
      record {
        numbered = r.served.0;
        read_at = r.readings.0;
        goes = r.served.1;
        mid = r.ends.0;
        next = r.ends.2;
        after = parts.0;
        follow = parts.1;
        to_come = drawn.0;
        draws = drawn.1;
        requests = sent_by further;
        sends = r.sends ∙ ap sent_by is ∙ sent_both t.acts further;
        more = r.ends.1;
        wrote = r.ends.3;
        then = behind parts.0 parts.2 drawn.0 drawn.2 r.ends.4;
      }
    where
      behind : (after : List Entry) → Follow base n after (acts_in_all ts ++ acts_in hand) came.history
          → (to_come : List Outcome) → Draws to_come (given_to (acts_in_all ts ++ acts_in hand)) r.left
          → (((ts ≡ []) × (r.ends.1 ≡ []) × (came.ended ≡ Closed) × (hand ≡ None) × (t.closes ≡ true)) ⊎ (Ending (number + 1) r.ends.0 ts r.ends.1 came.ended hand × (t.closes ≡ false)))
          → ((r.ends.1 ≡ []) × (came.ended ≡ Closed) × (came.history ≡ after) × (sent_by (acts_in_all ts ++ acts_in hand) ≡ []) × (t.closes ≡ true))
          ⊎ (Rest (number + 1) r.ends.0 after to_come ts hand (record { history = came.history; sent = sent_by (acts_in_all ts ++ acts_in hand); written = r.ends.1; ended = came.ended }) × (t.closes ≡ false))
      behind after f to_come d (inl (none, no_more, ended, no_hand, closes)) =
          inl (no_more, ended, subst (λ acts. Follow base n after acts came.history) (no_acts ts hand none no_hand) f, ap sent_by (no_acts ts hand none no_hand), closes)
      behind after f to_come d (inr (ends, open_still)) = inr (
        record { served = r.served.3; readings = r.readings.1; hand_readings = r.hand_readings; ends = ends; follow = f; sends = refl; left = r.left; draws = d },
        open_still,
      )

  -- two messages that stand next are one
  abbrev request_of : Result Incoming EdgeFault → Option (Bool × Request)
  request_of (Ok (Whole r)) = Some (false, r)
  request_of (Ok (TooLarge r)) = Some (true, r)
  request_of (Ok End) = None
  request_of (Err fault) = None

  reads_back : (large : Bool) (r : Request) → request_of (Ok (incoming_of large r)) ≡ Some (large, r)
  reads_back true r = refl
  reads_back false r = refl

  some_same : {X : Type 0} {x y : X} → Some x ≡ Some y → x ≡ y
  some_same e = cc

  both_of : {X Y : Type 0} (p q : X × Y) → p ≡ q → (p.0 ≡ q.0) × (p.1 ≡ q.1)
  both_of {X} {Y} p q e = (ap (λ (r : X × Y). r.0) e, ap (λ (r : X × Y). r.1) e)

  message_by : (a b : Message) → a.number ≡ b.number → a.too_large ≡ b.too_large → a.request ≡ b.request → a.moment ≡ b.moment → a.word ≡ b.word → a ≡ b
  message_by a b number large r at word =
      ap (λ x. record { number = x; too_large = a.too_large; request = a.request; moment = a.moment; word = a.word }) number
      ∙ ap (λ x. record { number = b.number; too_large = x; request = a.request; moment = a.moment; word = a.word }) large
      ∙ ap (λ x. record { number = b.number; too_large = b.too_large; request = x; moment = a.moment; word = a.word }) r
      ∙ ap (λ x. record { number = b.number; too_large = b.too_large; request = b.request; moment = x; word = a.word }) at
      ∙ ap (λ x. record { number = b.number; too_large = b.too_large; request = b.request; moment = b.moment; word = x }) word

  one_message : (bytes x y : List ℕ) (number : ℕ) (a b : Message) → StandsNext bytes a x → StandsNext bytes b y → a.number ≡ number → b.number ≡ number
      → IsReadAt (Some moment) (Some word) a → IsReadAt (Some moment) (Some word) b → (a ≡ b) × (x ≡ y)
  one_message bytes x y number a b next also k l at at_too =
      let one = next_unique (Ok (incoming_of a.too_large a.request)) (Ok (incoming_of b.too_large b.request)) bytes x y next also in
      let first : Bool × Request = (a.too_large, a.request) in
      let second : Bool × Request = (b.too_large, b.request) in
      let parts = both_of first second (some_same (sym (reads_back a.too_large a.request) ∙ ap request_of one.0 ∙ reads_back b.too_large b.request)) in
      (message_by a b (k ∙ sym l) parts.0 parts.1 (at.0 ∙ sym at_too.0) (at.1 ∙ sym at_too.1), one.1)

  -- where a message stands next, the connection does not end for want of one
  none_there : (bytes x written : List ℕ) (m : Message) (ended : Ended) → StandsNext bytes m x → NoMessage bytes written ended → ⊥
  none_there bytes x written m ended next (stands, stands_next, is) =
      no_end m.too_large m.request (ap end_for (next_unique (Ok (incoming_of m.too_large m.request)) stands bytes x [] next stands_next).0 ∙ is)
    where
      no_end : (large : Bool) (r : Request) → end_for (Ok (incoming_of large r)) ≡ Some (ended, written) → ⊥
      no_end true r e = cc
      no_end false r e = cc

  -- no answer stands behind a refusal
  not_answered : (call : Call) (front : List Act) (event : Event) (full : Numbers) (cause : Option Kind) (bytes : List ℕ) (closing : Bool)
      → Goes call (front ++ refused event full ∷ []) (answers cause bytes closing) → ⊥
  not_answered (asks e next) [] event full cause bytes closing g = no_asks g.2
    where
      no_asks : answers cause bytes closing ≡ asks e next → ⊥
      no_asks e = cc
  not_answered (sends request next) [] event full cause bytes closing g = g
  not_answered (answers a b c) [] event full cause bytes closing g = g
  not_answered (asks e next) (took other kept reply ∷ front) event full cause bytes closing g = not_answered (next reply) front event full cause bytes closing g.1
  not_answered (asks e next) (refused other numbers ∷ front) event full cause bytes closing g = no_asks g.2
    where
      no_asks : answers cause bytes closing ≡ asks e next → ⊥
      no_asks e = cc
  not_answered (asks e next) (sent request outcome ∷ front) event full cause bytes closing g = g
  not_answered (sends request next) (took other kept reply ∷ front) event full cause bytes closing g = g
  not_answered (sends request next) (refused other numbers ∷ front) event full cause bytes closing g = g
  not_answered (sends request next) (sent other outcome ∷ front) event full cause bytes closing g = not_answered (next outcome) front event full cause bytes closing g.1
  not_answered (answers a b c) (act ∷ front) event full cause bytes closing g = g

  -- two lists of acts that end with a refusal end with the same numbers
  abbrev last_of : List Act → Option Numbers
  last_of [] = None
  last_of (took event kept reply ∷ acts) = last_of acts
  last_of (refused event full ∷ []) = Some full
  last_of (refused event full ∷ act ∷ acts) = last_of (act ∷ acts)
  last_of (sent request outcome ∷ acts) = last_of acts

  last_is : (front : List Act) (event : Event) (full : Numbers) → last_of (front ++ refused event full ∷ []) ≡ Some full
  last_is [] event full = refl
  last_is (took other kept reply ∷ front) event full = last_is front event full
  last_is (refused other numbers ∷ []) event full = refl
  last_is (refused other numbers ∷ act ∷ front) event full = last_is (act ∷ front) event full
  last_is (sent request outcome ∷ front) event full = last_is front event full

  same_refusal : (acts bcts : List Act) (x : EndsRefused acts) (y : EndsRefused bcts) → acts ≡ bcts → x.2 ≡ y.2
  same_refusal acts bcts (front, event, full, is) (other, also, numbers, is_too) same =
      some_same (sym (last_is front event full) ∙ ap last_of (sym is ∙ same ∙ is_too) ∙ last_is other also numbers)

  came_by : (a b : Came) → a.history ≡ b.history → a.sent ≡ b.sent → a.written ≡ b.written → a.ended ≡ b.ended → a ≡ b
  came_by a b h s w e =
      ap (λ x. record { history = x; sent = a.sent; written = a.written; ended = a.ended }) h
      ∙ ap (λ x. record { history = b.history; sent = x; written = a.written; ended = a.ended }) s
      ∙ ap (λ x. record { history = b.history; sent = b.sent; written = x; ended = a.ended }) w
      ∙ ap (λ x. record { history = b.history; sent = b.sent; written = b.written; ended = x }) e

  abbrev answer_of : Call → List ℕ
  answer_of (asks event next) = []
  answer_of (sends request next) = []
  answer_of (answers cause bytes closing) = bytes

  abbrev closes_of : Call → Bool
  closes_of (asks event next) = false
  closes_of (sends request next) = false
  closes_of (answers cause bytes closing) = closing

  module _ (told : IsSome base.start.planned) where
    -- a message that is over came by the same acts
    one_way : (m : Message) (acts bcts : List Act) (a b : Call) (h ha hb : List Entry) (script left also : List Outcome) → Goes (walk m) acts a → Goes (walk m) bcts b
        → IsOver acts a → IsOver bcts b → Follow base n h acts ha → Follow base n h bcts hb → Draws script (given_to acts) left → Draws script (given_to bcts) also → acts ≡ bcts
    one_way m acts bcts a b h ha hb script left also g k o p f e d c =
        sym (acts_are base n told (walk m) a acts h ha script left g o f d) ∙ acts_are base n told (walk m) b bcts h hb script also k p e c

    -- where the session was full at the next message, it was not answered
    full_or_answered : (number : ℕ) (bytes written : List ℕ) (h end : List Entry) (script left : List Outcome) (ended : Ended) (hand : Hand) (t : Turn) (ts : List Turn) (x : Option Hand) (came : Came)
        → AtFull number bytes written ended hand → IsReadAt (Some moment) (Some word) hand.message → Follow base n h hand.acts end → Draws script (given_to hand.acts) left
        → Step number bytes h script t ts x came → ⊥
    full_or_answered number bytes written h end script left ended hand t ts x came at read_at f d s =
        let one = (one_message bytes at.mid s.mid number hand.message t.message at.next s.next at.numbered s.numbered read_at s.read_at).0 in
        let goes : Goes (walk t.message) hand.acts hand.next = subst (λ m. Goes (walk m) hand.acts hand.next) one at.goes in
        let same = one_way t.message hand.acts t.acts hand.next (answers t.cause t.answer t.closes) h end s.after script left s.to_come goes s.goes (inr at.over) (inl tt) f s.follow d s.draws in
        not_answered (walk t.message) at.over.0 at.over.1 at.over.2 t.cause t.answer t.closes
        (subst (λ acts. Goes (walk t.message) acts (answers t.cause t.answer t.closes)) (sym same ∙ at.over.3) s.goes)

    -- what follows a message that both have
    both : (t u : Turn) (ts us : List Turn) (x y : Option Hand) (number : ℕ) (bytes : List ℕ) (h : List Entry) (script : List Outcome) (a b : Came)
        (p : Step number bytes h script t ts x a) (q : Step number bytes h script u us y b) → p.mid ≡ q.mid → t.answer ≡ u.answer → t.closes ≡ u.closes → p.after ≡ q.after → p.to_come ≡ q.to_come
        → sent_by t.acts ≡ sent_by u.acts
        → ((p.more ≡ []) × (a.ended ≡ Closed) × (a.history ≡ p.after) × (p.requests ≡ []) × (t.closes ≡ true))
        ⊎ (Rest (number + 1) p.mid p.after p.to_come ts x (record { history = a.history; sent = p.requests; written = p.more; ended = a.ended }) × (t.closes ≡ false))
        → ((q.more ≡ []) × (b.ended ≡ Closed) × (b.history ≡ q.after) × (q.requests ≡ []) × (u.closes ≡ true))
        ⊎ (Rest (number + 1) q.mid q.after q.to_come us y (record { history = b.history; sent = q.requests; written = q.more; ended = b.ended }) × (u.closes ≡ false))
        → ((c d : Came) → Rest (number + 1) q.mid q.after q.to_come ts x c → Rest (number + 1) q.mid q.after q.to_come us y d → c ≡ d)
        → a ≡ b
    both t u ts us x y number bytes h script a b p q mid answer closes after come requests (inl (none, ended, history, unsent, closed)) (inl (also_none, also_ended, also_history, also_unsent, also_closed)) further =
        came_by a b (history ∙ after ∙ sym also_history)
        (p.sends ∙ ap (λ l. sent_by t.acts ++ l) (unsent ∙ sym also_unsent) ∙ ap (λ l. l ++ q.requests) requests ∙ sym q.sends)
        (p.wrote ∙ ap (λ l. t.answer ++ l) (none ∙ sym also_none) ∙ ap (λ l. l ++ q.more) answer ∙ sym q.wrote) (ended ∙ sym also_ended)
    both t u ts us x y number bytes h script a b p q mid answer closes after come requests (inl (none, ended, history, unsent, closed)) (inr (also, open_still)) further =
        absurd (true_false (sym closes ∙ closed) open_still)
    both t u ts us x y number bytes h script a b p q mid answer closes after come requests (inr (rest, open_still)) (inl (also_none, also_ended, also_history, also_unsent, also_closed)) further =
        absurd (true_false also_closed (sym closes ∙ open_still))
    both t u ts us x y number bytes h script a b p q mid answer closes after come requests (inr (rest, open_still)) (inr (also, also_open)) further =
        let first : Came = record { history = a.history; sent = p.requests; written = p.more; ended = a.ended } in
        let second : Came = record { history = b.history; sent = q.requests; written = q.more; ended = b.ended } in
        let here : Rest (number + 1) q.mid q.after q.to_come ts x first =
        subst (λ m. Rest (number + 1) m q.after q.to_come ts x first) mid
        (subst (λ k. Rest (number + 1) p.mid k q.to_come ts x first) after (subst (λ o. Rest (number + 1) p.mid p.after o ts x first) come rest)) in
        let same = further first second here also in
        came_by a b (ap (λ (c : Came). c.history) same)
        (p.sends ∙ ap (λ (c : Came). sent_by t.acts ++ c.sent) same ∙ ap (λ l. l ++ q.requests) requests ∙ sym q.sends)
        (p.wrote ∙ ap (λ (c : Came). t.answer ++ c.written) same ∙ ap (λ l. l ++ q.more) answer ∙ sym q.wrote) (ap (λ (c : Came). c.ended) same)

    once : (ts us : List Turn) (x y : Option Hand) (number : ℕ) (bytes : List ℕ) (h : List Entry) (script : List Outcome) (a b : Came)
        → Rest number bytes h script ts x a → Rest number bytes h script us y b → a ≡ b
    once [] [] None None number bytes h script a b r s =
        let one = (next_unique r.ends.0 s.ends.0 bytes [] [] r.ends.1 s.ends.1).0 in
        let first : Ended × List ℕ = (a.ended, a.written) in
        let second : Ended × List ℕ = (b.ended, b.written) in
        let parts = both_of first second (some_same (sym r.ends.2 ∙ ap end_for one ∙ s.ends.2)) in
        came_by a b (r.follow ∙ sym s.follow) (r.sends ∙ sym s.sends) parts.1 parts.0
    once [] [] None (Some hand) number bytes h script a b r s = absurd (none_there bytes s.ends.mid a.written hand.message a.ended s.ends.next r.ends)
    once [] [] (Some hand) None number bytes h script a b r s = absurd (none_there bytes r.ends.mid b.written hand.message b.ended r.ends.next s.ends)
    once [] [] (Some hand) (Some other) number bytes h script a b r s =
        let one = (one_message bytes r.ends.mid s.ends.mid number hand.message other.message r.ends.next s.ends.next r.ends.numbered s.ends.numbered r.hand_readings s.hand_readings).0 in
        let goes : Goes (walk other.message) hand.acts hand.next = subst (λ m. Goes (walk m) hand.acts hand.next) one r.ends.goes in
        let same = one_way other.message hand.acts other.acts hand.next other.next h a.history b.history script r.left s.left goes s.ends.goes (inr r.ends.over) (inr s.ends.over) r.follow s.follow r.draws s.draws in
        let full = sym r.ends.at ∙ same_refusal hand.acts other.acts r.ends.over s.ends.over same ∙ s.ends.at in
        came_by a b (one_after base n other.acts h a.history b.history (subst (λ acts. Follow base n h acts a.history) same r.follow) s.follow)
        (r.sends ∙ ap sent_by same ∙ sym s.sends) (r.ends.busy ∙ sym s.ends.busy)
        (r.ends.ended_so ∙ ap (λ (f : Numbers). SessionFull f.entries f.bytes) full ∙ sym s.ends.ended_so)
    once [] (u ∷ us) None y number bytes h script a b r s = absurd (none_there bytes s.ends.0 a.written u.message a.ended s.ends.2 r.ends)
    once [] (u ∷ us) (Some hand) y number bytes h script a b r s =
        absurd (full_or_answered number bytes a.written h a.history script r.left a.ended hand u us y b r.ends r.hand_readings r.follow r.draws (step_of number bytes h script u us y b s))
    once (t ∷ ts) [] x None number bytes h script a b r s = absurd (none_there bytes r.ends.0 b.written t.message b.ended r.ends.2 s.ends)
    once (t ∷ ts) [] x (Some hand) number bytes h script a b r s =
        absurd (full_or_answered number bytes b.written h b.history script s.left b.ended hand t ts x a s.ends s.hand_readings s.follow s.draws (step_of number bytes h script t ts x a r))
    once (t ∷ ts) (u ∷ us) x y number bytes h script a b r s =
        let p = step_of number bytes h script t ts x a r in
        let q = step_of number bytes h script u us y b s in
        let one = one_message bytes p.mid q.mid number t.message u.message p.next q.next p.numbered q.numbered p.read_at q.read_at in
        let goes : Goes (walk u.message) t.acts (answers t.cause t.answer t.closes) = subst (λ m. Goes (walk m) t.acts (answers t.cause t.answer t.closes)) one.0 p.goes in
        let acts = one_way u.message t.acts u.acts (answers t.cause t.answer t.closes) (answers u.cause u.answer u.closes) h p.after q.after script p.to_come q.to_come goes q.goes (inl tt) (inl tt) p.follow q.follow
        p.draws q.draws in
        let place = one_place (walk u.message) u.acts (answers t.cause t.answer t.closes) (answers u.cause u.answer u.closes)
        (subst (λ l. Goes (walk u.message) l (answers t.cause t.answer t.closes)) acts goes) q.goes in
        let after = one_after base n u.acts h p.after q.after (subst (λ l. Follow base n h l p.after) acts p.follow) q.follow in
        let come = one_left (given_to u.acts) script p.to_come q.to_come (subst (λ l. Draws script (given_to l) p.to_come) acts p.draws) q.draws in
        both t u ts us x y number bytes h script a b p q one.1 (ap answer_of place) (ap closes_of place) after come (ap sent_by acts) p.then q.then
        (λ c d f g. once ts us x y (number + 1) q.mid q.after q.to_come c d f g)

closed_or_open : (turns : List Turn) (number : ℕ) → AreServed number turns → HasClosed turns ⊎ StaysOpen turns
closed_or_open [] number served = inr tt
closed_or_open (t ∷ ts) number served = by_last t.closes refl (closed_or_open ts (number + 1) served.3)
  where
    behind : (us : List Turn) → t.closes ≡ false → HasClosed us ⊎ StaysOpen us → HasClosed (t ∷ us) ⊎ StaysOpen (t ∷ us)
    behind [] open_still (inl closed) = absurd closed
    behind (u ∷ us) open_still (inl closed) = inl closed
    behind us open_still (inr stays) = inr (open_still, stays)

    by_last : (b : Bool) → t.closes ≡ b → HasClosed ts ⊎ StaysOpen ts → HasClosed (t ∷ ts) ⊎ StaysOpen (t ∷ ts)
    by_last true is later = inl (subst (λ us. HasClosed (t ∷ us)) (sym (served.2 is)) is)
    by_last false is later = behind ts is later

no_rise : Rose 0 0 → ⊥
no_rise rose = omega (arith, rose)

module _ (base : Base) (n moment word : ℕ) where
  none_at_last : (turns : List Turn) (hand : Option Hand) (rest written text : List ℕ) (ended : Ended) (stands : Result Incoming EdgeFault) → hand ≡ None → StaysOpen turns → IsNext rest stands []
      → end_for stands ≡ Some (ended, text) → written ≡ answers_of turns ++ text → Final base n moment word 1 turns rest written ended hand
  none_at_last turns hand rest written text ended stands none stays next is wrote = inr (inl (none, stays, text, (stands, next, is), wrote))

  -- how the whole ends, by what it tells
  final_of : (ended : Ended) (turns : List Turn) (hand : Option Hand) (rest written left : List ℕ) → AreServed 1 turns → EndsBy ended turns hand → Writes (Rose 0 0) ended turns hand rest written left
      → (ended ≡ ReadFault → ⊥) → (ended ≡ WriteFault → ⊥) → ended ≢ Memory → Final base n moment word 1 turns rest written ended hand
  final_of Closed turns hand rest written left served ends (wrote, inl closed) no_read no_write ample = inl (refl, ends, closed, wrote)
  final_of Closed turns hand rest written left served ends (wrote, inr next) no_read no_write ample = by (closed_or_open turns 1 served)
    where
      by : HasClosed turns ⊎ StaysOpen turns → Final base n moment word 1 turns rest written Closed hand
      by (inl closed) = inl (refl, ends, closed, wrote)
      by (inr stays) = none_at_last turns hand rest written [] Closed (Ok End) ends stays next refl (wrote ∙ sym (append-nil (answers_of turns)))
  final_of (Cut k) turns hand rest written left served ends (next, wrote) no_read no_write ample = none_at_last turns hand rest written [] (Cut k) (Err (edge.Cut k)) ends.0 ends.1 next refl wrote
  final_of BadHead turns hand rest written left served ends (next, wrote) no_read no_write ample = none_at_last turns hand rest written (edge_bytes 400) BadHead (Err edge.BadHead) ends.0 ends.1 next refl wrote
  final_of BadChunk turns hand rest written left served ends (next, wrote) no_read no_write ample =
      none_at_last turns hand rest written (edge_bytes 400) BadChunk (Err edge.BadChunk) ends.0 ends.1 next refl wrote
  final_of HeadTooLong turns hand rest written left served ends (next, wrote) no_read no_write ample =
      none_at_last turns hand rest written (edge_bytes 431) HeadTooLong (Err edge.HeadTooLong) ends.0 ends.1 next refl wrote
  final_of ReadFault turns hand rest written left served ends writes no_read no_write ample = absurd (no_read refl)
  final_of WriteFault turns hand rest written left served ends writes no_read no_write ample = absurd (no_write refl)
  final_of (SessionFull entries bytes) turns None rest written left served ends writes no_read no_write ample = absurd ends
  final_of (SessionFull entries bytes) turns (Some hand) rest written left served (in_hand, (front, event, is)) (mid, next, part, wrote, inl whole) no_read no_write ample =
      inr (inr (
        hand,
        refl,
        in_hand.0,
        part,
        record {
          full = record { entries = entries; bytes = bytes };
          ended_so = refl;
          numbered = in_hand.1;
          goes = in_hand.2;
          over = (front, event, record { entries = entries; bytes = bytes }, is);
          at = refl;
          mid = mid;
          next = next;
          busy = whole;
        },
        wrote,
      ))
  final_of (SessionFull entries bytes) turns (Some hand) rest written left served ends (mid, next, part, wrote, inr cut_off) no_read no_write ample = absurd (no_rise cut_off.0)
  final_of Memory turns hand rest written left served ends writes no_read no_write ample = absurd (ample refl)

  rest_of : (before : List Entry) (bytes : List ℕ) (script : List Outcome) (came : Came) (c : ComesTo base n moment word before bytes script came)
      → Rest base n moment word 1 bytes before script c.story.turns c.story.hand came
  rest_of before bytes script came c =
      let told = c.tells.bytes in
      let wrote : Writes (Rose 0 0) came.ended c.story.turns c.story.hand told.3.0 came.written c.left =
      subst (λ w. Writes (Rose 0 0) came.ended c.story.turns c.story.hand told.3.0 w c.left) (sym told.1) told.3.2 in
      record {
        served = c.tells.served;
        readings = c.tells.readings;
        hand_readings = c.tells.hand_readings;
        ends = ending base n moment word c.story.turns 1 bytes told.3.0 came.written came.ended c.story.hand c.tells.served told.3.1
            (final_of came.ended c.story.turns c.story.hand told.3.0 came.written c.left c.tells.served c.tells.ends wrote
            (λ is. no_rise (subst (λ e. HasRisen e (faultless bytes []) (faultless c.left came.written)) is c.tells.risen))
            (λ is. no_rise (subst (λ e. HasRisen e (faultless bytes []) (faultless c.left came.written)) is c.tells.risen)) c.ample);
        follow = follows base n (acts_of c.story) before came.history c.alone c.stands;
        sends = c.sends;
        left = c.to_come;
        draws = c.draws;
      }

pub comes_to_one_thing : ComesToOneThing
comes_to_one_thing base n moment word before bytes script first second told x y =
    once base n moment word told x.story.turns y.story.turns x.story.hand y.story.hand 1 bytes before script first second
    (rest_of base n moment word before bytes script first x) (rest_of base n moment word before bytes script second y)
