-- A connection so far, and one message more.
use Rattle.std.proofs.Common.{◌≡◌, ℕ, ◌+◌, true, false, List, [], ◌∷◌, ◌++◌, Option, Some, None, Result, Ok, Err, inl, inr, ap, sym, ◌∙◌, append-nil, append_assoc, subst, refl}
use Rattle.std.specs.Prelude.{flat_map}
use Rattle.std.specs.Io.KnownBytes.{Appends}
use Rattle.std.proofs.lemmas.Grind.{flat_map-append}
use Rattle.book_rules.specs.declared.events.Event.{Event}
use Rattle.gate_ports.specs.Facts.{ConnTold}
use Rattle.gate_walk.specs.Acts.{Act, refused, Goes}
use Rattle.gate_walk.specs.Ends.{WritesEdge, EndsWith}
use Rattle.gate_walk.specs.Stories.{Turn, Hand, Story, answers_of, AreServed, StaysOpen, HasClosed, number_behind, IsInHand, StandsNext, Reads, IsHandFront, IsBusy, Bytewise, IsBytewise, EndsBy, EndsAt, Writes, HasRisen, IsReadAt, AreReadAt, Tells, incoming_of}
use Rattle.gate_walk.specs.Walk.{answers, walk}
use Rattle.gate_walk.specs.declared.ended.Ended.{Ended}
use Rattle.gate_walk.specs.declared.ended.Ended.TheVariants.{Closed, Cut, BadHead, BadChunk, HeadTooLong, ReadFault, WriteFault, SessionFull, Memory}
use Rattle.gate_walk.specs.declared.ended.SessionFull.{SessionFull as Full}
use Rattle.gate_walk.specs.declared.message.Message.{Message}
use Rattle.gw_base.specs.Outside.{Rose}
use Rattle.gw_base.specs.Whole.{AppendsFront}
use Rattle.http_edge.specs.Answers.{edge_bytes, edge_status}
use Rattle.http_edge.specs.Messages.{Comes, IsNext}
use Rattle.http_edge.specs.declared.incoming.Incoming.TheVariants.{End}
use Rattle.http_framing.specs.declared.fault.EdgeFault.TheVariants as edge
use Rattle.http_edge.specs.declared.incoming.Incoming.{Incoming}
use Rattle.http_framing.specs.Stream.{Over, Takes}
use Rattle.http_framing.specs.declared.fault.EdgeFault.{EdgeFault}

-- the messages of the turns were read, this is held behind them, and their answers were written
abbrev pub HasRead : List Turn → List ℕ → List ℕ → List ℕ → List ℕ → Type 0
HasRead turns held left more after = Reads left turns (held ++ after) × (more ≡ answers_of turns)

-- a connection on which some messages were served, and none of them closed it; the next one has this number
pub record SoFar (moment word : Option ℕ) (left written : Option (List ℕ)) (held : List ℕ) (after now : Option (List ℕ)) (number : ℕ) (turns : List Turn) : Type 0 where
  pub served : AreServed 1 turns
  pub stays : StaysOpen turns
  pub count : number ≡ number_behind 1 turns
  pub readings : AreReadAt moment word turns
  pub bytes : Bytewise left written after now (HasRead turns held)

begins : (left written : Option (List ℕ)) → Bytewise left written left written (HasRead [] [])
begins None written = tt
begins (Some left) None = tt
begins (Some left) (Some written) = ([], sym (append-nil written), ([], refl), (refl, refl))

pub starts : (moment word : Option ℕ) (l w : Option (List ℕ)) → SoFar moment word l w [] l w 1 []
starts moment word l w = record { served = tt; stays = tt; count = refl; readings = tt; bytes = begins l w }

-- a message was read, or none could be, and this was written then
module _ (held held' : List ℕ) (result : Result Incoming EdgeFault) (part : List ℕ) (P Q : List ℕ → List ℕ → List ℕ → Type 0)
    (leads : (left more after now : List ℕ) → P left more after → Comes (held ++ after) held' now result → Q left (more ++ part) now) where
  told : (L W : List ℕ) (l l' w w' : Option (List ℕ)) → Bytewise (Some L) (Some W) l w P → Over Comes held l held' l' result → Takes l l' → Appends w w' part → Bytewise (Some L) (Some W) l' w' Q
  told L W None l' w w' b o t a = absurd b
  told L W (Some l) l' None w' b o t a = absurd b
  told L W (Some l) None (Some w) w' b o t a = absurd o
  told L W (Some l) (Some l') (Some w) None b o t a = absurd a
  told L W (Some l) (Some l') (Some w) (Some w') b o t a =
      let more : List ℕ = b.0 in (
        more ++ part,
        a ∙ ap (λ x. x ++ part) b.1 ∙ append_assoc W more part,
        (b.2.0 ++ t.0, b.2.1 ∙ ap (λ x. b.2.0 ++ x) t.1 ∙ sym (append_assoc b.2.0 t.0 l')),
        leads L more l l' b.3 o,
      )

  pub bytes_on : (L W l w l' w' l'' w'' : Option (List ℕ)) → Bytewise L W l w P → Over Comes held l held' l' result → Takes l l' → w' ≡ w → Appends w' w'' part → l'' ≡ l'
      → Bytewise L W l'' w'' Q
  bytes_on None W l w l' w' l'' w'' b o t ew a el = tt
  bytes_on (Some L) None l w l' w' l'' w'' b o t ew a el = tt
  bytes_on (Some L) (Some W) l w l' w' l'' w'' b o t ew a el =
      subst (λ x. Bytewise (Some L) (Some W) x w'' Q) (sym el) (told L W l l' w w'' b o t (subst (λ x. Appends x w'' part) ew a))

-- one turn more
pub reads_more : (turns : List Turn) (t : Turn) (bytes rest mid : List ℕ) → Reads bytes turns rest → StandsNext rest t.message mid → Reads bytes (turns ++ t ∷ []) mid
reads_more [] t bytes rest mid r next = (mid, subst (λ x. StandsNext x t.message mid) r next, refl)
reads_more (u ∷ us) t bytes rest mid r next = (r.0, r.1, reads_more us t r.0 rest mid r.2 next)

pub number_more : (turns : List Turn) (t : Turn) (number : ℕ) → number_behind number (turns ++ t ∷ []) ≡ number_behind number turns + 1
number_more [] t number = refl
number_more (u ∷ us) t number = number_more us t (number + 1)

differ : true ≡ false → ⊥
differ e = cc

pub served_more : (turns : List Turn) (t : Turn) (number : ℕ) → AreServed number turns → StaysOpen turns → t.message.number ≡ number_behind number turns
    → Goes (walk t.message) t.acts (answers t.cause t.answer t.closes) → AreServed number (turns ++ t ∷ [])
served_more [] t number s o n g = (n, g, λ _. refl, tt)
served_more (u ∷ us) t number s o n g = (s.0, s.1, λ closes. absurd (differ (sym closes ∙ o.0)), served_more us t (number + 1) s.3 o.1 n g)

pub open_more : (turns : List Turn) (t : Turn) → StaysOpen turns → t.closes ≡ false → StaysOpen (turns ++ t ∷ [])
open_more [] t o e = (e, tt)
open_more (u ∷ us) t o e = (o.0, open_more us t o.1 e)

pub closed_by : (turns : List Turn) (t : Turn) → t.closes ≡ true → HasClosed (turns ++ t ∷ [])
closed_by [] t e = e
closed_by (u ∷ []) t e = e
closed_by (u ∷ v ∷ vs) t e = closed_by (v ∷ vs) t e

pub readings_more : (moment word : Option ℕ) (turns : List Turn) (t : Turn) → AreReadAt moment word turns → IsReadAt moment word t.message → AreReadAt moment word (turns ++ t ∷ [])
readings_more moment word [] t r here = (here, tt)
readings_more moment word (u ∷ us) t r here = (r.0, readings_more moment word us t r.1 here)

pub answers_more : (turns : List Turn) (t : Turn) → answers_of (turns ++ t ∷ []) ≡ answers_of turns ++ t.answer
answers_more turns t = flat_map-append (λ (u : Turn). u.answer) turns (t ∷ []) ∙ ap (λ x. answers_of turns ++ x) (append-nil t.answer)

pub acts_more : (turns : List Turn) (t : Turn) → flat_map (λ (u : Turn). u.acts) (turns ++ t ∷ []) ≡ flat_map (λ (u : Turn). u.acts) turns ++ t.acts
acts_more turns t = flat_map-append (λ (u : Turn). u.acts) turns (t ∷ []) ∙ ap (λ x. flat_map (λ (u : Turn). u.acts) turns ++ x) (append-nil t.acts)

abbrev pub no_hand : List Turn → Story
no_hand turns = record { turns = turns; hand = None }

abbrev pub with_hand : List Turn → Hand → Story
with_hand turns hand = record { turns = turns; hand = Some hand }

-- What a connection tells at first, before a message is looked for, behind that, and at last, when something may have been written.
pub record Looked (moment word : Option ℕ) (old now mid new : ConnTold) (held held' : List ℕ) (number : ℕ) (turns : List Turn) : Type 0 where
  pub so_far : SoFar moment word old.left old.written held now.left now.written number turns
  pub takes : Takes now.left mid.left
  pub unwritten : mid.written ≡ now.written
  pub unread : new.left ≡ mid.left

-- a message was found
pub record Found (moment word : Option ℕ) (now mid : ConnTold) (held held' : List ℕ) (number : ℕ) (m : Message) : Type 0 where
  pub at : IsReadAt moment word m
  pub numbered : m.number ≡ number
  pub comes : Over Comes held now.left held' mid.left (Ok (incoming_of m.too_large m.request))

-- what holds of the bytes at last
bytes_at : {moment word : Option ℕ} {old now mid new : ConnTold} {held held' : List ℕ} {number : ℕ} {turns : List Turn}
    (look : Looked moment word old now mid new held held' number turns) (result : Result Incoming EdgeFault) (part : List ℕ) (Q : List ℕ → List ℕ → List ℕ → Type 0)
    → Over Comes held now.left held' mid.left result → Appends mid.written new.written part
    → ((left more after last : List ℕ) → HasRead turns held left more after → Comes (held ++ after) held' last result → Q left (more ++ part) last)
    → Bytewise old.left old.written new.left new.written Q
bytes_at {moment} {word} {old} {now} {mid} {new} {held} {held'} {number} {turns} look result part Q comes wrote leads =
    bytes_on held held' result part (HasRead turns held) Q leads old.left old.written now.left now.written mid.left mid.written new.left new.written
    look.so_far.bytes comes look.takes look.unwritten wrote look.unread

module _ {moment word : Option ℕ} {old now mid new : ConnTold} {held held' : List ℕ} {number : ℕ} {turns : List Turn}
    (look : Looked moment word old now mid new held held' number turns) where
  -- the messages with this one, which went its whole way
  served_then : (t : Turn) → t.message.number ≡ number → Goes (walk t.message) t.acts (answers t.cause t.answer t.closes) → AreServed 1 (turns ++ t ∷ [])
  served_then t numbered goes = served_more turns t 1 look.so_far.served look.so_far.stays (numbered ∙ look.so_far.count) goes

  -- it was answered, and the connection goes on
  pub went_on : (t : Turn) → Found moment word now mid held held' number t.message → Goes (walk t.message) t.acts (answers t.cause t.answer t.closes) → Appends mid.written new.written t.answer
      → t.closes ≡ false → SoFar moment word old.left old.written held' new.left new.written (number + 1) (turns ++ t ∷ [])
  went_on t found goes wrote stays = record {
    served = served_then t found.numbered goes;
    stays = open_more turns t look.so_far.stays stays;
    count = ap (λ n. n + 1) look.so_far.count ∙ sym (number_more turns t 1);
    readings = readings_more moment word turns t look.so_far.readings found.at;
    bytes = bytes_at look (Ok (incoming_of t.message.too_large t.message.request)) t.answer (HasRead (turns ++ t ∷ []) held') found.comes wrote
        (λ left more after last h next. (reads_more turns t left (held ++ after) (held' ++ last) h.0 next, ap (λ x. x ++ t.answer) h.1 ∙ sym (answers_more turns t)));
  }

  -- it was answered, and the connection closes
  pub closes_then : (t : Turn) → Found moment word now mid held held' number t.message → Goes (walk t.message) t.acts (answers t.cause t.answer t.closes) → Appends mid.written new.written t.answer
      → t.closes ≡ true → Tells moment word old new Closed (no_hand (turns ++ t ∷ []))
  closes_then t found goes wrote closing = record {
    served = served_then t found.numbered goes;
    ends = refl;
    readings = readings_more moment word turns t look.so_far.readings found.at;
    hand_readings = tt;
    bytes = bytes_at look (Ok (incoming_of t.message.too_large t.message.request)) t.answer (IsBytewise (Rose old.write_faults new.write_faults) Closed (no_hand (turns ++ t ∷ []))) found.comes wrote
        (λ left more after last h next. (
          held' ++ last,
          reads_more turns t left (held ++ after) (held' ++ last) h.0 next,
          (ap (λ x. x ++ t.answer) h.1 ∙ sym (answers_more turns t), inl (closed_by turns t closing)),
        ));
    risen = tt;
  }

  -- of its answer a front was written, and then a write failed
  pub fails_then : (t : Turn) → Found moment word now mid held held' number t.message → Goes (walk t.message) t.acts (answers t.cause t.answer t.closes) → AppendsFront mid.written new.written t.answer
      → Rose old.write_faults new.write_faults → Tells moment word old new WriteFault (no_hand (turns ++ t ∷ []))
  fails_then t found goes wrote rose = record {
    served = served_then t found.numbered goes;
    ends = refl;
    readings = readings_more moment word turns t look.so_far.readings found.at;
    hand_readings = tt;
    bytes = bytes_at look (Ok (incoming_of t.message.too_large t.message.request)) wrote.1.0 (IsBytewise (Rose old.write_faults new.write_faults) WriteFault (no_hand (turns ++ t ∷ []))) found.comes wrote.1.2
        (λ left more after last h next. (
          held' ++ last,
          reads_more turns t left (held ++ after) (held' ++ last) h.0 next,
          inl (turns, t, wrote.1.0, refl, ap (λ x. x ++ wrote.1.0) h.1, (wrote.0, wrote.1.1)),
        ));
    risen = rose;
  }

  in_hand : (hand : Hand) → hand.message.number ≡ number → Goes (walk hand.message) hand.acts hand.next → IsInHand turns hand
  in_hand hand numbered goes = (look.so_far.stays, numbered ∙ look.so_far.count, goes)

  -- memory was wanting while it was in hand: nothing of its answer was written, or a front
  pub lacks_then : (hand : Hand) (part : List ℕ) → Found moment word now mid held held' number hand.message → Goes (walk hand.message) hand.acts hand.next → Appends mid.written new.written part
      → IsHandFront hand part → Tells moment word old new Memory (with_hand turns hand)
  lacks_then hand part found goes wrote front = record {
    served = look.so_far.served;
    ends = in_hand hand found.numbered goes;
    readings = look.so_far.readings;
    hand_readings = found.at;
    bytes = bytes_at look (Ok (incoming_of hand.message.too_large hand.message.request)) part (IsBytewise (Rose old.write_faults new.write_faults) Memory (with_hand turns hand)) found.comes wrote
        (λ left more after last h next. (held ++ after, h.0, (held' ++ last, next, part, ap (λ x. x ++ part) h.1, front)));
    risen = tt;
  }

  -- the session was full while it was in hand: its answer at the edge was written, or a front of it where a write failed
  pub full_then : (hand : Hand) (full : Full) (part : List ℕ) → Found moment word now mid held held' number hand.message → Goes (walk hand.message) hand.acts hand.next → Appends mid.written new.written part
      → IsBusy (Rose old.write_faults new.write_faults) part → ((front : List Act) × (event : Event) × (hand.acts ≡ front ++ refused event full ∷ []))
      → Tells moment word old new (SessionFull full.entries full.bytes) (with_hand turns hand)
  full_then hand full part found goes wrote busy refusal = record {
    served = look.so_far.served;
    ends = (in_hand hand found.numbered goes, refusal);
    readings = look.so_far.readings;
    hand_readings = found.at;
    bytes = bytes_at look (Ok (incoming_of hand.message.too_large hand.message.request)) part (IsBytewise (Rose old.write_faults new.write_faults) (SessionFull full.entries full.bytes) (with_hand turns hand)) found.comes wrote
        (λ left more after last h next. (held ++ after, h.0, (held' ++ last, next, part, ap (λ x. x ++ part) h.1, busy)));
    risen = tt;
  }

  -- no message was found: these hold of the turns whatever stands there
  ends_without : (ended : Ended) (result : Result Incoming EdgeFault) (part : List ℕ) → EndsBy ended turns None → HasRisen ended old new
      → Over Comes held now.left held' mid.left result → Appends mid.written new.written part
      → ((rest more last : List ℕ) → more ≡ answers_of turns → Comes rest held' last result → Writes (Rose old.write_faults new.write_faults) ended turns None rest (more ++ part) last)
      → Tells moment word old new ended (no_hand turns)
  ends_without ended result part ends risen comes wrote leads = record {
    served = look.so_far.served;
    ends = ends;
    readings = look.so_far.readings;
    hand_readings = tt;
    bytes = bytes_at look result part (IsBytewise (Rose old.write_faults new.write_faults) ended (no_hand turns)) comes wrote
        (λ left more after last h next. (held ++ after, h.0, leads (held ++ after) more last h.1 next));
    risen = risen;
  }

  plain : (more : List ℕ) → more ≡ answers_of turns → more ++ [] ≡ answers_of turns
  plain more e = append-nil more ∙ e

  -- the input ended
  pub ended_then : Over Comes held now.left held' mid.left (Ok End) → Appends mid.written new.written [] → Tells moment word old new Closed (no_hand turns)
  ended_then comes wrote = ends_without Closed (Ok End) [] refl tt comes wrote
      (λ rest more last e next. (plain more e, inr (next.0, refl)))

  -- a fault that is answered at the edge stands there: its answer was written, or a front of it
  at_edge : (fault : EdgeFault) (status : ℕ) (ended : Ended) → edge_status fault ≡ Some status → ((rest : List ℕ) (last : List ℕ) → Comes rest held' last (Err fault) → IsNext rest (Err fault) [])
      → EndsBy ended turns None → HasRisen ended old new
      → ((rest written last : List ℕ) → EndsAt fault (edge_bytes status) turns rest written → Writes (Rose old.write_faults new.write_faults) ended turns None rest written last)
      → (result : Ended) → Over Comes held now.left held' mid.left (Err fault) → WritesEdge mid.written new.written (edge_bytes status) ended result
      → (result ≡ WriteFault → Rose old.write_faults new.write_faults) → Tells moment word old new result (no_hand turns)
  at_edge fault status ended is next ends risen all result comes (inl (same, wrote)) rose =
      subst (λ r. Tells moment word old new r (no_hand turns)) (sym same)
      (ends_without ended (Err fault) (edge_bytes status) ends risen comes wrote
      (λ rest more last e c. all rest (more ++ edge_bytes status) last (next rest last c, ap (λ x. x ++ edge_bytes status) e)))
  at_edge fault status ended is next ends risen all result comes (inr (inl (same, wrote))) rose =
      subst (λ r. Tells moment word old new r (no_hand turns)) (sym same)
      (ends_without WriteFault (Err fault) wrote.1.0 refl (rose same) comes wrote.1.2
      (λ rest more last e c. inr (look.so_far.stays, edge_bytes status, wrote.1.0, (fault, status, next rest last c, is, refl), ap (λ x. x ++ wrote.1.0) e, (wrote.0, wrote.1.1))))
  at_edge fault status ended is next ends risen all result comes (inr (inr (same, wrote))) rose =
      subst (λ r. Tells moment word old new r (no_hand turns)) (sym same)
      (ends_without Memory (Err fault) wrote.1.0 tt tt comes wrote.1.2
      (λ rest more last e c. (wrote.1.0, ap (λ x. x ++ wrote.1.0) e, inr (edge_bytes status, (fault, status, next rest last c, is, refl), (wrote.0, wrote.1.1)))))

  -- a fault stands there
  pub faulted_then : (fault : EdgeFault) (result : Ended) → Over Comes held now.left held' mid.left (Err fault) → EndsWith fault mid.written new.written result
      → (result ≡ WriteFault → Rose old.write_faults new.write_faults) → (fault ≡ edge.ReadFault → Rose old.read_faults new.read_faults) → Tells moment word old new result (no_hand turns)
  faulted_then (edge.Cut n) result comes (same, wrote) rose risen =
      subst (λ r. Tells moment word old new r (no_hand turns)) (sym same)
      (ends_without (Cut n) (Err (edge.Cut n)) [] (refl, look.so_far.stays) tt comes wrote (λ rest more last e c. (c.0, ap (λ x. x ++ []) e)))
  faulted_then edge.ReadFault result comes (same, wrote) rose risen =
      subst (λ r. Tells moment word old new r (no_hand turns)) (sym same)
      (ends_without ReadFault (Err edge.ReadFault) [] (refl, look.so_far.stays) (risen refl) comes wrote (λ rest more last e c. (plain more e, c.0, c.1, c.2)))
  faulted_then edge.Memory result comes (same, wrote) rose risen =
      subst (λ r. Tells moment word old new r (no_hand turns)) (sym same)
      (ends_without Memory (Err edge.Memory) [] tt tt comes wrote (λ rest more last e c. ([], ap (λ x. x ++ []) e, inl refl)))
  faulted_then edge.BadHead result comes wrote rose risen =
      at_edge edge.BadHead 400 BadHead refl (λ rest last c. c) (refl, look.so_far.stays) tt (λ rest written last h. h) result comes wrote rose
  faulted_then edge.BadChunk result comes wrote rose risen =
      at_edge edge.BadChunk 400 BadChunk refl (λ rest last c. c) (refl, look.so_far.stays) tt (λ rest written last h. h) result comes wrote rose
  faulted_then edge.HeadTooLong result comes wrote rose risen =
      at_edge edge.HeadTooLong 431 HeadTooLong refl (λ rest last c. c) (refl, look.so_far.stays) tt (λ rest written last h. h) result comes wrote rose
