-- A connection that is being served, and its ways out.
use Rattle.std.proofs.Common.{◌≡◌, ℕ, ◌+◌, ◌≤◌, min, ◌-◌, ◌^◌, Bool, true, false, ◌||◌, List, [], ◌∷◌, ◌++◌, Option, Some, None, Result, Ok, Err, inl, inr, ap, sym, ◌∙◌, append-nil, subst, refl, arith}
use Rattle.std.specs.Prelude.{flat_map}
use Rattle.std.specs.Io.KnownBytes.{Appends}
use Rattle.std.proofs.KnownBytes.{Appends-nil}
use Rattle.book_rules.specs.History.{Base}
use Rattle.book_rules.specs.declared.events.Entry.{Entry}
use Rattle.book_rules.specs.declared.events.Event.{Event}
use Rattle.call_facts.specs.declared.kind.Kind.{Kind}
use Rattle.gate_ports.specs.Facts.{ConnTold}
use Rattle.gate_serve.specs.Serving.{Asked, BackendTold, Did, Reaches, seat_of, stopped_by}
use Rattle.gate_serve.proofs.Asking.{asked_both, asked_nothing}
use Rattle.gate_serve.specs.declared.called.Called.TheVariants as called
use Rattle.gate_serve.proofs.Doing.{Seats, did_nothing, did_both}
use Rattle.gate_walk.specs.Acts.{Act, refused, Goes, tell_closing}
use Rattle.gate_walk.specs.Ends.{EndsWith, EndsFull}
use Rattle.gate_walk.specs.Stories.{Turn, Hand, Story, IsBusy, IsFrontOf, Tells, acts_of}
use Rattle.gate_walk.specs.Walk.{Call, asks, sends, answers, walk}
use Rattle.gate_walk.specs.declared.ended.Ended.{Ended}
use Rattle.gate_walk.specs.declared.ended.Ended.TheVariants.{Closed, WriteFault, SessionFull, Memory}
use Rattle.gate_walk.specs.declared.ended.SessionFull.{SessionFull as Full}
use Rattle.gate_walk.specs.declared.message.Message.{Message}
use Rattle.gate_walk.proofs.Standing.{closing_both}
use Rattle.gate_walk.proofs.Telling.{SoFar, Looked, Found, starts, acts_more, no_hand, with_hand, went_on, closes_then, fails_then, lacks_then, full_then, ended_then, faulted_then}
use Rattle.gate_walk.proofs.Ways.{stays_open}
use Rattle.gw_base.specs.Outside.{Rose}
use Rattle.gw_base.specs.Whole.{AppendsFront}
use Rattle.gw_base.specs.declared.outside.WriteStop.{WriteStop}
use Rattle.gw_base.specs.declared.outside.WriteStop.TheVariants as stop
use Rattle.http_edge.specs.Answers.{edge_bytes}
use Rattle.http_edge.specs.Messages.{Comes}
use Rattle.http_edge.specs.declared.incoming.Incoming.TheVariants.{End}
use Rattle.http_framing.specs.Stream.{Over}
use Rattle.http_framing.specs.declared.fault.EdgeFault.{EdgeFault}
use Rattle.http_framing.specs.declared.fault.EdgeFault.TheVariants as edge
use Rattle.turn_desk.specs.Calls.{HasItsOwn}

abbrev pub acts_in_all : List Turn → List Act
acts_in_all turns = flat_map (λ (t : Turn). t.acts) turns

-- some messages were served, none of which closed the connection
pub record Running (before now : Seats) (moment word : Option ℕ) (left written : Option (List ℕ)) (first last : BackendTold) (held : List ℕ) (after so_far : Option (List ℕ)) (number : ℕ) : Type 0 where
  pub turns : List Turn
  pub did : Did before now (acts_in_all turns)
  pub said : SoFar moment word left written held after so_far number turns
  pub quiet : tell_closing (acts_in_all turns) ≡ false
  pub asked : Asked first last (acts_in_all turns)

pub runs_first : (k : Seats) (moment word : Option ℕ) (left written : Option (List ℕ)) (told : BackendTold) → HasItsOwn seat_of k → Running k k moment word left written told told [] left written 1
runs_first k moment word left written told own = record { turns = []; did = did_nothing k own; said = starts moment word left written; quiet = refl; asked = asked_nothing told }

-- what a connection came to: its story, and what a backend was asked on it
abbrev pub CameTo : Seats → Seats → Option ℕ → Option ℕ → BackendTold → BackendTold → ConnTold → ConnTold → Ended → Bool → Type 0
CameTo before now moment word first last old new ended closing =
    (story : Story) × Did before now (acts_of story) × Asked first last (acts_of story) × Tells moment word old new ended story × (closing ≡ tell_closing (acts_of story))

pub rose_from : (first before now : ℕ) → first ≤ before → Rose before now → Rose first now
rose_from first before now h r = omega (arith, h, r)

nothing_of : (call : Call) → IsFrontOf call []
nothing_of (asks event next) = refl
nothing_of (sends request next) = refl
nothing_of (answers cause bytes closes) = (bytes, refl)

-- a full session, by whatever else a failed write shows
pub full_from : {P Q : Type 0} (leads : P → Q) (full : Full) (written so_far : Option (List ℕ)) (result : Ended) → EndsFull P full written so_far result → EndsFull Q full written so_far result
full_from leads full written so_far result (inl (is, inl all)) = inl (is, inl all)
full_from leads full written so_far result (inl (is, inr (failed, front))) = inl (is, inr (leads failed, front))
full_from leads full written so_far result (inr lack) = inr lack

module _ {before now : Seats} {moment word : Option ℕ} {first so_far : BackendTold} {old at mid new : ConnTold} {held held' : List ℕ} {number : ℕ}
    (r : Running before now moment word old.left old.written first so_far held at.left at.written number)
    (look : Looked moment word old at mid new held held' number r.turns) where
  -- these acts were done then
  then : (next : Seats) (last : BackendTold) (acts all : List Act) (closing : Bool) → all ≡ acts_in_all r.turns ++ acts → Did now next acts → Asked so_far last acts → closing ≡ tell_closing acts
      → Did before next all × Asked first last all × (closing ≡ tell_closing all)
  then next last acts all closing is did asked tells = (
    subst (Did before next) (sym is) (did_both before now next (acts_in_all r.turns) acts r.did did),
    subst (Asked first last) (sym is) (asked_both first so_far last (acts_in_all r.turns) acts r.asked asked),
    tells ∙ ap (λ b. b || tell_closing acts) (sym r.quiet) ∙ sym (closing_both (acts_in_all r.turns) acts) ∙ ap tell_closing (sym is),
  )

  -- nothing more was done
  no_more : (ended : Ended) → Tells moment word old new ended (no_hand r.turns) → CameTo before now moment word first so_far old new ended false
  no_more ended tells =
      let is : acts_of (no_hand r.turns) ≡ acts_in_all r.turns = append-nil (acts_in_all r.turns) in (
        no_hand r.turns,
        subst (Did before now) (sym is) r.did,
        subst (Asked first so_far) (sym is) r.asked,
        tells,
        sym r.quiet ∙ ap tell_closing (sym is),
      )

  pub comes_to_fault : (fault : EdgeFault) (result : Ended) → Over Comes held at.left held' mid.left (Err fault) → EndsWith fault mid.written new.written result
      → (result ≡ WriteFault → Rose old.write_faults new.write_faults) → (fault ≡ edge.ReadFault → Rose old.read_faults new.read_faults) → CameTo before now moment word first so_far old new result false
  comes_to_fault fault result comes ends rose risen = no_more result (faulted_then look fault result comes ends rose risen)

  pub comes_to_end : Over Comes held at.left held' mid.left (Ok End) → Appends mid.written new.written [] → CameTo before now moment word first so_far old new Closed false
  comes_to_end comes wrote = no_more Closed (ended_then look comes wrote)

  -- a message was found, and these acts were done of it
  module _ (next : Seats) (last : BackendTold) (m : Message) (acts : List Act) (closing : Bool) (found : Found moment word at mid held held' number m) (did : Did now next acts) (asked : Asked so_far last acts) (tells : closing ≡ tell_closing acts) where
    in_hand : (call : Call) (ended : Ended) → Goes (walk m) acts call → Tells moment word old new ended (with_hand r.turns (record { message = m; acts = acts; next = call })) → CameTo before next moment word first last old new ended closing
    in_hand call ended goes told =
        let hand : Hand = record { message = m; acts = acts; next = call } in
        let all = then next last acts (acts_of (with_hand r.turns hand)) closing refl did asked tells in
        (with_hand r.turns hand, all.0, all.1, told, all.2)

    -- the session was full: its answer at the edge was written, or a front of it
    full_with : (full : Full) (part : List ℕ) → Reaches (walk m) acts (called.Full full) → Appends mid.written new.written part → IsBusy (Rose old.write_faults new.write_faults) part
        → CameTo before next moment word first last old new (SessionFull full.entries full.bytes) closing
    full_with full part reach wrote busy =
        let hand : Hand = record { message = m; acts = acts; next = reach.0 } in
        in_hand reach.0 (SessionFull full.entries full.bytes) reach.1 (full_then look hand full part found reach.1 wrote busy (reach.2, reach.3, reach.4))

    pub comes_to_full : (full : Full) (result : Ended) → Reaches (walk m) acts (called.Full full) → EndsFull (Rose old.write_faults new.write_faults) full mid.written new.written result
        → CameTo before next moment word first last old new result closing
    comes_to_full full result reach (inl (is, inl wrote)) =
        subst (λ e. CameTo before next moment word first last old new e closing) (sym is) (full_with full (edge_bytes 503) reach wrote (inl refl))
    comes_to_full full result reach (inl (is, inr (rose, wrote))) =
        subst (λ e. CameTo before next moment word first last old new e closing) (sym is) (full_with full wrote.1.0 reach wrote.1.2 (inr (rose, (wrote.0, wrote.1.1))))
    comes_to_full full result reach (inr (is, wrote)) =
        let hand : Hand = record { message = m; acts = acts; next = reach.0 } in
        subst (λ e. CameTo before next moment word first last old new e closing) (sym is)
        (in_hand reach.0 Memory reach.1 (lacks_then look hand wrote.1.0 found reach.1 wrote.1.2 (inr (full.entries, full.bytes, (reach.2, reach.3, reach.4), (wrote.0, wrote.1.1)))))

    pub comes_to_lack : Reaches (walk m) acts called.Memory → Appends mid.written new.written [] → CameTo before next moment word first last old new Memory closing
    comes_to_lack reach wrote =
        let hand : Hand = record { message = m; acts = acts; next = reach.0 } in
        in_hand reach.0 Memory reach.1 (lacks_then look hand [] found reach.1 wrote (inl (nothing_of reach.0)))

    -- it was answered
    module _ (cause : Option Kind) (bytes : List ℕ) (closes : Bool) (goes : Goes (walk m) acts (answers cause bytes closes)) where
      whole : (ended : Ended) → Tells moment word old new ended (no_hand (r.turns ++ record { message = m; acts = acts; cause = cause; answer = bytes; closes = closes } ∷ [])) → CameTo before next moment word first last old new ended closing
      whole ended told =
          let turn : Turn = record { message = m; acts = acts; cause = cause; answer = bytes; closes = closes } in
          let is : acts_of (no_hand (r.turns ++ turn ∷ [])) ≡ acts_in_all r.turns ++ acts = append-nil (acts_in_all (r.turns ++ turn ∷ [])) ∙ acts_more r.turns turn in
          let all = then next last acts (acts_of (no_hand (r.turns ++ turn ∷ []))) closing is did asked tells in
          (no_hand (r.turns ++ turn ∷ []), all.0, all.1, told, all.2)

      pub comes_to_close : Appends mid.written new.written bytes → closes ≡ true → CameTo before next moment word first last old new Closed closing
      comes_to_close wrote e = whole Closed (closes_then look (record { message = m; acts = acts; cause = cause; answer = bytes; closes = closes }) found goes wrote e)

      pub comes_to_stop : (why : WriteStop) (result : Ended) → result ≡ stopped_by why → AppendsFront mid.written new.written bytes → (why ≡ stop.Failed → Rose old.write_faults new.write_faults)
          → CameTo before next moment word first last old new result closing
      comes_to_stop stop.Failed result is wrote rose =
          subst (λ e. CameTo before next moment word first last old new e closing) (sym is)
          (whole WriteFault (fails_then look (record { message = m; acts = acts; cause = cause; answer = bytes; closes = closes }) found goes wrote (rose refl)))
      comes_to_stop stop.Memory result is wrote rose =
          let hand : Hand = record { message = m; acts = acts; next = answers cause bytes closes } in
          subst (λ e. CameTo before next moment word first last old new e closing) (sym is)
          (in_hand (answers cause bytes closes) Memory goes (lacks_then look hand wrote.1.0 found goes wrote.1.2 (inl (wrote.0, wrote.1.1))))

      -- and the connection goes on
      pub runs_on : Appends mid.written new.written bytes → closes ≡ false → Running before next moment word old.left old.written first last held' new.left new.written (number + 1)
      runs_on wrote e =
          let turn : Turn = record { message = m; acts = acts; cause = cause; answer = bytes; closes = closes } in
          let all = then next last acts (acts_in_all (r.turns ++ turn ∷ [])) closing (acts_more r.turns turn) did asked tells in
          record {
            turns = r.turns ++ turn ∷ [];
            did = all.0;
            said = went_on look turn found goes wrote e;
            quiet = sym all.2 ∙ tells ∙ (stays_open m acts cause bytes closes goes e).1;
            asked = all.1;
          }
