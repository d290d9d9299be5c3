use Rattle.std.proofs.Common.{◌≡◌, ◌∙◌, ℕ, ◌+◌, List, [], Ok, Err, rules, refl, sym, ap, subst, arith, true, false}
use Rattle.std.proofs.KnownBytes.{Appends-nil}
use Rattle.std.specs.Io.KnownBytes.{Appends}
use Rattle.gate_ports.specs.Facts.{ConnTold}
use Rattle.gate_serve.specs.Serving.{BackendTold, Reaches}
use Rattle.gate_serve.proofs.Running.{Running, CameTo, runs_first, rose_from, comes_to_fault, comes_to_end, comes_to_full, full_from, comes_to_lack, comes_to_close, comes_to_stop, runs_on}
use Rattle.gate_serve.specs.declared.called.Called.TheVariants as called
use Rattle.gate_walk.specs.Stories.{IsFixed, incoming_of}
use Rattle.gate_walk.specs.Walk.{walk}
use Rattle.gate_walk.specs.declared.message.Message.{Message}
use Rattle.gate_walk.proofs.Telling.{Looked, Found}
use Rattle.gate_walk.proofs.Ways.{stays_open, another}
use Rattle.gw_base.specs.Outside.{Rose}
use Rattle.gw_base.specs.Whole.{AppendsFront}
use Rattle.http_edge.specs.Messages.{Comes}
use Rattle.http_edge.specs.declared.incoming.Incoming.TheVariants.{End}
use Rattle.http_framing.specs.Stream.{Over}
use Rattle.gate_serve.proofs.connection.serve_connection.Goals as goal

pub loop-incoming-init : goal.loop-incoming-init
loop-incoming-init g c =
    let left = g.C.Source.left c.args.conn.now in
    let written = g.C.Sink.written c.args.conn.now in
    let moment = g.T.Clock.fixed c.args.means.now.clock in
    let word = g.W.Words.fixed c.args.means.now.words in
    let b = c.args.means.now.backend in
    let backend : BackendTold = record { sent = g.B.Backend.sent b; given = g.B.Backend.given b; to_come = g.B.Backend.to_come b } in
    record {
      low = omega arith;
      high = omega arith;
      fault = ap (λ b. b.fault) c.new-rest.ensures;
      clock = refl;
      words = refl;
      reads = omega arith;
      writes = omega arith;
      running = subst (λ held. Running c.args.seat c.args.seat moment word left written backend backend held left written 1) (sym (ap (λ b. b.bytes) c.new-rest.ensures))
          (runs_first c.args.seat moment word left written backend c.requires.own);
    }

pub returns-in-Err-clause-served : goal.returns-in-Err-clause-served
returns-in-Err-clause-served g c =
    let told : g.row.C.Denot → ConnTold = λ x. record { left = g.C.Source.left x; written = g.C.Sink.written x; read_faults = g.C.Source.faults x; write_faults = g.C.Sink.faults x } in
    let backend : g.row.B.Denot → BackendTold = λ x. record { sent = g.B.Backend.sent x; given = g.B.Backend.given x; to_come = g.B.Backend.to_come x } in
    let law = g.met.C.Conn.reads_beside in
    let law' = g.met.C.Conn.writes_beside in
    let start = c.args.conn.now in
    let at = c.loop-incoming.conn in
    let mid = c.await_message.new.conn in
    let moment = g.T.Clock.fixed c.args.means.now.clock in
    let word = g.W.Words.fixed c.args.means.now.words in
    let read = sym (law mid) ∙ c.await_message.ensures.beside ∙ law at in
    let r = c.loop-incoming.invariant.running in
    let new = c.end_at_edge.new.conn in
    let wrote = sym (law' new) ∙ c.end_at_edge.ensures.beside ∙ law' mid in
    let look : Looked moment word (told start) (told at) (told mid) (told new) c.loop-incoming.rest.bytes c.await_message.new.rest.bytes c.loop-incoming.number r.turns =
    record { so_far = r.said; takes = c.await_message.ensures.taken; unwritten = ap (λ p. p.0) read; unread = ap (λ p. p.0) wrote } in
    let comes = c.in-Err.ensures.next c.loop-incoming.invariant.fault in
    comes_to_fault r look c.in-Err.fault c.end_at_edge.result comes c.end_at_edge.ensures.ends
    (λ failed. rose_from _ _ _ c.loop-incoming.invariant.writes (subst (λ n. Rose n (g.C.Sink.faults new)) (ap (λ p. p.1) read) (c.end_at_edge.ensures.failed failed)))
    (λ failed. rose_from _ _ _ c.loop-incoming.invariant.reads (subst (λ n. Rose (g.C.Source.faults at) n) (sym (ap (λ p. p.1) wrote)) (c.in-Err.ensures.fault c.loop-incoming.invariant.fault (ap Err failed))))

pub returns-in_default-clause-served : goal.returns-in_default-clause-served
returns-in_default-clause-served g c =
    let told : g.row.C.Denot → ConnTold = λ x. record { left = g.C.Source.left x; written = g.C.Sink.written x; read_faults = g.C.Source.faults x; write_faults = g.C.Sink.faults x } in
    let backend : g.row.B.Denot → BackendTold = λ x. record { sent = g.B.Backend.sent x; given = g.B.Backend.given x; to_come = g.B.Backend.to_come x } in
    let law = g.met.C.Conn.reads_beside in
    let law' = g.met.C.Conn.writes_beside in
    let start = c.args.conn.now in
    let at = c.loop-incoming.conn in
    let mid = c.await_message.new.conn in
    let moment = g.T.Clock.fixed c.args.means.now.clock in
    let word = g.W.Words.fixed c.args.means.now.words in
    let read = sym (law mid) ∙ c.await_message.ensures.beside ∙ law at in
    let r = c.loop-incoming.invariant.running in
    let look : Looked moment word (told start) (told at) (told mid) (told mid) c.loop-incoming.rest.bytes c.await_message.new.rest.bytes c.loop-incoming.number r.turns =
    record { so_far = r.said; takes = c.await_message.ensures.taken; unwritten = ap (λ p. p.0) read; unread = refl } in
    let is : c.in-Ok.incoming ≡ End = search rules in
    let comes = subst (λ i. Over Comes c.loop-incoming.rest.bytes (g.C.Source.left at) c.await_message.new.rest.bytes (g.C.Source.left mid) (Ok i)) is (c.in-Ok.ensures.next c.loop-incoming.invariant.fault) in
    comes_to_end r look comes (Appends-nil (g.C.Sink.written mid))

pub returns-in-Full-clause-served : goal.returns-in-Full-clause-served
returns-in-Full-clause-served g c =
    let told : g.row.C.Denot → ConnTold = λ x. record { left = g.C.Source.left x; written = g.C.Sink.written x; read_faults = g.C.Source.faults x; write_faults = g.C.Sink.faults x } in
    let backend : g.row.B.Denot → BackendTold = λ x. record { sent = g.B.Backend.sent x; given = g.B.Backend.given x; to_come = g.B.Backend.to_come x } in
    let law = g.met.C.Conn.reads_beside in
    let law' = g.met.C.Conn.writes_beside in
    let start = c.args.conn.now in
    let at = c.loop-incoming.conn in
    let mid = c.await_message.new.conn in
    let moment = g.T.Clock.fixed c.args.means.now.clock in
    let word = g.W.Words.fixed c.args.means.now.words in
    let read = sym (law mid) ∙ c.await_message.ensures.beside ∙ law at in
    let r = c.loop-incoming.invariant.running in
    let new = c.end_full.new.conn in
    let wrote = sym (law' new) ∙ c.end_full.ensures.beside ∙ law' mid in
    let look : Looked moment word (told start) (told at) (told mid) (told new) c.loop-incoming.rest.bytes c.await_message.new.rest.bytes c.loop-incoming.number r.turns =
    record { so_far = r.said; takes = c.await_message.ensures.taken; unwritten = ap (λ p. p.0) read; unread = ap (λ p. p.0) wrote } in
    let m : Message = record { number = c.loop-incoming.number; too_large = c.in-Some.too_large; request = c.in-Some.request; moment = c.now.result; word = c.next.result } in
    let is : c.in-Ok.incoming ≡ incoming_of c.in-Some.too_large c.in-Some.request = search rules in
    let found : Found moment word (told at) (told mid) c.loop-incoming.rest.bytes c.await_message.new.rest.bytes c.loop-incoming.number m =
    record {
      at = (subst (λ f. IsFixed f c.now.result) c.loop-incoming.invariant.clock c.now.ensures.reading, subst (λ f. IsFixed f c.next.result) c.loop-incoming.invariant.words c.next.ensures.reading);
      numbered = refl;
      comes = subst (λ i. Over Comes c.loop-incoming.rest.bytes (g.C.Source.left at) c.await_message.new.rest.bytes (g.C.Source.left mid) (Ok i)) is (c.in-Ok.ensures.next c.loop-incoming.invariant.fault);
    } in
    let w = c.call-next.ensures.walked in
    let ends = full_from (λ rose. rose_from _ _ _ c.loop-incoming.invariant.writes (subst (λ n. Rose n (g.C.Sink.faults new)) (ap (λ p. p.1) read) rose)) c.in-Full.full (g.C.Sink.written mid) (g.C.Sink.written new)
    c.end_full.result c.end_full.ensures.ends in
    let reach = subst (λ x. Reaches (walk m) w.0 x) c.in-Full.is w.2 in
    comes_to_full r look c.call-next.result.0 (backend c.call-next.new.means.backend) m w.0 c.call-next.result.2 found w.1 w.4 w.3 c.in-Full.full c.end_full.result reach ends

pub returns-in-Memory-clause-served : goal.returns-in-Memory-clause-served
returns-in-Memory-clause-served g c =
    let told : g.row.C.Denot → ConnTold = λ x. record { left = g.C.Source.left x; written = g.C.Sink.written x; read_faults = g.C.Source.faults x; write_faults = g.C.Sink.faults x } in
    let backend : g.row.B.Denot → BackendTold = λ x. record { sent = g.B.Backend.sent x; given = g.B.Backend.given x; to_come = g.B.Backend.to_come x } in
    let law = g.met.C.Conn.reads_beside in
    let law' = g.met.C.Conn.writes_beside in
    let start = c.args.conn.now in
    let at = c.loop-incoming.conn in
    let mid = c.await_message.new.conn in
    let moment = g.T.Clock.fixed c.args.means.now.clock in
    let word = g.W.Words.fixed c.args.means.now.words in
    let read = sym (law mid) ∙ c.await_message.ensures.beside ∙ law at in
    let r = c.loop-incoming.invariant.running in
    let look : Looked moment word (told start) (told at) (told mid) (told mid) c.loop-incoming.rest.bytes c.await_message.new.rest.bytes c.loop-incoming.number r.turns =
    record { so_far = r.said; takes = c.await_message.ensures.taken; unwritten = ap (λ p. p.0) read; unread = refl } in
    let m : Message = record { number = c.loop-incoming.number; too_large = c.in-Some.too_large; request = c.in-Some.request; moment = c.now.result; word = c.next.result } in
    let is : c.in-Ok.incoming ≡ incoming_of c.in-Some.too_large c.in-Some.request = search rules in
    let found : Found moment word (told at) (told mid) c.loop-incoming.rest.bytes c.await_message.new.rest.bytes c.loop-incoming.number m =
    record {
      at = (subst (λ f. IsFixed f c.now.result) c.loop-incoming.invariant.clock c.now.ensures.reading, subst (λ f. IsFixed f c.next.result) c.loop-incoming.invariant.words c.next.ensures.reading);
      numbered = refl;
      comes = subst (λ i. Over Comes c.loop-incoming.rest.bytes (g.C.Source.left at) c.await_message.new.rest.bytes (g.C.Source.left mid) (Ok i)) is (c.in-Ok.ensures.next c.loop-incoming.invariant.fault);
    } in
    let w = c.call-next.ensures.walked in
    let reach = subst (λ x. Reaches (walk m) w.0 x) c.in-Memory.is w.2 in
    comes_to_lack r look c.call-next.result.0 (backend c.call-next.new.means.backend) m w.0 c.call-next.result.2 found w.1 w.4 w.3 reach (Appends-nil (g.C.Sink.written mid))

pub returns-in-Err-write_all-clause-served : goal.returns-in-Err-write_all-clause-served
returns-in-Err-write_all-clause-served g c =
    let told : g.row.C.Denot → ConnTold = λ x. record { left = g.C.Source.left x; written = g.C.Sink.written x; read_faults = g.C.Source.faults x; write_faults = g.C.Sink.faults x } in
    let backend : g.row.B.Denot → BackendTold = λ x. record { sent = g.B.Backend.sent x; given = g.B.Backend.given x; to_come = g.B.Backend.to_come x } in
    let law = g.met.C.Conn.reads_beside in
    let law' = g.met.C.Conn.writes_beside in
    let start = c.args.conn.now in
    let at = c.loop-incoming.conn in
    let mid = c.await_message.new.conn in
    let moment = g.T.Clock.fixed c.args.means.now.clock in
    let word = g.W.Words.fixed c.args.means.now.words in
    let read = sym (law mid) ∙ c.await_message.ensures.beside ∙ law at in
    let r = c.loop-incoming.invariant.running in
    let new = c.write_all.new.sink in
    let wrote = sym (law' new) ∙ c.write_all.ensures.beside ∙ law' mid in
    let look : Looked moment word (told start) (told at) (told mid) (told new) c.loop-incoming.rest.bytes c.await_message.new.rest.bytes c.loop-incoming.number r.turns =
    record { so_far = r.said; takes = c.await_message.ensures.taken; unwritten = ap (λ p. p.0) read; unread = ap (λ p. p.0) wrote } in
    let m : Message = record { number = c.loop-incoming.number; too_large = c.in-Some.too_large; request = c.in-Some.request; moment = c.now.result; word = c.next.result } in
    let is : c.in-Ok.incoming ≡ incoming_of c.in-Some.too_large c.in-Some.request = search rules in
    let found : Found moment word (told at) (told mid) c.loop-incoming.rest.bytes c.await_message.new.rest.bytes c.loop-incoming.number m =
    record {
      at = (subst (λ f. IsFixed f c.now.result) c.loop-incoming.invariant.clock c.now.ensures.reading, subst (λ f. IsFixed f c.next.result) c.loop-incoming.invariant.words c.next.ensures.reading);
      numbered = refl;
      comes = subst (λ i. Over Comes c.loop-incoming.rest.bytes (g.C.Source.left at) c.await_message.new.rest.bytes (g.C.Source.left mid) (Ok i)) is (c.in-Ok.ensures.next c.loop-incoming.invariant.fault);
    } in
    let w = c.call-next.ensures.walked in
    let front = subst (λ b. AppendsFront (g.C.Sink.written mid) (g.C.Sink.written new) b) c.as_slice.ensures c.write_all.ensures.front in
    let goes = subst (λ x. Reaches (walk m) w.0 x) c.in-Answered.is w.2 in
    comes_to_stop r look c.call-next.result.0 (backend c.call-next.new.means.backend) m w.0 c.call-next.result.2 found w.1 w.4 w.3 c.in-Answered.cause c.in-Answered.bytes c.in-Answered.closes goes
    c.in-Err-write_all.stop c.stopped_by.result c.stopped_by.ensures front
    (λ failed. rose_from _ _ _ c.loop-incoming.invariant.writes (subst (λ n. Rose n (g.C.Sink.faults new)) (ap (λ p. p.1) read) (c.in-Err-write_all.ensures.cause.failed (ap Err failed))))

pub returns-then-closes-clause-served : goal.returns-then-closes-clause-served
returns-then-closes-clause-served g c =
    let told : g.row.C.Denot → ConnTold = λ x. record { left = g.C.Source.left x; written = g.C.Sink.written x; read_faults = g.C.Source.faults x; write_faults = g.C.Sink.faults x } in
    let backend : g.row.B.Denot → BackendTold = λ x. record { sent = g.B.Backend.sent x; given = g.B.Backend.given x; to_come = g.B.Backend.to_come x } in
    let law = g.met.C.Conn.reads_beside in
    let law' = g.met.C.Conn.writes_beside in
    let start = c.args.conn.now in
    let at = c.loop-incoming.conn in
    let mid = c.await_message.new.conn in
    let moment = g.T.Clock.fixed c.args.means.now.clock in
    let word = g.W.Words.fixed c.args.means.now.words in
    let read = sym (law mid) ∙ c.await_message.ensures.beside ∙ law at in
    let r = c.loop-incoming.invariant.running in
    let new = c.write_all.new.sink in
    let wrote = sym (law' new) ∙ c.write_all.ensures.beside ∙ law' mid in
    let look : Looked moment word (told start) (told at) (told mid) (told new) c.loop-incoming.rest.bytes c.await_message.new.rest.bytes c.loop-incoming.number r.turns =
    record { so_far = r.said; takes = c.await_message.ensures.taken; unwritten = ap (λ p. p.0) read; unread = ap (λ p. p.0) wrote } in
    let m : Message = record { number = c.loop-incoming.number; too_large = c.in-Some.too_large; request = c.in-Some.request; moment = c.now.result; word = c.next.result } in
    let is : c.in-Ok.incoming ≡ incoming_of c.in-Some.too_large c.in-Some.request = search rules in
    let found : Found moment word (told at) (told mid) c.loop-incoming.rest.bytes c.await_message.new.rest.bytes c.loop-incoming.number m =
    record {
      at = (subst (λ f. IsFixed f c.now.result) c.loop-incoming.invariant.clock c.now.ensures.reading, subst (λ f. IsFixed f c.next.result) c.loop-incoming.invariant.words c.next.ensures.reading);
      numbered = refl;
      comes = subst (λ i. Over Comes c.loop-incoming.rest.bytes (g.C.Source.left at) c.await_message.new.rest.bytes (g.C.Source.left mid) (Ok i)) is (c.in-Ok.ensures.next c.loop-incoming.invariant.fault);
    } in
    let w = c.call-next.ensures.walked in
    let all = subst (λ b. Appends (g.C.Sink.written mid) (g.C.Sink.written new) b) c.as_slice.ensures c.in_default-write_all.ensures.all in
    let goes = subst (λ x. Reaches (walk m) w.0 x) c.in-Answered.is w.2 in
    comes_to_close r look c.call-next.result.0 (backend c.call-next.new.means.backend) m w.0 c.call-next.result.2 found w.1 w.4 w.3 c.in-Answered.cause c.in-Answered.bytes c.in-Answered.closes goes all c.if-closes.true

pub loop-incoming-smaller : goal.loop-incoming-smaller
loop-incoming-smaller g c =
    let m : Message = record { number = c.loop-incoming.number; too_large = c.in-Some.too_large; request = c.in-Some.request; moment = c.now.result; word = c.next.result } in
    let w = c.call-next.ensures.walked in
    let goes = subst (λ x. Reaches (walk m) w.0 x) c.in-Answered.is w.2 in
    let more = another c.loop-incoming.number m.too_large m.request c.loop-incoming.invariant.high (stays_open m w.0 c.in-Answered.cause c.in-Answered.bytes c.in-Answered.closes goes c.if-closes.false).0 in
    omega (arith, more)

pub loop-incoming-preserved : goal.loop-incoming-preserved
loop-incoming-preserved g c =
    let told : g.row.C.Denot → ConnTold = λ x. record { left = g.C.Source.left x; written = g.C.Sink.written x; read_faults = g.C.Source.faults x; write_faults = g.C.Sink.faults x } in
    let backend : g.row.B.Denot → BackendTold = λ x. record { sent = g.B.Backend.sent x; given = g.B.Backend.given x; to_come = g.B.Backend.to_come x } in
    let law = g.met.C.Conn.reads_beside in
    let law' = g.met.C.Conn.writes_beside in
    let start = c.args.conn.now in
    let at = c.loop-incoming.conn in
    let mid = c.await_message.new.conn in
    let moment = g.T.Clock.fixed c.args.means.now.clock in
    let word = g.W.Words.fixed c.args.means.now.words in
    let read = sym (law mid) ∙ c.await_message.ensures.beside ∙ law at in
    let r = c.loop-incoming.invariant.running in
    let new = c.write_all.new.sink in
    let wrote = sym (law' new) ∙ c.write_all.ensures.beside ∙ law' mid in
    let look : Looked moment word (told start) (told at) (told mid) (told new) c.loop-incoming.rest.bytes c.await_message.new.rest.bytes c.loop-incoming.number r.turns =
    record { so_far = r.said; takes = c.await_message.ensures.taken; unwritten = ap (λ p. p.0) read; unread = ap (λ p. p.0) wrote } in
    let m : Message = record { number = c.loop-incoming.number; too_large = c.in-Some.too_large; request = c.in-Some.request; moment = c.now.result; word = c.next.result } in
    let is : c.in-Ok.incoming ≡ incoming_of c.in-Some.too_large c.in-Some.request = search rules in
    let found : Found moment word (told at) (told mid) c.loop-incoming.rest.bytes c.await_message.new.rest.bytes c.loop-incoming.number m =
    record {
      at = (subst (λ f. IsFixed f c.now.result) c.loop-incoming.invariant.clock c.now.ensures.reading, subst (λ f. IsFixed f c.next.result) c.loop-incoming.invariant.words c.next.ensures.reading);
      numbered = refl;
      comes = subst (λ i. Over Comes c.loop-incoming.rest.bytes (g.C.Source.left at) c.await_message.new.rest.bytes (g.C.Source.left mid) (Ok i)) is (c.in-Ok.ensures.next c.loop-incoming.invariant.fault);
    } in
    let w = c.call-next.ensures.walked in
    let all = subst (λ b. Appends (g.C.Sink.written mid) (g.C.Sink.written new) b) c.as_slice.ensures c.in_default-write_all.ensures.all in
    let goes = subst (λ x. Reaches (walk m) w.0 x) c.in-Answered.is w.2 in
    let faults : g.C.Sink.faults mid ≡ g.C.Sink.faults at = ap (λ p. p.1) read in
    let reads : g.C.Source.faults new ≡ g.C.Source.faults mid = ap (λ p. p.1) wrote in
    record {
      low = omega (arith, c.loop-incoming.invariant.low);
      high = another c.loop-incoming.number m.too_large m.request c.loop-incoming.invariant.high (stays_open m w.0 c.in-Answered.cause c.in-Answered.bytes c.in-Answered.closes goes c.if-closes.false).0;
      fault = c.in-Ok.ensures.kept c.loop-incoming.invariant.fault;
      clock = ap g.T.Clock.fixed c.call-next.ensures.clock ∙ c.now.ensures.same ∙ c.loop-incoming.invariant.clock;
      words = ap g.W.Words.fixed c.call-next.ensures.words ∙ c.next.ensures.same ∙ c.loop-incoming.invariant.words;
      reads = omega (arith, c.loop-incoming.invariant.reads, c.await_message.ensures.later, reads);
      writes = omega (arith, c.loop-incoming.invariant.writes, faults, c.write_all.ensures.cause.later);
      running = runs_on r look c.call-next.result.0 (backend c.call-next.new.means.backend) m w.0 c.call-next.result.2 found w.1 w.4 w.3 c.in-Answered.cause c.in-Answered.bytes c.in-Answered.closes goes all c.if-closes.false;
    }
