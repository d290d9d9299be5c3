use Rattle.std.proofs.Common.{◌≡◌, map, ap, sym, ◌∙◌, subst}
use Rattle.backend_core.specs.Script.{BackendFacts, outcome_of}
use Rattle.gate_walk.specs.Stories.{acts_of}
use Rattle.gate_walk.specs.Told.{Came, ComesTo}
use Rattle.play_session.specs.Sessions.{ConnFacts, SessionFacts}
use Rattle.play_session.proofs.Sitting.{comes_to, did_seated, seated}
use Rattle.turn_desk.specs.OneSeat.{seen_by}
use Rattle.play_session.proofs.session.Session.connect.Goals as goal

pub invariant_of-self : goal.invariant_of-self
invariant_of-self g c =
    let s = c.self.inside in
    let at = seated s.desk s.started.value.base _ c.in-Some.seat (sym c.take.ensures.value ∙ c.in-Some.is) c.self.invariant.0 in
    let w = c.serve_connection-seat.ensures.served in
    (did_seated s.desk s.started.value.base c.in-Some.seat c.serve_connection-seat.result.0 at.0 at.1 (acts_of w.0) w.1, c.self.invariant.1)

pub invariant_of-self-2 : goal.invariant_of-self-2
invariant_of-self-2 g c =
    let s = c.self.inside in
    let at = seated s.desk s.started.value.base _ c.in-Some.seat (sym c.take.ensures.value ∙ c.in-Some.is) c.self.invariant.0 in
    let w = c.serve_connection-seat.ensures.served in
    (did_seated s.desk s.started.value.base c.in-Some.seat c.serve_connection-seat.result.0 at.0 at.1 (acts_of w.0) w.1, c.self.invariant.1)

pub returns-clause-talks : goal.returns-clause-talks
returns-clause-talks g c =
    let s = c.self.inside in
    let k = c.in-Some.seat in
    let l = c.serve_connection-seat.result.0 in
    let there = sym c.take.ensures.value ∙ c.in-Some.is in
    let at = seated s.desk s.started.value.base _ k there c.self.invariant.0 in
    let w = c.serve_connection-seat.ensures.served in
    let moment = c.args.reading.moment in
    let word = c.args.reading.word in
    let after = c.serve_connection-seat.new.conn in
    let first = c.new-2.result in
    let last = c.serve_connection-seat.new.means.backend in
    let script = map outcome_of c.args.outcomes.items in
    let came : Came = record { history = l.seen; sent = last.sent; written = after.written; ended = c.serve_connection-seat.result.1 } in
    let here : ComesTo s.started.value.base 0 moment word k.seen c.in_ok-conn.conn.left script came =
    comes_to s.desk s.started.value.base k l at.0 at.1 moment word script c.in_ok-conn.conn after first last c.serve_connection-seat.result.1 w.0 w.1 w.2 w.3 (ap (λ (f : ConnFacts). f.written) c.in_ok-conn.ensures)
    (ap (λ (f : BackendFacts). f.sent) c.new-2.ensures) (ap (λ (f : BackendFacts). f.to_come) c.new-2.ensures) c.in_ok-ended.ensures.1 in
    let over : ComesTo s.started.value.base 0 moment word (seen_by s.seat) c.args.bytes.now script came =
    subst (λ h. ComesTo s.started.value.base 0 moment word h c.args.bytes.now script came) (ap seen_by (sym there))
    (subst (λ b. ComesTo s.started.value.base 0 moment word k.seen b script came) (ap (λ (f : ConnFacts). f.left) c.in_ok-conn.ensures) here) in
    let told : ComesTo c.args.self.now.base 0 moment word c.args.self.now.history c.args.bytes.now script came =
    subst (λ (v : SessionFacts). ComesTo v.base 0 moment word v.history c.args.bytes.now script came) c.self.view_is over in
    let requests : ComesTo c.args.self.now.base 0 moment word c.args.self.now.history c.args.bytes.now script (record { history = l.seen; sent = c.into_sent.result.items; written = after.written; ended = c.serve_connection-seat.result.1 }) =
    subst (λ r. ComesTo c.args.self.now.base 0 moment word c.args.self.now.history c.args.bytes.now script (record { history = l.seen; sent = r; written = after.written; ended = c.serve_connection-seat.result.1 }))
    (sym c.into_sent.ensures) told in
    subst (λ b. ComesTo c.args.self.now.base 0 moment word c.args.self.now.history c.args.bytes.now script (record { history = l.seen; sent = c.into_sent.result.items; written = b; ended = c.in_ok-ended.ended })) (sym c.into_written.ensures)
    (subst (λ e. ComesTo c.args.self.now.base 0 moment word c.args.self.now.history c.args.bytes.now script (record { history = l.seen; sent = c.into_sent.result.items; written = after.written; ended = e })) (sym c.in_ok-ended.ensures.0) requests)
