use Rattle.std.proofs.Common.{◌≡◌, ◌&&◌, [], ◌∷◌, ◌++◌, true, false, map, refl, sym, ap, ◌∙◌, subst, arith}
use Rattle.std.specs.Io.KnownBytes.{Appends}
use Rattle.std.specs.Result.{is_ok}
use Rattle.gate_ports.specs.declared.lane.Lane.{Lane}
use Rattle.gate_session.specs.Line.{session_line}
use Rattle.outside_core.specs.Told.{LaneTold, told_of}
use Rattle.session_chain.specs.Chains.{HeldSession, WasHeld}
use Rattle.session_chain.specs.Ends.{has_next}
use Rattle.session_chain.proofs.Going.{Going, going_first, going_on, chain_of, lines_with, lines_cut, none_shuts}
use Rattle.session_chain.proofs.Quiet.{lanes_open, as_many}
use Rattle.session_chain.proofs.Turning.{first_of_and, second_of_and, on_ok, refused_none, refused_by, rose_from, as_many_lanes, ok_by, err_by}
use Rattle.session_chain.proofs.all.serve_all.Goals as goal

pub loop-init : goal.loop-init
loop-init g c = record {
  full = [];
  number = refl;
  fresh = c.requires.fresh;
  are_open = c.requires.are_open;
  going = going_first c.args.limits c.args.book.base _ (g.A.Archive.sessions c.args.archive.now) (g.S.Sink.written c.args.output.now);
  beside = refl;
  faults = omega arith;
}

pub returns-then-not-follows-clause-ended : goal.returns-then-not-follows-clause-ended
returns-then-not-follows-clause-ended g c =
    let told : Lane g.row.P.Denot g.row.B.Denot g.row.T.Denot g.row.W.Denot g.row.G.Denot → LaneTold = λ lane. told_of (g.P.Port.coming lane.port) (g.P.Port.served lane.port) (g.B.Backend.sent lane.means.backend) (g.B.Backend.given lane.means.backend) (g.T.Clock.fixed lane.means.clock) (g.W.Words.fixed lane.means.words) (g.P.Port.closed lane.port) (g.P.Port.out lane.port) (g.P.Port.faults lane.port) in
    let i = c.loop.invariant in
    let book = c.in-Ok.served.0 in
    let lanes = map told c.loop.lanes.items in
    let now = map told c.serve_session.new.lanes.items in
    let s : HeldSession = record { base = book.base; before = lanes; now = now; ends = c.in-Ok.served.1.items; history = book.history; keeper = g.K.Keeper.facts c.finish.result.0 } in
    let archive = g.A.Archive.sessions c.loop.archive in
    let written = g.S.Sink.written c.loop.output in
    let first = map told c.args.lanes.now.items in
    let archived = g.A.Archive.sessions c.args.archive.now in
    let before = g.S.Sink.written c.args.output.now in
    let going : Going c.args.limits c.args.book.base first archived before i.full s.base s.before archive written = subst (λ b. Going c.args.limits c.args.book.base first archived before i.full b lanes archive written) (sym c.in-Ok.ensures.base) i.going in
    let held : WasHeld s = record { session = c.in-Ok.ensures.session; keeps = c.finish.ensures.keeps } in
    let seen : (is_ok c.tell-told.result && has_next s.ends s.history) ≡ false = ap (λ e. is_ok c.tell-told.result && has_next e s.history) (sym c.deref.ensures.value) ∙ ap (λ h. is_ok c.tell-told.result && has_next c.deref.result.now h) (sym c.history.ensures) ∙ sym c.follows.ensures ∙ c.if-not-follows.true in
    ok_by c.finish.result.1 _ _ (λ last is. (
      i.full,
      s,
      chain_of c.args.limits c.args.book.base first archived before i.full s archive (g.A.Archive.sessions c.finish.new.archive) written (g.S.Sink.written c.tell-told.new.output) going held is.2,
      refl,
      sym is.0,
      sym (ap (λ t. is_ok t && has_next s.ends s.history) is.1) ∙ seen,
      lines_with c.args.limits c.args.book.base first archived before i.full s archive (g.A.Archive.sessions c.finish.new.archive) written (g.S.Sink.written c.tell-told.new.output) going held is.2 (on_ok c.tell-told.result (Appends written (g.S.Sink.written c.tell-told.new.output) (session_line s.base.opening s.history)) (ap is_ok is.1) c.tell-told.ensures.all),
    )) c.finish.ensures.ended

pub returns-then-not-follows-clause-refused : goal.returns-then-not-follows-clause-refused
returns-then-not-follows-clause-refused g c = err_by c.finish.result.1 _ _ (λ fault none. refused_none fault _ none) c.finish.ensures.unrefused

pub returns-then-not-follows-clause-output : goal.returns-then-not-follows-clause-output
returns-then-not-follows-clause-output g c =
    let told : Lane g.row.P.Denot g.row.B.Denot g.row.T.Denot g.row.W.Denot g.row.G.Denot → LaneTold = λ lane. told_of (g.P.Port.coming lane.port) (g.P.Port.served lane.port) (g.B.Backend.sent lane.means.backend) (g.B.Backend.given lane.means.backend) (g.T.Clock.fixed lane.means.clock) (g.W.Words.fixed lane.means.words) (g.P.Port.closed lane.port) (g.P.Port.out lane.port) (g.P.Port.faults lane.port) in
    let i = c.loop.invariant in
    let book = c.in-Ok.served.0 in
    let lanes = map told c.loop.lanes.items in
    let now = map told c.serve_session.new.lanes.items in
    let s : HeldSession = record { base = book.base; before = lanes; now = now; ends = c.in-Ok.served.1.items; history = book.history; keeper = g.K.Keeper.facts c.finish.result.0 } in
    let archive = g.A.Archive.sessions c.loop.archive in
    let written = g.S.Sink.written c.loop.output in
    let first = map told c.args.lanes.now.items in
    let archived = g.A.Archive.sessions c.args.archive.now in
    let before = g.S.Sink.written c.args.output.now in
    let going : Going c.args.limits c.args.book.base first archived before i.full s.base s.before archive written = subst (λ b. Going c.args.limits c.args.book.base first archived before i.full b lanes archive written) (sym c.in-Ok.ensures.base) i.going in
    let held : WasHeld s = record { session = c.in-Ok.ensures.session; keeps = c.finish.ensures.keeps } in
    λ e.
    let cut = c.finish.ensures.cut e in (
      rose_from _ _ _ i.faults (c.tell-told.ensures.cause.failed cut.0),
      (
        i.full,
        s,
        chain_of c.args.limits c.args.book.base first archived before i.full s archive (g.A.Archive.sessions c.finish.new.archive) written (g.S.Sink.written c.tell-told.new.output) going held cut.1,
        refl,
        lines_cut c.args.limits c.args.book.base first archived before i.full s archive (g.A.Archive.sessions c.finish.new.archive) written (g.S.Sink.written c.tell-told.new.output) going held cut.1 c.tell-told.ensures.front,
      ),
    )

pub returns-then-not-follows-clause-as_many : goal.returns-then-not-follows-clause-as_many
returns-then-not-follows-clause-as_many g c =
    let told : Lane g.row.P.Denot g.row.B.Denot g.row.T.Denot g.row.W.Denot g.row.G.Denot → LaneTold = λ lane. told_of (g.P.Port.coming lane.port) (g.P.Port.served lane.port) (g.B.Backend.sent lane.means.backend) (g.B.Backend.given lane.means.backend) (g.T.Clock.fixed lane.means.clock) (g.W.Words.fixed lane.means.words) (g.P.Port.closed lane.port) (g.P.Port.out lane.port) (g.P.Port.faults lane.port) in
    let book = c.in-Ok.served.0 in
    let lanes = map told c.loop.lanes.items in
    let now = map told c.serve_session.new.lanes.items in
    let i = c.loop.invariant in
    as_many_lanes told c.loop.lanes.items c.serve_session.new.lanes.items (as_many book.base 1 lanes now c.in-Ok.served.1.items book.history c.in-Ok.ensures.session.lanes) ∙ i.number

pub returns-in-Err-follow-clause-refused : goal.returns-in-Err-follow-clause-refused
returns-in-Err-follow-clause-refused g c =
    let told : Lane g.row.P.Denot g.row.B.Denot g.row.T.Denot g.row.W.Denot g.row.G.Denot → LaneTold = λ lane. told_of (g.P.Port.coming lane.port) (g.P.Port.served lane.port) (g.B.Backend.sent lane.means.backend) (g.B.Backend.given lane.means.backend) (g.T.Clock.fixed lane.means.clock) (g.W.Words.fixed lane.means.words) (g.P.Port.closed lane.port) (g.P.Port.out lane.port) (g.P.Port.faults lane.port) in
    let i = c.loop.invariant in
    let book = c.in-Ok.served.0 in
    let lanes = map told c.loop.lanes.items in
    let now = map told c.serve_session.new.lanes.items in
    let s : HeldSession = record { base = book.base; before = lanes; now = now; ends = c.in-Ok.served.1.items; history = book.history; keeper = g.K.Keeper.facts c.in-Ok.served.0.keeper } in
    let archive = g.A.Archive.sessions c.loop.archive in
    let written = g.S.Sink.written c.loop.output in
    let first = map told c.args.lanes.now.items in
    let archived = g.A.Archive.sessions c.args.archive.now in
    let before = g.S.Sink.written c.args.output.now in
    let going : Going c.args.limits c.args.book.base first archived before i.full s.base s.before archive written = subst (λ b. Going c.args.limits c.args.book.base first archived before i.full b lanes archive written) (sym c.in-Ok.ensures.base) i.going in
    let held : WasHeld s = record { session = c.in-Ok.ensures.session; keeps = c.follow.ensures.keeps } in
    let seen : (is_ok c.tell-told.result && has_next s.ends s.history) ≡ true = ap (λ e. is_ok c.tell-told.result && has_next e s.history) (sym c.deref.ensures.value) ∙ ap (λ h. is_ok c.tell-told.result && has_next c.deref.result.now h) (sym c.history.ensures) ∙ sym c.follows.ensures ∙ c.if-not-follows.false in
    let told_whole = on_ok c.tell-told.result (Appends written (g.S.Sink.written c.tell-told.new.output) (session_line s.base.opening s.history)) (first_of_and (is_ok c.tell-told.result) (has_next s.ends s.history) seen) c.tell-told.ensures.all in
    refused_by c.in-Err-follow.fault _ _ (λ fault is. (
      i.full,
      s,
      chain_of c.args.limits c.args.book.base first archived before i.full s archive (g.A.Archive.sessions c.follow.new.archive) written (g.S.Sink.written c.tell-told.new.output) going held is.2,
      is.0,
      is.1,
      second_of_and (is_ok c.tell-told.result) (has_next s.ends s.history) seen,
      lines_with c.args.limits c.args.book.base first archived before i.full s archive (g.A.Archive.sessions c.follow.new.archive) written (g.S.Sink.written c.tell-told.new.output) going held is.2 told_whole,
    )) c.in-Err-follow.ensures.refused

pub returns-in-Err-follow-clause-as_many : goal.returns-in-Err-follow-clause-as_many
returns-in-Err-follow-clause-as_many g c =
    let told : Lane g.row.P.Denot g.row.B.Denot g.row.T.Denot g.row.W.Denot g.row.G.Denot → LaneTold = λ lane. told_of (g.P.Port.coming lane.port) (g.P.Port.served lane.port) (g.B.Backend.sent lane.means.backend) (g.B.Backend.given lane.means.backend) (g.T.Clock.fixed lane.means.clock) (g.W.Words.fixed lane.means.words) (g.P.Port.closed lane.port) (g.P.Port.out lane.port) (g.P.Port.faults lane.port) in
    let book = c.in-Ok.served.0 in
    let lanes = map told c.loop.lanes.items in
    let now = map told c.serve_session.new.lanes.items in
    let i = c.loop.invariant in
    as_many_lanes told c.loop.lanes.items c.serve_session.new.lanes.items (as_many book.base 1 lanes now c.in-Ok.served.1.items book.history c.in-Ok.ensures.session.lanes) ∙ i.number

pub loop-preserved : goal.loop-preserved
loop-preserved g c =
    let told : Lane g.row.P.Denot g.row.B.Denot g.row.T.Denot g.row.W.Denot g.row.G.Denot → LaneTold = λ lane. told_of (g.P.Port.coming lane.port) (g.P.Port.served lane.port) (g.B.Backend.sent lane.means.backend) (g.B.Backend.given lane.means.backend) (g.T.Clock.fixed lane.means.clock) (g.W.Words.fixed lane.means.words) (g.P.Port.closed lane.port) (g.P.Port.out lane.port) (g.P.Port.faults lane.port) in
    let i = c.loop.invariant in
    let book = c.in-Ok.served.0 in
    let lanes = map told c.loop.lanes.items in
    let now = map told c.serve_session.new.lanes.items in
    let s : HeldSession = record { base = book.base; before = lanes; now = now; ends = c.in-Ok.served.1.items; history = book.history; keeper = g.K.Keeper.facts c.in-Ok.served.0.keeper } in
    let archive = g.A.Archive.sessions c.loop.archive in
    let written = g.S.Sink.written c.loop.output in
    let first = map told c.args.lanes.now.items in
    let archived = g.A.Archive.sessions c.args.archive.now in
    let before = g.S.Sink.written c.args.output.now in
    let going : Going c.args.limits c.args.book.base first archived before i.full s.base s.before archive written = subst (λ b. Going c.args.limits c.args.book.base first archived before i.full b lanes archive written) (sym c.in-Ok.ensures.base) i.going in
    let held : WasHeld s = record { session = c.in-Ok.ensures.session; keeps = c.follow.ensures.keeps } in
    let seen : (is_ok c.tell-told.result && has_next s.ends s.history) ≡ true = ap (λ e. is_ok c.tell-told.result && has_next e s.history) (sym c.deref.ensures.value) ∙ ap (λ h. is_ok c.tell-told.result && has_next c.deref.result.now h) (sym c.history.ensures) ∙ sym c.follows.ensures ∙ c.if-not-follows.false in
    let has : has_next s.ends s.history ≡ true = second_of_and (is_ok c.tell-told.result) (has_next s.ends s.history) seen in
    let told_whole = on_ok c.tell-told.result (Appends written (g.S.Sink.written c.tell-told.new.output) (session_line s.base.opening s.history)) (first_of_and (is_ok c.tell-told.result) (has_next s.ends s.history) seen) c.tell-told.ensures.all in
    record {
      full = i.full ++ s ∷ [];
      number = as_many_lanes told c.loop.lanes.items c.serve_session.new.lanes.items (as_many book.base 1 lanes now c.in-Ok.served.1.items book.history c.in-Ok.ensures.session.lanes) ∙ i.number;
      fresh = c.in-Ok-follow.ensures.empty;
      are_open = lanes_open book.base 1 lanes now s.ends s.history c.in-Ok.ensures.session.lanes (none_shuts s.ends s.history has);
      going = going_on c.args.limits c.args.book.base first archived before i.full s archive (g.A.Archive.sessions c.follow.new.archive) written (g.S.Sink.written c.tell-told.new.output) going held c.in-Ok-follow.ensures.handed_on has c.in-Ok-follow.next.base c.in-Ok-follow.ensures.begun told_whole;
      beside = c.follow.ensures.beside ∙ i.beside;
      faults = omega (arith, i.faults, c.tell-told.ensures.cause.later);
    }
