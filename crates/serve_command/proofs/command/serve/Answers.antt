use Rattle.std.proofs.Common.{◌≡◌, false, map, drop, ap, ◌∙◌, subst, arith}
use Rattle.std.proofs.lemmas.List.{length-map}
use Rattle.gate_ports.specs.declared.lane.Lane.{Lane}
use Rattle.gate_session.specs.Posts.{IsOpen}
use Rattle.outside_core.specs.Lending.{first_of, is_failed_lending}
use Rattle.outside_core.specs.Told.{LaneTold, told_of}
use Rattle.serve_command.specs.Shelves.{Shelves}
use Rattle.serve_command.proofs.Serves.{Lends, Stays, all_mapped, serves, serves_keeper, serves_output, serves_port, unopened_ends, unopened_keeper, unopened_output}
use Rattle.serve_command.proofs.command.serve.Goals as goal

pub returns-in-Err-clause-ends : goal.returns-in-Err-clause-ends
returns-in-Err-clause-ends g c = unopened_ends c.args.limits c.args.asked.now.store.now c.args.asked.now.lanes _ _ (g.W.Sink.written c.args.output.now) (g.W.Sink.written c.tell_unopened.new.output) c.tell_unopened.result c.in-Err.stop c.in-Err.ensures.refused c.tell_unopened.ensures.told

pub returns-in-Err-clause-keeper : goal.returns-in-Err-clause-keeper
returns-in-Err-clause-keeper g c = λ e. unopened_keeper c.args.limits c.args.asked.now.store.now c.args.asked.now.lanes _ _ (g.W.Sink.written c.args.output.now) (g.W.Sink.written c.tell_unopened.new.output) c.in-Err.stop c.in-Err.ensures.refused (c.tell_unopened.ensures.keeper e)

pub returns-in-Err-clause-output : goal.returns-in-Err-clause-output
returns-in-Err-clause-output g c = λ e. unopened_output c.args.limits c.args.asked.now.store.now c.args.asked.now.lanes _ _ (g.W.Sink.written c.args.output.now) (g.W.Sink.written c.tell_unopened.new.output) c.in-Err.stop (g.W.Sink.faults c.args.output.now) (g.W.Sink.faults c.tell_unopened.new.output) c.in-Err.ensures.refused (c.tell_unopened.ensures.output e)

pub serve_all-keeper-requires-clause-are_open : goal.serve_all-keeper-requires-clause-are_open
serve_all-keeper-requires-clause-are_open g c κs within =
    let told : Lane g.row.O-Door.Denot g.row.O-Back.Denot g.row.O-Time.Denot g.row.O-Draw.Denot g.row.O-Hold.Denot → LaneTold = λ l. told_of (g.O.Door.Port.coming l.port) (g.O.Door.Port.served l.port) (g.O.Back.Backend.sent l.means.backend) (g.O.Back.Backend.given l.means.backend) (g.O.Time.Clock.fixed l.means.clock) (g.O.Draw.Words.fixed l.means.words) (g.O.Door.Port.closed l.port) (g.O.Door.Port.out l.port) (g.O.Door.Port.faults l.port) in
    all_mapped told (λ l. (g.O.Door.Port.closed l.port ≡ false) × (g.O.Door.Port.out l.port ≡ false) × (g.O.Door.Port.faults l.port ≡ 0)) IsOpen (λ l h. (h.0, h.1)) c.in-Ok-lanes.lanes.items c.in-Ok-lanes.ensures.unused

pub give_back-requires-clause-lent : goal.give_back-requires-clause-lent
give_back-requires-clause-lent g c κs within =
    let beside = g.met.O.Outside.beside_tells c.serve_all-keeper.new.archive c.lanes.new.self c.serve_all-keeper.ensures.beside in
    ap first_of (beside.5 ∙ c.lanes.ensures.keepers_out ∙ ap (λ s. s.keepers_out) c.in-Ok.ensures.opened.lent)

pub give_back-requires-clause-lanes_lent : goal.give_back-requires-clause-lanes_lent
give_back-requires-clause-lanes_lent g c =
    let beside = g.met.O.Outside.beside_tells c.serve_all-keeper.new.archive c.lanes.new.self c.serve_all-keeper.ensures.beside in
    omega (arith, beside.6, c.in-Ok-lanes.ensures.lent, c.in-Ok-lanes.ensures.number, c.serve_all-keeper.ensures.as_many)

pub returns-clause-back : goal.returns-clause-back
returns-clause-back g c =
    let beside = g.met.O.Outside.beside_tells c.serve_all-keeper.new.archive c.lanes.new.self c.serve_all-keeper.ensures.beside in
    let told : Lane g.row.O-Door.Denot g.row.O-Back.Denot g.row.O-Time.Denot g.row.O-Draw.Denot g.row.O-Hold.Denot → LaneTold = λ l. told_of (g.O.Door.Port.coming l.port) (g.O.Door.Port.served l.port) (g.O.Back.Backend.sent l.means.backend) (g.O.Back.Backend.given l.means.backend) (g.O.Time.Clock.fixed l.means.clock) (g.O.Draw.Words.fixed l.means.words) (g.O.Door.Port.closed l.port) (g.O.Door.Port.out l.port) (g.O.Door.Port.faults l.port) in
    let b = c.give_back.ensures in
    record {
      keepers = b.keepers ∙ ap (drop 1) (beside.5 ∙ c.lanes.ensures.keepers_out ∙ ap (λ s. s.keepers_out) c.in-Ok.ensures.opened.lent);
      lanes = omega (arith, b.lanes_out, beside.6, c.in-Ok-lanes.ensures.lent, c.in-Ok-lanes.ensures.number, c.serve_all-keeper.ensures.as_many, length-map c.serve_all-keeper.new.lanes.items told, ap (λ s. s.lanes_out) c.in-Ok.ensures.opened.lent);
    }

pub returns-clause-ends : goal.returns-clause-ends
returns-clause-ends g c =
    let told : Lane g.row.O-Door.Denot g.row.O-Back.Denot g.row.O-Time.Denot g.row.O-Draw.Denot g.row.O-Hold.Denot → LaneTold = λ l. told_of (g.O.Door.Port.coming l.port) (g.O.Door.Port.served l.port) (g.O.Back.Backend.sent l.means.backend) (g.O.Back.Backend.given l.means.backend) (g.O.Time.Clock.fixed l.means.clock) (g.O.Draw.Words.fixed l.means.words) (g.O.Door.Port.closed l.port) (g.O.Door.Port.out l.port) (g.O.Door.Port.faults l.port) in
    let lanes = c.in-Ok-lanes.lanes.items in
    let behind_lanes = c.serve_all-keeper.new.lanes.items in
    let first : Shelves = record { stores = g.O.Outside.stores c.args.outside.now; waiting = g.O.Outside.waiting c.args.outside.now; kept_back = g.O.Outside.kept_back c.args.outside.now; returned = g.O.Outside.returned c.args.outside.now; sessions = g.O.Archive.sessions c.args.outside.now; faults = g.O.Outside.faults c.args.outside.now; keepers_out = g.O.Outside.keepers_out c.args.outside.now; lanes_out = g.O.Outside.lanes_out c.args.outside.now } in
    let opened : Shelves = record { stores = g.O.Outside.stores c.open_book.new.outside; waiting = g.O.Outside.waiting c.open_book.new.outside; kept_back = g.O.Outside.kept_back c.open_book.new.outside; returned = g.O.Outside.returned c.open_book.new.outside; sessions = g.O.Archive.sessions c.open_book.new.outside; faults = g.O.Outside.faults c.open_book.new.outside; keepers_out = g.O.Outside.keepers_out c.open_book.new.outside; lanes_out = g.O.Outside.lanes_out c.open_book.new.outside } in
    let lent : Shelves = record { stores = g.O.Outside.stores c.lanes.new.self; waiting = g.O.Outside.waiting c.lanes.new.self; kept_back = g.O.Outside.kept_back c.lanes.new.self; returned = g.O.Outside.returned c.lanes.new.self; sessions = g.O.Archive.sessions c.lanes.new.self; faults = g.O.Outside.faults c.lanes.new.self; keepers_out = g.O.Outside.keepers_out c.lanes.new.self; lanes_out = g.O.Outside.lanes_out c.lanes.new.self } in
    let served : Shelves = record { stores = g.O.Outside.stores c.serve_all-keeper.new.archive; waiting = g.O.Outside.waiting c.serve_all-keeper.new.archive; kept_back = g.O.Outside.kept_back c.serve_all-keeper.new.archive; returned = g.O.Outside.returned c.serve_all-keeper.new.archive; sessions = g.O.Archive.sessions c.serve_all-keeper.new.archive; faults = g.O.Outside.faults c.serve_all-keeper.new.archive; keepers_out = g.O.Outside.keepers_out c.serve_all-keeper.new.archive; lanes_out = g.O.Outside.lanes_out c.serve_all-keeper.new.archive } in
    let back : Shelves = record { stores = g.O.Outside.stores c.give_back.new.outside; waiting = g.O.Outside.waiting c.give_back.new.outside; kept_back = g.O.Outside.kept_back c.give_back.new.outside; returned = g.O.Outside.returned c.give_back.new.outside; sessions = g.O.Archive.sessions c.give_back.new.outside; faults = g.O.Outside.faults c.give_back.new.outside; keepers_out = g.O.Outside.keepers_out c.give_back.new.outside; lanes_out = g.O.Outside.lanes_out c.give_back.new.outside } in
    let beside = g.met.O.Outside.beside_tells c.serve_all-keeper.new.archive c.lanes.new.self c.serve_all-keeper.ensures.beside in
    let lends : Lends (map told lanes) opened lent = record { waiting = c.in-Ok-lanes.ensures.first; stores = c.lanes.ensures.stores; kept_back = c.lanes.ensures.kept_back; returned = c.lanes.ensures.returned; sessions = c.lanes.ensures.sessions; faults = c.lanes.ensures.faults.stood (ap is_failed_lending c.in-Ok-lanes.is) } in
    let stays : Stays lent served = record { stores = beside.1; waiting = beside.2; kept_back = beside.3; returned = beside.4; faults = beside.7 } in
    let many = length-map lanes told ∙ c.in-Ok-lanes.ensures.number in
    serves c.args.limits c.args.asked.now.store.now c.args.asked.now.lanes first opened lent served back c.in-Ok.book.base c.in-Ok.book.history (map told lanes) (map told behind_lanes) (g.O.Keep.Keeper.facts c.serve_all-keeper.result.0) (g.W.Sink.written c.args.output.now) (g.W.Sink.written c.serve_all-keeper.new.output) c.in-Ok.ensures.opened lends many stays c.give_back.ensures (λ v. v.items) c.serve_all-keeper.result.1 c.answer.result c.serve_all-keeper.ensures.ended c.answer.ensures.told

pub returns-clause-keeper : goal.returns-clause-keeper
returns-clause-keeper g c =
    let told : Lane g.row.O-Door.Denot g.row.O-Back.Denot g.row.O-Time.Denot g.row.O-Draw.Denot g.row.O-Hold.Denot → LaneTold = λ l. told_of (g.O.Door.Port.coming l.port) (g.O.Door.Port.served l.port) (g.O.Back.Backend.sent l.means.backend) (g.O.Back.Backend.given l.means.backend) (g.O.Time.Clock.fixed l.means.clock) (g.O.Draw.Words.fixed l.means.words) (g.O.Door.Port.closed l.port) (g.O.Door.Port.out l.port) (g.O.Door.Port.faults l.port) in
    let lanes = c.in-Ok-lanes.lanes.items in
    let behind_lanes = c.serve_all-keeper.new.lanes.items in
    let first : Shelves = record { stores = g.O.Outside.stores c.args.outside.now; waiting = g.O.Outside.waiting c.args.outside.now; kept_back = g.O.Outside.kept_back c.args.outside.now; returned = g.O.Outside.returned c.args.outside.now; sessions = g.O.Archive.sessions c.args.outside.now; faults = g.O.Outside.faults c.args.outside.now; keepers_out = g.O.Outside.keepers_out c.args.outside.now; lanes_out = g.O.Outside.lanes_out c.args.outside.now } in
    let opened : Shelves = record { stores = g.O.Outside.stores c.open_book.new.outside; waiting = g.O.Outside.waiting c.open_book.new.outside; kept_back = g.O.Outside.kept_back c.open_book.new.outside; returned = g.O.Outside.returned c.open_book.new.outside; sessions = g.O.Archive.sessions c.open_book.new.outside; faults = g.O.Outside.faults c.open_book.new.outside; keepers_out = g.O.Outside.keepers_out c.open_book.new.outside; lanes_out = g.O.Outside.lanes_out c.open_book.new.outside } in
    let lent : Shelves = record { stores = g.O.Outside.stores c.lanes.new.self; waiting = g.O.Outside.waiting c.lanes.new.self; kept_back = g.O.Outside.kept_back c.lanes.new.self; returned = g.O.Outside.returned c.lanes.new.self; sessions = g.O.Archive.sessions c.lanes.new.self; faults = g.O.Outside.faults c.lanes.new.self; keepers_out = g.O.Outside.keepers_out c.lanes.new.self; lanes_out = g.O.Outside.lanes_out c.lanes.new.self } in
    let served : Shelves = record { stores = g.O.Outside.stores c.serve_all-keeper.new.archive; waiting = g.O.Outside.waiting c.serve_all-keeper.new.archive; kept_back = g.O.Outside.kept_back c.serve_all-keeper.new.archive; returned = g.O.Outside.returned c.serve_all-keeper.new.archive; sessions = g.O.Archive.sessions c.serve_all-keeper.new.archive; faults = g.O.Outside.faults c.serve_all-keeper.new.archive; keepers_out = g.O.Outside.keepers_out c.serve_all-keeper.new.archive; lanes_out = g.O.Outside.lanes_out c.serve_all-keeper.new.archive } in
    let back : Shelves = record { stores = g.O.Outside.stores c.give_back.new.outside; waiting = g.O.Outside.waiting c.give_back.new.outside; kept_back = g.O.Outside.kept_back c.give_back.new.outside; returned = g.O.Outside.returned c.give_back.new.outside; sessions = g.O.Archive.sessions c.give_back.new.outside; faults = g.O.Outside.faults c.give_back.new.outside; keepers_out = g.O.Outside.keepers_out c.give_back.new.outside; lanes_out = g.O.Outside.lanes_out c.give_back.new.outside } in
    let beside = g.met.O.Outside.beside_tells c.serve_all-keeper.new.archive c.lanes.new.self c.serve_all-keeper.ensures.beside in
    let lends : Lends (map told lanes) opened lent = record { waiting = c.in-Ok-lanes.ensures.first; stores = c.lanes.ensures.stores; kept_back = c.lanes.ensures.kept_back; returned = c.lanes.ensures.returned; sessions = c.lanes.ensures.sessions; faults = c.lanes.ensures.faults.stood (ap is_failed_lending c.in-Ok-lanes.is) } in
    let stays : Stays lent served = record { stores = beside.1; waiting = beside.2; kept_back = beside.3; returned = beside.4; faults = beside.7 } in
    let many = length-map lanes told ∙ c.in-Ok-lanes.ensures.number in
    λ e. serves_keeper c.args.limits c.args.asked.now.store.now c.args.asked.now.lanes first opened lent served back c.in-Ok.book.base c.in-Ok.book.history (map told lanes) (map told behind_lanes) (g.O.Keep.Keeper.facts c.serve_all-keeper.result.0) (g.W.Sink.written c.args.output.now) (g.W.Sink.written c.serve_all-keeper.new.output) c.in-Ok.ensures.opened lends many stays c.give_back.ensures (λ v. v.items) c.serve_all-keeper.result.1 c.serve_all-keeper.ensures.refused (c.answer.ensures.keeper e)

pub returns-clause-port : goal.returns-clause-port
returns-clause-port g c =
    let told : Lane g.row.O-Door.Denot g.row.O-Back.Denot g.row.O-Time.Denot g.row.O-Draw.Denot g.row.O-Hold.Denot → LaneTold = λ l. told_of (g.O.Door.Port.coming l.port) (g.O.Door.Port.served l.port) (g.O.Back.Backend.sent l.means.backend) (g.O.Back.Backend.given l.means.backend) (g.O.Time.Clock.fixed l.means.clock) (g.O.Draw.Words.fixed l.means.words) (g.O.Door.Port.closed l.port) (g.O.Door.Port.out l.port) (g.O.Door.Port.faults l.port) in
    let lanes = c.in-Ok-lanes.lanes.items in
    let behind_lanes = c.serve_all-keeper.new.lanes.items in
    let first : Shelves = record { stores = g.O.Outside.stores c.args.outside.now; waiting = g.O.Outside.waiting c.args.outside.now; kept_back = g.O.Outside.kept_back c.args.outside.now; returned = g.O.Outside.returned c.args.outside.now; sessions = g.O.Archive.sessions c.args.outside.now; faults = g.O.Outside.faults c.args.outside.now; keepers_out = g.O.Outside.keepers_out c.args.outside.now; lanes_out = g.O.Outside.lanes_out c.args.outside.now } in
    let opened : Shelves = record { stores = g.O.Outside.stores c.open_book.new.outside; waiting = g.O.Outside.waiting c.open_book.new.outside; kept_back = g.O.Outside.kept_back c.open_book.new.outside; returned = g.O.Outside.returned c.open_book.new.outside; sessions = g.O.Archive.sessions c.open_book.new.outside; faults = g.O.Outside.faults c.open_book.new.outside; keepers_out = g.O.Outside.keepers_out c.open_book.new.outside; lanes_out = g.O.Outside.lanes_out c.open_book.new.outside } in
    let lent : Shelves = record { stores = g.O.Outside.stores c.lanes.new.self; waiting = g.O.Outside.waiting c.lanes.new.self; kept_back = g.O.Outside.kept_back c.lanes.new.self; returned = g.O.Outside.returned c.lanes.new.self; sessions = g.O.Archive.sessions c.lanes.new.self; faults = g.O.Outside.faults c.lanes.new.self; keepers_out = g.O.Outside.keepers_out c.lanes.new.self; lanes_out = g.O.Outside.lanes_out c.lanes.new.self } in
    let served : Shelves = record { stores = g.O.Outside.stores c.serve_all-keeper.new.archive; waiting = g.O.Outside.waiting c.serve_all-keeper.new.archive; kept_back = g.O.Outside.kept_back c.serve_all-keeper.new.archive; returned = g.O.Outside.returned c.serve_all-keeper.new.archive; sessions = g.O.Archive.sessions c.serve_all-keeper.new.archive; faults = g.O.Outside.faults c.serve_all-keeper.new.archive; keepers_out = g.O.Outside.keepers_out c.serve_all-keeper.new.archive; lanes_out = g.O.Outside.lanes_out c.serve_all-keeper.new.archive } in
    let back : Shelves = record { stores = g.O.Outside.stores c.give_back.new.outside; waiting = g.O.Outside.waiting c.give_back.new.outside; kept_back = g.O.Outside.kept_back c.give_back.new.outside; returned = g.O.Outside.returned c.give_back.new.outside; sessions = g.O.Archive.sessions c.give_back.new.outside; faults = g.O.Outside.faults c.give_back.new.outside; keepers_out = g.O.Outside.keepers_out c.give_back.new.outside; lanes_out = g.O.Outside.lanes_out c.give_back.new.outside } in
    let beside = g.met.O.Outside.beside_tells c.serve_all-keeper.new.archive c.lanes.new.self c.serve_all-keeper.ensures.beside in
    let lends : Lends (map told lanes) opened lent = record { waiting = c.in-Ok-lanes.ensures.first; stores = c.lanes.ensures.stores; kept_back = c.lanes.ensures.kept_back; returned = c.lanes.ensures.returned; sessions = c.lanes.ensures.sessions; faults = c.lanes.ensures.faults.stood (ap is_failed_lending c.in-Ok-lanes.is) } in
    let stays : Stays lent served = record { stores = beside.1; waiting = beside.2; kept_back = beside.3; returned = beside.4; faults = beside.7 } in
    let many = length-map lanes told ∙ c.in-Ok-lanes.ensures.number in
    λ e. serves_port c.args.limits c.args.asked.now.store.now c.args.asked.now.lanes first opened lent served back c.in-Ok.book.base c.in-Ok.book.history (map told lanes) (map told behind_lanes) (g.O.Keep.Keeper.facts c.serve_all-keeper.result.0) (g.W.Sink.written c.args.output.now) (g.W.Sink.written c.serve_all-keeper.new.output) c.in-Ok.ensures.opened lends many stays c.give_back.ensures (λ v. v.items) c.serve_all-keeper.result.1 c.serve_all-keeper.ensures.ended (c.answer.ensures.port e)

pub returns-clause-output : goal.returns-clause-output
returns-clause-output g c =
    let told : Lane g.row.O-Door.Denot g.row.O-Back.Denot g.row.O-Time.Denot g.row.O-Draw.Denot g.row.O-Hold.Denot → LaneTold = λ l. told_of (g.O.Door.Port.coming l.port) (g.O.Door.Port.served l.port) (g.O.Back.Backend.sent l.means.backend) (g.O.Back.Backend.given l.means.backend) (g.O.Time.Clock.fixed l.means.clock) (g.O.Draw.Words.fixed l.means.words) (g.O.Door.Port.closed l.port) (g.O.Door.Port.out l.port) (g.O.Door.Port.faults l.port) in
    let lanes = c.in-Ok-lanes.lanes.items in
    let behind_lanes = c.serve_all-keeper.new.lanes.items in
    let first : Shelves = record { stores = g.O.Outside.stores c.args.outside.now; waiting = g.O.Outside.waiting c.args.outside.now; kept_back = g.O.Outside.kept_back c.args.outside.now; returned = g.O.Outside.returned c.args.outside.now; sessions = g.O.Archive.sessions c.args.outside.now; faults = g.O.Outside.faults c.args.outside.now; keepers_out = g.O.Outside.keepers_out c.args.outside.now; lanes_out = g.O.Outside.lanes_out c.args.outside.now } in
    let opened : Shelves = record { stores = g.O.Outside.stores c.open_book.new.outside; waiting = g.O.Outside.waiting c.open_book.new.outside; kept_back = g.O.Outside.kept_back c.open_book.new.outside; returned = g.O.Outside.returned c.open_book.new.outside; sessions = g.O.Archive.sessions c.open_book.new.outside; faults = g.O.Outside.faults c.open_book.new.outside; keepers_out = g.O.Outside.keepers_out c.open_book.new.outside; lanes_out = g.O.Outside.lanes_out c.open_book.new.outside } in
    let lent : Shelves = record { stores = g.O.Outside.stores c.lanes.new.self; waiting = g.O.Outside.waiting c.lanes.new.self; kept_back = g.O.Outside.kept_back c.lanes.new.self; returned = g.O.Outside.returned c.lanes.new.self; sessions = g.O.Archive.sessions c.lanes.new.self; faults = g.O.Outside.faults c.lanes.new.self; keepers_out = g.O.Outside.keepers_out c.lanes.new.self; lanes_out = g.O.Outside.lanes_out c.lanes.new.self } in
    let served : Shelves = record { stores = g.O.Outside.stores c.serve_all-keeper.new.archive; waiting = g.O.Outside.waiting c.serve_all-keeper.new.archive; kept_back = g.O.Outside.kept_back c.serve_all-keeper.new.archive; returned = g.O.Outside.returned c.serve_all-keeper.new.archive; sessions = g.O.Archive.sessions c.serve_all-keeper.new.archive; faults = g.O.Outside.faults c.serve_all-keeper.new.archive; keepers_out = g.O.Outside.keepers_out c.serve_all-keeper.new.archive; lanes_out = g.O.Outside.lanes_out c.serve_all-keeper.new.archive } in
    let back : Shelves = record { stores = g.O.Outside.stores c.give_back.new.outside; waiting = g.O.Outside.waiting c.give_back.new.outside; kept_back = g.O.Outside.kept_back c.give_back.new.outside; returned = g.O.Outside.returned c.give_back.new.outside; sessions = g.O.Archive.sessions c.give_back.new.outside; faults = g.O.Outside.faults c.give_back.new.outside; keepers_out = g.O.Outside.keepers_out c.give_back.new.outside; lanes_out = g.O.Outside.lanes_out c.give_back.new.outside } in
    let beside = g.met.O.Outside.beside_tells c.serve_all-keeper.new.archive c.lanes.new.self c.serve_all-keeper.ensures.beside in
    let lends : Lends (map told lanes) opened lent = record { waiting = c.in-Ok-lanes.ensures.first; stores = c.lanes.ensures.stores; kept_back = c.lanes.ensures.kept_back; returned = c.lanes.ensures.returned; sessions = c.lanes.ensures.sessions; faults = c.lanes.ensures.faults.stood (ap is_failed_lending c.in-Ok-lanes.is) } in
    let stays : Stays lent served = record { stores = beside.1; waiting = beside.2; kept_back = beside.3; returned = beside.4; faults = beside.7 } in
    let many = length-map lanes told ∙ c.in-Ok-lanes.ensures.number in
    λ e. serves_output c.args.limits c.args.asked.now.store.now c.args.asked.now.lanes first opened lent served back c.in-Ok.book.base c.in-Ok.book.history (map told lanes) (map told behind_lanes) (g.O.Keep.Keeper.facts c.serve_all-keeper.result.0) (g.W.Sink.written c.args.output.now) (g.W.Sink.written c.serve_all-keeper.new.output) c.in-Ok.ensures.opened lends many stays c.give_back.ensures (λ v. v.items) c.serve_all-keeper.result.1 (g.W.Sink.faults c.args.output.now) (g.W.Sink.faults c.serve_all-keeper.new.output) c.serve_all-keeper.ensures.output (c.answer.ensures.output e)
