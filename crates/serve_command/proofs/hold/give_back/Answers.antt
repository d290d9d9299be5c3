use Rattle.std.proofs.Common.{map, ap, ◌∙◌, arith}
use Rattle.std.proofs.lemmas.List.{length-map}
use Rattle.gate_ports.specs.declared.lane.Lane.{Lane}
use Rattle.outside_core.specs.Lending.{gained_all}
use Rattle.outside_core.specs.Told.{LaneTold, told_of}
use Rattle.serve_command.proofs.Giving.{any_mapped, rose_from}
use Rattle.serve_command.proofs.hold.give_back.Goals as goal

pub returns : goal.returns
returns g c =
    let told : Lane g.row.O-Door.Denot g.row.O-Back.Denot g.row.O-Time.Denot g.row.O-Draw.Denot g.row.O-Hold.Denot → LaneTold = λ l. told_of (g.O.Door.Port.coming l.port) (g.O.Door.Port.served l.port) (g.O.Back.Backend.sent l.means.backend) (g.O.Back.Backend.given l.means.backend) (g.O.Time.Clock.fixed l.means.clock) (g.O.Draw.Words.fixed l.means.words) (g.O.Door.Port.closed l.port) (g.O.Door.Port.out l.port) (g.O.Door.Port.faults l.port) in
    let lanes = c.args.lanes.items in
    let k = c.keeper_back.ensures in
    let l = c.lanes_back.ensures in
    record {
      waiting = l.waiting ∙ k.waiting;
      sessions = l.sessions ∙ k.sessions;
      returned = l.returned ∙ ap (λ r. gained_all r (map told lanes)) k.returned;
      kept_back = l.kept_back ∙ k.kept_back;
      stores = l.stores ∙ k.stores;
      keepers = l.keepers_out ∙ k.keepers_out;
      lanes_out = omega (arith, l.lanes_out, k.lanes_out, length-map lanes told);
      later = omega (arith, k.faults.later, l.faults.later);
      load = λ failed. omega (arith, k.faults.rose failed, l.faults.later);
      look = λ failed. rose_from _ _ _ k.faults.later (l.faults.rose (any_mapped told lanes ∙ failed));
    }
