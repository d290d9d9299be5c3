use Rattle.std.proofs.Common.{ap, map, Some}
use Rattle.keeper_core.specs.Keeping.{told_by}
use Rattle.outside_core.specs.Held.{named, lane_told}
use Rattle.outside_core.proofs.Telling.{keeper_unused, keeper_lists, keeper_out, keeper_refused, keeper_faults, keeper_leaves, lanes_leaves, lanes_first, lanes_lent, lanes_wait_on, lanes_refused, lanes_faults, back_kept, back_stored, back_faults, back_returned, back_looks}
use Rattle.outside_core.proofs.memory.MemOutsideOutside.TheImpl.Goals as goal

pub keeper-tells : goal.keeper-tells
keeper-tells g c =
    let old = c.args.self.now in
    let new = c.new.self.now in
    let name = c.args.name.now in
    let left = keeper_leaves name c.result old new c.ensures.lent in
    record {
      unused = keeper_unused name c.result old new c.ensures.lent;
      tables = keeper_lists name c.result old new c.ensures.lent;
      lent = keeper_out name c.result old new c.ensures.lent;
      refused = keeper_refused name c.result old new c.ensures.lent;
      faults = keeper_faults name c.result old new c.ensures.lent c.ensures.later;
      files = ap Some left.0.files;
      stores = ap (λ stores. Some (map named stores)) left.0.stores;
      waiting = ap (λ lanes. Some (map (lane_told g.B.Backend.sent g.B.Backend.given) lanes.waiting)) left.1;
      kept_back = ap (λ back. Some (map told_by back)) left.0.back;
      returned = ap (λ lanes. Some (map (lane_told g.B.Backend.sent g.B.Backend.given) lanes)) left.0.returned;
      lanes_out = ap (λ lanes. lanes.out) left.1;
      sessions = ap Some left.0.sessions;
    }

pub lanes-tells : goal.lanes-tells
lanes-tells g c =
    let old = c.args.self.now in
    let new = c.new.self.now in
    let left = lanes_leaves c.args.n c.result old new c.ensures.lent in
    record {
      number = c.ensures.number;
      unused = c.ensures.unused;
      first = lanes_first (lane_told g.B.Backend.sent g.B.Backend.given) c.args.n c.result old new c.ensures.lent;
      lent = lanes_lent c.args.n c.result old new c.ensures.lent;
      wait_on = lanes_wait_on (lane_told g.B.Backend.sent g.B.Backend.given) c.args.n c.result old new c.ensures.lent;
      refused = lanes_refused c.args.n c.result old new c.ensures.lent;
      faults = lanes_faults c.args.n c.result old new c.ensures.lent c.ensures.later;
      files = ap Some left.0.files;
      stores = ap (λ stores. Some (map named stores)) left.0.stores;
      kept_back = ap (λ back. Some (map told_by back)) left.0.back;
      returned = ap (λ lanes. Some (map (lane_told g.B.Backend.sent g.B.Backend.given) lanes)) left.0.returned;
      keepers_out = ap (λ stores. stores.out) left.1;
      sessions = ap Some left.0.sessions;
    }

pub keeper_back-tells : goal.keeper_back-tells
keeper_back-tells g c =
    let old = c.args.self.now in
    let name = c.args.name.now in
    record {
      kept_back = rw c.ensures (back_kept old.stores name c.args.keep);
      stores = rw c.ensures (back_stored old.stores name c.args.keep);
      keepers_out = ap (λ o. o.stores.out) c.ensures;
      faults = rw c.ensures (back_faults old name c.args.keep);
      files = ap (λ o. Some o.files) c.ensures;
      waiting = ap (λ o. Some (map (lane_told g.B.Backend.sent g.B.Backend.given) o.lanes.waiting)) c.ensures;
      returned = ap (λ o. Some (map (lane_told g.B.Backend.sent g.B.Backend.given) o.lanes.returned)) c.ensures;
      lanes_out = ap (λ o. o.lanes.out) c.ensures;
      sessions = ap (λ o. Some o.sessions) c.ensures;
    }

pub lanes_back-tells : goal.lanes_back-tells
lanes_back-tells g c =
    let old = c.args.self.now in
    record {
      returned = rw c.ensures (back_returned (lane_told g.B.Backend.sent g.B.Backend.given) old.lanes c.args.lanes.items);
      lanes_out = ap (λ o. o.lanes.out) c.ensures;
      faults = rw c.ensures (back_looks old c.args.lanes.items);
      files = ap (λ o. Some o.files) c.ensures;
      stores = ap (λ o. Some (map named o.stores.stores)) c.ensures;
      waiting = ap (λ o. Some (map (lane_told g.B.Backend.sent g.B.Backend.given) o.lanes.waiting)) c.ensures;
      kept_back = ap (λ o. Some (map told_by o.stores.back)) c.ensures;
      keepers_out = ap (λ o. o.stores.out) c.ensures;
      sessions = ap (λ o. Some o.sessions) c.ensures;
    }
