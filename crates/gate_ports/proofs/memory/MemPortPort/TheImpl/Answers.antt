use Rattle.std.proofs.Common.{rules}
use Rattle.gate_ports.proofs.Docked.{lent_first, given_last}
use Rattle.gate_ports.proofs.memory.MemPortPort.TheImpl.Goals as goal

pub accept-tells : goal.accept-tells
accept-tells c =
    let lent = lent_first c.result c.args.self.now c.new.self.now c.ensures.look c.ensures.unwritten in
    record {
      lent = lent;
      unwritten = c.ensures.unwritten;
      none = search rules;
      ended = search rules;
      shut = c.ensures.shut;
      out = search rules;
      served = search rules;
      closed = search rules;
      cause = c.ensures.cause;
    }

pub done-tells : goal.done-tells
done-tells c =
    let last = given_last c.args.self.now.served c.args.link in
    record {
      served = rw c.ensures.given_back last;
      coming = search rules;
      closed = search rules;
      out = search rules;
      faults = search rules;
    }
