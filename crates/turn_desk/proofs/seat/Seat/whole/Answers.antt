use Rattle.turn_desk.proofs.Numbers.{whole_has_each}
use Rattle.turn_desk.proofs.seat.Seat.whole.Goals as goal

pub returns-clause-each : goal.returns-clause-each
returns-clause-each g c = let here = c.has_as_many_as_there_are.ensures in
    let both = whole_has_each c.args.self.now here.apart in
    ((λ yes. both.0 (here.count.0 yes)), (λ each. here.count.1 (both.1 each)))
