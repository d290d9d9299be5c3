use Rattle.std.proofs.Common.{Some, ◌∙◌}
use Rattle.turn_desk.proofs.Keeps.{one_out}
use Rattle.turn_desk.proofs.turn.take_machine.Goals as goal

pub exchange-requires : goal.exchange-requires
exchange-requires g c = let t = c.wait_for_turn.ensures.took.1 in (c.wait_for_turn.ensures.desk ∙ c.requires.desk.0, (Some t.machine, one_out _ _ t.out))
