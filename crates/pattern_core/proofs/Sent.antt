-- A pattern may cross threads.
use denote.Param.Send.{IsSend, IsSync, view_send, view_sync}
use denote.Param.SendFields.{declared_send, declared_sync}
use Rattle.pattern_core.proofs.Crosses.{regex_send, regex_sync}
use Rattle.pattern_core.specs.contracts.pattern.Pattern as Pattern
use Rattle.pattern_core.specs.contracts.pattern.Pattern.TheInside as inside

pub pattern_send : IsSend Pattern.the_row
pattern_send = view_send _ _ _ _ _ (declared_send inside.the_type (regex_send, tt))

pub pattern_sync : IsSync Pattern.the_row
pattern_sync = view_sync _ _ _ _ _ (declared_sync inside.the_type (regex_sync, tt))
