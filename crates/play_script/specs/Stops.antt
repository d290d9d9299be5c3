-- Why a play stops before its end.
use Rattle.gw_base.specs.declared.outside.WriteStop.{WriteStop}
use Rattle.gw_base.specs.declared.outside.WriteStop.TheVariants as write
use Rattle.play_session.specs.declared.session.SessionFault.{SessionFault}
use Rattle.play_session.specs.declared.session.SessionFault.TheVariants as session
use Rattle.play_script.specs.declared.stops.PlayStop.{PlayStop}
use Rattle.play_script.specs.declared.stops.PlayStop.TheVariants.{Keeper, Output, Memory}

abbrev pub of_write : WriteStop → PlayStop
of_write write.Failed = Output
of_write write.Memory = Memory

abbrev pub of_session : SessionFault → PlayStop
of_session session.Keeper = Keeper
of_session session.Memory = Memory
