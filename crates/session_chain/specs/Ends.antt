-- How lanes end, and whether another session follows.
use Rattle.std.specs.Prelude.{Bool, true, false, not, ◌&&◌, List}
use Rattle.std.specs.List.{list_any}
use Rattle.book_rules.specs.Machine.{shuts}
use Rattle.book_rules.specs.declared.events.Entry.{Entry}
use Rattle.gate_walk.specs.declared.ended.LaneEnd.{LaneEnd}
use Rattle.gate_walk.specs.declared.ended.LaneEnd.TheVariants.{Ended, Closing, PortFault, Full, Memory}
use Rattle.gw_base.specs.declared.outside.WriteStop.{WriteStop}
use Rattle.gw_base.specs.declared.outside.WriteStop.TheVariants as write
use Rattle.session_chain.specs.declared.fault.AllFault.{AllFault}
use Rattle.session_chain.specs.declared.fault.AllFault.TheVariants as all

-- memory was wanting on a lane
abbrev pub wants_memory : LaneEnd → Bool
wants_memory Memory = true
wants_memory Ended = false
wants_memory Closing = false
wants_memory PortFault = false
wants_memory (Full entries bytes) = false

-- a look for a connection failed there
abbrev pub has_port_fault : LaneEnd → Bool
has_port_fault PortFault = true
has_port_fault Ended = false
has_port_fault Closing = false
has_port_fault Memory = false
has_port_fault (Full entries bytes) = false

-- the session was full there
abbrev pub is_full : LaneEnd → Bool
is_full (Full entries bytes) = true
is_full Ended = false
is_full Closing = false
is_full PortFault = false
is_full Memory = false

-- the entry is a Shutdown
abbrev pub shuts_at : Entry → Bool
shuts_at entry = shuts entry.event

-- Another session follows: this one was full on a lane, on none of them a look failed or memory was wanting, and no Shutdown stands in
-- its history.
abbrev pub has_next : List LaneEnd → List Entry → Bool
has_next ends history = list_any is_full ends && (not (list_any has_port_fault ends) && (not (list_any wants_memory ends) && not (list_any shuts_at history)))

-- why serving stops where a write was stopped
abbrev pub stopped_by : WriteStop → AllFault
stopped_by write.Failed = all.Output
stopped_by write.Memory = all.Memory
