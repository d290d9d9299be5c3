-- How the end of a connection is printed.
use Rattle.std.specs.Prelude.{ℕ, List, ◌++◌, codes}
use Rattle.std.specs.Fmt.{decimal}
use Rattle.gate_walk.specs.declared.ended.Ended.{Ended}
use Rattle.gate_walk.specs.declared.ended.Ended.TheVariants.{Closed, Cut, BadHead, BadChunk, HeadTooLong, ReadFault, WriteFault, SessionFull, Memory}

abbrev pub ended_name : Ended → List ℕ
ended_name Closed = codes "Closed"
ended_name (Cut n) = codes "Cut(" ++ decimal n ++ codes ")"
ended_name BadHead = codes "BadHead"
ended_name BadChunk = codes "BadChunk"
ended_name HeadTooLong = codes "HeadTooLong"
ended_name ReadFault = codes "ReadFault"
ended_name WriteFault = codes "WriteFault"
ended_name (SessionFull entries bytes) = codes "SessionFull(" ++ decimal entries ++ codes "," ++ decimal bytes ++ codes ")"
ended_name Memory = codes "Memory"
