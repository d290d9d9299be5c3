-- How a connection ends by a fault of its input.
use Rattle.std.specs.Prelude.{◌≡◌, ◌⊎◌, ℕ, List, [], Option}
use Rattle.std.specs.Io.KnownBytes.{Appends}
use Rattle.gate_walk.specs.declared.ended.Ended.{Ended}
use Rattle.gate_walk.specs.declared.ended.Ended.TheVariants.{Cut, BadHead, BadChunk, HeadTooLong, ReadFault, WriteFault, SessionFull, Memory}
use Rattle.gate_walk.specs.declared.ended.SessionFull.{SessionFull as Numbers}
use Rattle.gw_base.specs.Whole.{AppendsFront}
use Rattle.http_edge.specs.Answers.{edge_bytes}
use Rattle.http_framing.specs.declared.fault.EdgeFault.{EdgeFault}
use Rattle.http_framing.specs.declared.fault.EdgeFault.TheVariants as edge

-- an answer at the edge was written and the connection ended so, or a front of it was, and then a write failed, or memory was wanting
abbrev pub WritesEdge : Option (List ℕ) → Option (List ℕ) → List ℕ → Ended → Ended → Type 0
WritesEdge written now answer ended result =
    ((result ≡ ended) × Appends written now answer) ⊎ (((result ≡ WriteFault) × AppendsFront written now answer) ⊎ ((result ≡ Memory) × AppendsFront written now answer))

-- a fault ends a connection so, with what is written at its edge
abbrev pub EndsWith : EdgeFault → Option (List ℕ) → Option (List ℕ) → Ended → Type 0
EndsWith (edge.Cut n) written now result = (result ≡ Cut n) × Appends written now []
EndsWith edge.ReadFault written now result = (result ≡ ReadFault) × Appends written now []
EndsWith edge.Memory written now result = (result ≡ Memory) × Appends written now []
EndsWith edge.BadHead written now result = WritesEdge written now (edge_bytes 400) BadHead result
EndsWith edge.BadChunk written now result = WritesEdge written now (edge_bytes 400) BadChunk result
EndsWith edge.HeadTooLong written now result = WritesEdge written now (edge_bytes 431) HeadTooLong result

-- a step was refused, since the session is full: the answer at the edge was written, or a front of it, and then a write failed, or
-- memory was wanting, which ends the connection so
abbrev pub EndsFull : Type 0 → Numbers → Option (List ℕ) → Option (List ℕ) → Ended → Type 0
EndsFull WriteFailed full written now result =
    ((result ≡ SessionFull full.entries full.bytes) × (Appends written now (edge_bytes 503) ⊎ (WriteFailed × AppendsFront written now (edge_bytes 503))))
    ⊎ ((result ≡ Memory) × AppendsFront written now (edge_bytes 503))
