use Rattle.std.proofs.Common.{◌≡◌, map, drop}
use Rattle.httparse.specs.Spans.{header_bytes}
use Rattle.http_framing.specs.declared.framing.Framing.TheVariants.{Absent}
use Rattle.http_framing.proofs.Lengths.{lengths_from}
use Rattle.http_framing.proofs.framing.lengths_said.Given as goal

-- what is said so far and what the rest says is what all say
abbrev pub invariant-loop-field : goal.invariant-loop-field
invariant-loop-field l =
    lengths_from l.http10 l.said (map (header_bytes l.buf) (drop l.field-index l.fields)) ≡ lengths_from l.http10 Absent (map (header_bytes l.buf) l.fields)
