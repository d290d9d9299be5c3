use Rattle.std.proofs.Common.{◌≡◌, ◌≤◌, map, drop}
use Rattle.httparse.specs.Spans.{header_bytes}
use Rattle.http_framing.proofs.Lengths.{hosts_from}
use Rattle.http_framing.proofs.framing.hosts.Given as goal

-- the hosts so far and those of the rest are those of all
abbrev pub invariant-loop-field : goal.invariant-loop-field
invariant-loop-field l = record {
  rest : hosts_from l.n (map (header_bytes l.buf) (drop l.field-index l.fields)) ≡ hosts_from 0 (map (header_bytes l.buf) l.fields);
  few : l.n ≤ l.field-index;
}
