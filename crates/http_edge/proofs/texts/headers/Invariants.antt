use Rattle.std.proofs.Common.{◌≡◌, map, take}
use Rattle.httparse.specs.Spans.{header_bytes}
use Rattle.http_edge.specs.Texts.{header_texts}
use Rattle.http_edge.proofs.texts.headers.Given as goal

abbrev pub invariant-loop-field : goal.invariant-loop-field
invariant-loop-field l = l.out.items ≡ map header_texts (map (header_bytes l.buf) (take l.field-index l.fields))
