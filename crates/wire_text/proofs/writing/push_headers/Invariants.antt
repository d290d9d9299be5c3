use Rattle.std.proofs.Common.{◌≡◌, ◌++◌, drop}
use Rattle.wire_text.specs.Messages.{header_lines}
use Rattle.wire_text.proofs.writing.push_headers.Given as goal

-- the lines so far, and those of the headers that are left, are those of all
abbrev pub invariant-loop-header : goal.invariant-loop-header
invariant-loop-header l = l.made.items ++ header_lines (drop l.header-index l.headers) ≡ l.initial.made.items ++ header_lines l.headers
