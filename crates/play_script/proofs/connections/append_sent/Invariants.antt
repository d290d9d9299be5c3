use Rattle.std.proofs.Common.{◌≡◌, ◌++◌, drop}
use Rattle.std.specs.String.{string_bytes}
use Rattle.play_script.specs.Calls.{sent_lines}
use Rattle.play_script.proofs.connections.append_sent.Given as goal

-- the text so far, and the lines of the requests that are left, are the text before and the lines of all
abbrev pub invariant-loop-request : goal.invariant-loop-request
invariant-loop-request l = string_bytes l.text ++ sent_lines (drop l.request-index l.requests) ≡ string_bytes l.fn.text ++ sent_lines l.requests
