-- A test may go to another thread, and be shared with one.
use denote.Param.Send.{IsSend, IsSync, sendable}
use Rattle.std.proofs.Crossing.{crosses}
use Rattle.json_values.proofs.value.Value.TheSendSync as value
use Rattle.pattern_core.proofs.Sent.{pattern_send, pattern_sync}
use Rattle.schema_keywords.specs.contracts.keyword.Test as Test

pub test_send : IsSend Test.the_row
test_send = search (value.the_send, pattern_send, crosses, sendable) depth 60 fits 20000

pub test_sync : IsSync Test.the_row
test_sync = search (value.the_sync, pattern_sync, crosses, sendable) depth 60 fits 20000
