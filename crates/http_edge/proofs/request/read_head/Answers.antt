use Rattle.std.proofs.Common.{arith}
use Rattle.std.proofs.lemmas.List.{length-take}
use Rattle.http_edge.proofs.Steps.{head_stopped, head_begun}
use Rattle.http_edge.proofs.request.read_head.Goals as goal

pub returns-in-Err-clause-head : goal.returns-in-Err-clause-head
returns-in-Err-clause-head g c = head_stopped _ _ c.await_request_head.new.held _ c.await_request_head.new.room.items c.in-Err.fault c.in-Err.ensures.head c.await_request_head.ensures.taken (λ n. c.in-Err.ensures.same n)

pub returns-in-Ok-begin-clause-head : goal.returns-in-Ok-begin-clause-head
returns-in-Ok-begin-clause-head g c =
    let at = c.in-Ok.ensures.head.0 in
    head_begun _ _ c.await_request_head.new.held _ _ c.await_request_head.new.room.items c.in-Ok.spans at.0 c.in-Ok-begin.begun at.1 (c.in-Ok-begin.ensures.begun at.0 (rw c.as_slice.ensures.value at.1)) c.in-Ok-begin.ensures.used (c.in-Ok.ensures.same (λ e. cc))

pub returns-in-Ok-begin-clause-short : goal.returns-in-Ok-begin-clause-short
returns-in-Ok-begin-clause-short g c =
    let at = c.in-Ok.ensures.head.0 in
    let begun = c.in-Ok-begin.ensures.begun at.0 (rw c.as_slice.ensures.value at.1) in
    omega (arith, begun.len, at.1.len, c.in-Ok.ensures.head.1.section.len_fits, length-take 10240 c.await_request_head.new.held)
