use Rattle.std.proofs.Common.{arith}
use Rattle.json_subset.specs.Documents.{form, part}
use Rattle.policy_core.specs.Replies.{entries, kept_fault}
use Rattle.policy_core.proofs.Listed.{fault_found, fault_passed}
use Rattle.policy_core.proofs.judge.context_members_fault.Goals as goal

pub returns-in-Some : goal.returns-in-Some
returns-in-Some c =
    let node = part c.args.doc.now c.args.node in
    fault_found kept_fault (entries (form node)) c.loop-i.i c.in-Some.at (omega (arith, c.loop-i-test.true, c.entry_count-i-end.ensures)) c.in-Some.ensures c.loop-i.invariant

pub loop-i-preserved : goal.loop-i-preserved
loop-i-preserved c =
    let node = part c.args.doc.now c.args.node in
    fault_passed kept_fault (entries (form node)) c.loop-i.i (omega (arith, c.loop-i-test.true, c.entry_count-i-end.ensures)) c.in_default.ensures c.loop-i.invariant
