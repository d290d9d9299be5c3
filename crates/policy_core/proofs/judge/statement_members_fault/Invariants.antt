use Rattle.std.proofs.Common.{◌≡◌, drop}
use Rattle.json_subset.specs.Documents.{form, part, place}
use Rattle.policy_core.specs.Replies.{first_of, entries, statement_member_fault}
use Rattle.policy_core.proofs.judge.statement_members_fault.Given as goal

-- there is no fault so far
abbrev pub invariant-loop-i : goal.invariant-loop-i
invariant-loop-i l = first_of (statement_member_fault (place (part l.doc l.node))) (drop l.i (entries (form (part l.doc l.node)))) ≡ first_of (statement_member_fault (place (part l.doc l.node))) (entries (form (part l.doc l.node)))
