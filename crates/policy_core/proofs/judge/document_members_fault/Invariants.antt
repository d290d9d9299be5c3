use Rattle.std.proofs.Common.{◌≡◌, drop}
use Rattle.json_subset.specs.Documents.{form, part}
use Rattle.policy_core.specs.Replies.{first_of, entries, document_member_fault}
use Rattle.policy_core.proofs.judge.document_members_fault.Given as goal

-- there is no fault so far
abbrev pub invariant-loop-i : goal.invariant-loop-i
invariant-loop-i l = first_of document_member_fault (drop l.i (entries (form (part l.doc l.node)))) ≡ first_of document_member_fault (entries (form (part l.doc l.node)))
