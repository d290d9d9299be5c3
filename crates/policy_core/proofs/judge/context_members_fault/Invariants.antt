use Rattle.std.proofs.Common.{◌≡◌, drop}
use Rattle.json_subset.specs.Documents.{form, part}
use Rattle.policy_core.specs.Replies.{first_of, entries, kept_fault}
use Rattle.policy_core.proofs.judge.context_members_fault.Given as goal

-- there is no fault so far
abbrev pub invariant-loop-i : goal.invariant-loop-i
invariant-loop-i l = first_of kept_fault (drop l.i (entries (form (part l.doc l.node)))) ≡ first_of kept_fault (entries (form (part l.doc l.node)))
