use Rattle.std.proofs.Common.{◌≡◌, drop}
use Rattle.json_subset.specs.Documents.{form, part}
use Rattle.policy_core.specs.Replies.{first_of, items, text_fault}
use Rattle.policy_core.proofs.judge.each_text_fault.Given as goal

-- there is no fault so far
abbrev pub invariant-loop-i : goal.invariant-loop-i
invariant-loop-i l = first_of text_fault (drop l.i (items (form (part l.doc l.node)))) ≡ first_of text_fault (items (form (part l.doc l.node)))
