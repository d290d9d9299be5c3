use Rattle.std.proofs.Common.{◌≡◌, ◌++◌, drop, map}
use Rattle.json_subset.specs.Documents.{form, part}
use Rattle.policy_core.specs.Replies.{entries, kept_entry}
use Rattle.policy_core.proofs.parts.each_kept.Given as goal

-- those so far, and those that are left
abbrev pub invariant-loop-i : goal.invariant-loop-i
invariant-loop-i l = l.kept ++ map (kept_entry l.doc.text) (drop l.i (entries (form (part l.doc l.node)))) ≡ map (kept_entry l.doc.text) (entries (form (part l.doc l.node)))
