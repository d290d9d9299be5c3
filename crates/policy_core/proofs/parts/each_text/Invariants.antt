use Rattle.std.proofs.Common.{◌≡◌, ◌++◌, drop, map}
use Rattle.json_subset.specs.Documents.{form, part}
use Rattle.policy_core.specs.Replies.{items, text_of}
use Rattle.policy_core.proofs.parts.each_text.Given as goal

-- those so far, and those that are left
abbrev pub invariant-loop-i : goal.invariant-loop-i
invariant-loop-i l = l.texts ++ map text_of (drop l.i (items (form (part l.doc l.node)))) ≡ map text_of (items (form (part l.doc l.node)))
