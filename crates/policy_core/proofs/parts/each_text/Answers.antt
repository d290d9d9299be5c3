use Rattle.std.proofs.Common.{◌+◌, ◌++◌, ◌∷◌, [], ap, ◌∙◌, drop, map}
use Rattle.json_subset.specs.Documents.{form, part}
use Rattle.policy_core.specs.Replies.{items, text_of}
use Rattle.policy_core.proofs.Listed.{one_more}
use Rattle.policy_core.proofs.parts.each_text.Goals as goal

pub loop-i-preserved : goal.loop-i-preserved
loop-i-preserved c =
    let d = c.args.doc.now in
    let all = items (form (part d c.args.node)) in
    let rest = map text_of (drop (c.loop-i.i + 1) all) in
    ap (λ found. found ++ rest) c.in_ok-push.ensures.ok
    ∙ ap (λ x. (c.loop-i.texts ++ x ∷ []) ++ rest) c.in_ok-text_of.ensures
    ∙ one_more text_of all c.loop-i.texts c.loop-i.i (part d c.in-Some.text) c.in-Some.ensures.1
    ∙ c.loop-i.invariant
