use Rattle.std.proofs.Common.{◌+◌, ◌++◌, ◌∷◌, [], ap, ◌∙◌, drop, map}
use Rattle.json_subset.specs.Documents.{form, part}
use Rattle.policy_core.specs.Replies.{entries, kept_entry}
use Rattle.policy_core.proofs.Listed.{one_more}
use Rattle.policy_core.proofs.parts.each_kept.Goals as goal

pub loop-i-preserved : goal.loop-i-preserved
loop-i-preserved c =
    let d = c.args.doc.now in
    let all = entries (form (part d c.args.node)) in
    let rest = map (kept_entry d.text) (drop (c.loop-i.i + 1) all) in
    let name = c.in-Some.member.0.now in
    let value = part d c.in-Some.member.1 in
    ap (λ found. found ++ rest) c.in_ok-push.ensures.ok
    ∙ ap (λ x. (c.loop-i.kept ++ (x, c.in_ok-kept_text.field-0) ∷ []) ++ rest) c.in_ok-copied.ensures
    ∙ ap (λ x. (c.loop-i.kept ++ (name, x) ∷ []) ++ rest) c.in_ok-kept_text.ensures
    ∙ one_more (kept_entry d.text) all c.loop-i.kept c.loop-i.i (name, value) c.in-Some.ensures.1
    ∙ c.loop-i.invariant
