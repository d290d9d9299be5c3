use Rattle.std.proofs.Common.{◌+◌, ◌++◌, ◌∷◌, [], ap, ◌∙◌, drop, map}
use Rattle.json_subset.specs.Documents.{form, part}
use Rattle.policy_core.specs.Replies.{items, statement_of}
use Rattle.policy_core.proofs.Listed.{one_more}
use Rattle.policy_core.proofs.parts.each_statement.Goals as goal

pub loop-i-preserved : goal.loop-i-preserved
loop-i-preserved c =
    let d = c.args.doc.now in
    let all = items (form (part d c.args.node)) in
    let rest = map statement_of (drop (c.loop-i.i + 1) all) in
    ap (λ found. found ++ rest) c.in_ok-push.ensures.ok
    ∙ ap (λ x. (c.loop-i.statements ++ x ∷ []) ++ rest) c.in_ok-statement_of.ensures
    ∙ one_more statement_of all c.loop-i.statements c.loop-i.i (part d c.in-Some.statement) c.in-Some.ensures.1
    ∙ c.loop-i.invariant
