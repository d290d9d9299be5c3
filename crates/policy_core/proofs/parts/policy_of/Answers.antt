use Rattle.std.proofs.Common.{ℕ, List, [], ap, ◌∙◌, codes}
use Rattle.json_subset.specs.Documents.{form, member_named, part}
use Rattle.policy_core.specs.declared.policy.Policy.{Policy}
use Rattle.policy_core.specs.declared.policy.Statement.{Statement}
use Rattle.policy_core.specs.Replies.{policy_of, in_member, text_of, document_statements}
use Rattle.policy_core.proofs.parts.policy_of.Goals as goal

-- a policy by its three parts
abbrev made : List ℕ → List Statement → List (List ℕ × List ℕ) → Policy
made principal statements context = record { principal = principal; statements = statements; context = context }

pub returns : goal.returns
unfolding policy_of
returns c =
    let f = form (part c.args.doc.now c.args.node) in
    let principal = in_member [] text_of (member_named f (codes "principalId")) in
    let statements = in_member [] document_statements (member_named f (codes "policyDocument")) in
    ap (λ x. made x c.in_ok-member_document.field-0 c.in_ok-member_context.field-0) c.in_ok-member_text.ensures
    ∙ ap (λ x. made principal x c.in_ok-member_context.field-0) c.in_ok-member_document.ensures
    ∙ ap (λ x. made principal statements x) c.in_ok-member_context.ensures
