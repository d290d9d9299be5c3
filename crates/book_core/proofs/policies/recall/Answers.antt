use Rattle.std.proofs.Common.{rules, ◌≡◌, ◌∙◌, true, OnErr, ap, subst}
use Rattle.book_rules.specs.Machine.{is_shared, recalled}
use Rattle.book_rules.specs.declared.replies.Reply.TheVariants.{Remembered}
use Rattle.book_core.proofs.policies.recall.Goals as goal

pub returns-in_err-share-in-Some-clause-memory : goal.returns-in_err-share-in-Some-clause-memory
returns-in_err-share-in-Some-clause-memory c = λ happened next r.
    subst (λ f. OnErr c.from_residual.result (is_shared (recalled f) ≡ true)) (c.in-Some.ensures happened next r) (search rules)

pub returns-in_ok-share-in-Some-clause-reply : goal.returns-in_ok-share-in-Some-clause-reply
returns-in_ok-share-in-Some-clause-reply c = λ happened next r.
    ap (λ p. Remembered p) c.in_ok-share-in-Some.ensures ∙ ap recalled (c.in-Some.ensures happened next r)

pub returns-in-None-clause-reply : goal.returns-in-None-clause-reply
returns-in-None-clause-reply c = λ happened next r. ap recalled (c.in-None.ensures happened next r)
