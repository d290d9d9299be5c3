-- The authorizer of a method is asked.
use Rattle.std.proofs.Common.{◌≡◌, ℕ, List, Option, Some, None, ap, ◌∙◌}
use Rattle.std.specs.Option.{option_map, unwrap_or}
use Rattle.api_parts.specs.declared.parts.Authorizer.{Authorizer}
use Rattle.api_parts.specs.declared.parts.TokenAuthorizer.{TokenAuthorizer}
use Rattle.method_answers.specs.Calls.{Call}
use Rattle.method_answers.specs.Plans.{Course, asked, consults, judged}
use Rattle.method_answers.specs.Questions.{question_of}

abbrev asks : Call → List ℕ → Authorizer → List ℕ → Course
asks c text a arn = consults c.target (question_of a text arn) (judged c arn)

-- the one that is found there, about a call of this name
pub asked_there :
    (c : Call) (name arn text : List ℕ) (a : Authorizer) (there : Option TokenAuthorizer)
    → name ≡ arn → Some a ≡ option_map (λ (t : TokenAuthorizer). t.authorizer) there
    → consults c.target (question_of a text name) (judged c name) ≡ asked c arn text there
asked_there c name arn text a None same is = absurd cc
asked_there c name arn text a (Some t) same is =
    ap (λ n. asks c text a n) same ∙ ap (λ o. asks c text (unwrap_or o a) arn) is
