-- What holds of the definitions, whatever the program does.
use Rattle.std.specs.Prelude.{◌≡◌, ◌↔◌, ℕ, true, false, List, Ok, Err, Some, None}
use Rattle.api_mappings.specs.Uris.{is_plain_uri}
use Rattle.api_parts.specs.declared.parts.Authorizer.{Authorizer}
use Rattle.backend_core.specs.declared.outcome.Outcome.{Outcome}
use Rattle.policy_core.specs.Decisions.{decision}
use Rattle.policy_core.specs.declared.policy.Policy.{Policy}
use Rattle.wire_text.specs.declared.places.Destination.{Destination}
use Rattle.authorizer_call.specs.Outcomes.{Allows, HasNoPolicy, HasPolicy, IsFailure, allows, policy_of}
use Rattle.authorizer_call.specs.Requests.{asked_at, authorizer_request_of, question_of}
use Rattle.authorizer_call.specs.declared.fault.AuthorizerFault.TheVariants.{Failure, Configuration}

-- a policy is had, and each fault told, just where its cause stands
pub record IsToldByCause (o : Outcome) : Type 0 where
  pub policy : (p : Policy) → (policy_of o ≡ Ok p) ↔ HasPolicy o p
  pub failure : (policy_of o ≡ Err Failure) ↔ IsFailure o
  pub configuration : (policy_of o ≡ Err Configuration) ↔ HasNoPolicy o

abbrev pub AlwaysToldByCause : Type 0
AlwaysToldByCause = (o : Outcome) → IsToldByCause o

-- a decision allows just where no Deny covers the call and an Allow does
abbrev pub AllowsByDecision : Type 0
AllowsByDecision = (policy : Policy) (arn : List ℕ) → (allows (decision policy arn) ≡ true) ↔ Allows policy arn

-- an authorizer is asked just where its uri has neither stage variables nor placeholders, whatever the token and the name
pub record IsAskedWherePlain (a : Authorizer) (token arn : List ℕ) : Type 0 where
  pub plain : is_plain_uri a.uri ≡ true → (to : Destination) × (authorizer_request_of a token arn ≡ Some (asked_at a.timeout (question_of token arn) to))
  pub other : is_plain_uri a.uri ≡ false → authorizer_request_of a token arn ≡ None

abbrev pub AlwaysAskedWherePlain : Type 0
AlwaysAskedWherePlain = (a : Authorizer) (token arn : List ℕ) → IsAskedWherePlain a token arn
