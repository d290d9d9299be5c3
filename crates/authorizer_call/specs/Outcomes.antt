-- What an exchange with an authorizer comes to.
use Rattle.std.specs.Prelude.{◌≡◌, ◌≢◌, ℕ, ◌==◌, Bool, true, false, List, Result, Ok, Err}
use Rattle.backend_core.specs.declared.outcome.Outcome.{Outcome}
use Rattle.backend_core.specs.declared.outcome.Outcome.TheVariants.{Reply, Failed, TimedOut, Memory}
use Rattle.policy_core.specs.Decisions.{Decides}
use Rattle.policy_core.specs.Forms.{States}
use Rattle.policy_core.specs.Reading.{reply_of}
use Rattle.policy_core.specs.declared.fault.PolicyFault.{PolicyFault}
use Rattle.policy_core.specs.declared.policy.Decision.{Decision}
use Rattle.policy_core.specs.declared.policy.Decision.TheVariants.{Allow, Deny, NoAllow}
use Rattle.policy_core.specs.declared.policy.Policy.{Policy}
use Rattle.authorizer_call.specs.declared.fault.AuthorizerFault.{AuthorizerFault}
use Rattle.authorizer_call.specs.declared.fault.AuthorizerFault.TheVariants as fault

-- a body is the policy that it states, or a configuration error
abbrev pub told : Result Policy PolicyFault → Result Policy AuthorizerFault
told (Ok policy) = Ok policy
told (Err why) = Err fault.Configuration

unfoldable pub read_of : List ℕ → Result Policy AuthorizerFault
read_of body = told (reply_of body)

-- it counts only where the status is 200
abbrev pub if_taken : Bool → List ℕ → Result Policy AuthorizerFault
if_taken true body = read_of body
if_taken false body = Err fault.Failure

-- what an exchange comes to
abbrev pub policy_of : Outcome → Result Policy AuthorizerFault
policy_of (Reply r) = if_taken (r.status == 200) r.body
policy_of Failed = Err fault.Failure
policy_of TimedOut = Err fault.Failure
policy_of Memory = Err fault.Memory

-- the same by its causes: AUTHORIZER_FAILURE is told where the exchange failed or lapsed, or the reply's status is not 200
abbrev pub IsFailure : Outcome → Type 0
IsFailure (Reply r) = r.status ≢ 200
IsFailure Failed = Unit {0}
IsFailure TimedOut = Unit {0}
IsFailure Memory = ⊥

-- a policy is had where the status is 200 and the body states it
abbrev pub HasPolicy : Outcome → Policy → Type 0
HasPolicy (Reply r) policy = (r.status ≡ 200) × States r.body policy
HasPolicy Failed policy = ⊥
HasPolicy TimedOut policy = ⊥
HasPolicy Memory policy = ⊥

-- and AUTHORIZER_CONFIGURATION_ERROR is told where it is 200 and the body states none
abbrev pub HasNoPolicy : Outcome → Type 0
HasNoPolicy (Reply r) = (r.status ≡ 200) × ((policy : Policy) → States r.body policy → ⊥)
HasNoPolicy Failed = ⊥
HasNoPolicy TimedOut = ⊥
HasNoPolicy Memory = ⊥

-- a policy allows a call: no Deny covers it, and an Allow does
abbrev pub Allows : Policy → List ℕ → Type 0
Allows policy arn = (at : ℕ) × Decides policy arn (Allow at)

-- the same of a decision
abbrev pub allows : Decision → Bool
allows (Allow at) = true
allows (Deny at) = false
allows NoAllow = false
