-- What the program's steps stand for.
use Rattle.std.specs.Prelude.{◌≡◌, ◌⊎◌, Result, Ok, Err, MatchResult}
use Rattle.policy_core.specs.declared.policy.Policy.{Policy}
use Rattle.authorizer_call.specs.declared.fault.AuthorizerFault.{AuthorizerFault}
use Rattle.authorizer_call.specs.declared.fault.AuthorizerFault.TheVariants.{Memory}

-- What a call returned is what an exchange comes to, or just its fault, unless memory ran out.
abbrev pub Tells : Result Policy AuthorizerFault → Result Policy AuthorizerFault → Type 0
Tells comes result = MatchResult result (λ policy. comes ≡ Ok policy) (λ e. (e ≡ Memory) ⊎ (comes ≡ Err e))
