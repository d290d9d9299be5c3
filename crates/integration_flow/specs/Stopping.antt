-- Why no answer is made.
use Rattle.std.specs.Prelude.{◌≡◌, ◌⊎◌, Result, Ok, Err, MatchResult}
use Rattle.integration_flow.specs.declared.stops.FlowStop.{FlowStop}
use Rattle.integration_flow.specs.declared.stops.FlowStop.TheVariants.{Memory}

-- what is made, or why nothing is
abbrev pub Flow : Type 0 → Type 0
Flow A = Result A FlowStop

-- What a call returned is what is made, or just the stop, unless memory ran out.
abbrev pub Flows : {A : Type 0} → Flow A → Result A FlowStop → Type 0
Flows made result = MatchResult result (λ x. made ≡ Ok x) (λ e. (e ≡ Memory) ⊎ (made ≡ Err e))
