-- The causes that an answer's headers name.
use Rattle.std.specs.Prelude.{◌≡◌, ℕ, List, [], ◌∷◌, map, codes, Option}
use Rattle.std.specs.List.{filter}
use Rattle.std.specs.Str.{bytes_eq}
use Rattle.api_model.specs.Definition.{Definition}
use Rattle.call_facts.specs.Kinds.{kind_name}
use Rattle.call_facts.specs.Pairs.{Pairs}
use Rattle.call_facts.specs.declared.facts.CallFacts.{CallFacts}
use Rattle.call_facts.specs.declared.kind.Kind.{Kind}
use Rattle.gateway_answers.specs.Answers.{gateway_answer}

-- the values of the headers `x-gateway-cause`
abbrev pub causes_in : Pairs → List (List ℕ)
causes_in headers = map (λ (h : List ℕ × List ℕ). h.1) (filter (λ (h : List ℕ × List ℕ). bytes_eq h.0 (codes "x-gateway-cause")) headers)

-- whatever the rules of the API are, a gateway response names its kind, and no other
abbrev pub NamesOneCause : Type 0
NamesOneCause = (kind : Kind) (message : List ℕ) (d : Option Definition) (facts : CallFacts) → causes_in (gateway_answer kind message d facts).headers ≡ kind_name kind ∷ []
