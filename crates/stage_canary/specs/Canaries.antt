-- The canary of a stage.
use Rattle.std.specs.Prelude.{◌≡◌, ℕ, ◌%◌, nat_lt, Bool, true, false, not, List, [], ◌∷◌, ◌++◌, map, filter, Option, unwrap_or, if◌then◌else◌}
use Rattle.std.specs.List.{list_any}
use Rattle.std.specs.Option.{option_or}
use Rattle.std.specs.Str.{bytes_eq}
use Rattle.call_facts.specs.Pairs.{Pairs, first_value}
use Rattle.stage_canary.specs.declared.share.TheConstants.{WHOLE_SHARE}

-- a call of this word is taken to a canary of this share: so many of ten thousand
abbrev pub takes_canary : ℕ → ℕ → Bool
takes_canary share word = nat_lt (word % WHOLE_SHARE) share

abbrev pub is_named : Pairs → List ℕ → Bool
is_named pairs name = list_any (λ (p : List ℕ × List ℕ). bytes_eq p.0 name) pairs

-- the stage's variables, each with the canary's value where it has one
abbrev pub overridden_pairs : Pairs → Pairs → Pairs
overridden_pairs stage canary = map (λ (p : List ℕ × List ℕ). (p.0, unwrap_or (first_value canary p.0) p.1)) stage

-- those that the canary alone has
abbrev pub other_pairs : Pairs → Pairs → Pairs
other_pairs stage canary = filter (λ (p : List ℕ × List ℕ). not (is_named stage p.0)) canary

abbrev pub merged_pairs : Pairs → Pairs → Pairs
merged_pairs stage canary = overridden_pairs stage canary ++ other_pairs stage canary

-- LAW: the canary overrides by name
abbrev pub CanaryOverrides : Type 0
CanaryOverrides =
    (stage canary : Pairs) (name : List ℕ)
    → first_value (merged_pairs stage canary) name ≡ option_or (first_value canary name) (first_value stage name)

-- LAW: the least share and the greatest
abbrev pub NoShareTakesNone : Type 0
NoShareTakesNone = (word : ℕ) → takes_canary 0 word ≡ false

abbrev pub WholeShareTakesAll : Type 0
WholeShareTakesAll = (word : ℕ) → takes_canary WHOLE_SHARE word ≡ true
