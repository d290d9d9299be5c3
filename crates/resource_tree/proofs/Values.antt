-- Each parameter of a path has a value.
use Rattle.std.proofs.Common.{◌≡◌, ℕ, Bool, true, false, List, [], ◌∷◌, Some, None, refl, sym, subst}
use Rattle.std.specs.Prelude.{◌||◌, IsSome, Option, if◌then◌else◌}
use Rattle.std.specs.Str.{bytes_eq}
use Rattle.resource_tree.specs.declared.part.Part.{Part}
use Rattle.resource_tree.specs.Matching.{Takes, none, literal, parameter, greedy, matches, params}
use Rattle.resource_tree.specs.Parameters.{has_parameter, value_at, GivesEachValue}
use Rattle.resource_tree.specs.Sharing.{greedy_last}
use Rattle.resource_tree.proofs.Taken.{matched_takes}

-- a pair at the front
front_or_behind : {A : Type 0} (b behind : Bool) (x : A) (rest : Option A) → (b || behind) ≡ true → (behind ≡ true → IsSome rest) → IsSome (if b then Some x else rest)
front_or_behind true behind x rest h more = refl
front_or_behind false behind x rest h more = more h

has_value : {parts : List Part} {segments : List (List ℕ)} {found : List (List ℕ × List ℕ)} (name : List ℕ) → Takes parts segments found → has_parameter name parts ≡ true → IsSome (value_at found name)
has_value name none h = absurd cc
has_value name (literal text some more) h = has_value name more h
has_value name (parameter {parts = parts} other text some more) h = front_or_behind (bytes_eq other name) (has_parameter name parts) text _ h (has_value name more)
has_value name (greedy other first others some) h = front_or_behind (bytes_eq other name) false _ None h (λ e. absurd cc)

pub gives_each : GivesEachValue
gives_each parts segments name last matched h = has_value name (matched_takes parts segments last matched) h

-- so it is in what is filled in
pub each_filled : (parts : List Part) (segments : List (List ℕ)) (found : List (List ℕ × List ℕ)) → found ≡ params parts segments → greedy_last parts ≡ true → matches parts segments ≡ true
    → (name : List ℕ) → has_parameter name parts ≡ true → IsSome (value_at found name)
each_filled parts segments found is last matched name h = subst (λ f. IsSome (value_at f name)) (sym is) (gives_each parts segments name last matched h)
