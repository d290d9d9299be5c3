-- The parameters of a path, by their names.
use Rattle.std.specs.Prelude.{◌≡◌, ℕ, Bool, true, false, ◌||◌, List, [], ◌∷◌, Option, Some, None, IsSome, if◌then◌else◌}
use Rattle.std.specs.List.{list_any}
use Rattle.std.specs.Str.{bytes_eq}
use Rattle.resource_tree.specs.declared.part.Part.{Part}
use Rattle.resource_tree.specs.declared.part.Part.TheVariants.{Literal, Parameter, Greedy}
use Rattle.resource_tree.specs.Matching.{matches, params}
use Rattle.resource_tree.specs.Sharing.{greedy_last}

-- the part is a `{name}` or a `{name+}` of this name
abbrev pub has_name : List ℕ → Part → Bool
has_name name (Literal text) = false
has_name name (Parameter other) = bytes_eq other name
has_name name (Greedy other) = bytes_eq other name

-- one of the parts is
abbrev pub has_parameter : List ℕ → List Part → Bool
has_parameter name parts = list_any (has_name name) parts

-- what stands under this name, the first time that it stands there
abbrev pub value_at : {A : Type 0} → List (List ℕ × A) → List ℕ → Option A
value_at [] name = None
value_at (p ∷ ps) name = if bytes_eq p.0 name then Some p.1 else value_at ps name

-- each parameter of a path has a value, where its parts take the segments
abbrev pub GivesEachValue : Type 0
GivesEachValue = (parts : List Part) (segments : List (List ℕ)) (name : List ℕ) → greedy_last parts ≡ true → matches parts segments ≡ true
    → has_parameter name parts ≡ true → IsSome (value_at (params parts segments) name)
