-- What is remembered of the policies that were learned, by all that happened in a session.
use Rattle.std.specs.Prelude.{ℕ, ◌+◌, ◌*◌, nat_lt, Bool, not, List, [], ◌∷◌, take, filter, Option, Some, None, option_and_then, if◌then◌else◌}
use Rattle.std.specs.List.{list_any}
use Rattle.policy_core.specs.declared.policy.Policy.{Policy}
use Rattle.policy_memory.specs.declared.names.PolicyName.{PolicyName}
use Rattle.policy_memory.specs.Names.{same_name, is_of}

-- a policy, the seconds for which it may be used, and the moment at which it was learned
pub record Learned : Type 0 where
  pub policy : Policy
  pub ttl : ℕ
  pub at : ℕ

-- a policy is learned under a name, and an API and stage are flushed
pub data Happening : Type 0 where
  learned : PolicyName → Learned → Happening
  flushed : List ℕ → List ℕ → Happening

-- Below, happenings stand with the newest first.

-- the names under which something was learned
abbrev pub learned_names : List Happening → List PolicyName
learned_names [] = []
learned_names (learned name what ∷ older) = name ∷ learned_names older
learned_names (flushed api stage ∷ older) = learned_names older

-- each name once, where it stands first
abbrev pub each_once : List PolicyName → List PolicyName
each_once [] = []
each_once (name ∷ names) = name ∷ filter (λ other. not (same_name name other)) (each_once names)

-- the 1,024 names that were learned last; no other name is remembered
abbrev pub latest_names : List Happening → List PolicyName
latest_names happened = take 1024 (each_once (learned_names happened))

-- what was learned last under a name, unless its API and stage were flushed since
abbrev pub standing : PolicyName → List Happening → Option Learned
standing name [] = None
standing name (learned other what ∷ older) = if same_name name other then Some what else standing name older
standing name (flushed api stage ∷ older) = if is_of api stage name then None else standing name older

-- its policy, if it may still be used at the moment
abbrev pub usable : ℕ → Learned → Option Policy
usable t what = if nat_lt t (what.at + 1000 * what.ttl) then Some what.policy else None

-- the policy that is remembered of a name at a moment
unfoldable pub remembered : List Happening → PolicyName → ℕ → Option Policy
remembered happened name t = if list_any (same_name name) (latest_names happened) then option_and_then (usable t) (standing name happened) else None
