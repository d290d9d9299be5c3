-- What an exchange with a backend tells, and what it counts.
use Rattle.std.specs.Prelude.{◌≡◌, ◌≢◌, ℕ, ◌≤◌, List, [], ◌∷◌, ◌++◌, drop, Option, Some, None, ⊤}
use Rattle.std.specs.Option.{option_map}
use Rattle.gw_base.specs.Outside.{Rose}
use Rattle.backend_core.specs.declared.outcome.Outcome.{Outcome}
use Rattle.backend_core.specs.declared.outcome.Outcome.TheVariants.{Reply, Failed, Memory}

-- a list, where it is told, with one more at its end
abbrev pub gained : {A : Type 0} → Option (List A) → A → Option (List A)
gained told item = option_map (λ items. items ++ item ∷ []) told

-- the same after an exchange, which adds nothing where memory was wanting
abbrev pub noted : {A : Type 0} → Outcome → Option (List A) → A → Option (List A)
noted Memory told item = told
noted outcome told item = gained told item

-- the next outcome of a script, which past its end is a failure
abbrev pub next_of : List Outcome → Outcome
next_of [] = Failed
next_of (outcome ∷ rest) = outcome

-- the outcome is the next of a script, where that is told, and the script goes on. Want of memory leaves it
abbrev pub Follows : Outcome → Option (List Outcome) → Option (List Outcome) → Type 0
Follows outcome None new = new ≡ None
Follows Memory (Some script) new = new ≡ Some script
Follows outcome (Some script) new = (outcome ≡ next_of script) × (new ≡ Some (drop 1 script))

-- a reply has a status from 200 to 999
abbrev pub HasStatus : Outcome → Type 0
HasStatus (Reply reply) = (200 ≤ reply.status) × (reply.status ≤ 999)
HasStatus outcome = ⊤

-- a count of the exchanges with one outcome: it never falls, it rose where the outcome is this one, and stands elsewhere
pub record IsCountOf (counted outcome : Outcome) (before now : ℕ) : Type 0 where
  pub later : before ≤ now
  pub rose : outcome ≡ counted → Rose before now
  pub stood : outcome ≢ counted → now ≡ before
