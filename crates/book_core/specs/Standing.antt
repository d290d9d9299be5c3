-- What stands after the entries of a history.
use Rattle.book_rules.specs.Machine.{State}
use Rattle.std.specs.Prelude.{ℕ, Bool, false, List, Option, Some, None, if◌then◌else◌}
use Rattle.call_facts.specs.declared.vars.Vars.{Vars}
use Rattle.policy_memory.specs.Remembered.{Happening}
use Rattle.stage_canary.specs.Canaries.{takes_canary}
use Rattle.book_opening.specs.declared.ready.Canary.{Canary}
use Rattle.book_opening.specs.declared.ready.Standing.{Standing as Ready}
use Rattle.book_core.specs.declared.current.Current.{Current}

-- where this happened to the policies that are remembered, the newest first
abbrev pub standing : List Happening → Current → State
standing happened current = record { lists = current.tables.lists; latest = current.latest; closing = current.closing; happened = happened }

-- the number of the canary's deployment of a stage that is ready, 0 where it has none
abbrev pub number_of_canary : Option Canary → ℕ
number_of_canary None = 0
number_of_canary (Some canary) = canary.deployment

abbrev pub canary_in : Option Ready → ℕ
canary_in None = 0
canary_in (Some stage) = number_of_canary stage.canary

-- a call of this word is taken to the canary of a stage that is ready
abbrev pub is_taken_by : Option Canary → ℕ → Bool
is_taken_by None word = false
is_taken_by (Some canary) word = takes_canary canary.share word

abbrev pub is_taken_to : Ready → ℕ → Bool
is_taken_to stage word = is_taken_by stage.canary word

-- so it is answered by the canary's deployment and with its variables, or by the stage's
abbrev pub number_by : Option Canary → ℕ → Ready → ℕ
number_by None word stage = stage.deployment
number_by (Some canary) word stage = if takes_canary canary.share word then canary.deployment else stage.deployment

abbrev pub number_to : Ready → ℕ → ℕ
number_to stage word = number_by stage.canary word stage

abbrev pub variables_by : Option Canary → ℕ → Ready → Vars
variables_by None word stage = stage.variables
variables_by (Some canary) word stage = if takes_canary canary.share word then canary.variables else stage.variables

abbrev pub variables_to : Ready → ℕ → Vars
variables_to stage word = variables_by stage.canary word stage
