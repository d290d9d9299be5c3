-- What is read of the rows.
use Rattle.std.specs.Prelude.{◌≡◌, ℕ, ◌==◌, Bool, ◌&&◌, List, map, Option, Some, None, if◌then◌else◌}
use Rattle.api_model.specs.Definition.{Definition}
use Rattle.keeper_core.specs.Lists.{Lists}
use Rattle.keeper_core.specs.declared.rows.StageRow.{StageRow}
use Rattle.book_rules.specs.Good.{is_flag, is_stated}
use Rattle.book_rules.specs.PlanStages.{stages_of}
use Rattle.book_rules.specs.Stored.{stored, definition_of, deployed_of, merged_in, variables_in}
use Rattle.key_index.specs.Indexes.{Indexes, key_in}
use Rattle.book_opening.specs.declared.ready.Canary.{Canary}
use Rattle.book_opening.specs.declared.ready.Ready.{Ready}
use Rattle.book_opening.specs.declared.ready.Standing.{Standing}

-- what is read, where it is taken
abbrev pub if_taken : {T : Type 0} → Bool → T → Option T
if_taken taken read = if taken then Some read else None

-- the definition of two columns, where it is read
abbrev pub definition_in : ℕ → List ℕ → Option Definition
definition_in text source = if_taken (is_flag text && is_stated (stored text source)) (stored text source)

-- the canary of a stage, where it has one
abbrev pub canary_of : StageRow → Option Canary
canary_of row = if row.canary == 0 then None else Some (record { deployment = row.canary; share = row.share; variables = merged_in row })

-- the deployment to which the stage points, its variables, and its canary
abbrev pub standing_of : StageRow → Standing
standing_of row = record { deployment = row.deployment; variables = variables_in row.vars; canary = canary_of row }

-- each list is read of its table, row by row, and the index has just the values of the keys
pub record AreReady (lists : Lists) (ready : Ready) : Type 0 where
  pub definitions : ready.definitions.items ≡ map definition_of lists.apis
  pub deployments : ready.deployments.items ≡ map deployed_of lists.deployments
  pub stages : ready.stages.items ≡ map standing_of lists.stages
  pub keys : Indexes lists.keys (key_in ready.keys)
  pub plans : ready.plans.items ≡ map stages_of lists.plans
