-- What the columns of rows stand for.
use Rattle.std.specs.Prelude.{ℕ, ◌==◌, List, [], Option, unwrap_or, if◌then◌else◌}
use Rattle.api_model.specs.Definition.{Definition}
use Rattle.record_fields.specs.Columns.{column, column_pairs}
use Rattle.call_facts.specs.Pairs.{Pairs}
use Rattle.call_facts.specs.declared.vars.Vars.{Vars}
use Rattle.keeper_core.specs.declared.rows.ApiRow.{ApiRow}
use Rattle.keeper_core.specs.declared.rows.DeploymentRow.{DeploymentRow}
use Rattle.keeper_core.specs.declared.rows.StageRow.{StageRow}
use Rattle.stage_canary.specs.Canaries.{merged_pairs}

-- a definition, by its two columns
abbrev pub stored : ℕ → List ℕ → Definition
stored text source = record { is_text = text == 1; source = source }

-- the column of its form
abbrev pub form_of : Definition → ℕ
form_of definition = if definition.is_text then 1 else 0

abbrev pub definition_of : ApiRow → Definition
definition_of row = stored row.text row.source

abbrev pub deployed_of : DeploymentRow → Definition
deployed_of row = stored row.text row.source

-- the variables of a column
unfoldable pub variables_in : List ℕ → Vars
variables_in text = record { pairs = unwrap_or (column_pairs text) [] }

-- the column of variables
abbrev pub column_of : Vars → List ℕ
column_of variables = column variables.pairs

-- the variables of a stage with those of its canary
abbrev pub merged_in : StageRow → Vars
merged_in row = record { pairs = merged_pairs (variables_in row.vars).pairs (variables_in row.canary_vars).pairs }
