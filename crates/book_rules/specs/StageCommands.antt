-- What the commands on APIs and stages come to: their tests in their order, and the rows that they write.
use Rattle.std.specs.Prelude.{ℕ, ◌+◌, ◌==◌, nat_lt, nat_le, Bool, not, ◌&&◌, ◌||◌, List, [], ◌∷◌, length, count_by, Option, Some, None, is_none, if◌then◌else◌}
use Rattle.std.specs.Str.{bytes_eq}
use Rattle.gw_base.specs.Names.{is_name}
use Rattle.api_model.specs.Definition.{Definition}
use Rattle.call_facts.specs.Pairs.{once}
use Rattle.call_facts.specs.declared.vars.Vars.{Vars}
use Rattle.keeper_core.specs.Lists.{Lists, api_row, deployment_row, stage_row}
use Rattle.keeper_core.specs.declared.rows.Row.TheVariants.{Api, Deployment, Stage}
use Rattle.keeper_core.specs.declared.rows.ApiRow.{ApiRow}
use Rattle.keeper_core.specs.declared.rows.DeploymentRow.{DeploymentRow}
use Rattle.keeper_core.specs.declared.rows.StageRow.{StageRow}
use Rattle.stage_canary.specs.declared.share.TheConstants.{WHOLE_SHARE}
use Rattle.book_rules.specs.Limits.{most_apis, most_deployments, most_stages, most_variables}
use Rattle.book_rules.specs.Names.{are_variables}
use Rattle.book_rules.specs.Outcomes.{Outcome, says, writes, unless_refused}
use Rattle.book_rules.specs.Stored.{form_of, column_of, merged_in}
use Rattle.book_rules.specs.declared.replies.Refusal.{Refusal}
use Rattle.book_rules.specs.declared.replies.Refusal.TheVariants.{BadName, NoApi, NoDeployment, NoStage, NoCanary, BadShare, Full}
use Rattle.book_rules.specs.declared.replies.Reply.TheVariants.{Done, Deployed, Refused}

-- how many deployments an API has
unfoldable pub deployed : Lists → List ℕ → ℕ
deployed lists api = count_by (λ (row : DeploymentRow). bytes_eq row.api api) lists.deployments

-- the row of an API of this definition
abbrev pub api_of : List ℕ → Definition → ApiRow
api_of api definition = record { api = api; text = form_of definition; source = definition.source }

abbrev pub put_api_tests : Lists → List ℕ → List (Bool × Refusal)
put_api_tests lists api =
    (not (is_name api), BadName)
    ∷ (is_none (api_row lists api) && nat_le most_apis (length lists.apis), Full)
    ∷ []

-- the next deployment of an API that stands: its definition, under the next number from 1
abbrev pub next_deployment : ApiRow → ℕ → DeploymentRow
next_deployment row count = record { api = row.api; number = count + 1; text = row.text; source = row.source }

abbrev pub deployment_by : Option ApiRow → ℕ → Outcome
deployment_by None count = says (Refused NoApi)
deployment_by (Some row) count =
    if nat_le most_deployments count then says (Refused Full) else writes (Deployment (next_deployment row count)) (Deployed (count + 1))

abbrev pub put_stage_tests : Lists → List ℕ → List ℕ → ℕ → Vars → List (Bool × Refusal)
put_stage_tests lists api stage number variables =
    (not (is_name api && is_name stage && are_variables variables.pairs), BadName)
    ∷ (is_none (api_row lists api), NoApi)
    ∷ (is_none (deployment_row lists api number), NoDeployment)
    ∷ (nat_lt most_variables (length variables.pairs) || is_none (stage_row lists api stage) && nat_le most_stages (length lists.stages), Full)
    ∷ []

-- the row of a stage that points to this deployment, and has these variables; a canary stays
abbrev pub stage_of : Option StageRow → List ℕ → List ℕ → ℕ → List ℕ → StageRow
stage_of None api stage number vars =
    record { api = api; stage = stage; deployment = number; vars = vars; canary = 0; share = 0; canary_vars = [] }
stage_of (Some row) api stage number vars =
    record { api = api; stage = stage; deployment = number; vars = vars; canary = row.canary; share = row.share; canary_vars = row.canary_vars }

-- a stage keeps each variable once
abbrev pub put_stage : Lists → List ℕ → List ℕ → ℕ → Vars → Outcome
put_stage lists api stage number variables =
    unless_refused (put_stage_tests lists api stage number variables)
    (writes (Stage (stage_of (stage_row lists api stage) api stage number (column_of (once variables)))) Done)

abbrev pub put_api : Lists → List ℕ → Definition → Outcome
put_api lists api definition = unless_refused (put_api_tests lists api) (writes (Api (api_of api definition)) Done)

abbrev pub put_canary_tests : Lists → List ℕ → List ℕ → ℕ → ℕ → Vars → List (Bool × Refusal)
put_canary_tests lists api stage number share variables =
    (not (is_name api && is_name stage && are_variables variables.pairs), BadName)
    ∷ (is_none (stage_row lists api stage), NoStage)
    ∷ (is_none (deployment_row lists api number), NoDeployment)
    ∷ (nat_lt WHOLE_SHARE share, BadShare)
    ∷ (nat_lt most_variables (length variables.pairs), Full)
    ∷ []

-- the row of a stage with this canary
abbrev pub with_canary : ℕ → ℕ → List ℕ → StageRow → StageRow
with_canary number share vars row = record row { canary = number; share = share; canary_vars = vars }

abbrev pub canary_for : Option StageRow → ℕ → ℕ → List ℕ → Outcome
canary_for None number share vars = says (Refused NoStage)
canary_for (Some row) number share vars = writes (Stage (with_canary number share vars row)) Done

abbrev pub put_canary : Lists → List ℕ → List ℕ → ℕ → ℕ → Vars → Outcome
put_canary lists api stage number share variables =
    unless_refused (put_canary_tests lists api stage number share variables) (canary_for (stage_row lists api stage) number share (column_of (once variables)))

-- the row of a stage whose canary is made the stage: its deployment and the merged variables, and no canary
abbrev pub promoted : StageRow → StageRow
promoted row = record row { deployment = row.canary; vars = column_of (merged_in row); canary = 0; share = 0; canary_vars = [] }

abbrev pub promote_tests : StageRow → List (Bool × Refusal)
promote_tests row = (row.canary == 0, NoCanary) ∷ (nat_lt most_variables (length (merged_in row).pairs), Full) ∷ []

abbrev pub promote : Option StageRow → Outcome
promote None = says (Refused NoStage)
promote (Some row) = unless_refused (promote_tests row) (writes (Stage (promoted row)) Done)

-- the policies of a stage that stands are forgotten, and no row is written
abbrev pub flush : Option StageRow → Outcome
flush None = says (Refused NoStage)
flush (Some row) = says Done
