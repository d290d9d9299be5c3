-- What a command comes to at a moment.
use Rattle.std.specs.Prelude.{ℕ}
use Rattle.keeper_core.specs.Lists.{Lists, api_row, stage_row}
use Rattle.book_rules.specs.Outcomes.{Outcome, says}
use Rattle.book_rules.specs.PlanCommands.{put_key, put_plan, join_key, grant, usage}
use Rattle.book_rules.specs.StageCommands.{put_api, deployment_by, deployed, put_stage, put_canary, promote, flush}
use Rattle.book_rules.specs.declared.events.Command.{Command}
use Rattle.book_rules.specs.declared.events.Command.TheVariants.{PutApi, Deploy, PutStage, PutCanary, PromoteCanary, PutKey, PutPlan, JoinKey, Grant, Flush, Usage, Shutdown}
use Rattle.book_rules.specs.declared.replies.Reply.TheVariants.{Done}

abbrev pub commanded : Lists → ℕ → Command → Outcome
commanded lists t (PutApi api definition) = put_api lists api definition
commanded lists t (Deploy api) = deployment_by (api_row lists api) (deployed lists api)
commanded lists t (PutStage api stage number variables) = put_stage lists api stage number variables
commanded lists t (PutCanary api stage number share variables) = put_canary lists api stage number share variables
commanded lists t (PromoteCanary api stage) = promote (stage_row lists api stage)
commanded lists t (PutKey key value enabled) = put_key lists key value enabled
commanded lists t (PutPlan plan throttle quota stages) = put_plan lists plan throttle quota stages
commanded lists t (JoinKey plan key) = join_key lists t plan key
commanded lists t (Grant plan key amount) = grant lists t plan key amount
commanded lists t (Flush api stage) = flush (stage_row lists api stage)
commanded lists t (Usage plan key) = usage lists t plan key
commanded lists t Shutdown = says Done
