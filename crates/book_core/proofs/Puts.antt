-- What is ready after a row was put with what it holds.
use Rattle.std.proofs.Common.{◌≡◌, ℕ, List, map, ap, sym, subst, ◌∙◌, refl}
use Rattle.keeper_core.specs.Lists.{Lists, put, is_api, api_behind, is_deployment, deployment_behind, is_stage, stage_behind}
use Rattle.keeper_core.specs.Places.{IsPlaceOf, put_at}
use Rattle.keeper_core.proofs.Putting.{map_put_by}
use Rattle.keeper_core.specs.declared.place.Place.{Place}
use Rattle.keeper_core.specs.declared.rows.Row.{Row}
use Rattle.keeper_core.specs.declared.rows.Row.TheVariants.{Meta, Api, Deployment, Stage, Key, Plan, Join}
use Rattle.keeper_core.specs.Lists.{is_plan, plan_behind}
use Rattle.key_index.specs.Indexes.{Indexes, key_in}
use Rattle.book_rules.specs.PlanStages.{stages_of}
use Rattle.book_rules.specs.Stored.{definition_of, deployed_of}
use Rattle.book_opening.specs.Ready.{AreReady, standing_of}
use Rattle.book_opening.specs.declared.ready.Ready.{Ready}
use Rattle.book_core.specs.Changes.{IsHeldBy, IsPutAt}
use Rattle.book_core.specs.declared.changes.Held.{Held}
use Rattle.book_core.specs.declared.changes.Held.TheVariants.{Definition, Deployed, Stands, Allows, Nothing}

pub ready_after : (row : Row) (held : Held) (lists : Lists) (before now : Ready) (place : Place)
    → IsHeldBy row held → IsPlaceOf row lists place → AreReady lists before → IsPutAt place held before now → AreReady (put row lists) now
ready_after (Api row) (Definition definition) lists before now place held at ready made =
    record {
      definitions = made.definitions ∙ ap (λ x. put_at place x before.definitions.items) held ∙ ap (put_at place (definition_of row)) ready.definitions
          ∙ sym (map_put_by definition_of (is_api row.api) (api_behind row.api) row lists.apis place at);
      deployments = made.deployments ∙ ready.deployments;
      stages = made.stages ∙ ready.stages;
      plans = made.plans ∙ ready.plans;
      keys = subst (λ k. Indexes lists.keys (key_in k)) (sym made.keys) ready.keys;
    }
ready_after (Deployment row) (Deployed definition) lists before now place held at ready made =
    record {
      definitions = made.definitions ∙ ready.definitions;
      deployments = made.deployments ∙ ap (λ x. put_at place x before.deployments.items) held ∙ ap (put_at place (deployed_of row)) ready.deployments
          ∙ sym (map_put_by deployed_of (is_deployment row.api row.number) (deployment_behind row.api row.number) row lists.deployments place at);
      stages = made.stages ∙ ready.stages;
      plans = made.plans ∙ ready.plans;
      keys = subst (λ k. Indexes lists.keys (key_in k)) (sym made.keys) ready.keys;
    }
ready_after (Stage row) (Stands stage) lists before now place held at ready made =
    record {
      definitions = made.definitions ∙ ready.definitions;
      deployments = made.deployments ∙ ready.deployments;
      stages = made.stages ∙ ap (λ x. put_at place x before.stages.items) held ∙ ap (put_at place (standing_of row)) ready.stages
          ∙ sym (map_put_by standing_of (is_stage row.api row.stage) (stage_behind row.api row.stage) row lists.stages place at);
      plans = made.plans ∙ ready.plans;
      keys = subst (λ k. Indexes lists.keys (key_in k)) (sym made.keys) ready.keys;
    }
ready_after (Plan row) (Allows stages) lists before now place held at ready made =
    record {
      definitions = made.definitions ∙ ready.definitions;
      deployments = made.deployments ∙ ready.deployments;
      stages = made.stages ∙ ready.stages;
      plans = made.plans ∙ ap (λ x. put_at place x before.plans.items) held ∙ ap (put_at place (stages_of row)) ready.plans
          ∙ sym (map_put_by stages_of (is_plan row.plan) (plan_behind row.plan) row lists.plans place at);
      keys = subst (λ k. Indexes lists.keys (key_in k)) (sym made.keys) ready.keys;
    }
ready_after (Join row) Nothing lists before now place held at ready made =
    record {
      definitions = made.definitions ∙ ready.definitions;
      deployments = made.deployments ∙ ready.deployments;
      stages = made.stages ∙ ready.stages;
      plans = made.plans ∙ ready.plans;
      keys = subst (λ k. Indexes lists.keys (key_in k)) (sym made.keys) ready.keys;
    }
ready_after (Api row) (Deployed definition) lists before now place held at ready made = absurd held
ready_after (Api row) (Stands stage) lists before now place held at ready made = absurd held
ready_after (Api row) (Allows stages) lists before now place held at ready made = absurd held
ready_after (Api row) Nothing lists before now place held at ready made = absurd held
ready_after (Deployment row) (Definition definition) lists before now place held at ready made = absurd held
ready_after (Deployment row) (Stands stage) lists before now place held at ready made = absurd held
ready_after (Deployment row) (Allows stages) lists before now place held at ready made = absurd held
ready_after (Deployment row) Nothing lists before now place held at ready made = absurd held
ready_after (Stage row) (Definition definition) lists before now place held at ready made = absurd held
ready_after (Stage row) (Deployed definition) lists before now place held at ready made = absurd held
ready_after (Stage row) (Allows stages) lists before now place held at ready made = absurd held
ready_after (Stage row) Nothing lists before now place held at ready made = absurd held
ready_after (Meta row) (Definition definition) lists before now place held at ready made = absurd held
ready_after (Meta row) (Deployed definition) lists before now place held at ready made = absurd held
ready_after (Meta row) (Stands stage) lists before now place held at ready made = absurd held
ready_after (Meta row) (Allows stages) lists before now place held at ready made = absurd held
ready_after (Meta row) Nothing lists before now place held at ready made = absurd held
ready_after (Key row) (Definition definition) lists before now place held at ready made = absurd held
ready_after (Key row) (Deployed definition) lists before now place held at ready made = absurd held
ready_after (Key row) (Stands stage) lists before now place held at ready made = absurd held
ready_after (Key row) (Allows stages) lists before now place held at ready made = absurd held
ready_after (Key row) Nothing lists before now place held at ready made = absurd held
ready_after (Plan row) (Definition definition) lists before now place held at ready made = absurd held
ready_after (Plan row) (Deployed definition) lists before now place held at ready made = absurd held
ready_after (Plan row) (Stands stage) lists before now place held at ready made = absurd held
ready_after (Plan row) Nothing lists before now place held at ready made = absurd held
ready_after (Join row) (Definition definition) lists before now place held at ready made = absurd held
ready_after (Join row) (Deployed definition) lists before now place held at ready made = absurd held
ready_after (Join row) (Stands stage) lists before now place held at ready made = absurd held
ready_after (Join row) (Allows stages) lists before now place held at ready made = absurd held

-- what is ready stays so where the row of a join is put
pub ready_joined : (row : Rattle.keeper_core.specs.declared.rows.JoinRow.JoinRow) (lists : Lists) (ready : Ready) → AreReady lists ready → AreReady (put (Join row) lists) ready
ready_joined row lists ready h = record { definitions = h.definitions; deployments = h.deployments; stages = h.stages; keys = h.keys; plans = h.plans }
