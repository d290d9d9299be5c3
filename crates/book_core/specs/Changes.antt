-- Changes that are made ready.
use Rattle.std.specs.Prelude.{◌≡◌, ◌<◌, ℕ, Bool, true, false, List, length}
use Rattle.std.specs.Vec.{vec_capacity}
use Rattle.api_model.specs.Definition.{Definition as Definition'}
use Rattle.call_facts.specs.Pairs.{Pairs}
use Rattle.keeper_core.specs.Joins.{join_at, with_numbers}
use Rattle.keeper_core.specs.Lists.{Lists}
use Rattle.keeper_core.specs.Places.{IsWithin, put_at}
use Rattle.keeper_core.specs.declared.place.Place.{Place}
use Rattle.book_opening.specs.declared.ready.Ready.{Ready}
use Rattle.book_opening.specs.declared.ready.Standing.{Standing}
use Rattle.keeper_core.specs.declared.numbers.JoinNumbers.{JoinNumbers}
use Rattle.keeper_core.specs.declared.rows.JoinRow.{JoinRow}
use Rattle.keeper_core.specs.declared.rows.Row.{Row}
use Rattle.keeper_core.specs.declared.rows.Row.TheVariants.{Meta, Api, Deployment, Stage, Key, Plan, Join}
use Rattle.book_rules.specs.Outcomes.{Outcome, says, writes}
use Rattle.book_rules.specs.PlanCommands.{is_of_another, key_with}
use Rattle.book_rules.specs.PlanStages.{stages_of}
use Rattle.book_rules.specs.Stored.{definition_of, deployed_of}
use Rattle.book_rules.specs.declared.replies.Reply.TheVariants.{Done}
use Rattle.book_opening.specs.Ready.{standing_of}
use Rattle.book_core.specs.declared.changes.Held.{Held}
use Rattle.book_core.specs.declared.changes.Held.TheVariants.{Definition, Deployed, Stands, Allows, Nothing}
use Rattle.book_core.specs.declared.changes.Change.{Change}
use Rattle.book_core.specs.declared.changes.Prepared.{Prepared}
use Rattle.book_core.specs.declared.changes.Prepared.TheVariants.{Says, Writes, Names, Rewrites}

-- what a row holds, read
abbrev pub IsHeldBy : Row → Held → Type 0
IsHeldBy (Api row) (Definition definition) = definition ≡ definition_of row
IsHeldBy (Deployment row) (Deployed definition) = definition ≡ deployed_of row
IsHeldBy (Stage row) (Stands stage) = stage ≡ standing_of row
IsHeldBy (Plan row) (Allows stages) = stages ≡ stages_of row
IsHeldBy (Join row) Nothing = Unit {0}
IsHeldBy row held = ⊥

-- the join at this place with other numbers
abbrev pub rewritten_at : Lists → ℕ → JoinNumbers → JoinRow
rewritten_at lists at numbers = with_numbers (join_at lists at) numbers

-- what was prepared: a reply alone; or a row with what it holds; or the row of a key; or other numbers of the join at a place
abbrev pub outcome_in : Lists → Prepared → Outcome
outcome_in lists (Says reply) = says reply
outcome_in lists (Writes change) = writes change.row change.reply
outcome_in lists (Names row) = writes (Key row) Done
outcome_in lists (Rewrites at numbers reply) = writes (Join (rewritten_at lists at numbers)) reply

-- what is held was read of its row; no other key has the value; a join is at the place
abbrev pub IsReadyIn : Lists → Prepared → Type 0
IsReadyIn lists (Says reply) = Unit {0}
IsReadyIn lists (Writes change) = IsHeldBy change.row change.held
IsReadyIn lists (Names row) = is_of_another row.key (key_with lists row.value) ≡ false
IsReadyIn lists (Rewrites at numbers reply) = at < length lists.joins

abbrev pub IsPrepared : Lists → Outcome → Prepared → Type 0
IsPrepared lists outcome prepared = (outcome ≡ outcome_in lists prepared) × IsReadyIn lists prepared

-- whether the row is written in its place, where one is written
abbrev pub IsMeant : Bool → Prepared → Type 0
IsMeant rewriting (Says reply) = Unit {0}
IsMeant rewriting (Writes change) = rewriting ≡ false
IsMeant rewriting (Names row) = rewriting ≡ false
IsMeant rewriting (Rewrites at numbers reply) = rewriting ≡ true

-- there is room for one more of what is held
abbrev pub HasRoomFor : Held → Ready → Type 0
HasRoomFor (Definition definition) ready = length ready.definitions.items < vec_capacity ready.definitions
HasRoomFor (Deployed definition) ready = length ready.deployments.items < vec_capacity ready.deployments
HasRoomFor (Stands stage) ready = length ready.stages.items < vec_capacity ready.stages
HasRoomFor (Allows stages) ready = length ready.plans.items < vec_capacity ready.plans
HasRoomFor Nothing ready = Unit {0}

-- the place is one of the list of what is held
abbrev pub IsPlaceIn : Ready → Held → Place → Type 0
IsPlaceIn ready (Definition definition) place = IsWithin place (length ready.definitions.items)
IsPlaceIn ready (Deployed definition) place = IsWithin place (length ready.deployments.items)
IsPlaceIn ready (Stands stage) place = IsWithin place (length ready.stages.items)
IsPlaceIn ready (Allows stages) place = IsWithin place (length ready.plans.items)
IsPlaceIn ready Nothing place = Unit {0}

-- what is ready has these four lists, and the index of keys stays
pub record HasLists (apis numbers : List Definition') (named : List Standing) (allowed : List Pairs) (before ready : Ready) : Type 0 where
  pub definitions : ready.definitions.items ≡ apis
  pub deployments : ready.deployments.items ≡ numbers
  pub stages : ready.stages.items ≡ named
  pub plans : ready.plans.items ≡ allowed
  pub keys : ready.keys ≡ before.keys

-- what is held was put in this place, and the others stay
abbrev pub IsPutAt : Place → Held → Ready → Ready → Type 0
IsPutAt place (Definition definition) before now = HasLists (put_at place definition before.definitions.items) before.deployments.items before.stages.items before.plans.items before now
IsPutAt place (Deployed definition) before now = HasLists before.definitions.items (put_at place definition before.deployments.items) before.stages.items before.plans.items before now
IsPutAt place (Stands stage) before now = HasLists before.definitions.items before.deployments.items (put_at place stage before.stages.items) before.plans.items before now
IsPutAt place (Allows stages) before now = HasLists before.definitions.items before.deployments.items before.stages.items (put_at place stages before.plans.items) before now
IsPutAt place Nothing before now = HasLists before.definitions.items before.deployments.items before.stages.items before.plans.items before now
