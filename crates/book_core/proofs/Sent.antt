-- What goes through a book, and a book itself, may go to another thread.
use denote.Param.Send.{IsSend, IsSync, view_send, sendable}
use denote.Param.SendFields.{as_row_send, declared_send, variants_send}
use denote.Struct.Field.{row_field}
use Rattle.api_model.proofs.Sent.{api_send, api_sync}
use Rattle.book_rules.proofs.events.Limits.TheSendSync as limits
use Rattle.book_rules.proofs.replies.Refusal.TheSendSync as refusal
use Rattle.call_facts.proofs.kind.Kind.TheSendSync as kind
use Rattle.call_facts.proofs.vars.Vars.TheSendSync as vars
use Rattle.gw_base.proofs.lists.Seq.TheSendSync as list
use Rattle.gw_base.proofs.lists.Shared.TheSendSync as shared
use Rattle.gw_base.proofs.name.Name.TheSendSync as name
use Rattle.policy_core.proofs.policy.Policy.TheSendSync as policy
use Rattle.policy_core.specs.contracts.policy.Policy as Policy
use Rattle.policy_memory.proofs.lessons.PolicyMemory.TheSendSync as policies
use Rattle.policy_memory.proofs.names.PolicyName.TheSendSync as policy_name
use Rattle.usage_meter.proofs.allowance.Quota.TheSendSync as quota
use Rattle.usage_meter.proofs.throttle.Throttle.TheSendSync as throttle
use Rattle.book_rules.proofs.replies.Usage.TheSendSync as usage
use Rattle.key_index.proofs.index.KeyIndex.TheSendSync as index
use Rattle.book_core.proofs.counts.Counts.TheSendSync as counts
use Rattle.book_opening.specs.contracts.ready.Canary as Canary
use Rattle.gw_base.proofs.texts.Text.TheSendSync as text
use Rattle.api_model.specs.contracts.api.Api as Api
use Rattle.gw_base.specs.contracts.lists.Shared as Shared
use Rattle.book_rules.specs.contracts.events.Command as Command
use Rattle.book_rules.specs.contracts.events.Event as Event
use Rattle.book_rules.specs.contracts.events.Entry as Entry
use Rattle.book_rules.specs.contracts.replies.Reply as Reply
use Rattle.book_rules.specs.contracts.replies.View as View
use Rattle.book_opening.specs.contracts.ready.Ready as Ready
use Rattle.book_opening.specs.contracts.ready.Standing as Standing
use Rattle.keeper_core.proofs.tables.Tables.TheSendSync as tables
use Rattle.keeper_core.specs.declared.keeper.Keeper.{Ghosts}
use Rattle.book_core.specs.contracts.book.Book as Book
use Rattle.book_core.specs.contracts.book.Book.TheInside as inside
use Rattle.book_core.specs.contracts.current.Current as Current
use Rattle.std.proofs.Crossing.{Vec-send}
use denote.RattleType.{RattleType}

-- place, moment, deployment, whether it is a canary's, the definition, the variables
stage_view_send : IsSend View.the_row
stage_view_send = declared_send View.the_type (
  search sendable,
  (
    search sendable,
    (
      search sendable,
      (
        search sendable,
        (
          search (shared.the_send, api_send, api_sync, sendable) depth 20,
          (search (shared.the_send, vars.the_send, vars.the_sync, sendable) depth 20, tt),
        ),
      ),
    ),
  ),
)

policy_shared : IsSend (Shared.the_row Policy.the_row)
policy_shared = search (shared.the_send, policy.the_send, policy.the_sync, sendable) depth 20

-- Entered, NoStage, Remembered, NotRemembered, Learned, Admitted, InvalidKey, Throttled, QuotaExceeded, Store, Left, Done, Deployed, Usage, Refused
pub reply_send : IsSend Reply.the_row
reply_send = variants_send Reply.enum (
  (stage_view_send, tt),
  (
    tt,
    (
      (policy_shared, tt),
      (
        tt,
        (
          tt,
          (
            (name.the_send, (name.the_send, tt)),
            (
              tt,
              (
                (search sendable, tt),
                (
                  (search sendable, (search sendable, tt)),
                  (tt, ((search sendable, tt), (tt, ((search sendable, tt), ((usage.the_send, tt), ((refusal.the_send, tt), tt)))))),
                ),
              ),
            ),
          ),
        ),
      ),
    ),
  ),
)

-- PutApi, Deploy, PutStage, PutCanary, PromoteCanary, PutKey, PutPlan, JoinKey, Grant, Flush, Usage, Shutdown
command_send : IsSend Command.the_row
command_send = variants_send Command.enum (
  (text.the_send, (search (shared.the_send, api_send, api_sync, sendable) depth 20, tt)),
  (
    (text.the_send, tt),
    (
      (text.the_send, (text.the_send, (search sendable, (search (shared.the_send, vars.the_send, vars.the_sync, sendable) depth 20, tt)))),
      (
        (text.the_send, (text.the_send, (search sendable, (search sendable, (search (shared.the_send, vars.the_send, vars.the_sync, sendable) depth 20, tt))))),
        (
          (text.the_send, (text.the_send, tt)),
          (
            (text.the_send, (text.the_send, (search sendable, tt))),
            (
              (
                text.the_send,
                (
                  search (throttle.the_send, sendable) depth 20,
                  (search (quota.the_send, sendable) depth 20, (search (list.the_send, text.the_send, sendable) depth 20, tt)),
                ),
              ),
              (
                (text.the_send, (text.the_send, tt)),
                ((text.the_send, (text.the_send, (search sendable, tt))), ((text.the_send, (text.the_send, tt)), ((text.the_send, (text.the_send, tt)), (tt, tt)))),
              ),
            ),
          ),
        ),
      ),
    ),
  ),
)

-- Enter, Recall, Learn, Admit, Admin, Leave
pub event_send : IsSend Event.the_row
event_send = variants_send Event.enum (
  (search sendable, (search sendable, (text.the_send, (text.the_send, tt)))),
  (
    (search sendable, (policy_name.the_send, tt)),
    (
      (search sendable, (policy_name.the_send, (policy_shared, (search sendable, tt)))),
      (
        (search sendable, (text.the_send, (text.the_send, (text.the_send, tt)))),
        (
          (search sendable, (command_send, tt)),
          ((search sendable, (search (kind.the_send, sendable) depth 20, tt)), tt),
        ),
      ),
    ),
  ),
)

-- the seat, the event, whether it is kept
pub entry_send : IsSend Entry.the_row
entry_send = declared_send Entry.the_type (search sendable, (event_send, (search sendable, tt)))

-- the number of a deployment, the share, the variables
canary_send : IsSend Canary.the_row
canary_send = declared_send Canary.the_type (search sendable, (search sendable, (search (shared.the_send, vars.the_send, vars.the_sync, sendable) depth 20, tt)))

-- the number of a deployment, the variables, the canary
standing_send : IsSend Standing.the_row
standing_send = declared_send Standing.the_type (
  search sendable,
  (search (shared.the_send, vars.the_send, vars.the_sync, sendable) depth 20, (search (canary_send, sendable) depth 20, tt)),
)

definition_send : IsSend (Shared.the_row Api.the_row)
definition_send = search (shared.the_send, api_send, api_sync, sendable) depth 20

-- the definitions of APIs, those of deployments, the stages, the keys by their values, the stages of plans
ready_send : IsSend Ready.the_row
ready_send = declared_send Ready.the_type (
  Vec-send _ definition_send,
  (Vec-send _ definition_send, (Vec-send _ standing_send, (index.the_send, (search (Vec-send, list.the_send, text.the_send, sendable) depth 20, tt)))),
)

-- the tables, what their rows hold, the latest moment, whether the session is closing, the policies that are remembered
current_send : IsSend Current.the_row
current_send = declared_send Current.the_type (tables.the_send, (ready_send, (search sendable, (search sendable, (policies.the_send, tt)))))

-- a book, where its keeper may: the keeper, the keeper behind its load, the opening tables, what stands, the history, its bytes, the limits, the counts
pub book_send : (T : RattleType) (g : Ghosts T.Denot) → IsSend T → IsSend (Book.the_row T g)
book_send T g keeper = view_send _ _ _ _ _ (
    declared_send (inside.the_type T g)
    (as_row_send (row_field T) keeper, (search sendable, (tables.the_send, (current_send, (Vec-send _ entry_send, (search sendable, (limits.the_send, (counts.the_send, tt))))))))
    )
