-- A schema may go to another thread, and be shared with one.
use denote.Param.Send.{IsSend, IsSync, view_send, view_sync, sendable}
use denote.Param.SendFields.{declared_send, declared_sync}
use Rattle.std.proofs.Crossing.{crosses, Vec-send, Vec-sync}
use Rattle.schema_rules.proofs.Sent.{node_send, node_sync}
use Rattle.schema_draft4.specs.contracts.schema.Schema as Schema
use Rattle.schema_draft4.specs.contracts.schema.Schema.TheInside as inside

pub schema_send : IsSend Schema.the_row
schema_send = view_send _ _ _ _ _ (declared_send inside.the_type (Vec-send _ node_send, (search (crosses, sendable) depth 20, (search sendable, tt))))

pub schema_sync : IsSync Schema.the_row
schema_sync = view_sync _ _ _ _ _ (declared_sync inside.the_type (Vec-sync _ node_sync, (search (crosses, sendable) depth 20, (search sendable, tt))))
