-- A keeper over a file may go to another thread, where its connection and what opens its file may.
use denote.Param.Send.{IsSend, sendable, view_send}
use denote.Param.SendFields.{as_row_send, declared_send, variants_send}
use denote.Struct.Field.{row_field}
use denote.RattleType.{RattleType}
use Rattle.keeper_core.proofs.rows.Row.TheSendSync as row
use Rattle.keeper_sqlite.specs.contracts.keeper.SqliteKeeper as keeper
use Rattle.keeper_sqlite.specs.contracts.keeper.SqliteKeeper.TheInside as inside
use Rattle.keeper_sqlite.specs.contracts.link.Link as link
use Rattle.keeper_sqlite.specs.contracts.link.Link.TheInside as link_inside
use Rattle.keeper_sqlite.specs.contracts.undo.Undo as undo
use Rattle.keeper_sqlite.specs.declared.source.StoreFile as file
use Rattle.sqlite.proofs.connection.Connection.TheSendSync as connection
use Rattle.sqlite.specs.declared.connection.Connection.{Connection}
use Rattle.sqlite_trees.specs.declared.store.Store.{Ghosts}
use Rattle.sqlite.specs.contracts.connection.Connection as conn
use Rattle.std.proofs.Crossing.{Vec-send}
use Rattle.std.proofs.option.Option.TheSendSync as option

-- Restore, Remove
undo_send : IsSend undo.the_row
undo_send = variants_send undo.enum ((row.the_send, tt), ((row.the_send, tt), tt))

-- what opens the file, the connection, what is owed
link_send : (B F : RattleType) (g : Ghosts B.Denot) (h : file.Ghosts F.Denot (Connection B.Denot)) → IsSend B → IsSend F → IsSend (link.the_row B F g h)
link_send B F g h b f = view_send _ _ _ _ _ (declared_send (link_inside.the_type B F g h) (
  as_row_send (row_field F) f,
  (option.the_send (conn.the_row B g) (connection.the_send B g b), (Vec-send _ undo_send, tt)),
))

-- the file and its connection, the rows that are staged, and two counts
pub keeper_send : (B F : RattleType) (g : Ghosts B.Denot) (h : file.Ghosts F.Denot (Connection B.Denot)) → IsSend B → IsSend F → IsSend (keeper.the_row B F g h)
keeper_send B F g h b f = view_send _ _ _ _ _ (declared_send (inside.the_type B F g h) (
  link_send B F g h b f,
  (Vec-send _ row.the_send, (search sendable, (search sendable, tt))),
))
