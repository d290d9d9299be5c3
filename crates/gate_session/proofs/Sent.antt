-- A lane at its post may go to another thread, and a desk may be shared with one, where what they are made of may.
use denote.Param.Send.{IsSend, IsSync, view_send, shr_sync, sendable}
use denote.Param.SendFields.{as_row_send, as_row_sync, declared_send, declared_sync, variants_send}
use denote.Ref.{NamedLft, ShrRef}
use denote.Struct.Field.{row_field}
use denote.Struct.Tuple.{TupleAt, type_at}
use Rattle.std.specs.Prelude.{ℕ, List, [], ◌∷◌}
use denote.RattleType.{RattleType}
use Rattle.backend_core.specs.declared.backend.Backend.{Ghosts as BackendGhosts}
use Rattle.book_core.proofs.Sent.{book_send}
use Rattle.book_core.specs.contracts.base.Base as Base
use Rattle.book_core.specs.contracts.book.Book as Book
use Rattle.book_core.specs.contracts.book.StepFault as StepFault
use Rattle.book_core.specs.contracts.machine.BookMachine.TheImpl as machine
use Rattle.book_rules.specs.contracts.events.Entry as Entry
use Rattle.book_rules.specs.contracts.events.Event as Event
use Rattle.book_rules.specs.contracts.replies.Reply as Reply
use Rattle.gate_ports.specs.declared.port.Port.{Ghosts as PortGhosts}
use Rattle.gate_ports.proofs.lane.Lane.TheSendSync as lane
use Rattle.gate_session.specs.contracts.post.Post as Post
use Rattle.gate_session.specs.contracts.post.Post.TheInside as inside
use Rattle.gate_walk.proofs.ended.LaneEnd.TheSendSync as end
use Rattle.std.specs.contracts.option.Option as Option
use Rattle.gw_base.specs.declared.outside.Source.{Ghosts as SourceGhosts}
use Rattle.gw_base.specs.declared.outside.Sink.{Ghosts as SinkGhosts}
use Rattle.gw_base.specs.declared.readings.Clock.{Ghosts as ClockGhosts}
use Rattle.gw_base.specs.declared.readings.Words.{Ghosts as WordsGhosts}
use Rattle.keeper_core.specs.declared.keeper.Keeper.{Ghosts as KeeperGhosts}
use Rattle.turn_desk.specs.contracts.desk.Desk as Desk
use Rattle.turn_desk.specs.contracts.seat.Seat as Seat
use Rattle.turn_desk.proofs.desk.Desk.TheSendSync as desk
use Rattle.turn_desk.proofs.seat.Seat.TheSendSync as seat

option_send : (T : RattleType) → IsSend T → IsSend (Option.the_row T)
option_send T s = variants_send (Option.enum T) (tt, ((as_row_send (row_field T) s, tt), tt))

-- the seat of a book
book_seat_send : (K : RattleType) (k : KeeperGhosts K.Denot) → IsSend K → IsSend (Seat.the_row (Book.the_row K k) Event.the_row Entry.the_row Base.the_row Reply.the_row StepFault.the_row (machine.ghosts K k machine.no_dict))
book_seat_send K k sk = seat.the_send (Book.the_row K k) Event.the_row Entry.the_row Base.the_row Reply.the_row StepFault.the_row (machine.ghosts K k machine.no_dict) (book_send K k sk)

-- the lane, the seat, the end
pub post_send : (K P B T W G L : RattleType) (k : KeeperGhosts K.Denot) (p : PortGhosts P.Denot L.Denot) (r : SourceGhosts L.Denot) (s : SinkGhosts L.Denot) (b : BackendGhosts B.Denot) (t : ClockGhosts T.Denot) (w : WordsGhosts W.Denot)
    → IsSend K → IsSend P → IsSend B → IsSend T → IsSend W → IsSend G → IsSend (Post.the_row K P B T W G L k p r s b t w)
post_send K P B T W G L k p r s b t w sk sp sb st sw sg =
    let own = book_seat_send K k sk in
    view_send _ _ _ _ _ (
    declared_send (inside.the_type K P B T W G L k p r s b t w)
    (lane.the_send P B T W G sp sb st sw sg, (option_send _ own, (search (end.the_send, sendable) depth 20, tt)))
    )

-- the desk of a book, behind a reference
pub desk_sync : (K : RattleType) (k : KeeperGhosts K.Denot) → IsSend K → IsSync (Desk.the_row (Book.the_row K k) Event.the_row Entry.the_row Base.the_row Reply.the_row StepFault.the_row (machine.ghosts K k machine.no_dict))
desk_sync K k sk = desk.the_sync (Book.the_row K k) Event.the_row Entry.the_row Base.the_row Reply.the_row StepFault.the_row (machine.ghosts K k machine.no_dict) (book_send K k sk)

-- references to what may be shared, which a closure has captured
pub captured_sync : (ν : List ℕ) (A B C : RattleType) (ℓ ℓ' ℓ'' : NamedLft) → IsSync A → IsSync B → IsSync C → IsSync (TupleAt ν (ShrRef ℓ.mir ℓ.lft A ∷ ShrRef ℓ'.mir ℓ'.lft B ∷ ShrRef ℓ''.mir ℓ''.lft C ∷ []))
captured_sync ν A B C ℓ ℓ' ℓ'' a b c = declared_sync (type_at ν (ShrRef ℓ.mir ℓ.lft A ∷ ShrRef ℓ'.mir ℓ'.lft B ∷ ShrRef ℓ''.mir ℓ''.lft C ∷ []))
    (as_row_sync (row_field (ShrRef ℓ.mir ℓ.lft A)) (shr_sync ℓ.mir ℓ.lft A a), (as_row_sync (row_field (ShrRef ℓ'.mir ℓ'.lft B)) (shr_sync ℓ'.mir ℓ'.lft B b), (as_row_sync (row_field (ShrRef ℓ''.mir ℓ''.lft C)) (shr_sync ℓ''.mir ℓ''.lft C c), tt)))
