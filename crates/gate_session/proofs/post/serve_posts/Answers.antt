use denote.Exit.{no}
use denote.Param.{param}
use denote.Param.Send.{param_send, param_sync, arg_send, arg_sync}
use Rattle.std.proofs.Crossing.{sync}
use Rattle.gate_session.proofs.Sent.{post_send, desk_sync, captured_sync}
use Rattle.gate_session.proofs.post.serve_posts.Goals as goal

pub for_each_mut-requires-send-T : goal.for_each_mut-requires-send-T
for_each_mut-requires-send-T g c κs within = param_send 1 _ (arg_send _ no _ (post_send _ _ _ _ _ _ (param 7 g.row.P-Link) g.K.Keeper g.P.Port g.P.Link.Source g.P.Link.Sink g.B.Backend g.T.Clock g.W.Words c.type_bounds.send-K c.type_bounds.send-P c.type_bounds.send-B c.type_bounds.send-T c.type_bounds.send-W c.type_bounds.send-G))

pub for_each_mut-requires-sync-F : goal.for_each_mut-requires-sync-F
for_each_mut-requires-sync-F g c κs within = param_sync 2 _ (arg_sync _ no _ (captured_sync _ _ _ _ _ _ _ c.type_bounds.sync-R sync (desk_sync _ g.K.Keeper c.type_bounds.send-K)))
