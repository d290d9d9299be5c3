use denote.Exit.{no}
use denote.Param.Send.{arg_send, param_send}
use Rattle.gateway_stores.proofs.Sent.{keeper_send}
use Rattle.gateway.proofs.main.Goals as goal

pub run-status-requires-send-O-Keep : goal.run-status-requires-send-O-Keep
run-status-requires-send-O-Keep g c κs within = param_send _ _ (arg_send _ no _ keeper_send)
