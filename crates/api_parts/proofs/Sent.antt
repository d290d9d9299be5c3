-- An authorizer with its pattern may go to another thread, and be shared with one.
use denote.Param.Send.{IsSend, IsSync, sendable}
use denote.Param.SendFields.{declared_send, declared_sync}
use Rattle.pattern_core.proofs.Sent.{pattern_send, pattern_sync}
use Rattle.api_parts.proofs.parts.Authorizer.TheSendSync as authorizer
use Rattle.api_parts.specs.contracts.parts.TokenAuthorizer as TokenAuthorizer

pub authorizer_send : IsSend TokenAuthorizer.the_row
authorizer_send = declared_send TokenAuthorizer.the_type (authorizer.the_send, (search (pattern_send, sendable) depth 20, tt))

pub authorizer_sync : IsSync TokenAuthorizer.the_row
authorizer_sync = declared_sync TokenAuthorizer.the_type (authorizer.the_sync, (search (pattern_sync, sendable) depth 20, tt))
