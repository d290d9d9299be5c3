-- A definition may go to another thread, and be shared with one.
use denote.Param.Send.{IsSend, IsSync, view_send, view_sync, sendable}
use denote.Param.SendFields.{declared_send, declared_sync}
use Rattle.api_parts.proofs.Sent.{authorizer_send, authorizer_sync}
use Rattle.api_parts.proofs.parts.GatewayRule.TheSendSync as gateway
use Rattle.api_parts.proofs.parts.Method.TheSendSync as method
use Rattle.api_parts.proofs.parts.Resource.TheSendSync as resource
use Rattle.api_parts.proofs.parts.Validator.TheSendSync as validator
use Rattle.gw_base.proofs.lists.Seq.TheSendSync as list
use Rattle.gw_base.proofs.texts.Bytes.TheSendSync as bytes
use Rattle.gw_base.proofs.texts.Text.TheSendSync as text
use Rattle.resource_tree.proofs.tree.Tree.TheSendSync as tree
use Rattle.schema_draft4.proofs.Sent.{schema_send, schema_sync}
use Rattle.vtl_reader.proofs.template.Template.TheSendSync as template
use Rattle.api_model.specs.contracts.api.Api as Api
use Rattle.api_model.specs.contracts.api.Api.TheInside as inside
use Rattle.api_model.specs.contracts.document.PartsRead as PartsRead

-- the fields in their order: models, validators, authorizers, resources, methods, the gateway's answers, the tree
parts_send : IsSend PartsRead.the_row
parts_send = declared_send PartsRead.the_type (
  search (list.the_send, text.the_send, schema_send, sendable) depth 20,
  (
    search (list.the_send, text.the_send, validator.the_send, sendable) depth 20,
    (
      search (list.the_send, authorizer_send, sendable) depth 20,
      (
        search (list.the_send, resource.the_send, sendable) depth 20,
        (
          search (list.the_send, method.the_send, sendable) depth 20,
          (
            search (list.the_send, text.the_send, gateway.the_send, sendable) depth 20,
            (tree.the_send, tt),
          ),
        ),
      ),
    ),
  ),
)

parts_sync : IsSync PartsRead.the_row
parts_sync = declared_sync PartsRead.the_type (
  search (list.the_sync, text.the_sync, schema_sync, sendable) depth 20,
  (
    search (list.the_sync, text.the_sync, validator.the_sync, sendable) depth 20,
    (
      search (list.the_sync, authorizer_sync, sendable) depth 20,
      (
        search (list.the_sync, resource.the_sync, sendable) depth 20,
        (
          search (list.the_sync, method.the_sync, sendable) depth 20,
          (
            search (list.the_sync, text.the_sync, gateway.the_sync, sendable) depth 20,
            (tree.the_sync, tt),
          ),
        ),
      ),
    ),
  ),
)

-- the form, the source, the template, the parts, and three numbers
pub api_send : IsSend Api.the_row
api_send = view_send _ _ _ _ _ (declared_send inside.the_type (search sendable, (bytes.the_send, (search (template.the_send, sendable) depth 20, (parts_send, (search sendable, (search sendable, (search sendable, tt))))))))

pub api_sync : IsSync Api.the_row
api_sync = view_sync _ _ _ _ _ (declared_sync inside.the_type (search sendable, (bytes.the_sync, (search (template.the_sync, sendable) depth 20, (parts_sync, (search sendable, (search sendable, (search sendable, tt))))))))
