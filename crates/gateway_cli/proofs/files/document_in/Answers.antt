use Rattle.gateway_cli.proofs.Inputs.{if_ok_map}
use Rattle.gateway_cli.proofs.Asked.{of_document}
use Rattle.gateway_cli.proofs.files.document_in.Goals as goal

pub returns-clause-read : goal.returns-clause-read
returns-clause-read g c =
    if_ok_map c.file_in.result _ _
    (λ read holds. of_document (g.O.Outside.files c.args.outside.now) c.args.name.now holds.0 read holds.1 holds.2)
    c.file_in.ensures.read
