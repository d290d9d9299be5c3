use Rattle.std.proofs.Common.{◌≡◌, ◌∙◌, ap, sym, rules, Ok}
use Rattle.std.proofs.lemmas.Result.{err_from_is_err_and}
use Rattle.std.specs.String.{string_bytes}
use Rattle.json_subset.specs.Documents.{root_tree}
use Rattle.json_subset.specs.Nodes.{tree_of}
use Rattle.json_subset.proofs.Least.{gives_place}
use Rattle.json_subset.proofs.Spelled.{read_is_spelled, spelled_is_read, gives_only}
use Rattle.json_subset.proofs.Texts.{fails_along}
use Rattle.json_subset.proofs.Whole.{json_fault, json_document}
use Rattle.json_subset.proofs.json.Json.read.Goals as goal

pub returns-in-Err-clause-gives : goal.returns-in-Err-clause-gives
returns-in-Err-clause-gives c = json_fault c.args.bytes.now _ (search rules) (search rules)

pub returns-in_err-nodes-in-Ok-clause-gives : goal.returns-in_err-nodes-in-Ok-clause-gives
returns-in_err-nodes-in-Ok-clause-gives c =
    let p = err_from_is_err_and c.from_residual.result c.from_residual.ensures.1 in
    rw (p.1, p.2) (fails_along _ _ _ (sym (json_document c.args.bytes.now c.in-Ok.ensures.cases.1)) c.in_err-nodes-in-Ok.ensures.gives)

pub of-requires-clause-sound : goal.of-requires-clause-sound
of-requires-clause-sound c =
    let e : string_bytes c.in_ok-text-in-Ok.text ≡ c.args.bytes.now = search rules in
    rw e c.in_ok-nodes-in-Ok.ensures.sound

pub returns-in_ok-text-in-Ok-clause-gives : goal.returns-in_ok-text-in-Ok-clause-gives
returns-in_ok-text-in-Ok-clause-gives c =
    let e : string_bytes c.in_ok-text-in-Ok.text ≡ c.args.bytes.now = search rules in
    json_document c.args.bytes.now c.in-Ok.ensures.cases.1
    ∙ c.in_ok-nodes-in-Ok.ensures.gives
    ∙ ap (λ z. Ok (tree_of z c.in_ok-nodes-in-Ok.nodes.items c.in_ok-nodes-in-Ok.root)) (sym e)
    ∙ ap (λ d. Ok (root_tree d)) (sym c.of.ensures)

pub returns-in_err-nodes-in-Ok-clause-only : goal.returns-in_err-nodes-in-Ok-clause-only
returns-in_err-nodes-in-Ok-clause-only c = gives_only root_tree c.args.bytes.now c.from_residual.result (returns-in_err-nodes-in-Ok-clause-gives c)

pub returns-in_ok-text-in-Ok-clause-spelled : goal.returns-in_ok-text-in-Ok-clause-spelled
returns-in_ok-text-in-Ok-clause-spelled c = read_is_spelled c.args.bytes.now _ (returns-in_ok-text-in-Ok-clause-gives c)

pub returns-in_ok-text-in-Ok-clause-only : goal.returns-in_ok-text-in-Ok-clause-only
returns-in_ok-text-in-Ok-clause-only c = λ t s. sym (spelled_is_read c.args.bytes.now t s) ∙ returns-in_ok-text-in-Ok-clause-gives c

pub returns-in_err-nodes-in-Ok-clause-places : goal.returns-in_err-nodes-in-Ok-clause-places
returns-in_err-nodes-in-Ok-clause-places c = gives_place root_tree c.args.bytes.now c.from_residual.result (returns-in_err-nodes-in-Ok-clause-gives c)

pub of-requires-clause-spelled : goal.of-requires-clause-spelled
of-requires-clause-spelled c =
    let e : string_bytes c.in_ok-text-in-Ok.text ≡ c.args.bytes.now = search rules in
    rw e (read_is_spelled c.args.bytes.now (tree_of c.args.bytes.now c.in_ok-nodes-in-Ok.nodes.items c.in_ok-nodes-in-Ok.root) (json_document c.args.bytes.now c.in-Ok.ensures.cases.1 ∙ c.in_ok-nodes-in-Ok.ensures.gives))
