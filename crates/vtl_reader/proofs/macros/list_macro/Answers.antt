use Rattle.std.proofs.Common.{◌≡◌, ◌∙◌, ap, sym, rules}
use Rattle.vtl_grammar.specs.Tree as tree
use Rattle.vtl_reader.specs.Nodes.{item_of, items_made}
use Rattle.vtl_reader.proofs.Listing.{one_more}
use Rattle.vtl_reader.proofs.macros.list_macro.Goals as goal

pub returns-in_ok-push-2-clause-macros : goal.returns-in_ok-push-2-clause-macros
returns-in_ok-push-2-clause-macros c =
    let body = items_made (item_of c.args.arena.now) c.in-Define.field-2.items in
    let named : c.as_bytes.result.now ≡ c.in-Define.name = search rules in
    let made : item_of c.args.arena.now c.args.k ≡ tree.define c.in-Define.name c.in-Define.field-1 body = search rules in
    rw (c.in_ok-push.ensures, c.in_ok-push-2.ensures.items)
    (one_more c.args.arena.now c.args.names.now c.args.ids.now.items c.requires.listed.same c.requires.listed.all c.args.k c.as_bytes.result.now c.in-Define.field-1 body (made ∙ ap (λ z. tree.define z c.in-Define.field-1 body) (sym named)))
