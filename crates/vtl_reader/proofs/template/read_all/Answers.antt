use Rattle.std.proofs.Common.{◌≡◌, ◌∙◌, ap, sym, rules, Ok, Some, None}
use Rattle.vtl_grammar.specs.Faults.{◌>>=◌}
use Rattle.vtl_grammar.specs.Macros.{macro_names}
use Rattle.vtl_grammar.specs.Calls.{macros_in, wrong_calls}
use Rattle.vtl_grammar.specs.Templates.{whole, tested, unless_wrong}
use Rattle.vtl_reader.specs.Nodes.{item_of, items_made}
use Rattle.vtl_reader.specs.Macros.{macros_by}
use Rattle.vtl_reader.proofs.Listing.{tested_calls}
use Rattle.vtl_reader.proofs.template.read_all.Goals as goal

pub returns-in-Some-clause-gives : goal.returns-in-Some-clause-gives
returns-in-Some-clause-gives c =
    let is = items_made (item_of c.in-Ok.p.0) c.in-Ok.p.1.items in
    let ms = macros_by c.in-Ok.p.0 c.in_ok-macros.macros in
    let read : whole (macro_names c.args.bytes.now) 64 c.args.bytes.now ≡ Ok is = ap (λ z. whole z 64 c.args.bytes.now) (sym c.in_ok-names.ensures) ∙ c.in-Ok.ensures.gives in
    let wrong : wrong_calls ms is ≡ Some c.in-Some.left = search rules in
    ap (λ z. z >>= tested) read ∙ tested_calls ms is (λ x. c.in_ok-macros.ensures.macros x ∙ ap (λ z. macros_in (items_made (item_of c.in-Ok.p.0) z) x) c.deref.ensures.value) ∙ ap (unless_wrong is) wrong

pub returns-clause-gives : goal.returns-clause-gives
returns-clause-gives c =
    let is = items_made (item_of c.in-Ok.p.0) c.in-Ok.p.1.items in
    let ms = macros_by c.in-Ok.p.0 c.in_ok-macros.macros in
    let read : whole (macro_names c.args.bytes.now) 64 c.args.bytes.now ≡ Ok is = ap (λ z. whole z 64 c.args.bytes.now) (sym c.in_ok-names.ensures) ∙ c.in-Ok.ensures.gives in
    let right : wrong_calls ms is ≡ None = search rules in
    ap (λ z. z >>= tested) read ∙ tested_calls ms is (λ x. c.in_ok-macros.ensures.macros x ∙ ap (λ z. macros_in (items_made (item_of c.in-Ok.p.0) z) x) c.deref.ensures.value) ∙ ap (unless_wrong is) right
