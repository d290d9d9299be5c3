use Rattle.std.proofs.Common.{◌≡◌, ◌∙◌, ap, sym, subst, rules, Ok, Err}
use Rattle.std.specs.Prelude.{Result}
use Rattle.vtl_grammar.specs.declared.fault.TemplateFault.{TemplateFault}
use Rattle.vtl_grammar.specs.Tree.{Items}
use Rattle.vtl_grammar.specs.Grammar.{IsTemplate}
use Rattle.vtl_grammar.specs.Templates.{limit, read_of, tree_of, items_or_none}
use Rattle.vtl_grammar.proofs.SoundTemplates as sound
use Rattle.vtl_grammar.proofs.Template as back
use Rattle.vtl_reader.specs.Nodes.{item_of, items_made}
use Rattle.vtl_reader.proofs.template.Template.read.Goals as goal

pub returns-in-Err-Met-clause-only : goal.returns-in-Err-Met-clause-only
unfolding read_of limit
returns-in-Err-Met-clause-only c = λ is t.
    let bad : read_of c.args.text.now ≡ Err c.placed.result = search rules in
    let good : read_of c.args.text.now ≡ Ok is = back.template_read c.args.text.now is t in
    let both : Ok is ≡ Err c.placed.result = sym good ∙ bad in
    absurd (cc)

pub returns-clause-found : goal.returns-clause-found
unfolding read_of limit
returns-clause-found c =
    let good : read_of c.args.text.now ≡ Ok (items_made (item_of c.in-Ok.p.0) c.in-Ok.p.2.items) = search rules in
    let P : Result Items TemplateFault → Type 0 = λ r. IsTemplate c.args.text.now (items_or_none r) in
    subst P (sym good) (sound.template_read c.args.text.now (items_made (item_of c.in-Ok.p.0) c.in-Ok.p.2.items) good)

pub returns-clause-only : goal.returns-clause-only
returns-clause-only c = λ is t.
    let same : c.of-source.result ≡ c.args.text.now = search rules in
    let good : read_of c.args.text.now ≡ Ok is = back.template_read c.args.text.now is t in
    ap tree_of same ∙ ap items_or_none good
