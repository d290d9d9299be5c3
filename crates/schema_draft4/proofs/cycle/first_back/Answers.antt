use Rattle.std.proofs.Common.{◌≡◌, List, ◌-◌, suc, true, length, sym, ap, ◌∙◌, subst, arith}
use Rattle.std.specs.Prelude.{is_some}
use Rattle.schema_draft4.specs.Cycles.{Reference, first_refers, references, references_in, up_from}
use Rattle.schema_draft4.specs.Links.{IsFirst, linked_by}
use Rattle.schema_rules.specs.Verdict.{rules_of}
use Rattle.schema_draft4.proofs.Back.{behind_root, found_there, none_there, root_first}
use Rattle.schema_draft4.proofs.Grown.{length_rules}
use Rattle.schema_draft4.proofs.cycle.first_back.Goals as goal

pub returns-then-is_some : goal.returns-then-is_some
returns-then-is_some c =
    let ss = linked_by c.args.links.now in
    let n = length c.args.links.now.nodes.now - 1 in
    let all : length ss.rules ≡ suc n = omega (arith, length_rules c.args.links.now.nodes.now, c.if-count-eq0.false) in
    let first : is_some (first_refers (rules_of ss n)) ≡ true = ap (λ z. is_some (first_refers z)) (sym c.rules_below.ensures) ∙ sym c.if-not-refers_first.ensures in
    let P : List Reference → Type 0 = λ z. IsFirst ss z c.in_ok-back.back in
    subst P (root_first ss n all first) (found_there ss (references_in n (rules_of ss n)) (references ss (up_from 0 n)) c.in_ok-back.back (sym c.if-is_some.ensures) c.in_ok-back.ensures)

pub returns-else-is_some : goal.returns-else-is_some
returns-else-is_some c =
    let ss = linked_by c.args.links.now in
    let n = length c.args.links.now.nodes.now - 1 in
    let all : length ss.rules ≡ suc n = omega (arith, length_rules c.args.links.now.nodes.now, c.if-count-eq0.false) in
    let first : is_some (first_refers (rules_of ss n)) ≡ true = ap (λ z. is_some (first_refers z)) (sym c.rules_below.ensures) ∙ sym c.if-not-refers_first.ensures in
    let none = none_there ss (references_in n (rules_of ss n)) c.in_ok-back.back (sym c.if-is_some.ensures) c.in_ok-back.ensures in
    behind_root ss (references_in n (rules_of ss n)) (references ss (up_from 0 n)) _ c.back_below-else-is_some.result (root_first ss n all first) none c.back_below-else-is_some.ensures
