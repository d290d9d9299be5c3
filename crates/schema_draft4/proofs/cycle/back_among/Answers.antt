use Rattle.std.proofs.Common.{List, ◌+◌, drop, map, sym, subst}
use Rattle.schema_draft4.specs.Cycles.{Reference, reference_of, referred, references_in}
use Rattle.schema_draft4.specs.Links.{IsFirst, linked_by}
use Rattle.schema_rules.specs.Views.{rule_of}
use Rattle.schema_draft4.proofs.Back.{first_behind, found_there, next_rule, none_there}
use Rattle.schema_draft4.proofs.cycle.back_among.Goals as goal

pub returns-then-is_some : goal.returns-then-is_some
returns-then-is_some c =
    let ss = linked_by c.args.links.now in
    let here = reference_of c.args.k (referred (rule_of c.rule-item.result)) in
    let rest = references_in c.args.k (map rule_of (drop (c.loop-rule.rule-index + 1) c.args.rules.now)) in
    let P : List Reference → Type 0 = λ z. IsFirst ss z c.in_ok-back.back in
    let next = next_rule c.args.k c.args.rules.now c.loop-rule.rule-index c.rule-item.result c.loop-rule-test.true c.rule-item.is in
    c.loop-rule.invariant c.in_ok-back.back (subst P next (found_there ss here rest c.in_ok-back.back (sym c.if-is_some.ensures) c.in_ok-back.ensures))

pub loop-rule-preserved : goal.loop-rule-preserved
loop-rule-preserved c = λ o h.
    let ss = linked_by c.args.links.now in
    let here = reference_of c.args.k (referred (rule_of c.rule-item.result)) in
    let rest = references_in c.args.k (map rule_of (drop (c.loop-rule.rule-index + 1) c.args.rules.now)) in
    let P : List Reference → Type 0 = λ z. IsFirst ss z o in
    let next = next_rule c.args.k c.args.rules.now c.loop-rule.rule-index c.rule-item.result c.loop-rule-test.true c.rule-item.is in
    c.loop-rule.invariant o (subst P next (first_behind ss here rest o (none_there ss here c.in_ok-back.back (sym c.if-is_some.ensures) c.in_ok-back.ensures) h))
