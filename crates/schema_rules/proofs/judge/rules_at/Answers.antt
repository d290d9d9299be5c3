use Rattle.std.proofs.Common.{refl, sym, ap, ◌∙◌}
use Rattle.std.proofs.lemmas.Option.{slice_get_read}
use Rattle.schema_rules.specs.declared.rule.Node.{Node}
use Rattle.schema_rules.proofs.Ordered.{node_says}
use Rattle.schema_rules.proofs.judge.rules_at.Goals as goal

pub returns-clause-says : goal.returns-clause-says
returns-clause-says c =
    node_says c.args.case.now c.args.schema c.index-case-schema.result _ c.requires.sound c.requires.stands (slice_get_read _ _ _ _ refl c.requires.stands c.index-case-schema.is) (c.deref.ensures.value ∙ ap (λ (x : Node). x.rules.items) (sym c.index-case-schema.is))
