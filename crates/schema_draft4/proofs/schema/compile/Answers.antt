use Rattle.std.proofs.Common.{List, ℕ, subst}
use Rattle.schema_rules.specs.Views.{AreSoundNodes}
use Rattle.schema_rules.specs.declared.rule.Node.{Node}
use Rattle.schema_draft4.proofs.Straight.{straight}
use Rattle.schema_draft4.proofs.schema.compile.Goals as goal

pub returns-then-are_sound-clause-straight : goal.returns-then-are_sound-clause-straight
returns-then-are_sound-clause-straight c =
    let P : List Node → Type 0 = λ z. AreSoundNodes z c.deref-then-root-len-2.result.now in
    let Q : List ℕ → Type 0 = λ z. AreSoundNodes c.set_ranks.new.nodes.items z in
    let sound = subst Q c.deref-then-root-len-2.ensures.value (subst P c.deref-then-root-len.ensures.value (c.are_sound.ensures c.if-are_sound.true)) in
    rw c.of.ensures (straight _ _ sound)
