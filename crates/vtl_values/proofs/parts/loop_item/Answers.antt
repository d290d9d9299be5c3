use Rattle.std.proofs.Common.{◌<◌, length, sym, subst}
use Rattle.vtl_values.specs.Val.{Val}
use Rattle.vtl_values.specs.Parts.{loop_items}
use Rattle.vtl_values.proofs.Items.{no_turn}
use Rattle.vtl_values.proofs.parts.loop_item.Goals as goal

pub returns-in_default : goal.returns-in_default
returns-in_default c =
    let P : Val → Type 0 = λ v. c.args.n < length (loop_items v) in
    absurd (no_turn c.value.inside.shape c.args.n c.in_default.not-List c.in_default.not-Range c.in_default.not-Map (subst P (sym c.value.view_is) c.requires))
