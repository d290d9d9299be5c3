use Rattle.std.proofs.Common.{◌<◌, ◌-◌, length, arith, ◌∙◌}
use Rattle.schema_draft4.proofs.Back.{target_past, target_root, target_there}
use Rattle.schema_draft4.proofs.cycle.target_name.Goals.{else-t-gt0-via-then-t-gt0+else-t-len, else-t-gt0-via-else-t-gt0}
use Rattle.schema_draft4.proofs.cycle.target_name.Goals as goal

pub returns-then-t-len : goal.returns-then-t-len
returns-then-t-len c =
    let within : c.args.t - 1 < length c.args.definitions.now.list.items = omega (arith, c.if-t-len.true, c.len.ensures) in
    c.as_str.ensures.value ∙ target_there c.args.definitions.now.list.items c.args.t c.index.result.now c.if-t-gt0.true within c.index.ensures

pub returns-else-t-gt0 : goal.returns-else-t-gt0
returns-else-t-gt0 c =
    elim c.else-t-gt0.branch [
      | else-t-gt0-via-then-t-gt0+else-t-len w ↦ target_past c.args.definitions.now.list.items c.args.t (omega (arith, w.if-t-len.false, w.len.ensures))
      | else-t-gt0-via-else-t-gt0 w ↦ target_root c.args.definitions.now.list.items c.args.t w.if-t-gt0.false
    ]
