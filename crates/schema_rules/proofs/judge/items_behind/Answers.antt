use Rattle.std.proofs.Common.{◌≤◌, ◌-◌, length, drop, map, sym, ap, ◌∙◌, arith, length-drop}
use Rattle.std.proofs.lemmas.List.{drop-map, take_all}
use Rattle.schema_rules.specs.Cases.{part_in}
use Rattle.schema_rules.proofs.judge.items_behind.Goals as goal

pub returns-then-count-ids-clause-parts : goal.returns-then-count-ids-clause-parts
returns-then-count-ids-clause-parts c =
    let ids = c.list_items-ids.result.now in
    let short : length (drop c.args.count ids) ≤ length ids - c.args.count = omega (arith, length-drop c.args.count ids) in
    ap (drop c.args.count) c.list_items-ids.ensures.parts
    ∙ drop-map (part_in c.args.case.now) c.args.count ids
    ∙ ap (map (part_in c.args.case.now)) (sym (take_all (length ids - c.args.count) (drop c.args.count ids) short))
