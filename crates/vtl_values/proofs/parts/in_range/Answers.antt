use Rattle.std.proofs.Common.{◌≡◌, ◌≤◌, sym, ◌∙◌, rules}
use Rattle.std.proofs.lemmas.Int.{to_z-of_z}
use Rattle.vtl_values.specs.Val.{whole}
use Rattle.vtl_values.specs.Ranges.{distance, numbered}
use Rattle.vtl_values.proofs.Items.{span_item}
use Rattle.vtl_values.proofs.parts.in_range.Goals as goal

pub returns-then-n-abs_diff : goal.returns-then-n-abs_diff
returns-then-n-abs_diff c =
    let near : c.args.n ≤ distance c.args.first c.args.last = search rules in
    let e : c.whole.result ≡ whole (numbered c.args.first c.args.last c.args.n) = search (rules, to_z-of_z, c.number_at.ensures, c.whole.ensures) in
    e ∙ sym (span_item c.args.first c.args.last c.args.n near)
