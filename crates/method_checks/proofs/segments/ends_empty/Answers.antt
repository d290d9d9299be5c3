use Rattle.std.proofs.Common.{◌<◌, ◌∙◌, length, arith}
use Rattle.std.proofs.lemmas.Bool.Decides.{nat_tests}
use Rattle.method_checks.proofs.Parted.{ends_last}
use Rattle.method_checks.proofs.segments.ends_empty.Goals as goal

pub returns-then-not-is_empty : goal.returns-then-not-is_empty
returns-then-not-is_empty c =
    let some : 0 < length c.args.parts.now = grind (arith, nat_tests) in
    c.is_empty-then-not-is_empty.ensures ∙ ends_last c.args.parts.now _ some
