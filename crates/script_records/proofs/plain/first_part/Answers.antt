use Rattle.std.proofs.Common.{arith, ◌≡◌, ◌==◌, ◌∙◌, ◌+◌, ap, sym, take, drop, length, ◌-◌, ◌∷◌}
use Rattle.std.proofs.lemmas.Grind.{common_steps}
use Rattle.record_fields.specs.Coding.{parts_of}
use Rattle.script_records.proofs.Lines.{split_some}
use Rattle.script_records.proofs.plain.first_part.Goals as goal

pub returns : goal.returns
returns c =
    let rest : drop (c.in_ok-i.i + 1) c.args.line.now ≡ take (length c.args.line.now - (c.in_ok-i.i + 1)) (drop (c.in_ok-i.i + 1) c.args.line.now) = grind (arith, common_steps) in
    split_some (λ b. b == 32) c.args.line.now c.in_ok-i.i (sym c.in_ok-i.ensures.value)
    ∙ ap (λ l. take c.in_ok-i.i c.args.line.now ∷ parts_of l) rest
