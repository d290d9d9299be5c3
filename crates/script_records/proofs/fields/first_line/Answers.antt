use Rattle.std.proofs.Common.{arith, ◌≡◌, ◌==◌, ◌∙◌, ◌+◌, ap, sym, take, drop, length, ◌-◌, ◌∷◌}
use Rattle.std.proofs.lemmas.Grind.{common_steps}
use Rattle.script_records.specs.Coding.{lines_of}
use Rattle.script_records.proofs.Lines.{split_none, split_some}
use Rattle.script_records.proofs.fields.first_line.Goals as goal

pub returns-in-None-clause-lines : goal.returns-in-None-clause-lines
returns-in-None-clause-lines c = split_none (λ b. b == 10) c.args.text.now (sym c.in-None.ensures.value)

pub returns-in-Some-clause-lines : goal.returns-in-Some-clause-lines
returns-in-Some-clause-lines c =
    let rest : drop (c.in-Some.i + 1) c.args.text.now ≡ take (length c.args.text.now - (c.in-Some.i + 1)) (drop (c.in-Some.i + 1) c.args.text.now) = grind (arith, common_steps) in
    split_some (λ b. b == 10) c.args.text.now c.in-Some.i (sym c.in-Some.ensures.value)
    ∙ ap (λ l. take c.in-Some.i c.args.text.now ∷ lines_of l) rest
