use Rattle.std.proofs.Common.{◌∷◌, ap, ◌∙◌, sym}
use Rattle.std.proofs.lemmas.Str.{chars_past_char}
use Rattle.std.specs.Str.{chars}
use Rattle.policy_core.proofs.pattern.next_char.Goals as goal

pub returns : goal.returns
returns c =
    chars_past_char c.args.text.now c.next.new.self.rest.now c.in_ok-c.c c.utf8.text (sym c.chars-chars.ensures.rest ∙ c.in_ok-c.ensures.steps.0)
    ∙ ap (λ rest. c.in_ok-c.c ∷ chars rest) (sym c.as_str.ensures)
