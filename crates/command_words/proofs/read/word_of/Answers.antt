use Rattle.std.proofs.Common.{◌≡◌, ℕ, List, [], Option, Some, None, Bor, refl, ap, ◌∙◌}
use Rattle.std.specs.Option.{option_map, unwrap_or}
use Rattle.clap.specs.Words.{found_of}
use Rattle.clap.proofs.WalkLemmas.{first_value-rows}
use Rattle.command_words.proofs.read.word_of.Goals as goal

lent_or : (found : Option (Bor (List ℕ))) (other : Bor (List ℕ)) → (unwrap_or found other).now ≡ unwrap_or (option_map (λ text. text.now) found) other.now
lent_or None other = refl
lent_or (Some text) other = refl

pub returns : goal.returns
returns c =
    ap (λ text. text.now) c.unwrap_or.ensures
    ∙ (lent_or c.get_str.result _ ∙ ap (λ found. unwrap_or found []) (c.get_str.ensures ∙ first_value-rows (found_of c.args.matches.now) c.args.name.now))
