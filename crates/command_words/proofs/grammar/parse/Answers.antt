use Rattle.std.proofs.Common.{ap₂, refl, ◌∙◌}
use Rattle.std.proofs.lemmas.Result.{IfErr-weaker}
use Rattle.clap.specs.Words.{takes}
use Rattle.command_words.proofs.Asked.{rows_are_read}
use Rattle.command_words.specs.Grammar.{texts_of}
use Rattle.command_words.proofs.grammar.parse.Goals as goal

pub returns-clause-memory : goal.returns-clause-memory
returns-clause-memory c =
    let parse = c.try_get_matches_from in
    IfErr-weaker parse.result _ _ (λ e h. h (ap₂ takes c.in_ok-gateway_command.ensures refl ∙ (rows_are_read (texts_of c.args.words.now) c.requires).0)) parse.ensures.passes
