use Rattle.std.proofs.Common.{ap, ◌∙◌}
use Rattle.std.proofs.lemmas.Result.{IfOk-weaker}
use Rattle.clap.specs.Words.{subcommand_of}
use Rattle.command_words.specs.Grammar.{gateway, texts_of}
use Rattle.command_words.specs.Reading.{read_in}
use Rattle.command_words.proofs.Asked.{rows_are_read}
use Rattle.command_words.proofs.read.read_row.Goals as goal

pub returns-in-Ok : goal.returns-in-Ok
returns-in-Ok c =
    let words = ap texts_of c.deref.ensures.value ∙ c.in_ok-texts.ensures in
    IfOk-weaker c.command_in.result _ _ (λ command h. h ∙ (ap read_in (c.in-Ok.ensures.rows ∙ ap (subcommand_of gateway) words) ∙ (rows_are_read c.args.words.now c.requires).1)) c.command_in.ensures
