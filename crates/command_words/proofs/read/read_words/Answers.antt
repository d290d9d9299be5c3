use Rattle.std.proofs.Common.{IfSome, subst, sym}
use Rattle.std.proofs.lemmas.Result.{IfOk-weaker}
use Rattle.command_words.specs.Commands.{IsWithin}
use Rattle.command_words.proofs.Alone.{other_within}
use Rattle.command_words.proofs.read.read_words.Goals as goal

pub returns-in-None-clause-within : goal.returns-in-None-clause-within
returns-in-None-clause-within c =
    IfOk-weaker c.read_other.result _ _ (λ command h. subst (λ o. IfSome o IsWithin) (sym h) (other_within c.args.words.now)) c.read_other.ensures
