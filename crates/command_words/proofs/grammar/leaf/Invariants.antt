use Rattle.std.proofs.Common.{length, ◌-◌, ◌≡◌, false, drop}
use Rattle.clap.specs.Words.{app_of, new_app}
use Rattle.clap.specs.declared.builder.command.Command.TheViews.{out-Command as fields_of}
use Rattle.command_words.specs.Grammar.{texts_of, with_arguments}
use Rattle.command_words.proofs.grammar.leaf.Given as goal

abbrev pub invariant-loop-i : goal.invariant-loop-i
invariant-loop-i l = record {
  app : with_arguments (app_of l.command) (texts_of (drop l.i l.arguments)) ≡ with_arguments (new_app l.name) (texts_of l.arguments);
  local : (fields_of l.command).has_globals ≡ false;
}

abbrev pub decreases-loop-i : goal.decreases-loop-i
decreases-loop-i l = length l.arguments - l.i
