use Rattle.std.proofs.Common.{◌∙◌, ap, sym, rules, arith}
use Rattle.vtl_grammar.specs.Bytes.{after}
use Rattle.vtl_words.proofs.Finds.{hit, miss, to_end}
use Rattle.vtl_words.proofs.bytes.until_word.Goals as goal

pub returns-in-Some : goal.returns-in-Some
returns-in-Some c = hit _ _ _ _ _ c.loop-n-test.true (ap (after c.args.word.now) (sym (to_end c.loop-n.n c.args.bs.now)) ∙ search rules) c.loop-n.invariant.1

pub loop-n-preserved : goal.loop-n-preserved
loop-n-preserved c = (omega (arith, c.loop-n-test.true), miss _ _ _ _ c.loop-n-test.true (ap (after c.args.word.now) (sym (to_end c.loop-n.n c.args.bs.now)) ∙ search rules) c.loop-n.invariant.1)
