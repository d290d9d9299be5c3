use Rattle.pattern_core.proofs.SearchLemmas.{pattern_read, pattern_refused}
use Rattle.pattern_core.proofs.pattern.Pattern.build.Goals as goal

pub returns-in-Ok-clause-read : goal.returns-in-Ok-clause-read
returns-in-Ok-clause-read c =
    let made = c.in-Ok.ensures in
    pattern_read _ _ _ (rw (made.source, made.config) at made.read)

pub returns-in-Err-Syntax-clause-bad : goal.returns-in-Err-Syntax-clause-bad
returns-in-Err-Syntax-clause-bad c =
    let made = c.in-Err-Syntax.ensures in
    λ _. pattern_refused c.args.source.now _ (c.in-Err-Syntax.field-0-0) c.in-Err-Syntax.field-0-is made.kind made.by_grammar
