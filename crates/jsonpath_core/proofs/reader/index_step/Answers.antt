use Rattle.std.proofs.Common.{◌≤◌, ap, sym, subst, Err}
use Rattle.std.proofs.lemmas.Str.Parse.{parse_digits}
use Rattle.jsonpath_core.specs.Spelling.{number_of}
use Rattle.jsonpath_core.specs.Steps.{index}
use Rattle.jsonpath_core.proofs.Numerals.{numerals, past}
use Rattle.jsonpath_core.proofs.reader.index_step.Goals as goal

pub returns-in-Ok-clause-gives : goal.returns-in-Ok-clause-gives
returns-in-Ok-clause-gives c =
    let h = parse_digits numerals 32 c.args.digits.now _ c.parse.ensures.value.0 c.requires.digits in
    let k = rw c.in-Ok.is at h in ap index k.1

pub returns-in_ok-copied-in-Err-clause-kept : goal.returns-in_ok-copied-in-Err-clause-kept
returns-in_ok-copied-in-Err-clause-kept c =
    let h = parse_digits numerals 32 c.args.digits.now (Err c.in-Err.field-0) c.in-Err.ensures.value.0 c.requires.digits in
    subst (λ ds. 4294967296 ≤ number_of ds) (sym c.in_ok-copied-in-Err.ensures) (past c.args.digits.now (number_of c.args.digits.now) 4294967296 c.requires.some h)
