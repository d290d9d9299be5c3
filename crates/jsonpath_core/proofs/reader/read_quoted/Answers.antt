use Rattle.std.proofs.Common.{sym, Some, None}
use Rattle.std.proofs.lemmas.Str.Pattern.{split_parts}
use Rattle.jsonpath_core.proofs.Fronts.{quoted_ends, quoted_open}
use Rattle.jsonpath_core.proofs.reader.read_quoted.Goals as goal

pub returns-in_default-clause-gives : goal.returns-in_default-clause-gives
returns-in_default-clause-gives c = quoted_open c.args.n c.args.quote c.args.text.now (split_parts c.args.quote c.args.text.now None c.in_default.ensures.cases c.requires)

pub returns-clause-gives : goal.returns-clause-gives
returns-clause-gives c =
    let parts = split_parts c.args.quote c.args.text.now (Some (c.in-Some.name, c.in-Some.rest)) c.in-Some.ensures.cases c.requires in
    let e = quoted_ends c.args.n c.args.quote c.args.text.now c.in-Some.name.now c.in-Some.rest.now parts.0 parts.1 in
    rw (e, sym c.in_ok-copied.ensures) c.closed.ensures.gives
