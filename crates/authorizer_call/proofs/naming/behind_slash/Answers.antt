use Rattle.std.proofs.Common.{Some, None, rules}
use Rattle.std.proofs.lemmas.Str.Pattern.{strip_prefix_char}
use Rattle.authorizer_call.proofs.Slashes.{none_goes, slash_goes}
use Rattle.authorizer_call.proofs.naming.behind_slash.Goals as goal

pub returns-in-Some : goal.returns-in-Some
returns-in-Some c = slash_goes c.args.path.now c.in-Some.rest.now (strip_prefix_char 47 c.args.path.now (Some c.in-Some.rest) c.in-Some.ensures.cases (search rules))

pub returns-in-None : goal.returns-in-None
returns-in-None c = none_goes c.args.path.now (strip_prefix_char 47 c.args.path.now None c.in-None.ensures.cases (search rules))
