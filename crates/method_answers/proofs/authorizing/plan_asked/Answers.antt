use Rattle.std.proofs.Common.{◌≡◌, rules}
use Rattle.api_model.specs.Getters.{authorizer_of}
use Rattle.authorizer_call.specs.Names.{arn_of}
use Rattle.method_answers.proofs.Asking.{asked_there}
use Rattle.method_answers.proofs.authorizing.plan_asked.Goals as goal

pub returns-in_ok-name-in-Some : goal.returns-in_ok-name-in-Some
returns-in_ok-name-in-Some c =
    let call = c.args.call in
    asked_there call c.in_ok-name-in-Some.name (arn_of call.target call.request.method) c.args.token c.in-Some.authorizer.now (authorizer_of call.definition call.method) (search rules) (search rules)
