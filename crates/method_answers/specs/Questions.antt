-- What an authorizer is asked about a call.
use Rattle.std.specs.Prelude.{ℕ, List, Option}
use Rattle.api_parts.specs.declared.parts.Authorizer.{Authorizer}
use Rattle.authorizer_call.specs.Requests.{authorizer_request_of}
use Rattle.backend_core.specs.declared.request.WireRequest.{WireRequest}
use Rattle.method_answers.specs.Calls.{Call}

-- The authorizer's name and the token, under which its policy may be remembered for so many seconds, where they are not 0; and the
-- request, where the authorizer's uri leads somewhere. A definition that is read has none whose uri leads nowhere.
pub record Question : Type 0 where
  pub authorizer : List ℕ
  pub token : List ℕ
  pub ttl : ℕ
  pub request : Option WireRequest

-- what this authorizer is asked about a token and the call of this name
abbrev pub question_of : Authorizer → List ℕ → List ℕ → Question
question_of a token arn = record { authorizer = a.name; token = token; ttl = a.ttl; request = authorizer_request_of a token arn }

-- a call before its key, its name, of which policies speak, and what its authorizer is asked
pub record Consulting : Type 0 where
  pub call : Call
  pub arn : List ℕ
  pub question : Question
