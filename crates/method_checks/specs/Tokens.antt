-- The token that a request hands to the authorizer of its method.
use Rattle.std.specs.Prelude.{ℕ, ◌==◌, Bool, true, not, ◌&&◌, List, length, Option, if◌then◌else◌}
use Rattle.std.specs.declared.option.Option.TheVariants as option
use Rattle.pattern_core.specs.Search.{matches, matches_whole}
use Rattle.call_facts.specs.Pairs.{Pairs, header_value}
use Rattle.call_facts.specs.declared.request.Request.{Request}
use Rattle.api_model.specs.Definition.{Definition}
use Rattle.api_model.specs.Getters.{authorizer_of}
use Rattle.api_parts.specs.declared.parts.TokenAuthorizer.{TokenAuthorizer}
use Rattle.method_checks.specs.declared.tokens.Token.{Token}
use Rattle.method_checks.specs.declared.tokens.Token.TheVariants.{None, Bad, Taken}

-- the pattern, where there is one, matches the whole token
abbrev pub fits : Option (List ℕ) → List ℕ → Bool
fits option.None token = true
fits (option.Some pattern) token = matches_whole pattern token

-- a pattern that is compiled for whole tokens, where there is one, has a match
abbrev pub is_found : Option (List ℕ) → List ℕ → Bool
is_found option.None token = true
is_found (option.Some source) token = matches source token

abbrev pub taken_if : Bool → List ℕ → Token
taken_if good token = if good then Taken token else Bad

-- a token is not empty, and fits the pattern
abbrev pub token_in : Option (List ℕ) → Option (List ℕ) → Token
token_in pattern option.None = Bad
token_in pattern (option.Some token) = taken_if (not (length token == 0) && fits pattern token) token

-- the authorizer's header has it
abbrev pub token_for : Option TokenAuthorizer → Pairs → Token
token_for option.None headers = None
token_for (option.Some a) headers = token_in a.authorizer.pattern (header_value headers a.authorizer.header)

-- the token of a request for the method of this number
unfoldable pub token_of : Definition → ℕ → Request → Token
token_of d n request = token_for (authorizer_of d n) request.headers
