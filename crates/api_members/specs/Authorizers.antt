-- An authorizer: `header` and `uri`, and perhaps `pattern`, `ttl` and `timeout`.
use Rattle.std.specs.Prelude.{◌≡◌, ℕ, List, [], ◌∷◌, ◌++◌, codes, bytes_eq, if◌then◌else◌, Ok, Err, Option, Some, None}
use Rattle.std.specs.Option.{option_map}
use Rattle.json_subset.specs.Tree.{Tree}
use Rattle.pattern_core.specs.Search.{anchored}
use Rattle.api_parts.specs.Reading.{Text, Read, ◌>>=◌, each, here, needed, unknown, Waiting, first_of, waiting_below}
use Rattle.api_parts.specs.Places.{fault_below}
use Rattle.api_parts.specs.declared.fault.ApiCause.TheVariants.{BadMapping, BadUri}
use Rattle.api_parts.specs.declared.parts.TokenAuthorizer.{TokenAuthorizer}
use Rattle.gw_base.specs.Names.{is_name, is_token}
use Rattle.api_mappings.specs.Uris.{is_plain_uri}
use Rattle.api_reading.specs.Values.{number_in, object_in, text_in}
use Rattle.api_reading.specs.Texts.{pattern_in}
use Rattle.api_members.specs.declared.authorizers.AuthorizerRead.{AuthorizerRead}
use Rattle.api_members.specs.declared.authorizers.AuthorizersRead.{AuthorizersRead}

-- the name of a header is a token; else the mapping waits to be refused
abbrev pub header_waiting : Text → Text → Waiting
header_waiting name h = if is_token h then None else Some (fault_below name (here BadMapping))

abbrev pub plain_uri : Text → Read Text
plain_uri u = if is_plain_uri u then Ok u else Err (here BadUri)

abbrev pub with_header : AuthorizerRead → Text → Text → AuthorizerRead
with_header a x h = record a { header = Some h; waiting = first_of a.waiting (header_waiting x h) }

abbrev pub authorizer_member : AuthorizerRead → Text → Tree → Read AuthorizerRead
authorizer_member a x t =
    if bytes_eq x (codes "header") then (text_in x t >>= λ h. Ok (with_header a x h))
    else if bytes_eq x (codes "pattern") then (pattern_in x t >>= λ p. Ok (record a { pattern = Some p; whole = Some (anchored p) }))
    else if bytes_eq x (codes "uri") then (text_in x t >>= λ u. plain_uri u >>= λ u. Ok (record a { uri = Some u }))
    else if bytes_eq x (codes "ttl") then (number_in 0 3600 x t >>= λ n. Ok (record a { ttl = n }))
    else if bytes_eq x (codes "timeout") then (number_in 50 29000 x t >>= λ n. Ok (record a { timeout = n }))
    else unknown x

abbrev pub no_authorizer : AuthorizerRead
no_authorizer = record { header = None; pattern = None; whole = None; uri = None; ttl = 300; timeout = 29000; waiting = None }

abbrev pub authorizer_of : Text → AuthorizerRead → Read (TokenAuthorizer × Waiting)
authorizer_of name a =
    needed (codes "header") a.header >>= λ h. needed (codes "uri") a.uri >>= λ u.
    Ok (record { authorizer = record { name = name; header = h; pattern = a.pattern; uri = u; ttl = a.ttl; timeout = a.timeout }; whole = a.whole }, a.waiting)

abbrev pub authorizer_in : Text → Tree → Read (TokenAuthorizer × Waiting)
authorizer_in name t = object_in name t >>= λ ms. each authorizer_member no_authorizer ms >>= authorizer_of name

-- the authorizers, each with its name
abbrev pub with_authorizer : AuthorizersRead → Text → TokenAuthorizer × Waiting → AuthorizersRead
with_authorizer all x a = record { list = all.list ++ a.0 ∷ []; waiting = first_of all.waiting (waiting_below x a.1) }

abbrev pub authorizers_member : AuthorizersRead → Text → Tree → Read AuthorizersRead
authorizers_member all x t = if is_name x then (authorizer_in x t >>= λ a. Ok (with_authorizer all x a)) else unknown x

abbrev pub authorizers_in : Text → Tree → Read AuthorizersRead
authorizers_in name t = object_in name t >>= each authorizers_member record { list = []; waiting = None }

abbrev pub authorizer_name : TokenAuthorizer → Text
authorizer_name a = a.authorizer.name

-- the pattern of an authorizer is kept for whole tokens
abbrev pub IsCompiled : TokenAuthorizer → Type 0
IsCompiled a = a.whole ≡ option_map anchored a.authorizer.pattern
