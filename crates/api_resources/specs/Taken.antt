-- What a method takes from the path of its resource, and where it goes.
use Rattle.std.specs.Prelude.{◌≡◌, ℕ, true, List, Option, Some, None, IsSome}
use Rattle.std.specs.List.{All}
use Rattle.api_parts.specs.Reading.{Text}
use Rattle.api_parts.specs.declared.parts.Integration.{Integration}
use Rattle.api_parts.specs.declared.parts.IntegrationKind.{IntegrationKind}
use Rattle.api_parts.specs.declared.parts.IntegrationKind.TheVariants.{Mock, Http, HttpProxy}
use Rattle.api_parts.specs.declared.parts.Mapping.{Mapping}
use Rattle.api_parts.specs.declared.parts.Method.{Method}
use Rattle.api_parts.specs.declared.parts.Origin.{Origin}
use Rattle.api_parts.specs.declared.parts.Origin.TheVariants as origin
use Rattle.api_parts.specs.declared.parts.Parameter.{Parameter}
use Rattle.api_parts.specs.declared.parts.ParameterPlace.TheVariants.{Path}
use Rattle.api_parts.specs.declared.uri.Uri.{Uri}
use Rattle.api_mappings.specs.Mappings.{has_parameter}
use Rattle.api_mappings.specs.Uris.{uri_of}

-- a parameter of the path is one that the path has
abbrev pub IsOfPath : Text → Parameter → Type 0
IsOfPath path p = p.place ≡ Path → has_parameter path p.name ≡ true

-- and so is one that is mapped
abbrev pub ComesFromPath : Text → Mapping → Type 0
ComesFromPath path m = (name : Text) → m.origin ≡ origin.Parameter Path name → has_parameter path name ≡ true

pub record KeepsToPath (path : Text) (m : Method) : Type 0 where
  pub parameters : All (IsOfPath path) m.parameters
  pub mappings : All (ComesFromPath path) m.integration.parameters

-- MOCK has no backend; of another kind, the pieces are those of its `uri`, which has some
abbrev pub HasBackend : IntegrationKind → Text → Option Uri → Type 0
HasBackend Mock uri backend = backend ≡ None
HasBackend Http uri backend = (backend ≡ uri_of uri) × IsSome backend
HasBackend HttpProxy uri backend = (backend ≡ uri_of uri) × IsSome backend

abbrev pub ReadsUri : Integration → Type 0
ReadsUri i = HasBackend i.kind i.uri i.backend
