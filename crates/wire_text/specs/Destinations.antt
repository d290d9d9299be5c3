-- Where a request to a backend goes: the `uri` of an integration, `http://HOST:PORT/PATH`, with its values put in.
use Rattle.std.specs.Prelude.{ℕ, Bool, true, false, ◌&&◌, List, [], ◌∷◌, ◌++◌, Option, Some, None, if◌then◌else◌}
use Rattle.std.specs.List.{list_all}
use Rattle.std.specs.Str.{bytes_eq}
use Rattle.api_mappings.specs.Uris.{is_path_byte, is_port}
use Rattle.api_parts.specs.Hosts.{host_text}
use Rattle.api_parts.specs.declared.uri.Host.{Host}
use Rattle.api_parts.specs.declared.uri.Piece.{Piece}
use Rattle.api_parts.specs.declared.uri.Piece.TheVariants.{Literal, Variable, Placeholder}
use Rattle.api_parts.specs.declared.uri.Uri.{Uri}
use Rattle.call_facts.specs.Pairs.{Pairs, first_value}
use Rattle.gw_base.specs.Names.{is_digit}
use Rattle.json_subset.specs.Numbers.{value_from}
use Rattle.percent_encoding.specs.Percent.{percent_encode}
use Rattle.wire_text.specs.declared.coding.TheConstants.{RESERVED, RESERVED_BUT_SLASH}
use Rattle.wire_text.specs.declared.places.Destination.{Destination}
use Rattle.wire_text.specs.declared.places.PathValue.{PathValue}

-- every byte but the unreserved ones is percent-coded (RFC 3986, sections 2.1 and 2.3); the `/` of a greedy value stays
abbrev pub coded : Bool → List ℕ → List ℕ
coded true value = percent_encode RESERVED_BUT_SLASH value
coded false value = percent_encode RESERVED value

-- what stands for a placeholder: the first value of its name, coded
abbrev pub placed : List PathValue → List ℕ → Option (List ℕ)
placed [] name = None
placed (v ∷ vs) name = if bytes_eq v.name name then Some (coded v.greedy v.value) else placed vs name

-- a literal stands for itself, and the value of a stage variable is put in as it is
abbrev pub piece_text : Pairs → List PathValue → Piece → Option (List ℕ)
piece_text variables values (Literal text) = Some text
piece_text variables values (Variable name) = first_value variables name
piece_text variables values (Placeholder name) = placed values name

abbrev pub joined : Option (List ℕ) → Option (List ℕ) → Option (List ℕ)
joined None more = None
joined (Some text) None = None
joined (Some text) (Some more) = Some (text ++ more)

-- the text of pieces, where each has a value
abbrev pub pieces_text : Pairs → List PathValue → List Piece → Option (List ℕ)
pieces_text variables values [] = Some []
pieces_text variables values (p ∷ ps) = joined (piece_text variables values p) (pieces_text variables values ps)

-- the number of a port: 1 to 5 digits, of a number from 1 to 65,535
unfoldable pub port_number : List ℕ → Option ℕ
port_number text = if list_all is_digit text && is_port text then Some (value_from 0 text) else None

abbrev pub destination_by : Host → List ℕ → Option ℕ → List ℕ → Option Destination
destination_by host port None path = None
destination_by host port (Some number) path =
    if list_all is_path_byte path then Some (record { host = host_text host; port = number; port_text = port; path = 47 ∷ path }) else None

abbrev pub destination_at : Host → Option (List ℕ) → Option (List ℕ) → Option Destination
destination_at host None path = None
destination_at host (Some port) None = None
destination_at host (Some port) (Some path) = destination_by host port (port_number port) path

-- where a request goes; nowhere, where a piece has no value, or where the text is then no `http://HOST:PORT/PATH`
unfoldable pub destination_of : Uri → Pairs → List PathValue → Option Destination
destination_of uri variables values = destination_at uri.host (pieces_text variables values uri.port) (pieces_text variables values uri.path)
