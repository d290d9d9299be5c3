-- The `uri` of an integration and of an authorizer: `http://HOST:PORT/PATH`.
use Rattle.std.specs.Prelude.{ℕ, ◌+◌, ◌==◌, nat_le, Bool, true, false, not, ◌&&◌, ◌||◌, List, [], ◌∷◌, ◌++◌, length, codes, Option, Some, None, if◌then◌else◌}
use Rattle.std.specs.List.{list_all, list_any}
use Rattle.std.specs.Option.{option_map}
use Rattle.std.specs.Str.{bytes_eq}
use Rattle.json_subset.specs.Numbers.{value_from}
use Rattle.resource_tree.specs.Reading.{before_last}
use Rattle.vtl_texts.specs.Places.{behind, cut}
use Rattle.gw_base.specs.Names.{is_digit, is_name}
use Rattle.api_mappings.specs.Names.{is_path_name}
use Rattle.api_parts.specs.declared.uri.Host.{Host}
use Rattle.api_parts.specs.declared.uri.Host.TheVariants.{Loopback, Localhost}
use Rattle.api_parts.specs.declared.uri.Uri.{Uri}
use Rattle.api_parts.specs.declared.uri.Piece.{Piece}
use Rattle.api_parts.specs.declared.uri.Piece.TheVariants.{Literal, Variable, Placeholder}

-- what braces stand for, by what stands before a `$` in front of them, and behind `stageVariables.` in them
abbrev pub braced_by : List ℕ → List ℕ → Option (List ℕ) → Option (List ℕ) → Option (List Piece)
braced_by front inside (Some before) (Some name) = if is_name name then Some (Literal before ∷ Variable name ∷ []) else None
braced_by front inside None o = if is_path_name inside then Some (Literal front ∷ Placeholder inside ∷ []) else None
braced_by front inside (Some before) None = if is_path_name inside then Some (Literal front ∷ Placeholder inside ∷ []) else None

-- `${stageVariables.N}` is a stage variable, and another `{name}` a placeholder, whatever stands before it
unfoldable pub braced : List ℕ → List ℕ → Option (List Piece)
braced front inside = braced_by front inside (before_last 36 front) (behind (codes "stageVariables.") inside)

abbrev pub then_pieces : Option (List Piece) → Option (List Piece) → Option (List Piece)
then_pieces None more = None
then_pieces (Some ps) more = option_map (λ qs. ps ++ qs) more

abbrev mutual
  -- the pieces of a text, behind bytes that stand in no braces
  pub outside : List ℕ → List ℕ → Option (List Piece)
  outside front [] = Some (Literal front ∷ [])
  outside front (b ∷ bs) = if b == 123 then inside front [] bs else outside (front ++ b ∷ []) bs

  -- the same behind a brace and bytes in it
  pub inside : List ℕ → List ℕ → List ℕ → Option (List Piece)
  inside front name [] = None
  inside front name (b ∷ bs) = if b == 125 then then_pieces (braced front name) (outside [] bs) else inside front (name ++ b ∷ []) bs

-- the literals, stage variables and placeholders of a text; none where braces are not closed, or hold no name
unfoldable pub pieces_of : List ℕ → Option (List Piece)
pieces_of text = outside [] text

-- PORT

abbrev pub is_port_piece : Piece → Bool
is_port_piece (Literal text) = list_all is_digit text
is_port_piece (Variable name) = true
is_port_piece (Placeholder name) = false

abbrev pub literal_of : Piece → List ℕ
literal_of (Literal text) = text
literal_of (Variable name) = []
literal_of (Placeholder name) = []

-- what stands in the literals
abbrev pub literals : List Piece → List ℕ
literals [] = []
literals (p ∷ ps) = literal_of p ++ literals ps

-- the digits of a port: 1 to 5 of a number from 1 to 65,535
unfoldable pub is_port : List ℕ → Bool
is_port digits = nat_le (length digits) 5 && nat_le 1 (value_from 0 digits) && nat_le (value_from 0 digits) 65535

abbrev pub is_variable : List ℕ → Piece → Bool
is_variable name (Literal text) = false
is_variable name (Variable other) = bytes_eq other name
is_variable name (Placeholder other) = false

-- how often the stage variable stands in the pieces
abbrev pub times : List ℕ → List Piece → ℕ
times name [] = 0
times name (p ∷ ps) = if is_variable name p then 1 + times name ps else times name ps

-- a digit has room among so many others wherever this stage variable stands
abbrev pub has_room_for : ℕ → List Piece → Piece → Bool
has_room_for count all (Literal text) = false
has_room_for count all (Variable name) = nat_le (count + times name all) 5
has_room_for count all (Placeholder name) = false

abbrev pub has_room : List Piece → Bool
has_room pieces = list_any (has_room_for (length (literals pieces)) pieces) pieces

-- Some digits in the place of stage variables make a port: none do, or the literals are zeros and leave room for a digit.
unfoldable pub can_be_port : List Piece → Bool
can_be_port pieces = list_all is_port_piece pieces && (is_port (literals pieces) || ((value_from 0 (literals pieces) == 0) && has_room pieces))

-- PATH

-- a byte of a path: 33 to 126, but for `?`, `#`, `{` and `}`
abbrev pub is_path_byte : ℕ → Bool
is_path_byte b = nat_le 33 b && nat_le b 126 && not (b == 63 || b == 35 || b == 123 || b == 125)

abbrev pub is_path_piece : Piece → Bool
is_path_piece (Literal text) = list_all is_path_byte text
is_path_piece (Variable name) = true
is_path_piece (Placeholder name) = true

-- a stage variable or a placeholder
abbrev pub is_open : Piece → Bool
is_open (Literal text) = false
is_open (Variable name) = true
is_open (Placeholder name) = true

-- HOST, and what stands behind `http://HOST:`
abbrev pub behind_either : Option (List ℕ) → Option (List ℕ) → Option (Host × List ℕ)
behind_either (Some rest) other = Some (Loopback, rest)
behind_either None (Some rest) = Some (Localhost, rest)
behind_either None None = None

unfoldable pub behind_host : List ℕ → Option (Host × List ℕ)
behind_host text = behind_either (behind (codes "http://127.0.0.1:") text) (behind (codes "http://localhost:") text)

-- the pieces of PORT and those of PATH
abbrev pub both_pieces : Host → Option (List Piece) → Option (List Piece) → Option Uri
both_pieces host (Some port) (Some path) = Some (record { host = host; port = port; path = path })
both_pieces host (Some port) None = None
both_pieces host None o = None

abbrev pub pieces_in : Host → Option (List ℕ × List ℕ) → Option Uri
pieces_in host None = None
pieces_in host (Some c) = both_pieces host (pieces_of c.0) (pieces_of c.1)

-- PORT and PATH are parted at the first `/` behind the host
abbrev pub pieces_behind : Option (Host × List ℕ) → Option Uri
pieces_behind None = None
pieces_behind (Some h) = pieces_in h.0 (cut h.1 (codes "/"))

-- the pieces of a `uri`, whatever values stand for its stage variables and placeholders
unfoldable pub uri_pieces : List ℕ → Option Uri
uri_pieces text = pieces_behind (behind_host text)

abbrev pub if_possible : Option Uri → Option Uri
if_possible None = None
if_possible (Some u) = if can_be_port u.port && list_all is_path_piece u.path then Some u else None

-- the pieces of a `uri`; none where no values make it one of a backend
unfoldable pub uri_of : List ℕ → Option Uri
uri_of text = if_possible (uri_pieces text)

abbrev pub is_closed : Option Uri → Bool
is_closed None = false
is_closed (Some u) = not (list_any is_open u.port) && not (list_any is_open u.path)

-- a `uri` without stage variables and placeholders
abbrev pub is_plain_uri : List ℕ → Bool
is_plain_uri text = is_closed (uri_of text)
