-- A `uri` as it is written, with values in the place of its stage variables and placeholders.
use Rattle.std.specs.Prelude.{◌≡◌, ◌↔◌, ℕ, true, Bool, ◌&&◌, List, [], ◌∷◌, ◌++◌, Option, Some, None}
use Rattle.std.specs.List.{list_all}
use Rattle.api_parts.specs.declared.uri.Uri.{Uri}
use Rattle.api_parts.specs.declared.uri.Piece.{Piece}
use Rattle.api_parts.specs.declared.uri.Piece.TheVariants.{Literal, Variable, Placeholder}
use Rattle.gw_base.specs.Names.{is_digit}
use Rattle.api_mappings.specs.Uris.{is_path_byte, is_port, uri_of, uri_pieces}

-- the value of a name, as it is written; some have none
abbrev pub Values : Type 0
Values = List ℕ → Option (List ℕ)

abbrev pub none_given : Values
none_given name = None

abbrev pub piece_text : Values → Values → Piece → Option (List ℕ)
piece_text variables placeholders (Literal text) = Some text
piece_text variables placeholders (Variable name) = variables name
piece_text variables placeholders (Placeholder name) = placeholders name

abbrev pub joined : Option (List ℕ) → Option (List ℕ) → Option (List ℕ)
joined None rest = None
joined (Some text) None = None
joined (Some text) (Some rest) = Some (text ++ rest)

-- the text of some pieces; none where a piece has no value
abbrev pub path_text : Values → Values → List Piece → Option (List ℕ)
path_text variables placeholders [] = Some []
path_text variables placeholders (p ∷ ps) = joined (piece_text variables placeholders p) (path_text variables placeholders ps)

-- PORT is 1 to 5 digits of a number from 1 to 65,535
abbrev pub is_port_text : List ℕ → Bool
is_port_text text = list_all is_digit text && is_port text

-- PATH
abbrev pub is_path_text : List ℕ → Bool
is_path_text text = list_all is_path_byte text

-- Some values give the form of a `uri`: in PORT no placeholder has one.
pub record GivesForm (u : Uri) : Type 0 where
  pub variables : Values
  pub placeholders : Values
  pub port : List ℕ
  pub path : List ℕ
  pub port_text : path_text variables none_given u.port ≡ Some port
  pub path_text_is : path_text variables placeholders u.path ≡ Some path
  pub is_port : is_port_text port ≡ true
  pub is_path : is_path_text path ≡ true

-- a text is read as the pieces that it has, where some values give them the form
abbrev pub HasValues : Type 0
HasValues = (text : List ℕ) (u : Uri) → (uri_of text ≡ Some u) ↔ ((uri_pieces text ≡ Some u) × GivesForm u)

-- and it is refused where no values do
abbrev pub HasNoValues : Type 0
HasNoValues = (text : List ℕ) → (uri_of text ≡ None) ↔ ((u : Uri) → uri_pieces text ≡ Some u → GivesForm u → ⊥)
