-- A uri with neither stage variables nor placeholders leads somewhere.
use Rattle.std.proofs.Common.{◌≡◌, ℕ, Bool, true, false, not, ◌&&◌, ◌||◌, ◌==◌, List, [], ◌∷◌, ◌++◌, length, Option, Some, None, refl, ap, ◌∙◌}
use Rattle.std.specs.Prelude.{if◌then◌else◌}
use Rattle.std.specs.List.{list_all, list_any}
use Rattle.std.specs.Option.{option_and_then, option_map}
use Rattle.api_mappings.specs.Uris.{can_be_port, has_room, has_room_for, if_possible, is_closed, is_open, is_path_byte, is_path_piece, is_plain_uri, is_port, is_port_piece, literals, uri_of, uri_pieces}
use Rattle.api_mappings.proofs.Braces.{literal_digits}
use Rattle.api_parts.specs.Hosts.{host_text}
use Rattle.api_parts.specs.declared.uri.Host.{Host}
use Rattle.api_parts.specs.declared.uri.Piece.{Piece}
use Rattle.api_parts.specs.declared.uri.Piece.TheVariants.{Literal, Variable, Placeholder}
use Rattle.api_parts.specs.declared.uri.Uri.{Uri}
use Rattle.gw_base.specs.Names.{is_digit}
use Rattle.json_subset.specs.Numbers.{value_from}
use Rattle.wire_text.specs.Destinations.{destination_at, destination_by, destination_of, joined, pieces_text, port_number}
use Rattle.wire_text.specs.declared.places.Destination.{Destination}
use Rattle.authorizer_call.specs.Laws.{AlwaysAskedWherePlain}
use Rattle.authorizer_call.specs.Requests.{asked_at, authorizer_request_of, place_of, question_of}

both : (a b : Bool) → (a && b) ≡ true → (a ≡ true) × (b ≡ true)
both true b h = (refl, h)
both false b h = cc

and_both : (a b : Bool) → a ≡ true → b ≡ true → (a && b) ≡ true
and_both a b e f = ap (λ x. x && b) e ∙ f

is_not : (b : Bool) → not b ≡ true → b ≡ false
is_not true h = cc
is_not false h = refl

-- the text of literals alone
literal_text : (ps : List Piece) → list_any is_open ps ≡ false → pieces_text [] [] ps ≡ Some (literals ps)
literal_text [] h = refl
literal_text (Literal t ∷ ps) h = ap (λ o. joined (Some t) o) (literal_text ps h)
literal_text (Variable x ∷ ps) h = cc
literal_text (Placeholder x ∷ ps) h = cc

-- no stage variable has room where there is none
no_room : (count : ℕ) (all ps : List Piece) → list_any is_open ps ≡ false → list_any (has_room_for count all) ps ≡ false
no_room count all [] h = refl
no_room count all (Literal t ∷ ps) h = no_room count all ps h
no_room count all (Variable x ∷ ps) h = cc
no_room count all (Placeholder x ∷ ps) h = cc

left_of : (p z r : Bool) → r ≡ false → (p || (z && r)) ≡ true → p ≡ true
left_of true z r shut h = refl
left_of false true r shut h = cc
left_of false false r shut h = cc

-- the port

port_number_is : (ps : List Piece) → list_any is_open ps ≡ false → can_be_port ps ≡ true → port_number (literals ps) ≡ Some (value_from 0 (literals ps))
unfolding port_number can_be_port
port_number_is ps h e =
    let x = both (list_all is_port_piece ps) (is_port (literals ps) || ((value_from 0 (literals ps) == 0) && has_room ps)) e in
    let port = left_of (is_port (literals ps)) (value_from 0 (literals ps) == 0) (has_room ps) (no_room (length (literals ps)) ps ps h) x.1 in
    ap (λ b. if b then Some (value_from 0 (literals ps)) else None) (and_both (list_all is_digit (literals ps)) (is_port (literals ps)) (literal_digits ps x.0) port)

-- the path

bytes_join : (xs ys : List ℕ) → list_all is_path_byte xs ≡ true → list_all is_path_byte ys ≡ true → list_all is_path_byte (xs ++ ys) ≡ true
bytes_join [] ys h e = e
bytes_join (b ∷ xs) ys h e =
    let x = both (is_path_byte b) (list_all is_path_byte xs) h in
    and_both (is_path_byte b) (list_all is_path_byte (xs ++ ys)) x.0 (bytes_join xs ys x.1 e)

path_bytes : (ps : List Piece) → list_any is_open ps ≡ false → list_all is_path_piece ps ≡ true → list_all is_path_byte (literals ps) ≡ true
path_bytes [] h e = refl
path_bytes (Literal t ∷ ps) h e =
    let x = both (list_all is_path_byte t) (list_all is_path_piece ps) e in
    bytes_join t (literals ps) x.0 (path_bytes ps h x.1)
path_bytes (Variable x ∷ ps) h e = cc
path_bytes (Placeholder x ∷ ps) h e = cc

-- the destination of literals

abbrev aimed : Uri → Destination
aimed u = record { host = host_text u.host; port = value_from 0 (literals u.port); port_text = literals u.port; path = 47 ∷ literals u.path }

leads : (u : Uri) → can_be_port u.port ≡ true → list_all is_path_piece u.path ≡ true → list_any is_open u.port ≡ false → list_any is_open u.path ≡ false → destination_of u [] [] ≡ Some (aimed u)
unfolding destination_of
leads u port path closed plain =
    ap (λ o. destination_at u.host o (pieces_text [] [] u.path)) (literal_text u.port closed)
    ∙ ap (λ o. destination_at u.host (Some (literals u.port)) o) (literal_text u.path plain)
    ∙ ap (λ n. destination_by u.host (literals u.port) n (literals u.path)) (port_number_is u.port closed port)
    ∙ ap (λ b. if b then Some (aimed u) else None) (path_bytes u.path plain path)

abbrev led : Option Uri → Option Destination
led o = option_and_then (λ u. destination_of u [] []) o

plain_leads : (o : Option Uri) → is_closed (if_possible o) ≡ true → (to : Destination) × (led (if_possible o) ≡ Some to)
plain_leads None h = cc
plain_leads (Some u) h = by_test (can_be_port u.port && list_all is_path_piece u.path) refl h
  where
    by_test : (t : Bool) → (can_be_port u.port && list_all is_path_piece u.path) ≡ t → is_closed (if t then Some u else None) ≡ true → (to : Destination) × (led (if t then Some u else None) ≡ Some to)
    by_test true is h =
        let f = both (can_be_port u.port) (list_all is_path_piece u.path) is in
        let c = both (not (list_any is_open u.port)) (not (list_any is_open u.path)) h in
        (aimed u, leads u f.0 f.1 (is_not (list_any is_open u.port) c.0) (is_not (list_any is_open u.path) c.1))
    by_test false is h = cc

plain_is_led : (text : List ℕ) → is_plain_uri text ≡ true → (to : Destination) × (place_of text ≡ Some to)
unfolding place_of uri_of
plain_is_led text h = plain_leads (uri_pieces text) h

-- an open piece has no text

open_text : (ps : List Piece) → list_any is_open ps ≡ true → pieces_text [] [] ps ≡ None
open_text [] h = cc
open_text (Literal t ∷ ps) h = ap (λ o. joined (Some t) o) (open_text ps h)
open_text (Variable x ∷ ps) h = refl
open_text (Placeholder x ∷ ps) h = refl

at_none : (host : Host) (o : Option (List ℕ)) → destination_at host o None ≡ None
at_none host None = refl
at_none host (Some port) = refl

open_leads : (u : Uri) → (not (list_any is_open u.port) && not (list_any is_open u.path)) ≡ false → destination_of u [] [] ≡ None
unfolding destination_of
open_leads u h = by_tests (list_any is_open u.port) (list_any is_open u.path) refl refl h
  where
    by_tests : (p q : Bool) → list_any is_open u.port ≡ p → list_any is_open u.path ≡ q → (not p && not q) ≡ false → destination_at u.host (pieces_text [] [] u.port) (pieces_text [] [] u.path) ≡ None
    by_tests true q e f h = ap (λ o. destination_at u.host o (pieces_text [] [] u.path)) (open_text u.port e)
    by_tests false true e f h = ap (λ o. destination_at u.host (pieces_text [] [] u.port) o) (open_text u.path f) ∙ at_none u.host (pieces_text [] [] u.port)
    by_tests false false e f h = cc

other_leads : (o : Option Uri) → is_closed (if_possible o) ≡ false → led (if_possible o) ≡ None
other_leads None h = refl
other_leads (Some u) h = by_test (can_be_port u.port && list_all is_path_piece u.path) h
  where
    by_test : (t : Bool) → is_closed (if t then Some u else None) ≡ false → led (if t then Some u else None) ≡ None
    by_test true h = open_leads u h
    by_test false h = refl

other_is_not : (text : List ℕ) → is_plain_uri text ≡ false → place_of text ≡ None
unfolding place_of uri_of
other_is_not text h = other_leads (uri_pieces text) h

pub asked_where_plain : AlwaysAskedWherePlain
unfolding authorizer_request_of
asked_where_plain a token arn = record {
  plain = λ h. let to = plain_is_led a.uri h in (to.0, ap (option_map (asked_at a.timeout (question_of token arn))) to.1);
  other = λ h. ap (option_map (asked_at a.timeout (question_of token arn))) (other_is_not a.uri h);
}
