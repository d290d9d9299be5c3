-- The values of a `uri`.
use Rattle.std.proofs.Common.{◌≡◌, ◌≢◌, ◌<◌, ◌≤◌, ◌⊎◌, inl, inr, ℕ, zero, suc, ◌+◌, ◌-◌, ◌*◌, List, [], ◌∷◌, ◌++◌, length, Option, Some, None, refl, sym, ap, ◌∙◌, subst, true, false, Bool, length-append, append-nil, arith, nat_le, eqb, if◌then◌else◌}
use Rattle.std.specs.Prelude.{◌&&◌, ◌||◌, ◌==◌, codes, ◌↔◌}
use Rattle.std.specs.List.{list_all, list_any}
use Rattle.std.specs.Str.{bytes_eq}
use Rattle.std.proofs.lemmas.Bool.{eqb-true}
use Rattle.std.proofs.lemmas.Bool.Decides.{nat_tests}
use Rattle.std.proofs.lemmas.Slice.Eq.{bytes_eq-Decides}
use Rattle.api_parts.specs.declared.uri.Uri.{Uri}
use Rattle.api_parts.specs.declared.uri.Piece.{Piece}
use Rattle.api_parts.specs.declared.uri.Piece.TheVariants.{Literal, Variable, Placeholder}
use Rattle.json_subset.specs.Numbers.{value_from}
use Rattle.gw_base.specs.Names.{is_digit}
use Rattle.api_mappings.specs.Uris.{can_be_port, has_room, has_room_for, if_possible, is_path_byte, is_path_piece, is_port, is_port_piece, is_variable, literal_of, literals, times, uri_of, uri_pieces}
use Rattle.api_mappings.specs.Written.{GivesForm, HasNoValues, HasValues, Values, is_path_text, is_port_text, joined, none_given, path_text, piece_text}

both : (a b : Bool) → (a && b) ≡ true → (a ≡ true) × (b ≡ true)
both true b h = (refl, h)
both false b h = cc

and_both : (a b : Bool) → a ≡ true → b ≡ true → (a && b) ≡ true
and_both true b h k = k
and_both false b h k = cc

either : (a b : Bool) → (a || b) ≡ true → (a ≡ true) ⊎ (b ≡ true)
either true b h = inl refl
either false b h = inr h

or_left : (a b : Bool) → a ≡ true → (a || b) ≡ true
or_left true b h = refl
or_left false b h = cc

or_right : (a b : Bool) → b ≡ true → (a || b) ≡ true
or_right true b h = refl
or_right false b h = h

-- numbers that digits spell

value_grows : (m : ℕ) (ds : List ℕ) → m ≤ value_from m ds
value_grows m [] = omega arith
value_grows m (d ∷ ds) = omega (arith, value_grows (m * 10 + (d - 48)) ds)

value_order : (m n : ℕ) (ds : List ℕ) → m ≤ n → value_from m ds ≤ value_from n ds
value_order m n [] h = h
value_order m n (d ∷ ds) h = value_order (m * 10 + (d - 48)) (n * 10 + (d - 48)) ds (omega (arith, h))

value_join : (m : ℕ) (xs ys : List ℕ) → value_from m (xs ++ ys) ≡ value_from (value_from m xs) ys
value_join m [] ys = refl
value_join m (x ∷ xs) ys = value_join (m * 10 + (x - 48)) xs ys

-- zeros and ones
abbrev IsSmall : List ℕ → Type 0
IsSmall [] = Unit {0}
IsSmall (b ∷ bs) = ((48 ≤ b) × (b ≤ 49)) × IsSmall bs

small_join : (xs ys : List ℕ) → IsSmall xs → IsSmall ys → IsSmall (xs ++ ys)
small_join [] ys h k = k
small_join (x ∷ xs) ys h k = (h.0, small_join xs ys h.1 k)

-- five of them are at most 11,111
small_bound : (bs : List ℕ) → IsSmall bs → length bs ≤ 5 → value_from 0 bs ≤ 65535
small_bound [] h short = omega arith
small_bound (a ∷ []) h short = omega (arith, h.0.1)
small_bound (a ∷ b ∷ []) h short = omega (arith, h.0.1, h.1.0.1)
small_bound (a ∷ b ∷ c ∷ []) h short = omega (arith, h.0.1, h.1.0.1, h.1.1.0.1)
small_bound (a ∷ b ∷ c ∷ d ∷ []) h short = omega (arith, h.0.1, h.1.0.1, h.1.1.0.1, h.1.1.1.0.1)
small_bound (a ∷ b ∷ c ∷ d ∷ e ∷ []) h short = omega (arith, h.0.1, h.1.0.1, h.1.1.0.1, h.1.1.1.0.1, h.1.1.1.1.0.1)
small_bound (a ∷ b ∷ c ∷ d ∷ e ∷ f ∷ bs) h short = absurd (omega (arith, short))

digit_of : (b : ℕ) → 48 ≤ b → b ≤ 57 → is_digit b ≡ true
digit_of b low high = grind (arith, nat_tests)

digit_low : (b : ℕ) → is_digit b ≡ true → 48 ≤ b
digit_low b h = grind (arith, nat_tests)

small_digits : (bs : List ℕ) → IsSmall bs → list_all is_digit bs ≡ true
small_digits [] h = refl
small_digits (b ∷ bs) h = and_both (is_digit b) (list_all is_digit bs) (digit_of b h.0.0 (omega (arith, h.0.1))) (small_digits bs h.1)

-- digits of nothing are zeros
zeros_small : (m : ℕ) (bs : List ℕ) → list_all is_digit bs ≡ true → value_from m bs ≡ 0 → IsSmall bs
zeros_small m [] digits none = tt
zeros_small m (b ∷ bs) digits none =
    let d = both (is_digit b) (list_all is_digit bs) digits in
    let small : m * 10 + (b - 48) ≤ 0 = omega (arith, value_grows (m * 10 + (b - 48)) bs, none) in
    ((digit_low b d.0, omega (arith, small)), zeros_small (m * 10 + (b - 48)) bs d.1 none)

-- pieces whose stage variables have values, and whose placeholders have none or a text

abbrev Texts : Type 0
Texts = List ℕ → List ℕ

abbrev some : Texts → Values
some f name = Some (f name)

abbrev port_filled : Texts → List Piece → List ℕ
port_filled f [] = []
port_filled f (Literal text ∷ ps) = text ++ port_filled f ps
port_filled f (Variable name ∷ ps) = f name ++ port_filled f ps
port_filled f (Placeholder name ∷ ps) = port_filled f ps

port_text : (f : Texts) (ps : List Piece) → list_all is_port_piece ps ≡ true → path_text (some f) none_given ps ≡ Some (port_filled f ps)
port_text f [] h = refl
port_text f (Literal text ∷ ps) h = ap (joined (Some text)) (port_text f ps (both true (list_all is_port_piece ps) (both (list_all is_digit text) (list_all is_port_piece ps) h).1).1)
port_text f (Variable name ∷ ps) h = ap (joined (Some (f name))) (port_text f ps h)
port_text f (Placeholder name ∷ ps) h = cc

abbrev path_filled : Texts → List Piece → List ℕ
path_filled f [] = []
path_filled f (Literal text ∷ ps) = text ++ path_filled f ps
path_filled f (Variable name ∷ ps) = f name ++ path_filled f ps
path_filled f (Placeholder name ∷ ps) = path_filled f ps

abbrev nothing : Texts
nothing name = []

all_join : (p : ℕ → Bool) (xs ys : List ℕ) → list_all p xs ≡ true → list_all p ys ≡ true → list_all p (xs ++ ys) ≡ true
all_join p [] ys h k = k
all_join p (x ∷ xs) ys h k =
    let e = both (p x) (list_all p xs) h in
    and_both (p x) (list_all p (xs ++ ys)) e.0 (all_join p xs ys e.1 k)

all_parts : (p : ℕ → Bool) (xs ys : List ℕ) → list_all p (xs ++ ys) ≡ true → (list_all p xs ≡ true) × (list_all p ys ≡ true)
all_parts p [] ys h = (refl, h)
all_parts p (x ∷ xs) ys h =
    let e = both (p x) (list_all p (xs ++ ys)) h in
    let more = all_parts p xs ys e.1 in
    (and_both (p x) (list_all p xs) e.0 more.0, more.1)

path_text_is : (f : Texts) (ps : List Piece) → path_text (some f) (some nothing) ps ≡ Some (path_filled f ps)
path_text_is f [] = refl
path_text_is f (Literal text ∷ ps) = ap (joined (Some text)) (path_text_is f ps)
path_text_is f (Variable name ∷ ps) = ap (joined (Some (f name))) (path_text_is f ps)
path_text_is f (Placeholder name ∷ ps) = ap (joined (Some [])) (path_text_is f ps)

path_bytes : (f : Texts) (ps : List Piece) → ((name : List ℕ) → list_all is_path_byte (f name) ≡ true) → list_all is_path_piece ps ≡ true → list_all is_path_byte (path_filled f ps) ≡ true
path_bytes f [] good h = refl
path_bytes f (Literal text ∷ ps) good h =
    let e = both (list_all is_path_byte text) (list_all is_path_piece ps) h in
    all_join is_path_byte text (path_filled f ps) e.0 (path_bytes f ps good e.1)
path_bytes f (Variable name ∷ ps) good h = all_join is_path_byte (f name) (path_filled f ps) (good name) (path_bytes f ps good h)
path_bytes f (Placeholder name ∷ ps) good h = path_bytes f ps good h

-- with no value the literals are left

literals_left : (ps : List Piece) → port_filled nothing ps ≡ literals ps
literals_left [] = refl
literals_left (Literal text ∷ ps) = ap (λ rest. text ++ rest) (literals_left ps)
literals_left (Variable name ∷ ps) = literals_left ps
literals_left (Placeholder name ∷ ps) = literals_left ps

literal_digits : (ps : List Piece) → list_all is_port_piece ps ≡ true → list_all is_digit (literals ps) ≡ true
literal_digits [] h = refl
literal_digits (Literal text ∷ ps) h =
    let e = both (list_all is_digit text) (list_all is_port_piece ps) h in
    all_join is_digit text (literals ps) e.0 (literal_digits ps e.1)
literal_digits (Variable name ∷ ps) h = literal_digits ps h
literal_digits (Placeholder name ∷ ps) h = cc

-- a digit in the place of one stage variable

abbrev one : List ℕ → Texts
one name other = if bytes_eq other name then 49 ∷ [] else []

one_bytes : (name other : List ℕ) → list_all is_path_byte (one name other) ≡ true
one_bytes name other = by_test (bytes_eq other name)
  where
    by_test : (b : Bool) → list_all is_path_byte (if b then 49 ∷ [] else []) ≡ true
    by_test true = refl
    by_test false = refl

one_small : (name other : List ℕ) → IsSmall (one name other)
one_small name other = by_test (bytes_eq other name)
  where
    by_test : (b : Bool) → IsSmall (if b then 49 ∷ [] else [])
    by_test true = ((omega arith, omega arith), tt)
    by_test false = tt

one_length : (name : List ℕ) (ps : List Piece) → length (port_filled (one name) ps) ≡ length (literals ps) + times name ps
one_length name [] = refl
one_length name (Literal text ∷ ps) = omega (arith, length-append text (port_filled (one name) ps), length-append text (literals ps), one_length name ps)
one_length name (Variable other ∷ ps) = by_test (bytes_eq other name) (one_length name ps)
  where
    by_test : (b : Bool) → length (port_filled (one name) ps) ≡ length (literals ps) + times name ps → length ((if b then 49 ∷ [] else []) ++ port_filled (one name) ps) ≡ length (literals ps) + (if b then 1 + times name ps else times name ps)
    by_test true e = omega (arith, e)
    by_test false e = e
one_length name (Placeholder other ∷ ps) = one_length name ps

small_parts : (xs ys : List ℕ) → IsSmall (xs ++ ys) → IsSmall xs × IsSmall ys
small_parts [] ys h = (tt, h)
small_parts (x ∷ xs) ys h = let more = small_parts xs ys h.1 in ((h.0, more.0), more.1)

small_filled : (name : List ℕ) (ps : List Piece) → IsSmall (literals ps) → IsSmall (port_filled (one name) ps)
small_filled name [] h = tt
small_filled name (Literal text ∷ ps) h = let e = small_parts text (literals ps) h in small_join text (port_filled (one name) ps) e.0 (small_filled name ps e.1)
small_filled name (Variable other ∷ ps) h = small_join (one name other) (port_filled (one name) ps) (one_small name other) (small_filled name ps h)
small_filled name (Placeholder other ∷ ps) h = small_filled name ps h

same_bytes : (xs : List ℕ) → bytes_eq xs xs ≡ true
same_bytes xs = (bytes_eq-Decides xs xs).1 refl

-- some stage variable of the pieces has room
pub record RoomFor (count : ℕ) (all : List Piece) (ps : List Piece) : Type 0 where
  pub name : List ℕ
  pub stands : list_any (is_variable name) ps ≡ true
  pub room : nat_le (count + times name all) 5 ≡ true

room_of : (count : ℕ) (all ps : List Piece) → list_any (has_room_for count all) ps ≡ true → RoomFor count all ps
room_of count all [] h = cc
room_of count all (Literal text ∷ ps) h = let r = room_of count all ps h in record { name = r.name; stands = r.stands; room = r.room }
room_of count all (Placeholder other ∷ ps) h = let r = room_of count all ps h in record { name = r.name; stands = r.stands; room = r.room }
room_of count all (Variable other ∷ ps) h = by_case (either (nat_le (count + times other all) 5) (list_any (has_room_for count all) ps) h) (room_of count all ps)
  where
    by_case : (nat_le (count + times other all) 5 ≡ true) ⊎ (list_any (has_room_for count all) ps ≡ true) → (list_any (has_room_for count all) ps ≡ true → RoomFor count all ps) → RoomFor count all (Variable other ∷ ps)
    by_case (inl here) behind = record { name = other; stands = or_left (bytes_eq other other) (list_any (is_variable other) ps) (same_bytes other); room = here }
    by_case (inr more) behind = let r = behind more in record { name = r.name; stands = or_right (bytes_eq other r.name) (list_any (is_variable r.name) ps) r.stands; room = r.room }

room_is : (count : ℕ) (all ps : List Piece) (name : List ℕ) → list_any (is_variable name) ps ≡ true → nat_le (count + times name all) 5 ≡ true → list_any (has_room_for count all) ps ≡ true
room_is count all [] name h room = cc
room_is count all (Literal text ∷ ps) name h room = room_is count all ps name h room
room_is count all (Placeholder other ∷ ps) name h room = room_is count all ps name h room
room_is count all (Variable other ∷ ps) name h room = by_case (either (bytes_eq other name) (list_any (is_variable name) ps) h) (λ more. room_is count all ps name more room)
  where
    by_case : (bytes_eq other name ≡ true) ⊎ (list_any (is_variable name) ps ≡ true) → (list_any (is_variable name) ps ≡ true → list_any (has_room_for count all) ps ≡ true) → (nat_le (count + times other all) 5 || list_any (has_room_for count all) ps) ≡ true
    by_case (inl same) behind = or_left (nat_le (count + times other all) 5) (list_any (has_room_for count all) ps) (subst (λ x. nat_le (count + times x all) 5 ≡ true) (sym ((bytes_eq-Decides other name).0 same)) room)
    by_case (inr more) behind = or_right (nat_le (count + times other all) 5) (list_any (has_room_for count all) ps) (behind more)

-- the number is not 0
not_zero : (m : ℕ) (name : List ℕ) (ps : List Piece) → list_any (is_variable name) ps ≡ true → 1 ≤ value_from m (port_filled (one name) ps)
not_zero m name [] h = cc
not_zero m name (Literal text ∷ ps) h = subst (λ n. 1 ≤ n) (sym (value_join m text (port_filled (one name) ps))) (not_zero (value_from m text) name ps h)
not_zero m name (Placeholder other ∷ ps) h = not_zero m name ps h
not_zero m name (Variable other ∷ ps) h = by_test (bytes_eq other name) h (not_zero m name ps)
  where
    by_test : (b : Bool) → (b || list_any (is_variable name) ps) ≡ true → (list_any (is_variable name) ps ≡ true → 1 ≤ value_from m (port_filled (one name) ps)) → 1 ≤ value_from m ((if b then 49 ∷ [] else []) ++ port_filled (one name) ps)
    by_test true h more = omega (arith, value_grows (m * 10 + 1) (port_filled (one name) ps))
    by_test false h more = more h

-- values that make a port of the pieces

pub record GivesPort (ps : List Piece) : Type 0 where
  pub texts : Texts
  pub good : (name : List ℕ) → list_all is_path_byte (texts name) ≡ true
  pub digits : list_all is_digit (port_filled texts ps) ≡ true
  pub is_port : is_port (port_filled texts ps) ≡ true

le_test : (a b : ℕ) → a ≤ b → nat_le a b ≡ true
le_test a b h = grind (arith, nat_tests)

le_of : (a b : ℕ) → nat_le a b ≡ true → a ≤ b
le_of a b h = grind (arith, nat_tests)

is_port_by : (bs : List ℕ) → length bs ≤ 5 → 1 ≤ value_from 0 bs → value_from 0 bs ≤ 65535 → is_port bs ≡ true
unfolding is_port
is_port_by bs short some most = and_both (nat_le (length bs) 5 && nat_le 1 (value_from 0 bs)) (nat_le (value_from 0 bs) 65535)
    (and_both (nat_le (length bs) 5) (nat_le 1 (value_from 0 bs)) (le_test (length bs) 5 short) (le_test 1 (value_from 0 bs) some)) (le_test (value_from 0 bs) 65535 most)

port_is : (bs : List ℕ) → is_port bs ≡ true → (length bs ≤ 5) × (1 ≤ value_from 0 bs) × (value_from 0 bs ≤ 65535)
unfolding is_port
port_is bs h =
    let outer = both (nat_le (length bs) 5 && nat_le 1 (value_from 0 bs)) (nat_le (value_from 0 bs) 65535) h in
    let inner = both (nat_le (length bs) 5) (nat_le 1 (value_from 0 bs)) outer.0 in
    (le_of (length bs) 5 inner.0, le_of 1 (value_from 0 bs) inner.1, le_of (value_from 0 bs) 65535 outer.1)

by_literals : (ps : List Piece) → list_all is_port_piece ps ≡ true → is_port (literals ps) ≡ true → GivesPort ps
by_literals ps pieces h = record {
  texts = nothing;
  good = λ name. refl;
  digits = subst (λ bs. list_all is_digit bs ≡ true) (sym (literals_left ps)) (literal_digits ps pieces);
  is_port = subst (λ bs. is_port bs ≡ true) (sym (literals_left ps)) h;
}

by_room : (ps : List Piece) → list_all is_port_piece ps ≡ true → value_from 0 (literals ps) ≡ 0 → RoomFor (length (literals ps)) ps ps → GivesPort ps
by_room ps pieces none r =
    let small : IsSmall (port_filled (one r.name) ps) = small_filled r.name ps (zeros_small 0 (literals ps) (literal_digits ps pieces) none) in
    let short : length (port_filled (one r.name) ps) ≤ 5 = omega (arith, one_length r.name ps, le_of (length (literals ps) + times r.name ps) 5 r.room) in
    record {
      texts = one r.name;
      good = one_bytes r.name;
      digits = small_digits (port_filled (one r.name) ps) small;
      is_port = is_port_by (port_filled (one r.name) ps) short (not_zero 0 r.name ps r.stands) (small_bound (port_filled (one r.name) ps) small short);
    }

gives_port : (ps : List Piece) → can_be_port ps ≡ true → GivesPort ps
unfolding can_be_port
gives_port ps h =
    let e = both (list_all is_port_piece ps) (is_port (literals ps) || ((value_from 0 (literals ps) == 0) && has_room ps)) h in
    by_case e.0 (either (is_port (literals ps)) ((value_from 0 (literals ps) == 0) && has_room ps) e.1)
  where
    by_case : list_all is_port_piece ps ≡ true → (is_port (literals ps) ≡ true) ⊎ (((value_from 0 (literals ps) == 0) && has_room ps) ≡ true) → GivesPort ps
    by_case pieces (inl is) = by_literals ps pieces is
    by_case pieces (inr is) =
        let f = both (value_from 0 (literals ps) == 0) (has_room ps) is in
        by_room ps pieces (eqb-true (value_from 0 (literals ps)) 0 f.0) (room_of (length (literals ps)) ps ps f.1)

port_pieces : (ps : List Piece) → can_be_port ps ≡ true → list_all is_port_piece ps ≡ true
unfolding can_be_port
port_pieces ps h = (both (list_all is_port_piece ps) (is_port (literals ps) || ((value_from 0 (literals ps) == 0) && has_room ps)) h).0

gives_form : (u : Uri) → can_be_port u.port ≡ true → list_all is_path_piece u.path ≡ true → GivesForm u
gives_form u port path =
    let g = gives_port u.port port in
    record {
      variables = some g.texts;
      placeholders = some nothing;
      port = port_filled g.texts u.port;
      path = path_filled g.texts u.path;
      port_text = port_text g.texts u.port (port_pieces u.port port);
      path_text_is = path_text_is g.texts u.path;
      is_port = and_both (list_all is_digit (port_filled g.texts u.port)) (is_port (port_filled g.texts u.port)) g.digits g.is_port;
      is_path = path_bytes g.texts u.path g.good path;
    }

-- and back: what a text of the pieces says of them

pub record Parts (text rest : Option (List ℕ)) (all : List ℕ) : Type 0 where
  pub first : List ℕ
  pub second : List ℕ
  pub text_is : text ≡ Some first
  pub rest_is : rest ≡ Some second
  pub all_is : all ≡ first ++ second

parts : (text rest : Option (List ℕ)) (all : List ℕ) → joined text rest ≡ Some all → Parts text rest all
parts None rest all e = cc
parts (Some text) None all e = cc
parts (Some text) (Some rest) all e = record { first = text; second = rest; text_is = refl; rest_is = refl; all_is = cc }

some_same : (x y : List ℕ) → Some x ≡ Some y → x ≡ y
some_same x y e = cc

-- a text of a path is of its bytes, so each literal is
path_back : (v w : Values) (ps : List Piece) (all : List ℕ) → path_text v w ps ≡ Some all → list_all is_path_byte all ≡ true → list_all is_path_piece ps ≡ true
path_back v w [] all e h = refl
path_back v w (p ∷ ps) all e h =
    let x = parts (piece_text v w p) (path_text v w ps) all e in
    let y = all_parts is_path_byte x.first x.second (subst (λ bs. list_all is_path_byte bs ≡ true) x.all_is h) in
    and_both (is_path_piece p) (list_all is_path_piece ps) (of_piece p x.first x.text_is y.0) (path_back v w ps x.second x.rest_is y.1)
  where
    of_piece : (p : Piece) (first : List ℕ) → piece_text v w p ≡ Some first → list_all is_path_byte first ≡ true → is_path_piece p ≡ true
    of_piece (Literal text) first e h = subst (λ bs. list_all is_path_byte bs ≡ true) (sym (some_same text first e)) h
    of_piece (Variable name) first e h = refl
    of_piece (Placeholder name) first e h = refl

-- what a text of a port says
pub record SaysOf (v : Values) (ps : List Piece) (all : List ℕ) : Type 0 where
  pub pieces : list_all is_port_piece ps ≡ true
  pub value : (m n : ℕ) → m ≤ n → value_from m (literals ps) ≤ value_from n all
  pub short : length (literals ps) ≤ length all
  pub counts : (name : List ℕ) (b : ℕ) (bs : List ℕ) → v name ≡ Some (b ∷ bs) → length (literals ps) + times name ps ≤ length all
  pub changed : (literals ps ≡ all) ⊎ ((name : List ℕ) × (b : ℕ) × (bs : List ℕ) × (v name ≡ Some (b ∷ bs)) × (list_any (is_variable name) ps ≡ true))

says_literal : (v : Values) (text : List ℕ) (ps : List Piece) (all : List ℕ) → list_all is_digit text ≡ true → SaysOf v ps all → SaysOf v (Literal text ∷ ps) (text ++ all)
says_literal v text ps all digits s = record {
  pieces = and_both (list_all is_digit text) (list_all is_port_piece ps) digits s.pieces;
  value = λ m n h. let low = value_join m text (literals ps) in let high = value_join n text all in omega (arith, low, high, s.value (value_from m text) (value_from n text) (value_order m n text h));
  short = omega (arith, length-append text (literals ps), length-append text all, s.short);
  counts = λ name b bs e. omega (arith, length-append text (literals ps), length-append text all, s.counts name b bs e);
  changed = by_case s.changed;
}
  where
    by_case : (literals ps ≡ all) ⊎ ((name : List ℕ) × (b : ℕ) × (bs : List ℕ) × (v name ≡ Some (b ∷ bs)) × (list_any (is_variable name) ps ≡ true))
        → (text ++ literals ps ≡ text ++ all) ⊎ ((name : List ℕ) × (b : ℕ) × (bs : List ℕ) × (v name ≡ Some (b ∷ bs)) × (list_any (is_variable name) (Literal text ∷ ps) ≡ true))
    by_case (inl same) = inl (ap (λ bs. text ++ bs) same)
    by_case (inr (name, b, bs, e, stands)) = inr (name, b, bs, e, stands)

times_here : (v : Values) (other : List ℕ) (first : List ℕ) (ps : List Piece) (rest : List ℕ) (name : List ℕ) (b : ℕ) (bs : List ℕ) → v other ≡ Some first → v name ≡ Some (b ∷ bs)
    → length (literals ps) + times name ps ≤ length rest → length (literals ps) + times name (Variable other ∷ ps) ≤ length first + length rest
times_here v other first ps rest name b bs is e more = by_test (bytes_eq other name) refl
  where
    longer : bytes_eq other name ≡ true → 1 ≤ length first
    longer same =
        let also : v name ≡ Some first = subst (λ x. v x ≡ Some first) ((bytes_eq-Decides other name).0 same) is in
        let eq : first ≡ b ∷ bs = some_same first (b ∷ bs) (sym also ∙ e) in
        omega (arith, ap length eq)

    by_test : (t : Bool) → bytes_eq other name ≡ t → length (literals ps) + (if t then 1 + times name ps else times name ps) ≤ length first + length rest
    by_test true same = omega (arith, longer same, more)
    by_test false same = omega (arith, more)

says_variable : (v : Values) (name first : List ℕ) (ps : List Piece) (all : List ℕ) → v name ≡ Some first → SaysOf v ps all → SaysOf v (Variable name ∷ ps) (first ++ all)
says_variable v name first ps all is s = record {
  pieces = s.pieces;
  value = λ m n h. let high = value_join n first all in omega (arith, high, s.value m (value_from n first) (omega (arith, h, value_grows n first)));
  short = omega (arith, length-append first all, s.short);
  counts = λ other b bs e. let more = times_here v name first ps all other b bs is e (s.counts other b bs e) in omega (arith, length-append first all, more);
  changed = by_case first is s.changed;
}
  where
    by_case : (first : List ℕ) → v name ≡ Some first → (literals ps ≡ all) ⊎ ((name : List ℕ) × (b : ℕ) × (bs : List ℕ) × (v name ≡ Some (b ∷ bs)) × (list_any (is_variable name) ps ≡ true))
        → (literals ps ≡ first ++ all) ⊎ ((other : List ℕ) × (b : ℕ) × (bs : List ℕ) × (v other ≡ Some (b ∷ bs)) × (list_any (is_variable other) (Variable name ∷ ps) ≡ true))
    by_case first is (inr (other, b, bs, e, stands)) = inr (other, b, bs, e, or_right (bytes_eq name other) (list_any (is_variable other) ps) stands)
    by_case [] is (inl same) = inl same
    by_case (b ∷ bs) is (inl same) = inr (name, b, bs, is, or_left (bytes_eq name name) (list_any (is_variable name) ps) (same_bytes name))

says : (v : Values) (ps : List Piece) (all : List ℕ) → path_text v none_given ps ≡ Some all → list_all is_digit all ≡ true → SaysOf v ps all
says v [] all e digits =
    let same : [] ≡ all = some_same [] all e in
    subst (SaysOf v []) same (record { pieces = refl; value = λ m n h. h; short = omega arith; counts = λ name b bs e. omega arith; changed = inl refl })
says v (p ∷ ps) all e digits =
    let x = parts (piece_text v none_given p) (path_text v none_given ps) all e in
    let y = all_parts is_digit x.first x.second (subst (λ bs. list_all is_digit bs ≡ true) x.all_is digits) in
    subst (SaysOf v (p ∷ ps)) (sym x.all_is) (of_piece p x.first x.second x.text_is y.0 (says v ps x.second x.rest_is y.1))
  where
    of_piece : (p : Piece) (first rest : List ℕ) → piece_text v none_given p ≡ Some first → list_all is_digit first ≡ true → SaysOf v ps rest → SaysOf v (p ∷ ps) (first ++ rest)
    of_piece (Literal text) first rest is digits s = subst (λ t. SaysOf v (Literal text ∷ ps) (t ++ rest)) (some_same text first is) (says_literal v text ps rest (subst (λ t. list_all is_digit t ≡ true) (sym (some_same text first is)) digits) s)
    of_piece (Variable name) first rest is digits s = says_variable v name first ps rest is s
    of_piece (Placeholder name) first rest is digits s = cc

zero_test : (n : ℕ) → n ≡ 0 → (n == 0) ≡ true
zero_test n e = grind (arith, nat_tests)

port_back : (v : Values) (ps : List Piece) (all : List ℕ) → path_text v none_given ps ≡ Some all → is_port_text all ≡ true → can_be_port ps ≡ true
unfolding can_be_port
port_back v ps all e h =
    let f = both (list_all is_digit all) (is_port all) h in
    let s = says v ps all e f.0 in
    let p = port_is all f.1 in
    and_both (list_all is_port_piece ps) (is_port (literals ps) || ((value_from 0 (literals ps) == 0) && has_room ps)) s.pieces (by_value (value_from 0 (literals ps)) refl s p)
  where
    by_value : (n : ℕ) → value_from 0 (literals ps) ≡ n → SaysOf v ps all → (length all ≤ 5) × (1 ≤ value_from 0 all) × (value_from 0 all ≤ 65535) → (is_port (literals ps) || ((value_from 0 (literals ps) == 0) && has_room ps)) ≡ true
    by_value zero e s p =
        or_right (is_port (literals ps)) ((value_from 0 (literals ps) == 0) && has_room ps)
        (and_both (value_from 0 (literals ps) == 0) (has_room ps) (zero_test (value_from 0 (literals ps)) e) (by_change s.changed))
      where
        by_change : (literals ps ≡ all) ⊎ ((name : List ℕ) × (b : ℕ) × (bs : List ℕ) × (v name ≡ Some (b ∷ bs)) × (list_any (is_variable name) ps ≡ true)) → has_room ps ≡ true
        by_change (inl same) = absurd (omega (arith, p.1, ap (value_from 0) same, e))
        by_change (inr (name, b, bs, is, stands)) = room_is (length (literals ps)) ps ps name stands (le_test (length (literals ps) + times name ps) 5 (omega (arith, s.counts name b bs is, p.0)))
    by_value (suc n) e s p =
        or_left (is_port (literals ps)) ((value_from 0 (literals ps) == 0) && has_room ps)
        (is_port_by (literals ps) (omega (arith, s.short, p.0)) (omega (arith, e)) (omega (arith, s.value 0 0 (omega arith), p.2)))

form_back : (u : Uri) → GivesForm u → (can_be_port u.port && list_all is_path_piece u.path) ≡ true
form_back u g = and_both (can_be_port u.port) (list_all is_path_piece u.path) (port_back g.variables u.port g.port g.port_text g.is_port) (path_back g.variables g.placeholders u.path g.path g.path_text_is g.is_path)

-- what is read of the pieces

possible : (o : Option Uri) (u : Uri) → if_possible o ≡ Some u → (o ≡ Some u) × GivesForm u
possible None u e = cc
possible (Some w) u e = by_test (can_be_port w.port && list_all is_path_piece w.path) refl e
  where
    by_test : (t : Bool) → (can_be_port w.port && list_all is_path_piece w.path) ≡ t → (if t then Some w else None) ≡ Some u → (Some w ≡ Some u) × GivesForm u
    by_test true is e =
        let same : w ≡ u = cc in
        let f = both (can_be_port w.port) (list_all is_path_piece w.path) is in
        (e, subst GivesForm same (gives_form w f.0 f.1))
    by_test false is e = cc

possible_back : (o : Option Uri) (u : Uri) → o ≡ Some u → GivesForm u → if_possible o ≡ Some u
possible_back o u e g = ap if_possible e ∙ ap (λ t. if t then Some u else None) (form_back u g)

pub some_values : HasValues
unfolding uri_of
some_values text u = (λ e. possible (uri_pieces text) u e, λ h. possible_back (uri_pieces text) u h.0 h.1)

none_some : (u : Uri) → ◌≡◌ {A = Option Uri} None (Some u) → ⊥
none_some u e = cc

refused : (o : Option Uri) → ((u : Uri) → o ≡ Some u → GivesForm u → ⊥) → if_possible o ≡ None
refused None h = refl
refused (Some u) h = by_test (can_be_port u.port && list_all is_path_piece u.path) refl
  where
    by_test : (t : Bool) → (can_be_port u.port && list_all is_path_piece u.path) ≡ t → (if t then Some u else None) ≡ None
    by_test true is = let f = both (can_be_port u.port) (list_all is_path_piece u.path) is in absurd (h u refl (gives_form u f.0 f.1))
    by_test false is = refl

pub no_values : HasNoValues
unfolding uri_of
no_values text = (λ e u is g. none_some u (sym e ∙ possible_back (uri_pieces text) u is g), refused (uri_pieces text))
