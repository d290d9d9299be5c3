-- The pieces of a text, by where its braces first stand.
use Rattle.jsonpath_core.proofs.Numerals.{past}
use Rattle.json_subset.specs.Numbers.{value_from}
use Rattle.std.proofs.Common.{◌≡◌, ◌<◌, ◌≤◌, ◌⊎◌, inl, inr, ℕ, List, [], ◌∷◌, ◌++◌, length, Option, Some, None, refl, sym, ap, ◌∙◌, true, false, Bool, append_assoc, append-nil, length-append, arith, eqb, if◌then◌else◌}
use Rattle.std.specs.Prelude.{◌&&◌}
use Rattle.std.specs.List.{list_all}
use Rattle.std.specs.Option.{option_map}
use Rattle.vtl_texts.proofs.Cuts.{cut_splits}
use Rattle.vtl_texts.specs.Places.{behind, cut, earliest}
use Rattle.gw_base.specs.Names.{is_digit}
use Rattle.api_mappings.specs.Uris.{outside, inside, braced, then_pieces, literals, literal_of, is_port_piece}
use Rattle.api_parts.specs.declared.uri.Piece.{Piece}
use Rattle.api_parts.specs.declared.uri.Piece.TheVariants.{Literal, Variable, Placeholder}

-- what is read of a text, by its first brace
abbrev opened : List ℕ → List ℕ → Option (List ℕ × List ℕ) → Option (List Piece)
opened front t None = Some (Literal (front ++ t) ∷ [])
opened front t (Some c) = inside (front ++ c.0) [] c.1

abbrev closed : List ℕ → List ℕ → Option (List ℕ × List ℕ) → Option (List Piece)
closed front name None = None
closed front name (Some c) = then_pieces (braced front (name ++ c.0)) (outside [] c.1)

open_next : (front : List ℕ) (b : ℕ) (t : List ℕ) (o : Option (List ℕ × List ℕ)) → opened (front ++ b ∷ []) t o ≡ opened front (b ∷ t) (option_map (λ c. (b ∷ c.0, c.1)) o)
open_next front b t None = ap (λ x. Some (Literal x ∷ [])) (append_assoc front (b ∷ []) t)
open_next front b t (Some c) = ap (λ x. inside x [] c.1) (append_assoc front (b ∷ []) c.0)

close_next : (front name : List ℕ) (b : ℕ) (o : Option (List ℕ × List ℕ)) → closed front (name ++ b ∷ []) o ≡ closed front name (option_map (λ c. (b ∷ c.0, c.1)) o)
close_next front name b None = refl
close_next front name b (Some c) = ap (λ x. then_pieces (braced front x) (outside [] c.1)) (append_assoc name (b ∷ []) c.0)

-- a byte alone stands at the front, or does not
one_front : (c b : ℕ) (t : List ℕ) → behind (c ∷ []) (b ∷ t) ≡ (if eqb b c then Some t else None)
one_front c b t = by_test (eqb b c)
  where
    by_test : (x : Bool) → (if x then behind [] t else None) ≡ (if x then Some t else None)
    by_test true = refl
    by_test false = refl

pub outside_cut : (front t : List ℕ) → outside front t ≡ opened front t (cut t (123 ∷ []))
outside_cut front [] = ap (λ x. Some (Literal x ∷ [])) (sym (append-nil front))
outside_cut front (b ∷ t) = by_test (eqb b 123) (outside_cut (front ++ b ∷ []) t)
  where
    by_test : (x : Bool) → outside (front ++ b ∷ []) t ≡ opened (front ++ b ∷ []) t (cut t (123 ∷ [])) → (if x then inside front [] t else outside (front ++ b ∷ []) t) ≡ opened front (b ∷ t) (earliest b (if x then Some t else None) (cut t (123 ∷ [])))
    by_test true more = ap (λ x. inside x [] t) (sym (append-nil front))
    by_test false more = more ∙ open_next front b t (cut t (123 ∷ []))

pub inside_cut : (front name t : List ℕ) → inside front name t ≡ closed front name (cut t (125 ∷ []))
inside_cut front name [] = refl
inside_cut front name (b ∷ t) = by_test (eqb b 125) (inside_cut front (name ++ b ∷ []) t)
  where
    by_test : (x : Bool) → inside front (name ++ b ∷ []) t ≡ closed front (name ++ b ∷ []) (cut t (125 ∷ [])) → (if x then then_pieces (braced front name) (outside [] t) else inside front (name ++ b ∷ []) t) ≡ closed front name (earliest b (if x then Some t else None) (cut t (125 ∷ [])))
    by_test true more = ap (λ x. then_pieces (braced front x) (outside [] t)) (sym (append-nil name))
    by_test false more = more ∙ close_next front name b (cut t (125 ∷ []))

-- digits in each literal are digits in all
digits_join : (xs ys : List ℕ) → list_all is_digit xs ≡ true → list_all is_digit ys ≡ true → list_all is_digit (xs ++ ys) ≡ true
digits_join [] ys h k = k
digits_join (x ∷ xs) ys h k = by_test (is_digit x) h (λ more. digits_join xs ys more k)
  where
    by_test : (t : Bool) → (t && list_all is_digit xs) ≡ true → (list_all is_digit xs ≡ true → list_all is_digit (xs ++ ys) ≡ true) → (t && list_all is_digit (xs ++ ys)) ≡ true
    by_test true h more = more h
    by_test false h more = cc

literal_digit : (p : Piece) → is_port_piece p ≡ true → list_all is_digit (literal_of p) ≡ true
literal_digit (Literal text) h = h
literal_digit (Variable name) h = refl
literal_digit (Placeholder name) h = cc

both : (a b : Bool) → (a && b) ≡ true → (a ≡ true) × (b ≡ true)
both true b h = (refl, h)
both false b h = cc

pub literal_digits : (ps : List Piece) → list_all is_port_piece ps ≡ true → list_all is_digit (literals ps) ≡ true
literal_digits [] h = refl
literal_digits (p ∷ ps) h = let x = both (is_port_piece p) (list_all is_port_piece ps) h in digits_join (literal_of p) (literals ps) (literal_digit p x.0) (literal_digits ps x.1)

not_none : (d : ℕ) (ds : List ℕ) → d ∷ ds ≡ [] → ⊥
not_none d ds e = cc

-- digits that are not read are none, or do not fit
pub past_or_none : (ds : List ℕ) → ((0 < length ds) × (value_from 0 ds < 4294967296) → ⊥) → (ds ≡ []) ⊎ (4294967296 ≤ value_from 0 ds)
past_or_none [] over = inl refl
past_or_none (d ∷ ds) over = inr (past (d ∷ ds) (value_from 0 (d ∷ ds)) 4294967296 (not_none d ds) over)

-- by what is cut off
module _ (rest front behind inside more : List ℕ) (first : Some (front, behind) ≡ cut rest (123 ∷ [])) where
  opens : outside [] rest ≡ closed front [] (cut behind (125 ∷ []))
  opens = outside_cut [] rest ∙ ap (opened [] rest) (sym first) ∙ inside_cut front [] behind

  pub no_close : None ≡ cut behind (125 ∷ []) → outside [] rest ≡ None
  no_close second = opens ∙ ap (closed front []) (sym second)

  module _ (second : Some (inside, more) ≡ cut behind (125 ∷ [])) where
    pub closes : outside [] rest ≡ then_pieces (braced front inside) (outside [] more)
    closes = opens ∙ ap (closed front []) (sym second)

    pub shorter : length more < length rest
    shorter =
        let x = cut_splits rest (123 ∷ []) _ (sym first) in let y = cut_splits behind (125 ∷ []) _ (sym second) in
        omega (arith, ap length x, ap length y, length-append front (123 ∷ behind), length-append inside (125 ∷ more))

pub last_piece : (rest : List ℕ) → None ≡ cut rest (123 ∷ []) → outside [] rest ≡ Some (Literal rest ∷ [])
last_piece rest e = outside_cut [] rest ∙ ap (opened [] rest) (sym e)

pub joined_map : (xs ys : List Piece) (o : Option (List Piece)) → option_map (λ more. xs ++ more) (option_map (λ qs. ys ++ qs) o) ≡ option_map (λ more. (xs ++ ys) ++ more) o
joined_map xs ys None = refl
joined_map xs ys (Some more) = ap Some (sym (append_assoc xs ys more))

-- two more pieces
pub goes_on : (rest front behind inside more : List ℕ) → Some (front, behind) ≡ cut rest (123 ∷ []) → Some (inside, more) ≡ cut behind (125 ∷ [])
    → (before one two : List Piece) (literal named : Piece) (all : Option (List Piece)) → Some (literal ∷ named ∷ []) ≡ braced front inside
    → one ≡ before ++ literal ∷ [] → two ≡ one ++ named ∷ [] → option_map (λ more. before ++ more) (outside [] rest) ≡ all
    → option_map (λ more. two ++ more) (outside [] more) ≡ all
goes_on rest front behind inside more first second before one two literal named all is e f so_far =
    ap (λ x. option_map (λ more. x ++ more) (outside [] more)) (f ∙ ap (λ x. x ++ named ∷ []) e ∙ append_assoc before (literal ∷ []) (named ∷ []))
    ∙ sym (joined_map before (literal ∷ named ∷ []) (outside [] more))
    ∙ ap (λ x. option_map (λ more. before ++ more) (then_pieces x (outside [] more))) is
    ∙ ap (option_map (λ more. before ++ more)) (sym (closes rest front behind inside more first second))
    ∙ so_far
