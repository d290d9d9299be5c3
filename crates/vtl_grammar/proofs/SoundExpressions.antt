-- The expressions that are read are of the grammar.
use Rattle.std.proofs.Common.{◌≡◌, ℕ, zero, suc, ◌+◌, List, [], ◌∷◌, length, refl, ap, ◌∙◌, false}
use Rattle.std.specs.Prelude.{codes, Option, Some, None, Ok, Err, ◌==◌}
use Rattle.std.proofs.lemmas.Bool.{eqb-true, eqb-false}
use Rattle.vtl_grammar.specs.declared.fault.Fault.TheVariants as fault
use Rattle.vtl_grammar.specs.Tree.{Operator, Expr, Parts, string, binary}
use Rattle.vtl_grammar.specs.Bytes.{white, name_at, until_byte, whole_word}
use Rattle.vtl_grammar.specs.Faults.{◌>>=◌, Read, within}
use Rattle.vtl_grammar.specs.Levels.{Reader}
use Rattle.vtl_grammar.specs.Operators.{How, operator, rank}
use Rattle.vtl_grammar.specs.Numbers.{number, minus_number, boolean_word}
use Rattle.vtl_grammar.specs.References.{begun, Begun, a_reference, nameless, dots_in}
use Rattle.vtl_grammar.specs.Strings.{parts_of, string_closed}
use Rattle.vtl_grammar.specs.Expressions.{Lead, an_exclamation, an_n, a_dollar, a_minus, a_digit, a_quote, a_double_quote, a_t_or_f, a_round, a_square, a_brace, no_lead, lead_of, negation, not_word, dollar, round_in, square_in, brace_in, led, operand_at, operand, linked, links, ranked, reader, inside}
use Rattle.vtl_grammar.specs.Grammar.{Begins, Ranked, ranked_operand, ranked_chain, Links, links_end, links_other, links_more, Operand, operand_not_sign, operand_not_word, operand_number, operand_minus, operand_text, operand_double, operand_boolean, operand_reference, Pieces}
use Rattle.vtl_grammar.proofs.Held.{Held, ok, err, next, itself, held_map, held_within, either, bad_held}
use Rattle.vtl_grammar.proofs.SoundLevels.{Sound, Inner, bottom, one_down, round_sound, list_sound, map_sound}
use Rattle.vtl_grammar.proofs.SoundReferences.{referred_sound, parts_sound}

module _ (names : List (List ℕ)) where
  abbrev pub OperandOf : ℕ → How → List ℕ → Expr × List ℕ → Type 0
  OperandOf d how bs p = Operand names d how bs p.0 p.1

  not_sign : {d : ℕ} {inner : Option Reader} (w : Inner names d inner) (how : How) (at : ℕ) (bs tail : List ℕ) → Begins bs an_exclamation tail → Held (OperandOf d how bs) (negation inner how at tail)
  not_sign bottom how at bs tail b = err
  not_sign (one_down s) how at bs tail b = next _ (s 0 how tail) (λ e h. ok (operand_not_sign b h))

  not_found : {d : ℕ} {inner : Option Reader} (w : Inner names d inner) (how : How) (at : ℕ) (bs tail rest : List ℕ) → Begins bs an_n tail → whole_word (codes "not") (white bs) ≡ Some rest → Held (OperandOf d how bs) (negation inner how at rest)
  not_found bottom how at bs tail rest b t = err
  not_found (one_down s) how at bs tail rest b t = next _ (s 0 how rest) (λ e h. ok (operand_not_word b t h))

  not_met : {d : ℕ} {inner : Option Reader} (w : Inner names d inner) (how : How) (bs tail cs : List ℕ) (o : Option (List ℕ)) → Begins bs an_n tail → whole_word (codes "not") (white bs) ≡ o → Held (OperandOf d how bs) (not_word inner how cs o)
  not_met w how bs tail cs None b t = bad_held _
  not_met w how bs tail cs (Some rest) b t = not_found w how _ bs tail rest b t

  dollar_met : {d : ℕ} {inner : Option Reader} (w : Inner names d inner) (how : How) (bs tail : List ℕ) (g : Begun) → Begins bs a_dollar tail → begun tail ≡ g → Held (OperandOf d how bs) (dollar inner how tail g)
  dollar_met w how bs tail (nameless missing) b e = bad_held missing
  dollar_met w how bs tail (a_reference quiet braced x rest) b e = next _ (referred_sound names w (dots_in how braced) braced _ rest) (λ ss h. ok (operand_reference b e h))

  round_met : {d : ℕ} {inner : Option Reader} (w : Inner names d inner) (how : How) (bs tail : List ℕ) → Begins bs a_round tail → Held (OperandOf d how bs) (round_in inner tail)
  round_met bottom how bs tail b = err
  round_met (one_down {d = d} {r = r} s) how bs tail b = held_within _ (round_sound names d r s how bs tail b)

  square_met : {d : ℕ} {inner : Option Reader} (w : Inner names d inner) (how : How) (bs tail : List ℕ) → Begins bs a_square tail → Held (OperandOf d how bs) (square_in inner tail)
  square_met bottom how bs tail b = err
  square_met (one_down {d = d} {r = r} s) how bs tail b = held_within _ (list_sound names d r s how bs tail b)

  brace_met : {d : ℕ} {inner : Option Reader} (w : Inner names d inner) (how : How) (bs tail : List ℕ) → Begins bs a_brace tail → Held (OperandOf d how bs) (brace_in inner tail)
  brace_met bottom how bs tail b = err
  brace_met (one_down {d = d} {r = r} s) how bs tail b = held_within _ (map_sound names d r s how bs tail b)

  string_held : {d : ℕ} (how : How) (bs tail : List ℕ) (p : List ℕ × List ℕ) (r : Read Parts) → Begins bs a_double_quote tail → until_byte 34 tail ≡ Some p → Held (λ q. Pieces names d p.0 q.0) r → Held (OperandOf d how bs) (string_closed p.1 r)
  string_held how bs tail p (Ok q) b e (ok h) = ok (operand_double b e h)
  string_held how bs tail p (Err f) b e h = err

  double_met : {d : ℕ} {inner : Option Reader} (w : Inner names d inner) (how : How) (bs tail : List ℕ) (o : Option (List ℕ × List ℕ)) → Begins bs a_double_quote tail → until_byte 34 tail ≡ o → Held (OperandOf d how bs) (elim o [ Some p ↦ string_closed p.1 (parts_of names inner p.0) | None ↦ within (length tail + 1) (parts_of names inner tail >>= λ ps. Err (fault.Unclosed 0)) ])
  double_met w how bs tail None b e = held_within _ (next _ (parts_sound names w tail) (λ p h. err))
  double_met {inner = inner} w how bs tail (Some p) b e = string_held how bs tail p (parts_of names inner p.0) b e (parts_sound names w p.0)

  single_met : (d : ℕ) (how : How) (bs tail : List ℕ) (o : Option (List ℕ × List ℕ)) → Begins bs a_quote tail → until_byte 39 tail ≡ o → Held (OperandOf d how bs) (elim o [ Some p ↦ Ok (string p.0, p.1) | None ↦ Err (fault.Unclosed (length tail + 1)) ])
  single_met d how bs tail None b e = err
  single_met d how bs tail (Some p) b e = ok (operand_text b e)

  led_sound : {d : ℕ} {inner : Option Reader} (w : Inner names d inner) (how : How) (bs : List ℕ) (l : Lead) (b : ℕ) (tail : List ℕ) → white bs ≡ b ∷ tail → lead_of b ≡ l → Held (OperandOf d how bs) (led names inner how l b tail)
  led_sound w how bs an_exclamation b tail e k = not_sign w how _ bs tail (b, e, k)
  led_sound w how bs an_n b tail e k = not_met w how bs tail (b ∷ tail) (whole_word (codes "not") (b ∷ tail)) (b, e, k) (ap (whole_word (codes "not")) e)
  led_sound w how bs a_dollar b tail e k = dollar_met w how bs tail (begun tail) (b, e, k) refl
  led_sound w how bs a_minus b tail e k = held_map (itself (minus_number how tail)) (λ p h. operand_minus (b, e, k) h)
  led_sound w how bs a_digit b tail e k = held_map (itself (number how (length tail + 1) false (b ∷ tail))) (λ p h. operand_number (b, e, k) (ap (number how (length tail + 1) false) e ∙ h))
  led_sound {d = d} w how bs a_quote b tail e k = single_met d how bs tail (until_byte 39 tail) (b, e, k) refl
  led_sound w how bs a_double_quote b tail e k = double_met w how bs tail (until_byte 34 tail) (b, e, k) refl
  led_sound w how bs a_t_or_f b tail e k = let word : List ℕ → Read Expr = λ z. boolean_word z (name_at z) in held_map (itself (boolean_word (b ∷ tail) (name_at (b ∷ tail)))) (λ p h. operand_boolean (b, e, k) (ap word e ∙ h))
  led_sound w how bs a_round b tail e k = round_met w how bs tail (b, e, k)
  led_sound w how bs a_square b tail e k = square_met w how bs tail (b, e, k)
  led_sound w how bs a_brace b tail e k = brace_met w how bs tail (b, e, k)
  led_sound w how bs no_lead b tail e k = err

  operand_met : {d : ℕ} {inner : Option Reader} (w : Inner names d inner) (how : How) (bs cs : List ℕ) → white bs ≡ cs → Held (OperandOf d how bs) (operand_at names inner how cs)
  operand_met w how bs [] e = err
  operand_met w how bs (b ∷ tail) e = led_sound w how bs (lead_of b) b tail e refl

  pub operand_sound : {d : ℕ} {inner : Option Reader} (w : Inner names d inner) (how : How) (bs : List ℕ) → Held (OperandOf d how bs) (operand names inner how bs)
  unfolding operand
  operand_sound w how bs = operand_met w how bs (white bs) refl

  -- the operators of a rank whose operands are of the grammar
  module _ (d k : ℕ) (one : List ℕ → Read Expr) (how : How) (below : (bs : List ℕ) → Held (λ p. Ranked names d k how bs p.0 p.1) (one bs)) where
    abbrev LinksOf : Expr → List ℕ → Expr × List ℕ → Type 0
    LinksOf x bs p = Links names d (suc k) how x bs p.0 p.1

    link_more : (again : Expr → List ℕ → Read Expr) → ((y : Expr) (cs : List ℕ) → Held (LinksOf y cs) (again y cs)) → (x : Expr) (bs tail : List ℕ) (o : Operator) → operator how bs ≡ Ok (Some (o, tail)) → rank o ≡ suc k → Held (LinksOf x bs) (one tail >>= λ y. again (binary o x y.0) y.1)
    link_more again held x bs tail o e h = next _ (below tail) (λ y r. held_map (held (binary o x y.0) y.1) (λ p l. links_more e h r l))

    link_met : (again : Expr → List ℕ → Read Expr) → ((y : Expr) (cs : List ℕ) → Held (LinksOf y cs) (again y cs)) → (x : Expr) (bs : List ℕ) (o : Option (Operator × List ℕ)) → operator how bs ≡ Ok o → Held (LinksOf x bs) (linked one again (suc k) x bs o)
    link_met again held x bs None e = ok (links_end e)
    link_met again held x bs (Some (o, tail)) e = either (rank o == suc k) _ _ (λ h. link_more again held x bs tail o e (eqb-true (rank o) (suc k) h)) (λ h. ok (links_other e (eqb-false (rank o) (suc k) h)))

    links_sound : (n : ℕ) (x : Expr) (bs : List ℕ) → Held (LinksOf x bs) (links one how (suc k) n x bs)
    unfolding links
    links_sound zero x bs = err
    links_sound (suc n) x bs = next _ (itself (operator how bs)) (λ o e. link_met (links one how (suc k) n) (links_sound n) x bs o e)

    chain_sound : (bs : List ℕ) → Held (λ p. Ranked names d (suc k) how bs p.0 p.1) (one bs >>= λ x. links one how (suc k) (length x.1 + 1) x.0 x.1)
    chain_sound bs = next _ (below bs) (λ x h. held_map (links_sound (length x.1 + 1) x.0 x.1) (λ p l. ranked_chain h l))

  pub ranked_sound : (d : ℕ) (inner : Option Reader) (w : Inner names d inner) (k : ℕ) (how : How) (bs : List ℕ) → Held (λ p. Ranked names d k how bs p.0 p.1) (ranked (operand names inner) k how bs)
  unfolding ranked
  ranked_sound d inner w zero how bs = held_map (operand_sound w how bs) (λ p h. ranked_operand h)
  ranked_sound d inner w (suc k) how bs = chain_sound d k (ranked (operand names inner) k how) how (ranked_sound d inner w k how) bs

  pub inside_sound : (d : ℕ) → Inner names d (inside names d)
  unfolding inside
  inside_sound zero = bottom
  inside_sound (suc d) = one_down (ranked_sound d (inside names d) (inside_sound d))

  -- an expression, inside which so many levels may open
  pub reader_sound : (d : ℕ) → Sound names d (reader names (inside names d))
  reader_sound d = ranked_sound d (inside names d) (inside_sound d)
