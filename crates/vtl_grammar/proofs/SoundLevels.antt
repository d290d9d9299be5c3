-- What is read inside brackets is of the grammar, where what is read a level further down is.
use Rattle.std.proofs.Common.{◌≡◌, ℕ, zero, suc, ◌+◌, ◌-◌, List, [], ◌∷◌, length, refl, sym, subst, Bool, true, false}
use Rattle.std.specs.Prelude.{Option, Some, None, ◌==◌, if◌then◌else◌}
use Rattle.vtl_grammar.specs.Tree.{Expr, Exprs, Pairs, expr, listed, range, mapped}
use Rattle.vtl_grammar.specs.Bytes.{taken, white}
use Rattle.vtl_grammar.specs.Faults.{up_to}
use Rattle.vtl_grammar.specs.Levels.{Reader}
use Rattle.vtl_grammar.specs.Loops.{first}
use Rattle.vtl_grammar.specs.Operators.{How, alone, ranging}
use Rattle.vtl_grammar.specs.References.{Mark, closing, comma, other, mark_of, Ahead, too_many, next_argument, argument_on, argument_at, argument_turn, arguments_after, arguments_from, no_arguments, arguments_in}
use Rattle.vtl_grammar.specs.Lists.{element_on, element_turn, elements, list_on, list_in, pair_at, pair_on, pair_turn, with_pair, pairs, map_in}
use Rattle.vtl_grammar.specs.Grammar.{Closes, Begins, Operand, operand_round, operand_empty_list, operand_list, operand_range, operand_empty_map, operand_map, Ranked, Elements, elements_end, elements_more, Members, members_end, members_more, Called, called_none, called_some, Arguments, arguments_end, arguments_more}
use Rattle.vtl_grammar.specs.Expressions.{a_round, a_square, a_brace}
use Rattle.vtl_grammar.proofs.Held.{Held, ok, err, next, held_map, either, held_if, Turned, gathered, taken_true, taken_false, expected}

-- which byte stands at the front
abbrev pub Marked : ℕ → ℕ → List ℕ → Mark → Type 0
Marked c b bs closing = taken c (b ∷ bs) ≡ (true, bs)
Marked c b bs comma = taken 44 (b ∷ bs) ≡ (true, bs)
Marked c b bs other = Unit {0}

marked_comma : (c b : ℕ) (bs : List ℕ) (q : Bool) → (b == 44) ≡ q → Marked c b bs (if q then comma else other)
marked_comma c b bs true e = taken_true 44 b bs e
marked_comma c b bs false e = tt

marked_by : (c b : ℕ) (bs : List ℕ) (p : Bool) → (b == c) ≡ p → Marked c b bs (if p then closing else if b == 44 then comma else other)
marked_by c b bs true e = taken_true c b bs e
marked_by c b bs false e = marked_comma c b bs (b == 44) refl

pub marked : (c b : ℕ) (bs : List ℕ) → Marked c b bs (mark_of c b)
marked c b bs = marked_by c b bs (b == c) refl

module _ (names : List (List ℕ)) where
  abbrev pub Sound : ℕ → Reader → Type 0
  Sound d r = (k : ℕ) (how : How) (bs : List ℕ) → Held (λ p. Ranked names d k how bs p.0 p.1) (r k how bs)

  -- a level, with what reads further down where one is left
  pub data Inner : ℕ → Option Reader → Type 0 where
    bottom : Inner zero None
    one_down : {d : ℕ} {r : Reader} → Sound d r → Inner (suc d) (Some r)

  module _ (d : ℕ) (r : Reader) (sound : Sound d r) where
    abbrev pub Closed : ℕ → List ℕ → Expr × List ℕ → Type 0
    Closed c bs p = (behind : List ℕ) × Ranked names d 6 alone bs p.0 behind × Closes c behind p.1

    pub closed_up : (c : ℕ) (bs : List ℕ) → Held (Closed c bs) (up_to c (r 6 alone bs))
    closed_up c bs = next _ (sound 6 alone bs) (λ e h. next _ (expected c (white e.1)) (λ rest k. ok (e.1, h, k)))

    element_marked : (b : ℕ) (bs : List ℕ) (m : Mark) → Marked 93 b bs m → Held (Turned (first expr) (λ s p. Elements names d s p.0 p.1) (b ∷ bs)) (element_on r m bs)
    element_marked b bs closing h = ok (elements_end h)
    element_marked b bs comma h = next _ (sound 6 alone bs) (λ e k. ok (λ p q. elements_more h k q))
    element_marked b bs other h = err

    element_once : (bs : List ℕ) → Held (Turned (first expr) (λ s p. Elements names d s p.0 p.1) bs) (element_turn r bs)
    element_once [] = err
    element_once (b ∷ bs) = element_marked b bs (mark_of 93 b) (marked 93 b bs)

    -- an element and those behind it
    elements_sound : (e : Expr) (bs : List ℕ) → Held (λ p. (es : Exprs) × (p.0 ≡ expr e es) × Elements names d bs es p.1) (elements r e bs)
    elements_sound e bs = next _ (gathered (first expr) (element_turn r) (λ s p. Elements names d s p.0 p.1) element_once (length bs + 1) bs) (λ p h. ok (p.0, refl, h))

    abbrev pub PairOf : List ℕ → (Expr × Expr) × List ℕ → Type 0
    PairOf bs p = (behind : List ℕ) × (value : List ℕ) × (middle : List ℕ) × Ranked names d 6 alone bs (p.0).0 behind × Closes 58 behind value × Ranked names d 6 alone value (p.0).1 middle × (p.1 ≡ white middle)

    pair_sound : (bs : List ℕ) → Held (PairOf bs) (pair_at r bs)
    pair_sound bs = next _ (closed_up 58 bs) (λ k h. next _ (sound 6 alone k.1) (λ v g. ok (h.0, k.1, v.1, h.1, h.2, g, refl)))

    members_from : (bs : List ℕ) (p : (Expr × Expr) × List ℕ) → PairOf bs p → (b : Pairs × List ℕ) → Members names d p.1 b.0 b.1 → (cs : List ℕ) → taken 44 cs ≡ (true, bs) → Members names d cs (with_pair p.0 b.0) b.1
    members_from bs p h b m cs e = let P : List ℕ → Type 0 = λ z. Members names d z b.0 b.1 in members_more e h.3 h.4 h.5 (subst P h.6 m)

    pair_marked : (b : ℕ) (bs : List ℕ) (m : Mark) → Marked 125 b bs m → Held (Turned (first with_pair) (λ s p. Members names d s p.0 p.1) (b ∷ bs)) (pair_on r m bs)
    pair_marked b bs closing h = ok (members_end h)
    pair_marked b bs comma h = next _ (pair_sound bs) (λ p k. ok (λ q m. members_from bs p k q m (b ∷ bs) h))
    pair_marked b bs other h = err

    pair_once : (bs : List ℕ) → Held (Turned (first with_pair) (λ s p. Members names d s p.0 p.1) bs) (pair_turn r bs)
    pair_once [] = err
    pair_once (b ∷ bs) = pair_marked b bs (mark_of 125 b) (marked 125 b bs)

    members_sound : (x : Expr × Expr) (bs : List ℕ) → Held (λ p. (ps : Pairs) × (p.0 ≡ with_pair x ps) × Members names d bs ps p.1) (pairs r x bs)
    members_sound x bs = next _ (gathered (first with_pair) (pair_turn r) (λ s p. Members names d s p.0 p.1) pair_once (length bs + 1) bs) (λ p h. ok (p.0, refl, h))

    -- the arguments of a method
    abbrev pub Argued : Ahead → Exprs × List ℕ → Type 0
    Argued s p = Arguments names d s.few s.many s.rest p.0 p.1

    argument_next : (few many b : ℕ) (bs : List ℕ) → taken 44 (b ∷ bs) ≡ (true, bs) → Held (Turned (first expr) Argued (record { few = few; many = suc many; rest = b ∷ bs })) (next_argument r few many (white bs))
    argument_next few many b bs h = next _ (sound 6 alone (white bs)) (λ e k. ok (λ p q. arguments_more h k q))

    argument_marked : (at few many b : ℕ) (bs : List ℕ) (m : Mark) → Marked 41 b bs m → Held (Turned (first expr) Argued (record { few = few; many = many; rest = b ∷ bs })) (argument_on r at few many m bs)
    argument_marked at zero zero b bs closing h = ok (arguments_end h)
    argument_marked at zero (suc many) b bs closing h = ok (arguments_end h)
    argument_marked at (suc few) zero b bs closing h = err
    argument_marked at (suc few) (suc many) b bs closing h = err
    argument_marked at zero zero b bs comma h = err
    argument_marked at (suc few) zero b bs comma h = err
    argument_marked at zero (suc many) b bs comma h = argument_next zero many b bs h
    argument_marked at (suc few) (suc many) b bs comma h = argument_next (suc few) many b bs h
    argument_marked at zero zero b bs other h = err
    argument_marked at zero (suc many) b bs other h = err
    argument_marked at (suc few) zero b bs other h = err
    argument_marked at (suc few) (suc many) b bs other h = err

    argument_here : (at few many : ℕ) (bs : List ℕ) → Held (Turned (first expr) Argued (record { few = few; many = many; rest = bs })) (argument_at r at few many bs)
    argument_here at few many [] = err
    argument_here at few many (b ∷ bs) = argument_marked at few many b bs (mark_of 41 b) (marked 41 b bs)

    argument_once : (at : ℕ) (s : Ahead) → Held (Turned (first expr) Argued s) (argument_turn r at s)
    argument_once at s = argument_here at s.few s.many s.rest

    arguments_behind : (at few many : ℕ) (e : Expr) (bs : List ℕ) → Held (λ p. (es : Exprs) × (p.0 ≡ expr e es) × Arguments names d few many bs es p.1) (arguments_after r at few many e bs)
    arguments_behind at few many e bs = next _ (gathered (first expr) (argument_turn r at) Argued (argument_once at) (many + 1) (record { few = few; many = many; rest = bs })) (λ p h. ok (p.0, refl, h))

    called_first : (few many : ℕ) (cs bs behind : List ℕ) (e : Expr) (p : Exprs × List ℕ) → taken 41 cs ≡ (false, bs) → Ranked names d 6 alone bs e behind → (es : Exprs) × (p.0 ≡ expr e es) × Arguments names d (few - 1) many (white behind) es p.1 → Called names d few (suc many) cs p.0 p.1
    called_first few many cs bs behind e p t h k = let P : Exprs → Type 0 = λ z. Called names d few (suc many) cs z p.1 in subst P (sym k.1) (called_some t h k.2)

    too_many_held : {P : Exprs × List ℕ → Type 0} (at : ℕ) (bs : List ℕ) → Held P (too_many at bs)
    too_many_held at [] = err
    too_many_held at (b ∷ bs) = held_if _ _ _ (λ e. err) (λ e. err)

    called_from : (at few many : ℕ) (cs bs : List ℕ) → taken 41 cs ≡ (false, bs) → Held (λ p. Called names d few many cs p.0 p.1) (arguments_from r at few many bs)
    called_from at few zero cs bs t = too_many_held at bs
    called_from at few (suc many) cs bs t = next _ (sound 6 alone bs) (λ e h. held_map (arguments_behind at (few - 1) many e.0 (white e.1)) (λ p k. called_first few many cs bs e.1 e.0 p t h k))

    called_empty : (at few many : ℕ) (cs bs : List ℕ) → taken 41 cs ≡ (true, bs) → Held (λ p. Called names d few many cs p.0 p.1) (no_arguments at few bs)
    called_empty at zero many cs bs t = ok (called_none t)
    called_empty at (suc few) many cs bs t = err

    pub called_sound : (at few many : ℕ) (bs : List ℕ) → Held (λ p. Called names d few many bs p.0 p.1) (arguments_in r at few many bs)
    called_sound at few many [] = err
    called_sound at few many (b ∷ bs) = either (b == 41) _ _ (λ e. called_empty at few many (b ∷ bs) bs (taken_true 41 b bs e)) (λ e. called_from at few many (b ∷ bs) (b ∷ bs) (taken_false 41 b bs e))

    -- the operands in brackets
    module _ (how : How) (bs more : List ℕ) where
      abbrev OperandOf : Expr × List ℕ → Type 0
      OperandOf p = Operand names (suc d) how bs p.0 p.1

      pub round_sound : Begins bs a_round more → Held OperandOf (up_to 41 (r 6 alone more))
      round_sound b = held_map (closed_up 41 more) (λ p h. operand_round b h.1 h.2)

      list_more : (inner behind dotless : List ℕ) (e : Expr) → Begins bs a_square more → taken 93 (white more) ≡ (false, inner) → Ranked names d 6 ranging inner e behind → taken 46 (white behind) ≡ (false, dotless) → (p : Exprs × List ℕ) → (es : Exprs) × (p.0 ≡ expr e es) × Elements names d dotless es p.1 → OperandOf (listed p.0, p.1)
      list_more inner behind dotless e b t h c p k = let P : Exprs → Type 0 = λ z. OperandOf (listed z, p.1) in subst P (sym k.1) (operand_list b t h c k.2)

      range_more : (inner behind dot middle : List ℕ) (e : Expr) → Begins bs a_square more → taken 93 (white more) ≡ (false, inner) → Ranked names d 6 ranging inner e behind → taken 46 (white behind) ≡ (true, dot) → taken 46 dot ≡ (true, middle) → (p : Expr × List ℕ) → Closed 93 middle p → OperandOf (range e p.0, p.1)
      range_more inner behind dot middle e b t h c k p g = operand_range b t h c k g.1 g.2

      behind_first : (inner behind : List ℕ) (e : Expr) (c : Bool × List ℕ) → Begins bs a_square more → taken 93 (white more) ≡ (false, inner) → Ranked names d 6 ranging inner e behind → taken 46 (white behind) ≡ c → Held OperandOf (list_on r e c)
      behind_first inner behind e (true, dot) b t h k = next _ (expected 46 dot) (λ middle q. next _ (closed_up 93 middle) (λ p g. ok (range_more inner behind dot middle e b t h k q p g)))
      behind_first inner behind e (false, dotless) b t h k = next _ (elements_sound e dotless) (λ p g. ok (list_more inner behind dotless e b t h k p g))

      list_from : (c : Bool × List ℕ) → Begins bs a_square more → taken 93 (white more) ≡ c → Held OperandOf (list_in r c)
      list_from (true, rest) b t = ok (operand_empty_list b t)
      list_from (false, inner) b t = next _ (sound 6 ranging inner) (λ e h. behind_first inner e.1 e.0 (taken 46 (white e.1)) b t h refl)

      pub list_sound : Begins bs a_square more → Held OperandOf (list_in r (taken 93 (white more)))
      list_sound b = list_from (taken 93 (white more)) b refl

      map_more : (inner : List ℕ) (x : (Expr × Expr) × List ℕ) → Begins bs a_brace more → taken 125 (white more) ≡ (false, inner) → PairOf inner x → (p : Pairs × List ℕ) → (ps : Pairs) × (p.0 ≡ with_pair x.0 ps) × Members names d x.1 ps p.1 → OperandOf (mapped p.0, p.1)
      map_more inner x b t h p k =
          let P : Pairs → Type 0 = λ z. OperandOf (mapped z, p.1) in
          let Q : List ℕ → Type 0 = λ z. Members names d z k.0 p.1 in
          subst P (sym k.1) (operand_map b t h.3 h.4 h.5 (subst Q h.6 k.2))

      map_from : (c : Bool × List ℕ) → Begins bs a_brace more → taken 125 (white more) ≡ c → Held OperandOf (map_in r c)
      map_from (true, rest) b t = ok (operand_empty_map b t)
      map_from (false, inner) b t = next _ (pair_sound inner) (λ x h. next _ (members_sound x.0 x.1) (λ p k. ok (map_more inner x b t h p k)))

      pub map_sound : Begins bs a_brace more → Held OperandOf (map_in r (taken 125 (white more)))
      map_sound b = map_from (taken 125 (white more)) b refl
