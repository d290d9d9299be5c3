-- What follows an expression is shorter.
use Rattle.std.proofs.Common.{◌≡◌, ℕ, ◌+◌, ◌<◌, ◌≤◌, List, ◌∷◌, length, sym, ap, ◌∙◌, arith, Bool, false, Ok, codes}
use Rattle.vtl_grammar.specs.Tree.{Expr, Exprs, Pairs, Steps}
use Rattle.vtl_grammar.specs.Bytes.{white}
use Rattle.vtl_grammar.specs.Operators.{How}
use Rattle.vtl_grammar.specs.References.{Dots, a_name, a_call, an_index}
use Rattle.vtl_grammar.specs.Numbers.{number}
use Rattle.vtl_grammar.specs.Expressions.{Lead, a_digit}
use Rattle.vtl_grammar.specs.Grammar.{Begins, Closes, Ranked, ranked_operand, ranked_chain, Links, links_end, links_other, links_more, Operand, operand_not_sign, operand_not_word, operand_round, operand_empty_list, operand_list, operand_range, operand_empty_map, operand_map, operand_number, operand_minus, operand_text, operand_double, operand_boolean, operand_reference, Elements, elements_end, elements_more, Members, members_end, members_more, Referred, referred_bare, referred_braced, Stepped, stepped_end, stepped_free, stepped_range, stepped_name, stepped_call, stepped_index, Called, called_none, called_some, Arguments, arguments_end, arguments_more}
use Rattle.vtl_grammar.proofs.Lexical.{white_le, taken_less, taken_same, until_less, whole_less}
use Rattle.vtl_grammar.proofs.LexicalOperators.{operator_less, number_less, minus_less, boolean_less, digit_lead}
use Rattle.vtl_grammar.proofs.LexicalReferences.{begun_less, step_less}

-- behind white space and a first byte
pub begins_less : (bs : List ℕ) (l : Lead) {more : List ℕ} → Begins bs l more → length more < length bs
begins_less bs l {more = more} b = let h : length (white bs) ≡ length (b.0 ∷ more) = ap (λ z. length {A = ℕ} z) b.1 in omega (arith, h, white_le bs)

-- behind white space and the byte that closes
pub closes_less : (c : ℕ) (bs : List ℕ) {rest : List ℕ} → Closes c bs rest → length rest < length bs
closes_less c bs e = omega (arith, taken_less c (white bs) e, white_le bs)

number_shorter : (how : How) (bs : List ℕ) {more : List ℕ} {e : Expr} {rest : List ℕ} → Begins bs a_digit more → number how (length more + 1) false (white bs) ≡ Ok (e, rest) → length rest < length bs
number_shorter how bs {more = more} b h =
    let k : length (white bs) ≡ length (b.0 ∷ more) = ap (λ z. length {A = ℕ} z) b.1 in
    omega (arith, k, white_le bs, number_less how (length more + 1) false b.0 more (digit_lead b.0 b.2) (ap (λ z. number how (length more + 1) false z) (sym b.1) ∙ h))

mutual
  pub ranked_less : {names : List (List ℕ)} {d k : ℕ} {how : How} {bs : List ℕ} {e : Expr} {rest : List ℕ} → Ranked names d k how bs e rest → length rest < length bs
  ranked_less (ranked_operand o) = operand_less o
  ranked_less (ranked_chain r l) = omega (arith, ranked_less r, links_less l)

  pub links_less : {names : List (List ℕ)} {d k : ℕ} {how : How} {x : Expr} {bs : List ℕ} {e : Expr} {rest : List ℕ} → Links names d k how x bs e rest → length rest ≤ length bs
  links_less (links_end e) = omega arith
  links_less (links_other e n) = omega arith
  links_less {how = how} {bs = bs} (links_more e n r l) = omega (arith, operator_less how bs e, ranked_less r, links_less l)

  pub operand_less : {names : List (List ℕ)} {d : ℕ} {how : How} {bs : List ℕ} {e : Expr} {rest : List ℕ} → Operand names d how bs e rest → length rest < length bs
  operand_less {bs = bs} (operand_not_sign b r) = omega (arith, begins_less bs _ b, ranked_less r)
  operand_less {bs = bs} (operand_not_word b w r) = omega (arith, white_le bs, whole_less (codes "not") (white bs) w, ranked_less r)
  operand_less {bs = bs} (operand_round {behind = behind} b r c) = omega (arith, begins_less bs _ b, ranked_less r, closes_less 41 behind c)
  operand_less {bs = bs} (operand_empty_list {more = more} b c) = omega (arith, begins_less bs _ b, closes_less 93 more c)
  operand_less {bs = bs} (operand_list {more = more} {behind = behind} b t r u es) = omega (arith, begins_less bs _ b, white_le more, taken_same 93 (white more) t, ranked_less r, white_le behind, taken_same 46 (white behind) u, elements_less es)
  operand_less {bs = bs} (operand_range {more = more} {behind = behind} {dot = dot} {far = far} b t r u v q c) = omega (arith, begins_less bs _ b, white_le more, taken_same 93 (white more) t, ranked_less r, white_le behind, taken_less 46 (white behind) u, taken_less 46 dot v, ranked_less q, closes_less 93 far c)
  operand_less {bs = bs} (operand_empty_map {more = more} b c) = omega (arith, begins_less bs _ b, closes_less 125 more c)
  operand_less {bs = bs} (operand_map {more = more} {behind = behind} {middle = middle} b t r c q ps) = omega (arith, begins_less bs _ b, white_le more, taken_same 125 (white more) t, ranked_less r, closes_less 58 behind c, ranked_less q, white_le middle, members_less ps)
  operand_less {how = how} {bs = bs} (operand_number b n) = number_shorter how bs b n
  operand_less {how = how} {bs = bs} (operand_minus {more = more} b n) = omega (arith, begins_less bs _ b, minus_less how more n)
  operand_less {bs = bs} (operand_text {more = more} b u) = omega (arith, begins_less bs _ b, until_less 39 more u)
  operand_less {bs = bs} (operand_double {more = more} b u p) = omega (arith, begins_less bs _ b, until_less 34 more u)
  operand_less {bs = bs} (operand_boolean b w) = omega (arith, white_le bs, boolean_less (white bs) w)
  operand_less {bs = bs} (operand_reference {more = more} b g r) = omega (arith, begins_less bs _ b, begun_less more g, referred_less r)

  pub elements_less : {names : List (List ℕ)} {d : ℕ} {bs : List ℕ} {es : Exprs} {rest : List ℕ} → Elements names d bs es rest → length rest < length bs
  elements_less {bs = bs} (elements_end t) = taken_less 93 bs t
  elements_less {bs = bs} (elements_more {middle = middle} t r es) = omega (arith, taken_less 44 bs t, ranked_less r, white_le middle, elements_less es)

  pub members_less : {names : List (List ℕ)} {d : ℕ} {bs : List ℕ} {ps : Pairs} {rest : List ℕ} → Members names d bs ps rest → length rest < length bs
  members_less {bs = bs} (members_end t) = taken_less 125 bs t
  members_less {bs = bs} (members_more {behind = behind} {middle = middle} t r c q ps) = omega (arith, taken_less 44 bs t, ranked_less r, closes_less 58 behind c, ranked_less q, white_le middle, members_less ps)

  pub referred_less : {names : List (List ℕ)} {d : ℕ} {dots : Dots} {braced : Bool} {bs : List ℕ} {ss : Steps} {rest : List ℕ} → Referred names d dots braced bs ss rest → length rest ≤ length bs
  referred_less (referred_bare s) = stepped_less s
  referred_less (referred_braced {middle = middle} s t) = omega (arith, stepped_less s, taken_less 125 middle t)

  pub stepped_less : {names : List (List ℕ)} {d : ℕ} {dots : Dots} {bs : List ℕ} {ss : Steps} {rest : List ℕ} → Stepped names d dots bs ss rest → length rest ≤ length bs
  stepped_less (stepped_end f) = omega arith
  stepped_less (stepped_free f) = omega arith
  stepped_less (stepped_range f t) = omega arith
  stepped_less {bs = bs} (stepped_name {x = x} {more = more} f s) = omega (arith, step_less bs (a_name x more) f, stepped_less s)
  stepped_less {bs = bs} (stepped_call {x = x} {more = more} f a c s) = omega (arith, step_less bs (a_call x more) f, white_le more, called_less c, stepped_less s)
  stepped_less {bs = bs} (stepped_index {more = more} {behind = behind} f r c s) = omega (arith, step_less bs (an_index more) f, ranked_less r, closes_less 93 behind c, stepped_less s)

  pub called_less : {names : List (List ℕ)} {d few many : ℕ} {bs : List ℕ} {es : Exprs} {rest : List ℕ} → Called names d few many bs es rest → length rest < length bs
  called_less {bs = bs} (called_none t) = taken_less 41 bs t
  called_less {bs = bs} (called_some {behind = behind} t r a) = omega (arith, taken_same 41 bs t, ranked_less r, white_le behind, arguments_less a)

  pub arguments_less : {names : List (List ℕ)} {d few many : ℕ} {bs : List ℕ} {es : Exprs} {rest : List ℕ} → Arguments names d few many bs es rest → length rest < length bs
  arguments_less {bs = bs} (arguments_end t) = taken_less 41 bs t
  arguments_less {bs = bs} (arguments_more {more = more} {behind = behind} t r a) = omega (arith, taken_less 44 bs t, white_le more, ranked_less r, white_le behind, arguments_less a)
