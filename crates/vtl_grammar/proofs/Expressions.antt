-- Each expression of the grammar is read.
use Rattle.std.proofs.Common.{◌≡◌, ℕ, zero, suc, ◌+◌, ◌-◌, ◌<◌, List, [], ◌∷◌, length, take, drop, refl, sym, ap, ◌∙◌, arith, Bool, false, Ok, codes, length-drop}
use Rattle.vtl_grammar.specs.Tree.{Expr, Exprs, Pairs, Parts, Steps, reference, listed, range, mapped, negated, named, no_steps, step, member, call, index, no_exprs, expr, no_pairs, no_parts, part, bytes, printed}
use Rattle.vtl_grammar.specs.Bytes.{white, name_at, taken, whole_word}
use Rattle.vtl_grammar.specs.Faults.{◌>>=◌, Read, up_to, within, expect, bad}
use Rattle.vtl_grammar.specs.Operators.{How, alone}
use Rattle.vtl_grammar.specs.Numbers.{number, boolean_word}
use Rattle.vtl_grammar.specs.Levels.{Reader}
use Rattle.vtl_grammar.specs.Loops.{first, put_first, more, gather}
use Rattle.vtl_grammar.specs.References.{Dots, free, ranged, a_name, a_call, an_index, Ahead, argument_at, argument_turn, arguments, arguments_in, arguments_from, arguments_after, range_or, step_on, step_turn, steps_at, source}
use Rattle.vtl_grammar.specs.Strings.{piece_on, part_on, part_turn, string_closed}
use Rattle.vtl_grammar.specs.Lists.{element_turn, list_on, list_in, pair_turn, map_in, with_pair, pairs}
use Rattle.vtl_grammar.specs.Expressions.{an_exclamation, an_n, a_dollar, a_minus, a_digit, a_quote, a_double_quote, a_t_or_f, a_round, a_square, a_brace, not_word, dollar, operand, links, reader, inside}
use Rattle.vtl_grammar.specs.Grammar.{Ranked, ranked_operand, ranked_chain, Links, links_end, links_other, links_more, Operand, operand_not_sign, operand_not_word, operand_round, operand_empty_list, operand_list, operand_range, operand_empty_map, operand_map, operand_number, operand_minus, operand_text, operand_double, operand_boolean, operand_reference, Elements, elements_end, elements_more, Members, members_end, members_more, Referred, referred_bare, referred_braced, Stepped, stepped_end, stepped_free, stepped_range, stepped_name, stepped_call, stepped_index, Called, called_none, called_some, Arguments, arguments_end, arguments_more, Pieces, pieces_end, pieces_text, pieces_reference}
use Rattle.vtl_grammar.proofs.Lexical.{white_le, taken_true, taken_false, taken_less, taken_same}
use Rattle.vtl_grammar.proofs.LexicalOperators.{operator_less}
use Rattle.vtl_grammar.proofs.LexicalReferences.{step_less, piece_less, run_some}
use Rattle.vtl_grammar.proofs.Shorter.{closes_less, ranked_less, referred_less, called_less}
use Rattle.vtl_grammar.proofs.Gathered.{gather_last, gather_more, links_none, links_past, links_next, expect_taken, up_to_closed}
use Rattle.vtl_grammar.proofs.Opened.{opened_at, deeper_at, ranked_zero, ranked_suc, operand_led, pair_read, arguments_open, comma_turn, single_some, double_some}

-- how the operands of a chain of this rank are read
abbrev pub below : List (List ℕ) → ℕ → ℕ → How → List ℕ → Read Expr
below names d zero how bs = bad bs
below names d (suc k) how bs = reader names (inside names d) k how bs

mutual
  pub ranked_read : {names : List (List ℕ)} {d k : ℕ} {how : How} {bs : List ℕ} {e : Expr} {rest : List ℕ} → Ranked names d k how bs e rest → reader names (inside names d) k how bs ≡ Ok (e, rest)
  ranked_read {names = names} (ranked_operand {d = d} {how = how} {bs = bs} o) = ranked_zero (operand names (inside names d)) how bs ∙ operand_read o
  ranked_read {names = names} (ranked_chain {d = d} {k = k} {how = how} {bs = bs} {middle = middle} r l) =
      ranked_suc (operand names (inside names d)) k how bs
      ∙ ap (λ z. z >>= λ x. links (reader names (inside names d) k how) how (suc k) (length x.1 + 1) x.0 x.1) (ranked_read r)
      ∙ links_read l (length middle + 1) (omega arith)

  pub links_read : {names : List (List ℕ)} {d k : ℕ} {how : How} {x : Expr} {bs : List ℕ} {e : Expr} {rest : List ℕ} → Links names d k how x bs e rest → (n : ℕ) → length bs < n → links (below names d k how) how k n x bs ≡ Ok (e, rest)
  links_read {names = names} (links_end {d = d} {k = k} {how = how} {x = x} {bs = bs} e) n h = links_none (below names d k how) how k n x bs e (omega (arith, h))
  links_read {names = names} (links_other {d = d} {k = k} {how = how} {x = x} {bs = bs} {more = far} {o = o} e r) n h = links_past (below names d k how) how k n x bs far o e r (omega (arith, h))
  links_read {names = names} (links_more {d = d} {k = k} {how = how} {x = x} {y = y} {e = f} {bs = bs} {more = far} {middle = middle} {rest = rest} {o = o} e q r l) n h =
      links_next (below names d (suc k) how) how (suc k) n x bs far o y middle (Ok (f, rest)) e q (ranked_read r)
      (links_read l (n - 1) (omega (arith, h, operator_less how bs e, ranked_less r))) (omega (arith, h))

  pub operand_read : {names : List (List ℕ)} {d : ℕ} {how : How} {bs : List ℕ} {e : Expr} {rest : List ℕ} → Operand names d how bs e rest → operand names (inside names d) how bs ≡ Ok (e, rest)
  operand_read {names = names} (operand_not_sign {d = d} {how = how} {bs = bs} {more = far} b r) =
      operand_led names (inside names (suc d)) how bs an_exclamation b
      ∙ deeper_at (Expr × List ℕ) names d (length far + 1) (λ r. r 0 how far >>= λ e. Ok (negated e.0, e.1))
      ∙ ap (λ z. z >>= λ e. Ok (negated e.0, e.1)) (ranked_read r)
  operand_read {names = names} (operand_not_word {d = d} {how = how} {bs = bs} {after_n = after_n} {more = far} b w r) =
      operand_led names (inside names (suc d)) how bs an_n b
      ∙ ap (not_word (inside names (suc d)) how (b.0 ∷ after_n)) (ap (λ z. whole_word (codes "not") z) (sym b.1) ∙ w)
      ∙ deeper_at (Expr × List ℕ) names d (length (b.0 ∷ after_n)) (λ r. r 0 how far >>= λ e. Ok (negated e.0, e.1))
      ∙ ap (λ z. z >>= λ e. Ok (negated e.0, e.1)) (ranked_read r)
  operand_read {names = names} (operand_round {d = d} {how = how} {bs = bs} {more = far} {behind = behind} {e = e} b r c) =
      operand_led names (inside names (suc d)) how bs a_round b
      ∙ opened_at (Expr × List ℕ) names d (length far + 1) (λ r. up_to 41 (r 6 alone far))
      ∙ ap (λ z. within (length far + 1) (up_to 41 z)) (ranked_read r)
      ∙ ap (within (length far + 1)) (up_to_closed Expr 41 e behind c)
  operand_read {names = names} (operand_empty_list {d = d} {how = how} {bs = bs} {more = far} b c) =
      operand_led names (inside names (suc d)) how bs a_square b
      ∙ opened_at (Expr × List ℕ) names d (length far + 1) (λ r. list_in r (taken 93 (white far)))
      ∙ ap (λ z. within (length far + 1) (list_in (reader names (inside names d)) z)) c
  operand_read {names = names} (operand_list {d = d} {how = how} {bs = bs} {more = far} {dotless = dotless} {e = e} b t r u es) =
      let R : Reader = reader names (inside names d) in
      operand_led names (inside names (suc d)) how bs a_square b
      ∙ opened_at (Expr × List ℕ) names d (length far + 1) (λ r. list_in r (taken 93 (white far)))
      ∙ ap (λ z. within (length far + 1) (list_in R z)) t
      ∙ ap (λ z. within (length far + 1) (z >>= λ e. list_on R e.0 (taken 46 (white e.1)))) (ranked_read r)
      ∙ ap (λ z. within (length far + 1) (list_on R e z)) u
      ∙ ap (λ z. within (length far + 1) (put_first expr e z >>= λ es. Ok (listed es.0, es.1))) (elements_read es (length dotless + 1) (omega arith))
  operand_read {names = names} (operand_range {d = d} {how = how} {bs = bs} {more = far} {dot = dot} {far = end} {a = x} {b = y} b t r u v q c) =
      let R : Reader = reader names (inside names d) in
      operand_led names (inside names (suc d)) how bs a_square b
      ∙ opened_at (Expr × List ℕ) names d (length far + 1) (λ r. list_in r (taken 93 (white far)))
      ∙ ap (λ z. within (length far + 1) (list_in R z)) t
      ∙ ap (λ z. within (length far + 1) (z >>= λ e. list_on R e.0 (taken 46 (white e.1)))) (ranked_read r)
      ∙ ap (λ z. within (length far + 1) (list_on R x z)) u
      ∙ ap (λ z. within (length far + 1) (z >>= λ rest. (up_to 93 (R 6 alone rest) >>= λ f. Ok (range x f.0, f.1)))) (expect_taken 46 dot v)
      ∙ ap (λ z. within (length far + 1) (up_to 93 z >>= λ f. Ok (range x f.0, f.1))) (ranked_read q)
      ∙ ap (λ z. within (length far + 1) (z >>= λ f. Ok (range x f.0, f.1))) (up_to_closed Expr 93 y end c)
  operand_read {names = names} (operand_empty_map {d = d} {how = how} {bs = bs} {more = far} b c) =
      operand_led names (inside names (suc d)) how bs a_brace b
      ∙ opened_at (Expr × List ℕ) names d (length far + 1) (λ r. map_in r (taken 125 (white far)))
      ∙ ap (λ z. within (length far + 1) (map_in (reader names (inside names d)) z)) c
  operand_read {names = names} (operand_map {d = d} {how = how} {bs = bs} {more = far} {inner = inner} {behind = behind} {value = value} {middle = middle} {k = k} {v = v} b t r c q ps) =
      let R : Reader = reader names (inside names d) in
      operand_led names (inside names (suc d)) how bs a_brace b
      ∙ opened_at (Expr × List ℕ) names d (length far + 1) (λ r. map_in r (taken 125 (white far)))
      ∙ ap (λ z. within (length far + 1) (map_in R z)) t
      ∙ ap (λ z. within (length far + 1) (z >>= λ p. (pairs R p.0 p.1 >>= λ ps. Ok (mapped ps.0, ps.1)))) (pair_read R inner k behind value v middle (ranked_read r) c (ranked_read q))
      ∙ ap (λ z. within (length far + 1) (put_first with_pair (k, v) z >>= λ ps. Ok (mapped ps.0, ps.1))) (members_read ps (length (white middle) + 1) (omega arith))
  operand_read {names = names} (operand_number {d = d} {how = how} {bs = bs} {more = far} b n) =
      operand_led names (inside names d) how bs a_digit b
      ∙ ap (number how (length far + 1) false) (sym b.1)
      ∙ n
  operand_read {names = names} (operand_minus {d = d} {how = how} {bs = bs} b n) = operand_led names (inside names d) how bs a_minus b ∙ n
  operand_read {names = names} (operand_text {d = d} {how = how} {bs = bs} {more = far} {held = held} {rest = rest} b u) =
      operand_led names (inside names d) how bs a_quote b ∙ single_some far held rest u
  operand_read {names = names} (operand_double {d = d} {how = how} {bs = bs} {more = far} {held = held} {rest = rest} b u p) =
      operand_led names (inside names d) how bs a_double_quote b
      ∙ double_some names (inside names d) far held rest u
      ∙ ap (string_closed rest) (pieces_read p (length held + 1) (omega arith))
  operand_read {names = names} (operand_boolean {d = d} {how = how} {bs = bs} b w) =
      operand_led names (inside names d) how bs a_t_or_f b
      ∙ ap (λ z. boolean_word z (name_at z)) (sym b.1)
      ∙ w
  operand_read {names = names} (operand_reference {d = d} {how = how} {bs = bs} {more = far} {x = x} b g r) =
      operand_led names (inside names d) how bs a_dollar b
      ∙ ap (dollar (inside names d) how far) g
      ∙ ap (λ z. z >>= λ ss. Ok (reference (named x) ss.0, ss.1)) (referred_read r (length far + 1))

  pub elements_read : {names : List (List ℕ)} {d : ℕ} {bs : List ℕ} {es : Exprs} {rest : List ℕ} → Elements names d bs es rest → (n : ℕ) → length bs < n → gather (first expr) (element_turn (reader names (inside names d))) n bs ≡ Ok (es, rest)
  elements_read {names = names} (elements_end {d = d} {bs = bs} {rest = rest} t) n h =
      let R : Reader = reader names (inside names d) in
      gather_last (first expr) (element_turn R) n bs (no_exprs, rest) (ap (element_turn R) (taken_true 93 bs t)) (omega (arith, h))
  elements_read {names = names} (elements_more {d = d} {bs = bs} {middle = middle} {rest = rest} {e = e} {es = es} t r q) n h =
      let R : Reader = reader names (inside names d) in
      gather_more (first expr) (element_turn R) n bs e (white middle) (es, rest)
      (ap (element_turn R) (taken_true 44 bs t) ∙ ap (λ z. z >>= λ e. Ok (more e.0 (white e.1))) (ranked_read r))
      (elements_read q (n - 1) (omega (arith, h, taken_less 44 bs t, ranked_less r, white_le middle)))
      (omega (arith, h))

  pub members_read : {names : List (List ℕ)} {d : ℕ} {bs : List ℕ} {ps : Pairs} {rest : List ℕ} → Members names d bs ps rest → (n : ℕ) → length bs < n → gather (first with_pair) (pair_turn (reader names (inside names d))) n bs ≡ Ok (ps, rest)
  members_read {names = names} (members_end {d = d} {bs = bs} {rest = rest} t) n h =
      let R : Reader = reader names (inside names d) in
      gather_last (first with_pair) (pair_turn R) n bs (no_pairs, rest) (ap (pair_turn R) (taken_true 125 bs t)) (omega (arith, h))
  members_read {names = names} (members_more {d = d} {bs = bs} {more = far} {behind = behind} {value = value} {middle = middle} {rest = rest} {k = k} {v = v} {ps = ps} t r c q s) n h =
      let R : Reader = reader names (inside names d) in
      gather_more (first with_pair) (pair_turn R) n bs (k, v) (white middle) (ps, rest)
      (ap (pair_turn R) (taken_true 44 bs t) ∙ ap (λ z. z >>= λ p. Ok (more p.0 p.1)) (pair_read R far k behind value v middle (ranked_read r) c (ranked_read q)))
      (members_read s (n - 1) (omega (arith, h, taken_less 44 bs t, ranked_less r, closes_less 58 behind c, ranked_less q, white_le middle)))
      (omega (arith, h))

  pub referred_read : {names : List (List ℕ)} {d : ℕ} {dots : Dots} {braced : Bool} {bs : List ℕ} {ss : Steps} {rest : List ℕ} → Referred names d dots braced bs ss rest → (at : ℕ) → steps_at (inside names d) dots braced at bs ≡ Ok (ss, rest)
  referred_read (referred_bare {bs = bs} s) at = stepped_read s (length bs + 1) (omega arith)
  referred_read (referred_braced {bs = bs} {middle = middle} {ss = ss} s t) at =
      ap (λ z. within at (z >>= λ ss. (expect 125 ss.1 >>= λ rest. Ok (ss.0, rest)))) (stepped_read s (length bs + 1) (omega arith))
      ∙ ap (λ z. within at (z >>= λ rest. Ok (ss, rest))) (expect_taken 125 middle t)

  pub stepped_read : {names : List (List ℕ)} {d : ℕ} {dots : Dots} {bs : List ℕ} {ss : Steps} {rest : List ℕ} → Stepped names d dots bs ss rest → (n : ℕ) → length bs < n → gather (first step) (step_turn (inside names d) dots) n bs ≡ Ok (ss, rest)
  stepped_read {names = names} (stepped_end {d = d} {dots = dots} {bs = bs} f) n h =
      gather_last (first step) (step_turn (inside names d) dots) n bs (no_steps, bs) (ap (step_on (inside names d) dots bs) f) (omega (arith, h))
  stepped_read {names = names} (stepped_free {d = d} {bs = bs} f) n h =
      gather_last (first step) (step_turn (inside names d) free) n bs (no_steps, bs) (ap (step_on (inside names d) free bs) f) (omega (arith, h))
  stepped_read {names = names} (stepped_range {d = d} {bs = bs} {more = far} f t) n h =
      gather_last (first step) (step_turn (inside names d) ranged) n bs (no_steps, bs) (ap (step_on (inside names d) ranged bs) f ∙ ap (range_or bs) (taken_true 46 far t)) (omega (arith, h))
  stepped_read {names = names} (stepped_name {d = d} {dots = dots} {bs = bs} {x = x} {more = far} {rest = rest} {ss = ss} f s) n h =
      gather_more (first step) (step_turn (inside names d) dots) n bs (member x) far (ss, rest)
      (ap (step_on (inside names d) dots bs) f)
      (stepped_read s (n - 1) (omega (arith, h, step_less bs (a_name x far) f)))
      (omega (arith, h))
  stepped_read {names = names} (stepped_call {d = d} {few = few} {many = many} {dots = dots} {bs = bs} {x = x} {more = far} {middle = middle} {rest = rest} {es = es} {ss = ss} f a c s) n h =
      let inner = inside names (suc d) in
      gather_more (first step) (step_turn inner dots) n bs (call x es) middle (ss, rest)
      (ap (step_on inner dots bs) f
      ∙ ap (λ z. arguments inner (length x + length far + 1) z far >>= λ es. Ok (more (call x es.0) es.1)) a
      ∙ ap (λ z. z >>= λ es. Ok (more (call x es.0) es.1)) (opened_at (Exprs × List ℕ) names d (length far + 1) (λ r. arguments_in r (length x + length far + 1) few many (white far)))
      ∙ ap (λ z. within (length far + 1) z >>= λ es. Ok (more (call x es.0) es.1)) (called_read c (length x + length far + 1)))
      (stepped_read s (n - 1) (omega (arith, h, step_less bs (a_call x far) f, white_le far, called_less c)))
      (omega (arith, h))
  stepped_read {names = names} (stepped_index {d = d} {dots = dots} {bs = bs} {more = far} {behind = behind} {middle = middle} {rest = rest} {e = e} {ss = ss} f r c s) n h =
      let inner = inside names (suc d) in
      gather_more (first step) (step_turn inner dots) n bs (index e) middle (ss, rest)
      (ap (step_on inner dots bs) f
      ∙ ap (λ z. z >>= λ e. Ok (more (index e.0) e.1)) (opened_at (Expr × List ℕ) names d (length far + 1) (λ r. up_to 93 (r 6 alone far)))
      ∙ ap (λ z. within (length far + 1) (up_to 93 z) >>= λ e. Ok (more (index e.0) e.1)) (ranked_read r)
      ∙ ap (λ z. within (length far + 1) z >>= λ e. Ok (more (index e.0) e.1)) (up_to_closed Expr 93 e behind c))
      (stepped_read s (n - 1) (omega (arith, h, step_less bs (an_index far) f, ranked_less r, closes_less 93 behind c)))
      (omega (arith, h))

  pub called_read : {names : List (List ℕ)} {d few many : ℕ} {bs : List ℕ} {es : Exprs} {rest : List ℕ} → Called names d few many bs es rest → (at : ℕ) → arguments_in (reader names (inside names d)) at few many bs ≡ Ok (es, rest)
  called_read {names = names} (called_none {d = d} {many = many} {bs = bs} t) at = ap (arguments_in (reader names (inside names d)) at 0 many) (taken_true 41 bs t)
  called_read {names = names} (called_some {d = d} {few = few} {many = many} {bs = bs} {inner = inner} {behind = behind} {e = e} t r a) at =
      let R : Reader = reader names (inside names d) in
      arguments_open R at few (suc many) bs inner t (omega (arith, ranked_less r, taken_same 41 bs t))
      ∙ ap (arguments_from R at few (suc many)) (taken_false 41 bs t)
      ∙ ap (λ z. z >>= λ e. arguments_after R at (few - 1) many e.0 (white e.1)) (ranked_read r)
      ∙ ap (put_first expr e) (arguments_read a at (many + 1) (omega arith))

  pub arguments_read : {names : List (List ℕ)} {d few many : ℕ} {bs : List ℕ} {es : Exprs} {rest : List ℕ} → Arguments names d few many bs es rest → (at n : ℕ) → many < n → gather (first expr) (argument_turn (reader names (inside names d)) at) n (record { few = few; many = many; rest = bs }) ≡ Ok (es, rest)
  arguments_read {names = names} (arguments_end {d = d} {many = many} {bs = bs} {rest = rest} t) at n h =
      let R : Reader = reader names (inside names d) in
      let s : Ahead = record { few = 0; many = many; rest = bs } in
      gather_last (first expr) (argument_turn R at) n s (no_exprs, rest) (ap (argument_at R at 0 many) (taken_true 41 bs t)) (omega (arith, h))
  arguments_read {names = names} (arguments_more {d = d} {few = few} {many = many} {bs = bs} {more = far} {behind = behind} {rest = rest} {e = e} {es = es} t r a) at n h =
      let R : Reader = reader names (inside names d) in
      let s : Ahead = record { few = few; many = suc many; rest = bs } in
      let u : Ahead = record { few = few - 1; many = many; rest = white behind } in
      let on : Expr × List ℕ → Ahead = λ e. record { few = few - 1; many = many; rest = white e.1 } in
      gather_more (first expr) (argument_turn R at) n s e u (es, rest)
      (ap (argument_at R at few (suc many)) (taken_true 44 bs t) ∙ comma_turn R at few many far ∙ ap (λ z. z >>= λ e. Ok (more e.0 (on e))) (ranked_read r))
      (arguments_read a at (n - 1) (omega (arith, h)))
      (omega (arith, h))

  pub pieces_read : {names : List (List ℕ)} {d : ℕ} {bs : List ℕ} {ps : Parts} → Pieces names d bs ps → (n : ℕ) → length bs < n → gather (first part) (part_turn names (inside names d)) n bs ≡ Ok (ps, [])
  pieces_read {names = names} (pieces_end {d = d}) n h = gather_last (first part) (part_turn names (inside names d)) n [] (no_parts, []) refl (omega (arith, h))
  pieces_read {names = names} (pieces_text {d = d} {n = m} {bs = bs} {ps = ps} e p) n h =
      gather_more (first part) (part_turn names (inside names d)) n bs (bytes (take (suc m) bs)) (drop (suc m) bs) (ps, [])
      (ap (λ z. part_on names (inside names d) z bs) e)
      (pieces_read p (n - 1) (omega (arith, h, length-drop (suc m) bs, run_some names bs m e)))
      (omega (arith, h))
  pieces_read {names = names} (pieces_reference {d = d} {bs = bs} {x = x} {rest = rest} {quiet = quiet} {ss = ss} {ps = ps} e f r p) n h =
      gather_more (first part) (part_turn names (inside names d)) n bs (printed (source quiet bs rest) (named x) ss) rest (ps, [])
      (ap (λ z. part_on names (inside names d) z bs) e
      ∙ ap (piece_on (inside names d) bs) f
      ∙ ap (λ z. z >>= λ ss. Ok (more (printed (source quiet bs ss.1) (named x) ss.0) ss.1)) (referred_read r (length bs)))
      (pieces_read p (n - 1) (omega (arith, h, piece_less names bs f, referred_less r)))
      (omega (arith, h))
