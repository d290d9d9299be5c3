-- Which texts are templates of which trees, by cases on what stands at the front. Lexical words are cited as equations.
use Rattle.std.specs.Prelude.{◌≡◌, ◌≢◌, ℕ, suc, ◌+◌, ◌-◌, ◌≤◌, Bool, true, false, List, [], ◌∷◌, ◌++◌, codes, length, take, drop, Some, None, Ok}
use Rattle.vtl_grammar.specs.Tree.{Operator, Expr, Exprs, Pairs, Parts, Steps, reference, string, joined, listed, range, mapped, binary, negated, named, no_steps, step, member, call, index, no_exprs, expr, no_pairs, pair, no_parts, part, bytes, printed, Target, Item, Items, Branches, comment, output, set, choose, foreach, break_, stop, define, macro_call, no_items, otherwise, branch}
use Rattle.vtl_grammar.specs.Bytes.{white, taken, name_at, until_byte, whole_word}
use Rattle.vtl_grammar.specs.Methods.{arity}
use Rattle.vtl_grammar.specs.Operators.{How, alone, ranging, argument, operator, rank}
use Rattle.vtl_grammar.specs.Numbers.{number, minus_number, boolean_word}
use Rattle.vtl_grammar.specs.References.{a_reference, begun, Dots, free, ranged, dots_in, dots_out, a_name, a_call, an_index, a_dot, no_step, step_front, source}
use Rattle.vtl_grammar.specs.Strings.{piece_reference, piece_of, run_len}
use Rattle.vtl_grammar.specs.Expressions.{Lead, an_exclamation, an_n, a_dollar, a_minus, a_digit, a_quote, a_double_quote, a_t_or_f, a_round, a_square, a_brace, lead_of}
use Rattle.vtl_grammar.specs.Words as word
use Rattle.vtl_grammar.specs.Words.{Word}
use Rattle.vtl_grammar.specs.Lines.{Spot, cut, lines}
use Rattle.vtl_grammar.specs.Fronts.{Front, finish, line_comment, long_comment, directive, front_at, text_run}
use Rattle.vtl_grammar.specs.Fronts as front
use Rattle.vtl_grammar.specs.Directives.{a_close, a_comma, a_space, between_of, bracket, form, form_name, is_apart, target, loop_variable, macro_in}
use Rattle.vtl_grammar.specs.Macros.{macro_names}
use Rattle.vtl_grammar.specs.Calls.{macros_in, wrong_calls}
use Rattle.vtl_grammar.specs.Templates.{limit, outermost}
use Rattle.vtl_grammar.specs.Items.{at_top, in_branch, in_body, Around, Stop, Finish, Else, ElseIf, End, with_items, text_item, branch_around, else_around, loop_around, macro_around, with_macro}

-- what stands at the front after white space
abbrev pub Begins : List ℕ → Lead → List ℕ → Type 0
Begins bs l more = (b : ℕ) × (white bs ≡ b ∷ more) × (lead_of b ≡ l)

-- white space, and then this byte
abbrev pub Closes : ℕ → List ℕ → List ℕ → Type 0
Closes c bs rest = taken c (white bs) ≡ (true, rest)

module _ (names : List (List ℕ)) where
  -- expressions, inside which so many levels may open
  mutual
    -- an expression of this rank at the front of a text, and what follows it
    pub data Ranked : ℕ → ℕ → How → List ℕ → Expr → List ℕ → Type 0 where
      ranked_operand : {d : ℕ} {how : How} {bs rest : List ℕ} {e : Expr} → Operand d how bs e rest → Ranked d 0 how bs e rest
      ranked_chain : {d k : ℕ} {how : How} {bs middle rest : List ℕ} {x e : Expr} → Ranked d k how bs x middle → Links d (suc k) how x middle e rest → Ranked d (suc k) how bs e rest

    -- the operators of this rank behind an operand
    pub data Links : ℕ → ℕ → How → Expr → List ℕ → Expr → List ℕ → Type 0 where
      links_end : {d k : ℕ} {how : How} {x : Expr} {bs : List ℕ} → operator how bs ≡ Ok None → Links d k how x bs x bs
      links_other : {d k : ℕ} {how : How} {x : Expr} {bs more : List ℕ} {o : Operator} → operator how bs ≡ Ok (Some (o, more)) → rank o ≢ k → Links d k how x bs x bs
      links_more : {d k : ℕ} {how : How} {x y e : Expr} {bs more middle rest : List ℕ} {o : Operator} → operator how bs ≡ Ok (Some (o, more)) → rank o ≡ suc k → Ranked d k how more y middle → Links d (suc k) how (binary o x y) middle e rest → Links d (suc k) how x bs e rest

    pub data Operand : ℕ → How → List ℕ → Expr → List ℕ → Type 0 where
      operand_not_sign : {d : ℕ} {how : How} {bs more rest : List ℕ} {e : Expr} → Begins bs an_exclamation more → Ranked d 0 how more e rest → Operand (suc d) how bs (negated e) rest
      operand_not_word : {d : ℕ} {how : How} {bs after_n more rest : List ℕ} {e : Expr} → Begins bs an_n after_n → whole_word (codes "not") (white bs) ≡ Some more → Ranked d 0 how more e rest → Operand (suc d) how bs (negated e) rest
      operand_round : {d : ℕ} {how : How} {bs more behind rest : List ℕ} {e : Expr} → Begins bs a_round more → Ranked d 6 alone more e behind → Closes 41 behind rest → Operand (suc d) how bs e rest
      operand_empty_list : {d : ℕ} {how : How} {bs more rest : List ℕ} → Begins bs a_square more → Closes 93 more rest → Operand (suc d) how bs (listed no_exprs) rest
      operand_list : {d : ℕ} {how : How} {bs more inner behind dotless rest : List ℕ} {e : Expr} {es : Exprs} → Begins bs a_square more → taken 93 (white more) ≡ (false, inner) → Ranked d 6 ranging inner e behind → taken 46 (white behind) ≡ (false, dotless) → Elements d dotless es rest → Operand (suc d) how bs (listed (expr e es)) rest
      operand_range : {d : ℕ} {how : How} {bs more inner behind dot middle far rest : List ℕ} {a b : Expr} → Begins bs a_square more → taken 93 (white more) ≡ (false, inner) → Ranked d 6 ranging inner a behind → taken 46 (white behind) ≡ (true, dot) → taken 46 dot ≡ (true, middle) → Ranked d 6 alone middle b far → Closes 93 far rest → Operand (suc d) how bs (range a b) rest
      operand_empty_map : {d : ℕ} {how : How} {bs more rest : List ℕ} → Begins bs a_brace more → Closes 125 more rest → Operand (suc d) how bs (mapped no_pairs) rest
      operand_map : {d : ℕ} {how : How} {bs more inner behind value middle rest : List ℕ} {k v : Expr} {ps : Pairs} → Begins bs a_brace more → taken 125 (white more) ≡ (false, inner) → Ranked d 6 alone inner k behind → Closes 58 behind value → Ranked d 6 alone value v middle → Members d (white middle) ps rest → Operand (suc d) how bs (mapped (pair k v ps)) rest
      operand_number : {d : ℕ} {how : How} {bs more rest : List ℕ} {e : Expr} → Begins bs a_digit more → number how (length more + 1) false (white bs) ≡ Ok (e, rest) → Operand d how bs e rest
      operand_minus : {d : ℕ} {how : How} {bs more rest : List ℕ} {e : Expr} → Begins bs a_minus more → minus_number how more ≡ Ok (e, rest) → Operand d how bs e rest
      operand_text : {d : ℕ} {how : How} {bs more held rest : List ℕ} → Begins bs a_quote more → until_byte 39 more ≡ Some (held, rest) → Operand d how bs (string held) rest
      operand_double : {d : ℕ} {how : How} {bs more held rest : List ℕ} {ps : Parts} → Begins bs a_double_quote more → until_byte 34 more ≡ Some (held, rest) → Pieces d held ps → Operand d how bs (joined ps) rest
      operand_boolean : {d : ℕ} {how : How} {bs more rest : List ℕ} {e : Expr} → Begins bs a_t_or_f more → boolean_word (white bs) (name_at (white bs)) ≡ Ok (e, rest) → Operand d how bs e rest
      operand_reference : {d : ℕ} {how : How} {bs more x behind rest : List ℕ} {quiet braced : Bool} {ss : Steps} → Begins bs a_dollar more → begun more ≡ a_reference quiet braced x behind → Referred d (dots_in how braced) braced behind ss rest → Operand d how bs (reference (named x) ss) rest

    -- the further elements of a list, with its closing bracket
    pub data Elements : ℕ → List ℕ → Exprs → List ℕ → Type 0 where
      elements_end : {d : ℕ} {bs rest : List ℕ} → taken 93 bs ≡ (true, rest) → Elements d bs no_exprs rest
      elements_more : {d : ℕ} {bs more middle rest : List ℕ} {e : Expr} {es : Exprs} → taken 44 bs ≡ (true, more) → Ranked d 6 alone more e middle → Elements d (white middle) es rest → Elements d bs (expr e es) rest

    -- the further pairs of a map, with its closing brace
    pub data Members : ℕ → List ℕ → Pairs → List ℕ → Type 0 where
      members_end : {d : ℕ} {bs rest : List ℕ} → taken 125 bs ≡ (true, rest) → Members d bs no_pairs rest
      members_more : {d : ℕ} {bs more behind value middle rest : List ℕ} {k v : Expr} {ps : Pairs} → taken 44 bs ≡ (true, more) → Ranked d 6 alone more k behind → Closes 58 behind value → Ranked d 6 alone value v middle → Members d (white middle) ps rest → Members d bs (pair k v ps) rest

    -- the steps of a reference behind its name, with its closing brace
    pub data Referred : ℕ → Dots → Bool → List ℕ → Steps → List ℕ → Type 0 where
      referred_bare : {d : ℕ} {dots : Dots} {bs rest : List ℕ} {ss : Steps} → Stepped d dots bs ss rest → Referred d dots false bs ss rest
      referred_braced : {d : ℕ} {dots : Dots} {bs middle rest : List ℕ} {ss : Steps} → Stepped d dots bs ss middle → taken 125 middle ≡ (true, rest) → Referred d dots true bs ss rest

    pub data Stepped : ℕ → Dots → List ℕ → Steps → List ℕ → Type 0 where
      stepped_end : {d : ℕ} {dots : Dots} {bs : List ℕ} → step_front bs ≡ no_step → Stepped d dots bs no_steps bs
      stepped_free : {d : ℕ} {bs more : List ℕ} → step_front bs ≡ a_dot more → Stepped d free bs no_steps bs
      stepped_range : {d : ℕ} {bs more rest : List ℕ} → step_front bs ≡ a_dot more → taken 46 more ≡ (true, rest) → Stepped d ranged bs no_steps bs
      stepped_name : {d : ℕ} {dots : Dots} {bs x more rest : List ℕ} {ss : Steps} → step_front bs ≡ a_name x more → Stepped d dots more ss rest → Stepped d dots bs (step (member x) ss) rest
      stepped_call : {d few many : ℕ} {dots : Dots} {bs x more middle rest : List ℕ} {es : Exprs} {ss : Steps} → step_front bs ≡ a_call x more → arity x ≡ Some (few, many) → Called d few many (white more) es middle → Stepped (suc d) dots middle ss rest → Stepped (suc d) dots bs (step (call x es) ss) rest
      stepped_index : {d : ℕ} {dots : Dots} {bs more behind middle rest : List ℕ} {e : Expr} {ss : Steps} → step_front bs ≡ an_index more → Ranked d 6 alone more e behind → Closes 93 behind middle → Stepped (suc d) dots middle ss rest → Stepped (suc d) dots bs (step (index e) ss) rest

    -- a method's arguments, of which so few are needed and so many may come, with the closing bracket
    pub data Called : ℕ → ℕ → ℕ → List ℕ → Exprs → List ℕ → Type 0 where
      called_none : {d many : ℕ} {bs rest : List ℕ} → taken 41 bs ≡ (true, rest) → Called d 0 many bs no_exprs rest
      called_some : {d few many : ℕ} {bs inner behind rest : List ℕ} {e : Expr} {es : Exprs} → taken 41 bs ≡ (false, inner) → Ranked d 6 alone inner e behind → Arguments d (few - 1) many (white behind) es rest → Called d few (suc many) bs (expr e es) rest

    -- the further arguments
    pub data Arguments : ℕ → ℕ → ℕ → List ℕ → Exprs → List ℕ → Type 0 where
      arguments_end : {d many : ℕ} {bs rest : List ℕ} → taken 41 bs ≡ (true, rest) → Arguments d 0 many bs no_exprs rest
      arguments_more : {d few many : ℕ} {bs more behind rest : List ℕ} {e : Expr} {es : Exprs} → taken 44 bs ≡ (true, more) → Ranked d 6 alone (white more) e behind → Arguments d (few - 1) many (white behind) es rest → Arguments d few (suc many) bs (expr e es) rest

    -- the parts of a double-quoted string's inside: text as far as it goes, then a reference
    pub data Pieces : ℕ → List ℕ → Parts → Type 0 where
      pieces_end : {d : ℕ} → Pieces d [] no_parts
      pieces_text : {d n : ℕ} {bs : List ℕ} {ps : Parts} → run_len names bs ≡ suc n → Pieces d (drop (suc n) bs) ps → Pieces d bs (part (bytes (take (suc n) bs)) ps)
      pieces_reference : {d : ℕ} {bs x behind rest : List ℕ} {quiet braced : Bool} {ss : Steps} {ps : Parts} → run_len names bs ≡ 0 → piece_of names bs ≡ piece_reference quiet braced x behind → Referred d (dots_out braced) braced behind ss rest → Pieces d rest ps → Pieces d bs (part (printed (source quiet bs rest) (named x) ss) ps)

  -- a whole expression in brackets of a directive, with the closing bracket
  pub record Enclosed (d : ℕ) (bs : List ℕ) (e : Expr) (rest : List ℕ) : Type 0 where
    pub behind : List ℕ
    pub ranked : Ranked d 6 alone bs e behind
    pub closes : Closes 41 behind rest

  -- the further arguments of a macro's call, with the closing bracket
  pub data Further : ℕ → List ℕ → Exprs → List ℕ → Type 0 where
    further_end : {d : ℕ} {bs rest : List ℕ} → between_of (is_apart bs) (white bs) ≡ a_close rest → Further d bs no_exprs rest
    further_comma : {d : ℕ} {bs more inner middle rest : List ℕ} {e : Expr} {es : Exprs} → between_of (is_apart bs) (white bs) ≡ a_comma more → taken 41 (white more) ≡ (false, inner) → Ranked d 6 argument (white more) e middle → Further d middle es rest → Further d bs (expr e es) rest
    further_space : {d : ℕ} {bs middle rest : List ℕ} {e : Expr} {es : Exprs} → between_of (is_apart bs) (white bs) ≡ a_space → Ranked d 6 argument (white bs) e middle → Further d middle es rest → Further d bs (expr e es) rest

  -- the arguments of a macro's call behind its bracket and white space
  pub data CallGiven : ℕ → List ℕ → Exprs → List ℕ → Type 0 where
    given_none : {d : ℕ} {bs rest : List ℕ} → taken 41 bs ≡ (true, rest) → CallGiven d bs no_exprs rest
    given_some : {d : ℕ} {bs inner middle rest : List ℕ} {e : Expr} {es : Exprs} → taken 41 bs ≡ (false, inner) → Ranked d 6 argument inner e middle → Further d middle es rest → CallGiven d bs (expr e es) rest

  -- the text at the front of this place, and the place behind it
  abbrev pub Texts : Spot → List ℕ → Spot → Type 0
  Texts s x t = text_run names (length s.1 + 1) [] s.0 s.1 ≡ (x, t)

  mutual
    -- a run of items around which this stands, inside which so many levels may open; and what ends it
    pub data Run : ℕ → Around → Spot → Items → Stop → Type 0 where
      run_end : {d : ℕ} {a : Around} {s t : Spot} {x y : List ℕ} {e : Stop} → Texts s x t → Ending d a x t y e → Run d a s (with_items (text_item y) no_items) e
      run_item : {d : ℕ} {a b : Around} {s t u : Spot} {x y : List ℕ} {i : Item} {is : Items} {e : Stop} → Texts s x t → Reads d a x t y i b u → Run d b u is e → Run d a s (with_items (text_item y ++ i ∷ []) is) e

    -- what ends a run at this place, behind the text x; and the text that is left of it
    pub data Ending : ℕ → Around → List ℕ → Spot → List ℕ → Stop → Type 0 where
      ending_finish : {d : ℕ} {a : Around} {x : List ℕ} {t : Spot} {xs : List (List ℕ)} → front_at names t.1 ≡ finish → a.place ≡ at_top xs → Ending d a x t x Finish
      ending_else : {d : ℕ} {a : Around} {x y rest : List ℕ} {t u : Spot} → front_at names t.1 ≡ directive word.Else rest → a.place ≡ in_branch → lines t.0 x rest ≡ (y, u) → Ending d a x t y (Else u)
      ending_elseif : {d : ℕ} {a : Around} {x y rest inner behind : List ℕ} {t u : Spot} {e : Expr} → front_at names t.1 ≡ directive word.ElseIf rest → a.place ≡ in_branch → bracket (length t.1) rest ≡ Ok inner → Enclosed d inner e behind → lines t.0 x behind ≡ (y, u) → Ending d a x t y (ElseIf e u)
      ending_branch : {d : ℕ} {a : Around} {x y rest : List ℕ} {t u : Spot} → front_at names t.1 ≡ directive word.End rest → a.place ≡ in_branch → lines t.0 x rest ≡ (y, u) → Ending d a x t y (End u)
      ending_body : {d : ℕ} {a : Around} {x y rest : List ℕ} {t u : Spot} → front_at names t.1 ≡ directive word.End rest → a.place ≡ in_body → lines t.0 x rest ≡ (y, u) → Ending d a x t y (End u)

    -- an item at this place, behind the text x; the text that is left before it; what stands around the items behind it, and their place
    pub data Reads : ℕ → Around → List ℕ → Spot → List ℕ → Item → Around → Spot → Type 0 where
      reads_output : {d : ℕ} {a : Around} {x name behind rest : List ℕ} {t : Spot} {quiet braced : Bool} {ss : Steps} → front_at names t.1 ≡ front.reference quiet braced name behind → Referred d (dots_out braced) braced behind ss rest → Reads d a x t x (output (source quiet t.1 rest) (named name) ss) a (None, rest)
      reads_line_comment : {d : ℕ} {a : Around} {x rest : List ℕ} {t : Spot} → front_at names t.1 ≡ line_comment rest → Reads d a x t (cut t.0 x) comment a (Some 0, rest)
      reads_comment : {d : ℕ} {a : Around} {x rest : List ℕ} {t : Spot} → front_at names t.1 ≡ long_comment rest → Reads d a x t x comment a (None, rest)
      reads_break : {d : ℕ} {a : Around} {x y rest : List ℕ} {t u : Spot} → front_at names t.1 ≡ directive word.Break rest → a.loop ≡ true → lines t.0 x rest ≡ (y, u) → Reads d a x t y break_ a u
      reads_stop : {d : ℕ} {a : Around} {x y rest : List ℕ} {t u : Spot} → front_at names t.1 ≡ directive word.Stop rest → lines t.0 x rest ≡ (y, u) → Reads d a x t y stop a u
      reads_set : {d : ℕ} {a : Around} {x y rest inner left behind value far : List ℕ} {t u : Spot} {w : Target} {e : Expr} → front_at names t.1 ≡ directive word.Set rest → bracket (length t.1) rest ≡ Ok inner → form (length t.1) 36 (white inner) ≡ Ok left → target (length t.1) a.params (taken 123 left) ≡ Ok (w, behind) → form (length t.1) 61 (white behind) ≡ Ok value → Enclosed d value e far → lines t.0 x far ≡ (y, u) → Reads d a x t y (set w e) a u
      reads_if : {d : ℕ} {a : Around} {x y rest inner far : List ℕ} {t s u : Spot} {e : Expr} {bs : Branches} → front_at names t.1 ≡ directive word.If rest → bracket (length t.1) rest ≡ Ok inner → Enclosed (suc d) inner e far → lines t.0 x far ≡ (y, s) → Branched d (branch_around a) e s bs u → Reads (suc d) a x t y (choose bs) a u
      reads_foreach : {d : ℕ} {a : Around} {x y rest inner left v behind list far : List ℕ} {t s u : Spot} {e : Expr} {is : Items} → front_at names t.1 ≡ directive word.ForEach rest → bracket (length t.1) rest ≡ Ok inner → form (length t.1) 36 (white inner) ≡ Ok left → form_name (length t.1) left ≡ Ok (v, behind) → loop_variable (length t.1) a.params v behind ≡ Ok list → Enclosed (suc d) list e far → lines t.0 x far ≡ (y, s) → Run d (loop_around a) s is (End u) → Reads (suc d) a x t y (foreach v e is) a u
      reads_macro : {d : ℕ} {a : Around} {x y rest inner m far : List ℕ} {xs ps : List (List ℕ)} {t s u : Spot} {is : Items} → front_at names t.1 ≡ directive word.Define rest → a.place ≡ at_top xs → bracket (length t.1) rest ≡ Ok inner → macro_in (length t.1) xs inner ≡ Ok ((m, ps), far) → lines t.0 x far ≡ (y, s) → Run d (macro_around ps) s is (End u) → Reads (suc d) a x t y (define m ps is) (with_macro xs m a) u
      reads_call : {d : ℕ} {a : Around} {x m rest inner far : List ℕ} {t : Spot} {es : Exprs} → front_at names t.1 ≡ directive (word.Macro m) rest → bracket (length t.1) rest ≡ Ok inner → CallGiven d (white inner) es far → Reads (suc d) a x t x (macro_call (length t.1) m es) a (None, far)

    -- the branches of an `#if` from this condition on, and the place behind its `#end`
    pub data Branched : ℕ → Around → Expr → Spot → Branches → Spot → Type 0 where
      branched_end : {d : ℕ} {a : Around} {e : Expr} {s u : Spot} {is : Items} → Run d a s is (End u) → Branched d a e s (branch e is (otherwise no_items)) u
      branched_else : {d : ℕ} {a : Around} {e : Expr} {s t u : Spot} {is os : Items} → Run d a s is (Else t) → Run d (else_around a) t os (End u) → Branched d a e s (branch e is (otherwise os)) u
      branched_more : {d : ℕ} {a : Around} {e f : Expr} {s t u : Spot} {is : Items} {bs : Branches} → Run d a s is (ElseIf f t) → Branched d a f t bs u → Branched d a e s (branch e is bs) u

-- The text is a template of this tree: it has at most 307,200 bytes, it is a run of these items, inside which 64 levels may open and whose macros' names are those that the scan finds, and each call is of a macro with as many parameters as it has arguments.
pub record IsTemplate (bs : List ℕ) (is : Items) : Type 0 where
  pub small : length bs ≤ limit
  pub run : Run (macro_names bs) 64 outermost (Some 0, bs) is Finish
  pub calls : wrong_calls (macros_in is) is ≡ None
