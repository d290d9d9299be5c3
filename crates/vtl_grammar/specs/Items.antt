-- Items, one after another, and the blocks of directives.
use Rattle.std.specs.Prelude.{ℕ, zero, suc, ◌+◌, Bool, true, false, List, [], ◌∷◌, ◌++◌, length, Option, Some, None, Result, Ok, Err}
use Rattle.vtl_grammar.specs.declared.fault.Fault.{Fault}
use Rattle.vtl_grammar.specs.declared.fault.Fault.TheVariants.{Unclosed, BadDirective, Escape, TooDeep}
use Rattle.vtl_grammar.specs.Tree.{Expr, named, Item, Items, Branches, text, comment, output, set, choose, foreach, break_, stop, define, macro_call, no_items, item, otherwise, branch}
use Rattle.vtl_grammar.specs.Faults.{◌>>=◌, bad, within}
use Rattle.vtl_grammar.specs.Loops.{folded, first, Turn, last, more, gather}
use Rattle.vtl_grammar.specs.Words as word
use Rattle.vtl_grammar.specs.Words.{Word}
use Rattle.vtl_grammar.specs.Levels.{Reader}
use Rattle.vtl_grammar.specs.References.{dots_out, steps_at, source}
use Rattle.vtl_grammar.specs.Expressions.{reader, inside}
use Rattle.vtl_grammar.specs.Lines.{Line, Spot, cut, lines}
use Rattle.vtl_grammar.specs.Fronts.{Front, finish, plain, raw, unclosed, bad_escape, reference, line_comment, long_comment, directive, front_at, text_run}
use Rattle.vtl_grammar.specs.Directives.{condition, set_at, foreach_at, macro_at, call_at}

-- what a run of items is the inside of
pub data Where : Type 0 where
  -- the whole text, where these macros are defined already
  at_top : List (List ℕ) → Where
  -- a branch of an `#if`, which `#elseif`, `#else` or `#end` ends
  in_branch : Where
  -- another block, which `#end` alone ends
  in_body : Where

-- and whether it stands in a `#foreach` of its own body, and the parameters of the macro around
pub record Around : Type 0 where
  pub place : Where
  pub loop : Bool
  pub params : List (List ℕ)

-- what ends a run of items
pub data Stop : Type 0 where
  Finish : Stop
  Else : Spot → Stop
  ElseIf : Expr → Spot → Stop
  End : Spot → Stop

abbrev pub Outcome : Type 0
Outcome = Result (Items × Stop) Fault

abbrev pub Block : Type 0
Block = Around → Spot → Outcome

-- what one turn reads: an item with the text before it, and where the next one begins; or the last text, and what ends the run
abbrev pub ItemTurn : Type 0
ItemTurn = Result (Turn (List Item) (Items × Stop) (Around × Spot)) Fault

-- how the levels below read, and the macros' names
pub record Below : Type 0 where
  pub names : List (List ℕ)
  pub inner : Option Reader
  pub blocks : Option Block

abbrev pub reader_of : Below → Reader
reader_of w = reader w.names w.inner

abbrev pub with_items : List Item → Items → Items
with_items xs is = folded item is xs

-- the gathered text as an item, where there is any
abbrev pub text_item : List ℕ → List Item
text_item [] = []
text_item (b ∷ t) = text (b ∷ t) ∷ []

-- an item behind the text before it, with what follows it
abbrev pub placed : Around → Item → List ℕ × Spot → Turn (List Item) (Items × Stop) (Around × Spot)
placed a i p = more (text_item p.0 ++ i ∷ []) (a, p.1)

abbrev pub ended : (Spot → Stop) → List ℕ × Spot → Turn (List Item) (Items × Stop) (Around × Spot)
ended f p = last (with_items (text_item p.0) no_items, f p.1)

-- the end of the text
abbrev pub at_finish : Where → List ℕ → ItemTurn
at_finish (at_top xs) t = Ok (last (with_items (text_item t) no_items, Finish))
at_finish in_branch t = Err (Unclosed 0)
at_finish in_body t = Err (Unclosed 0)

abbrev pub at_end : Where → ℕ → List ℕ × Spot → ItemTurn
at_end (at_top xs) at p = Err (BadDirective at)
at_end in_branch at p = Ok (ended End p)
at_end in_body at p = Ok (ended End p)

abbrev pub at_else : Where → ℕ → List ℕ × Spot → ItemTurn
at_else (at_top xs) at p = Err (BadDirective at)
at_else in_branch at p = Ok (ended Else p)
at_else in_body at p = Err (BadDirective at)

abbrev pub at_elseif : Below → Where → ℕ → Line → List ℕ → List ℕ → ItemTurn
at_elseif w (at_top xs) at l t bs = Err (BadDirective at)
at_elseif w in_branch at l t bs = condition (reader_of w) at bs >>= λ c. Ok (ended (ElseIf c.0) (lines l t c.1))
at_elseif w in_body at l t bs = Err (BadDirective at)

abbrev pub at_break : Around → ℕ → List ℕ × Spot → ItemTurn
at_break a at p = elim (a.loop) [ true ↦ Ok (placed a break_ p) | false ↦ Err (BadDirective at) ]

-- what the inside of a directive at this place reads, where a level is left
abbrev pub block_at : {A : Type 0} → ℕ → Option Block → (Block → Result A Fault) → Result A Fault
block_at at None f = Err (TooDeep at)
block_at at (Some b) f = f b

-- a block that `#end` alone ends
abbrev pub closed : Items × Stop → Result (Items × Spot) Fault
closed (is, End s) = Ok (is, s)
closed (is, Finish) = Err (Unclosed 0)
closed (is, Else s) = Err (Unclosed 0)
closed (is, ElseIf e s) = Err (Unclosed 0)

abbrev pub body : Block → Around → Spot → Result (Items × Spot) Fault
body block a s = block a s >>= closed

abbrev pub branch_around : Around → Around
branch_around a = record { place = in_branch; loop = a.loop; params = a.params }

abbrev pub else_around : Around → Around
else_around a = record { place = in_body; loop = a.loop; params = a.params }

abbrev pub loop_around : Around → Around
loop_around a = record { place = in_body; loop = true; params = a.params }

abbrev pub macro_around : List (List ℕ) → Around
macro_around params = record { place = in_body; loop = false; params = params }

-- a branch of an `#if`: its condition and its items; or the rest of the `#if`, and what follows its `#end`
abbrev pub BranchTurn : Type 0
BranchTurn = Result (Turn (Expr × Items) (Branches × Spot) (Expr × Spot)) Fault

abbrev pub branch_end : Block → Around → Expr → Items × Stop → BranchTurn
branch_end block a e (is, End s) = Ok (last (branch e is (otherwise no_items), s))
branch_end block a e (is, Finish) = Err (Unclosed 0)
branch_end block a e (is, Else s) = body block (else_around a) s >>= λ o. Ok (last (branch e is (otherwise o.0), o.1))
branch_end block a e (is, ElseIf f s) = Ok (more (e, is) (f, s))

abbrev pub branch_turn : Block → Around → Expr × Spot → BranchTurn
branch_turn block a c = block a c.1 >>= branch_end block a c.0

abbrev pub with_branch : Expr × Items → Branches → Branches
with_branch c b = branch c.0 c.1 b

-- the branches of an `#if` whose first condition is read, around which stands this
abbrev pub branches : Block → Around → ℕ → Expr × Spot → Result (Branches × Spot) Fault
branches block a n c = gather (first with_branch) (branch_turn block a) n c

-- an `#if`, its branches, and its `#end`
abbrev pub if_inside : Below → Around → ℕ → Line → List ℕ → List ℕ → ItemTurn
if_inside w a at l t bs = condition (reader_of w) at bs >>= λ c. block_at at w.blocks (λ block. branches block (branch_around a) (length bs + 1) (c.0, (lines l t c.1).1) >>= λ r. Ok (placed a (choose r.0) ((lines l t c.1).0, r.1)))

abbrev pub foreach_inside : Below → Around → ℕ → Line → List ℕ → List ℕ → ItemTurn
foreach_inside w a at l t bs = foreach_at (reader_of w) at a.params bs >>= λ h. block_at at w.blocks (λ block. body block (loop_around a) (lines l t h.1).1 >>= λ o. Ok (placed a (foreach (h.0).0 (h.0).1 o.0) ((lines l t h.1).0, o.1)))

-- with one more macro defined
abbrev pub with_macro : List (List ℕ) → List ℕ → Around → Around
with_macro xs x a = record { place = at_top (xs ++ x ∷ []); loop = a.loop; params = a.params }

abbrev pub macro_inside : Below → List (List ℕ) → Around → ℕ → Line → List ℕ → List ℕ → ItemTurn
macro_inside w xs a at l t bs = macro_at at xs bs >>= λ h. block_at at w.blocks (λ block. body block (macro_around (h.0).1) (lines l t h.1).1 >>= λ o. Ok (placed (with_macro xs (h.0).0 a) (define (h.0).0 (h.0).1 o.0) ((lines l t h.1).0, o.1)))

-- a macro is defined at the top alone
abbrev pub at_macro : Below → Where → Around → ℕ → Line → List ℕ → List ℕ → ItemTurn
at_macro w (at_top xs) a at l t bs = within at (macro_inside w xs a at l t bs)
at_macro w in_branch a at l t bs = Err (BadDirective at)
at_macro w in_body a at l t bs = Err (BadDirective at)

abbrev pub set_turn : Below → Around → ℕ → Line → List ℕ → List ℕ → ItemTurn
set_turn w a at l t bs = set_at (reader_of w) at a.params bs >>= λ s. Ok (placed a (set (s.0).0 (s.0).1) (lines l t s.1))

-- a directive whose `#` stands at this place, behind its word
abbrev pub directive_turn : Below → Around → List ℕ → Line → ℕ → Word → List ℕ → ItemTurn
directive_turn w a t l at word.Refused bs = Err (BadDirective at)
directive_turn w a t l at word.Else bs = at_else a.place at (lines l t bs)
directive_turn w a t l at word.End bs = at_end a.place at (lines l t bs)
directive_turn w a t l at word.ElseIf bs = at_elseif w a.place at l t bs
directive_turn w a t l at word.Break bs = at_break a at (lines l t bs)
directive_turn w a t l at word.Stop bs = Ok (placed a stop (lines l t bs))
directive_turn w a t l at word.Set bs = set_turn w a at l t bs
directive_turn w a t l at word.If bs = within at (if_inside w a at l t bs)
directive_turn w a t l at word.ForEach bs = within at (foreach_inside w a at l t bs)
directive_turn w a t l at word.Define bs = at_macro w a.place a at l t bs
directive_turn w a t l at (word.Macro x) bs = call_at w.inner at bs >>= λ es. Ok (placed a (macro_call at x es.0) (t, (None, es.1)))

-- a reference at the front of all, behind the text t
abbrev pub reference_turn : Below → Around → List ℕ → List ℕ → Bool → Bool → List ℕ → List ℕ → ItemTurn
reference_turn w a t all quiet braced x rest = steps_at w.inner (dots_out braced) braced (length all) rest >>= λ ss. Ok (placed a (output (source quiet all ss.1) (named x) ss.0) (t, (None, ss.1)))

-- an item that is no text, at the front of bs, behind the text t
abbrev pub item_at : Below → Around → List ℕ → Line → List ℕ → Front → ItemTurn
item_at w a t l bs finish = at_finish a.place t
item_at w a t l bs (plain b rest) = bad []
item_at w a t l bs (raw x rest) = bad []
item_at w a t l bs unclosed = Err (Unclosed (length bs))
item_at w a t l bs bad_escape = Err (Escape (length bs))
item_at w a t l bs (reference quiet braced x rest) = reference_turn w a t bs quiet braced x rest
item_at w a t l bs (line_comment rest) = Ok (placed a comment (cut l t, (Some 0, rest)))
item_at w a t l bs (long_comment rest) = Ok (placed a comment (t, (None, rest)))
item_at w a t l bs (directive d rest) = directive_turn w a t l (length bs) d rest

-- behind a run of text
abbrev pub behind_text : Below → Around → List ℕ × Spot → ItemTurn
behind_text w a p = item_at w a p.0 (p.1).0 (p.1).1 (front_at w.names (p.1).1)

-- the text at the front, and the item behind it
abbrev pub item_turn : Below → Around × Spot → ItemTurn
item_turn w s = behind_text w s.0 (text_run w.names (length (s.1).1 + 1) [] (s.1).0 (s.1).1)

-- a run of items
abbrev pub items : Below → Block
items w a s = gather (first with_items) (item_turn w) (length s.1 + 1) (a, s)

-- what reads a block, where so many levels may still open
unfoldable pub blocks : List (List ℕ) → ℕ → Option Block
blocks names zero = None
blocks names (suc d) = Some (items (record { names = names; inner = inside names d; blocks = blocks names d }))

abbrev pub below : List (List ℕ) → ℕ → Below
below names d = record { names = names; inner = inside names d; blocks = blocks names d }
