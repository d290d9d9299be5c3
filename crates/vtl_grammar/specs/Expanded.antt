-- The tree without macros: each call gives its macro's body, in which the arguments stand for the parameters.
use Rattle.std.specs.Prelude.{ℕ, zero, suc, List, [], ◌∷◌, Option, Some, None, bytes_eq, if◌then◌else◌}
use Rattle.vtl_grammar.specs.Tree.{Expr, reference, whole, string, joined, boolean, listed, range, mapped, binary, negated, Base, named, given, Step, member, call, index, Steps, no_steps, step, Exprs, no_exprs, expr, Pairs, no_pairs, pair, Part, bytes, printed, Parts, no_parts, part, Item, Items, Branches, text, comment, output, set, choose, foreach, break_, stop, define, macro_call, deep, no_items, item, otherwise, branch}
use Rattle.vtl_grammar.specs.Calls.{Macro, Macros, macros_in}

-- the arguments by the names of the parameters
abbrev pub Arguments : Type 0
Arguments = List ℕ → Option Expr

-- of repeated parameters the first has the argument
abbrev pub arguments : List (List ℕ) → Exprs → Arguments
arguments [] es x = None
arguments (p ∷ ps) no_exprs x = None
arguments (p ∷ ps) (expr e es) x = if bytes_eq p x then Some e else arguments ps es x

abbrev pub replaced : List ℕ → Option Expr → Base
replaced x None = named x
replaced x (Some e) = given e

-- each parameter replaced by its argument

abbrev mutual
  pub expr_with : Arguments → Expr → Expr
  expr_with a (reference b ss) = reference (base_with a b) (steps_with a ss)
  expr_with a (whole n) = whole n
  expr_with a (string t) = string t
  expr_with a (joined ps) = joined (parts_with a ps)
  expr_with a (boolean b) = boolean b
  expr_with a (listed es) = listed (exprs_with a es)
  expr_with a (range x y) = range (expr_with a x) (expr_with a y)
  expr_with a (mapped ps) = mapped (pairs_with a ps)
  expr_with a (binary o x y) = binary o (expr_with a x) (expr_with a y)
  expr_with a (negated x) = negated (expr_with a x)

  pub base_with : Arguments → Base → Base
  base_with a (named x) = replaced x (a x)
  base_with a (given e) = given (expr_with a e)

  pub step_with : Arguments → Step → Step
  step_with a (member x) = member x
  step_with a (call x es) = call x (exprs_with a es)
  step_with a (index e) = index (expr_with a e)

  pub steps_with : Arguments → Steps → Steps
  steps_with a no_steps = no_steps
  steps_with a (step x xs) = step (step_with a x) (steps_with a xs)

  pub exprs_with : Arguments → Exprs → Exprs
  exprs_with a no_exprs = no_exprs
  exprs_with a (expr e es) = expr (expr_with a e) (exprs_with a es)

  pub pairs_with : Arguments → Pairs → Pairs
  pairs_with a no_pairs = no_pairs
  pairs_with a (pair k e ps) = pair (expr_with a k) (expr_with a e) (pairs_with a ps)

  -- what is printed where it is null stays the parameter's own source
  pub part_with : Arguments → Part → Part
  part_with a (bytes t) = bytes t
  part_with a (printed source b ss) = printed source (base_with a b) (steps_with a ss)

  pub parts_with : Arguments → Parts → Parts
  parts_with a no_parts = no_parts
  parts_with a (part p ps) = part (part_with a p) (parts_with a ps)

abbrev mutual
  pub item_with : Arguments → Item → Item
  item_with a (text t) = text t
  item_with a comment = comment
  item_with a (output source b ss) = output source (base_with a b) (steps_with a ss)
  item_with a (set target e) = set target (expr_with a e)
  item_with a (choose bs) = choose (branches_with a bs)
  item_with a (foreach x e is) = foreach x (expr_with a e) (items_with a is)
  item_with a break_ = break_
  item_with a stop = stop
  item_with a (define x ps is) = define x ps is
  item_with a (macro_call at x es) = macro_call at x (exprs_with a es)
  item_with a deep = deep

  pub items_with : Arguments → Items → Items
  items_with a no_items = no_items
  items_with a (item i is) = item (item_with a i) (items_with a is)

  pub branches_with : Arguments → Branches → Branches
  branches_with a (otherwise is) = otherwise (items_with a is)
  branches_with a (branch e is bs) = branch (expr_with a e) (items_with a is) (branches_with a bs)

-- items, and then others
abbrev pub items_before : Items → Items → Items
items_before no_items js = js
items_before (item i is) js = item i (items_before is js)

-- what stands for a call of a name with arguments
abbrev pub Called : Type 0
Called = List ℕ → Exprs → Items

-- each call replaced by what stands for it; a definition does nothing

abbrev mutual
  pub item_without : Called → Item → Items
  item_without calls (text t) = item (text t) no_items
  item_without calls comment = item comment no_items
  item_without calls (output source b ss) = item (output source b ss) no_items
  item_without calls (set target e) = item (set target e) no_items
  item_without calls (choose bs) = item (choose (branches_without calls bs)) no_items
  item_without calls (foreach x e is) = item (foreach x e (items_without calls is)) no_items
  item_without calls break_ = item break_ no_items
  item_without calls stop = item stop no_items
  item_without calls (define x ps is) = no_items
  item_without calls (macro_call at x es) = calls x es
  item_without calls deep = item deep no_items

  pub items_without : Called → Items → Items
  items_without calls no_items = no_items
  items_without calls (item i is) = items_before (item_without calls i) (items_without calls is)

  pub branches_without : Called → Branches → Branches
  branches_without calls (otherwise is) = otherwise (items_without calls is)
  branches_without calls (branch e is bs) = branch e (items_without calls is) (branches_without calls bs)

-- a macro's body with the arguments, expanded; a name that has no macro, which no template calls, gives nothing
abbrev pub body_of : (Items → Items) → Exprs → Option Macro → Items
body_of more es None = no_items
body_of more es (Some m) = more (items_with (arguments m.params es) m.body)

-- what stands for a call, where so many may still stand inside one another
unfoldable pub called : Macros → ℕ → Called
called ms zero x es = item deep no_items
called ms (suc n) x es = body_of (items_without (called ms n)) es (ms x)

abbrev pub expand : Macros → ℕ → Items → Items
expand ms n is = items_without (called ms n) is

-- a call inside so many macro bodies is too deep
abbrev pub most_inside : ℕ
most_inside = 20

-- the tree of a template without macros
unfoldable pub expanded : Items → Items
expanded is = expand (macros_in is) most_inside is
