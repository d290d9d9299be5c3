-- Outside macros nothing stands for a parameter.
use Rattle.std.proofs.Common.{◌≡◌, ℕ, List, refl, sym, ◌∙◌, ap, None}
use Rattle.vtl_grammar.specs.Tree.{Expr, reference, whole, string, joined, boolean, listed, range, mapped, binary, negated, Base, named, given, Step, member, call, index, Steps, no_steps, step, Exprs, no_exprs, expr, Pairs, no_pairs, pair, Part, bytes, printed, Parts, no_parts, part, Item, Items, Branches, text, comment, output, set, choose, foreach, break_, stop, define, macro_call, deep, no_items, item, otherwise, branch}
use Rattle.vtl_grammar.specs.Calls.{Macros, macros_in}
use Rattle.vtl_grammar.specs.Expanded.{Arguments, expr_with, base_with, step_with, steps_with, exprs_with, pairs_with, part_with, parts_with, item_with, items_with, branches_with, items_without, called, expanded, most_inside}
use Rattle.vtl_eval.specs.Roots.{Meanings}
use Rattle.vtl_eval.specs.World.{State}
use Rattle.vtl_eval.specs.Meaning.{run}

abbrev pub none : Arguments
none x = None

mutual
  expr_same : (e : Expr) → expr_with none e ≡ e
  expr_same (reference b ss) = ap (λ z. reference z (steps_with none ss)) (base_same b) ∙ ap (reference b) (steps_same ss)
  expr_same (whole n) = refl
  expr_same (string t) = refl
  expr_same (joined ps) = ap joined (parts_same ps)
  expr_same (boolean b) = refl
  expr_same (listed es) = ap listed (exprs_same es)
  expr_same (range x y) = ap (λ z. range z (expr_with none y)) (expr_same x) ∙ ap (range x) (expr_same y)
  expr_same (mapped ps) = ap mapped (pairs_same ps)
  expr_same (binary o x y) = ap (λ z. binary o z (expr_with none y)) (expr_same x) ∙ ap (binary o x) (expr_same y)
  expr_same (negated x) = ap negated (expr_same x)

  base_same : (b : Base) → base_with none b ≡ b
  base_same (named x) = refl
  base_same (given e) = ap given (expr_same e)

  step_same : (x : Step) → step_with none x ≡ x
  step_same (member x) = refl
  step_same (call x es) = ap (call x) (exprs_same es)
  step_same (index e) = ap index (expr_same e)

  steps_same : (ss : Steps) → steps_with none ss ≡ ss
  steps_same no_steps = refl
  steps_same (step x xs) = ap (λ z. step z (steps_with none xs)) (step_same x) ∙ ap (step x) (steps_same xs)

  exprs_same : (es : Exprs) → exprs_with none es ≡ es
  exprs_same no_exprs = refl
  exprs_same (expr e es) = ap (λ z. expr z (exprs_with none es)) (expr_same e) ∙ ap (expr e) (exprs_same es)

  pairs_same : (ps : Pairs) → pairs_with none ps ≡ ps
  pairs_same no_pairs = refl
  pairs_same (pair k e ps) = ap (λ z. pair z (expr_with none e) (pairs_with none ps)) (expr_same k) ∙ ap (λ z. pair k z (pairs_with none ps)) (expr_same e) ∙ ap (pair k e) (pairs_same ps)

  part_same : (p : Part) → part_with none p ≡ p
  part_same (bytes t) = refl
  part_same (printed source b ss) = ap (λ z. printed source z (steps_with none ss)) (base_same b) ∙ ap (printed source b) (steps_same ss)

  parts_same : (ps : Parts) → parts_with none ps ≡ ps
  parts_same no_parts = refl
  parts_same (part p ps) = ap (λ z. part z (parts_with none ps)) (part_same p) ∙ ap (part p) (parts_same ps)

mutual
  item_same : (i : Item) → item_with none i ≡ i
  item_same (text t) = refl
  item_same comment = refl
  item_same (output source b ss) = ap (λ z. output source z (steps_with none ss)) (base_same b) ∙ ap (output source b) (steps_same ss)
  item_same (set target e) = ap (set target) (expr_same e)
  item_same (choose bs) = ap choose (branches_same bs)
  item_same (foreach x e is) = ap (λ z. foreach x z (items_with none is)) (expr_same e) ∙ ap (foreach x e) (items_same is)
  item_same break_ = refl
  item_same stop = refl
  item_same (define x ps is) = refl
  item_same (macro_call at x es) = ap (macro_call at x) (exprs_same es)
  item_same deep = refl

  items_same : (is : Items) → items_with none is ≡ is
  items_same no_items = refl
  items_same (item i is) = ap (λ z. item z (items_with none is)) (item_same i) ∙ ap (item i) (items_same is)

  branches_same : (bs : Branches) → branches_with none bs ≡ bs
  branches_same (otherwise is) = ap otherwise (items_same is)
  branches_same (branch e is bs) = ap (λ z. branch z (items_with none is) (branches_with none bs)) (expr_same e) ∙ ap (λ z. branch e z (branches_with none bs)) (items_same is) ∙ ap (branch e is) (branches_same bs)

-- the whole template is run expanded
pub run_expanded : (b : ℕ) (m : Meanings) (ms : Macros) (a : Arguments) (is : Items) (s : State) → ((x : List ℕ) → ms x ≡ macros_in is x) → a ≡ none → run b m (expanded is) s ≡ run b m (items_without (called ms most_inside) (items_with a is)) s
unfolding expanded
run_expanded b m ms a is s same top =
    let path : ms ≡ macros_in is = λ i x. same x i in
    ap (λ z. run b m (items_without (called z most_inside) is) s) (sym path)
    ∙ ap (λ z. run b m (items_without (called ms most_inside) z) s) (sym (items_same is))
    ∙ ap (λ z. run b m (items_without (called ms most_inside) (items_with z is)) s) (sym top)
