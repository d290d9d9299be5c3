-- The macros of a template, and the calls that have none.
use Rattle.std.specs.Prelude.{ℕ, suc, List, length, Option, Some, None, ◌==◌, bytes_eq, if◌then◌else◌}
use Rattle.vtl_grammar.specs.Tree.{Exprs, no_exprs, expr, Item, Items, Branches, text, comment, output, set, choose, foreach, break_, stop, define, macro_call, deep, no_items, item, otherwise, branch}

-- what a macro's name stands for: its parameters and its body
pub record Macro : Type 0 where
  pub params : List (List ℕ)
  pub body : Items

-- macros by name
abbrev pub Macros : Type 0
Macros = List ℕ → Option Macro

abbrev pub first_of : {A : Type 0} → Option A → Option A → Option A
first_of None o = o
first_of (Some x) o = Some x

-- the macro of this name, where this item defines it
abbrev pub defined_as : List ℕ → Item → Option Macro
defined_as x (text t) = None
defined_as x comment = None
defined_as x (output source b ss) = None
defined_as x (set target e) = None
defined_as x (choose bs) = None
defined_as x (foreach y e is) = None
defined_as x break_ = None
defined_as x stop = None
defined_as x (define y ps is) = if bytes_eq y x then Some (record { params = ps; body = is }) else None
defined_as x (macro_call at y es) = None
defined_as x deep = None

-- the macros that these items define; none is defined further inside
abbrev pub macros_in : Items → Macros
macros_in no_items x = None
macros_in (item i is) x = first_of (defined_as x i) (macros_in is x)

abbrev pub count : Exprs → ℕ
count no_exprs = 0
count (expr e es) = suc (count es)

-- the place of a call, unless its macro is there and takes that many arguments
abbrev pub wrong_of : ℕ → ℕ → Option Macro → Option ℕ
wrong_of at n None = Some at
wrong_of at n (Some m) = if length m.params == n then None else Some at

-- the place of the first call that is wrong, in the order of the text
abbrev mutual
  pub wrong_call : Macros → Item → Option ℕ
  wrong_call ms (text t) = None
  wrong_call ms comment = None
  wrong_call ms (output source b ss) = None
  wrong_call ms (set target e) = None
  wrong_call ms (choose bs) = wrong_branches ms bs
  wrong_call ms (foreach x e is) = wrong_calls ms is
  wrong_call ms break_ = None
  wrong_call ms stop = None
  wrong_call ms (define x ps is) = wrong_calls ms is
  wrong_call ms (macro_call at x es) = wrong_of at (count es) (ms x)
  wrong_call ms deep = None

  pub wrong_calls : Macros → Items → Option ℕ
  wrong_calls ms no_items = None
  wrong_calls ms (item i is) = first_of (wrong_call ms i) (wrong_calls ms is)

  pub wrong_branches : Macros → Branches → Option ℕ
  wrong_branches ms (otherwise is) = wrong_calls ms is
  wrong_branches ms (branch e is bs) = first_of (wrong_calls ms is) (wrong_branches ms bs)
