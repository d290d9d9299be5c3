-- What reading a text gives.
use Rattle.std.specs.Prelude.{ℕ, ◌-◌, nat_lt, true, false, List, [], length, Option, Some, None, Result, Ok, Err}
use Rattle.vtl_grammar.specs.declared.fault.Fault.{Fault}
use Rattle.vtl_grammar.specs.declared.fault.Fault.TheVariants as met
use Rattle.vtl_grammar.specs.declared.fault.TemplateFault.{TemplateFault}
use Rattle.vtl_grammar.specs.declared.fault.TemplateFault.TheVariants as fault
use Rattle.vtl_grammar.specs.Tree.{Items, no_items}
use Rattle.vtl_grammar.specs.Faults.{◌>>=◌}
use Rattle.vtl_grammar.specs.Macros.{macro_names}
use Rattle.vtl_grammar.specs.Calls.{macros_in, wrong_calls}
use Rattle.vtl_grammar.specs.Items.{Around, at_top, items, below}

-- the whole text, before anything of it is read
abbrev pub outermost : Around
outermost = record { place = at_top []; loop = false; params = [] }

-- the items of a whole text, inside which so many levels may open, where these are the macros' names
abbrev pub whole : List (List ℕ) → ℕ → List ℕ → Result Items Fault
whole names levels bs = items (below names levels) outermost (Some 0, bs) >>= λ r. Ok r.0

-- a fault's place, told from the front of a text of n bytes
abbrev pub placed : ℕ → Fault → TemplateFault
placed n (met.Unclosed left) = fault.Unclosed (n - left)
placed n (met.BadDirective left) = fault.BadDirective (n - left)
placed n (met.BadExpression left) = fault.BadExpression (n - left)
placed n (met.UnsupportedMethod left) = fault.UnsupportedMethod (n - left)
placed n (met.Escape left) = fault.Escape (n - left)
placed n (met.ParamAssigned left) = fault.ParamAssigned (n - left)
placed n (met.TooDeep left) = fault.TooDeep (n - left)

abbrev pub from_front : {A : Type 0} → ℕ → Result A Fault → Result A TemplateFault
from_front n (Ok x) = Ok x
from_front n (Err f) = Err (placed n f)

-- a tree whose calls are right; else the place of the first that is wrong
abbrev pub unless_wrong : Items → Option ℕ → Result Items Fault
unless_wrong is None = Ok is
unless_wrong is (Some left) = Err (met.BadDirective left)

-- the calls are tested behind all else
abbrev pub tested : Items → Result Items Fault
tested is = unless_wrong is (wrong_calls (macros_in is) is)

abbrev pub read_all : List ℕ → Result Items Fault
read_all bs = whole (macro_names bs) 64 bs >>= tested

-- the most bytes of a template
unfoldable pub limit : ℕ
limit = 307200

-- the tree of a text, or its first fault
unfoldable pub read_of : List ℕ → Result Items TemplateFault
read_of bs = elim (nat_lt limit (length bs)) [ true ↦ Err fault.TooLong | false ↦ from_front (length bs) (read_all bs) ]

abbrev pub items_or_none : Result Items TemplateFault → Items
items_or_none (Ok is) = is
items_or_none (Err f) = no_items

-- the tree of a template
abbrev pub tree_of : List ℕ → Items
tree_of bs = items_or_none (read_of bs)
