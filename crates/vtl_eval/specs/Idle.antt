-- Calls of macros that do nothing: their bodies hold only comments and such calls.
use Rattle.std.specs.Prelude.{◌≡◌, ℕ, zero, suc, ◌≤◌, Bool, true, false, ◌&&◌, List, Option, Some, None, unwrap_or, slice_get}
use Rattle.std.specs.List.{list_all}
use Rattle.std.specs.Global.{Vec}
use Rattle.vtl_grammar.specs.Tree as tree
use Rattle.vtl_grammar.specs.Tree.{Item, Items}
use Rattle.vtl_grammar.specs.Calls.{Macro, Macros}
use Rattle.vtl_grammar.specs.Expanded.{most_inside}
use Rattle.vtl_words.specs.Names.{place_of}
use Rattle.vtl_reader.specs.Nodes.{Nodes}
use Rattle.vtl_reader.specs.Macros.{Listed, macros_by}
use Rattle.vtl_eval.specs.declared.idle.Body.{Body}
use Rattle.vtl_eval.specs.declared.idle.Body.TheVariants as bodies
use Rattle.vtl_eval.specs.declared.idle.Doing.{Doing}
use Rattle.vtl_eval.specs.declared.idle.Doing.TheVariants as doing

-- whether an item does nothing, where p tells it of calls
abbrev pub does_nothing : (List ℕ → Bool) → Item → Bool
does_nothing p (tree.text t) = false
does_nothing p tree.comment = true
does_nothing p (tree.output source b ss) = false
does_nothing p (tree.set target e) = false
does_nothing p (tree.choose bs) = false
does_nothing p (tree.foreach x e is) = false
does_nothing p tree.break_ = false
does_nothing p tree.stop = false
does_nothing p (tree.define x ps is) = true
does_nothing p (tree.macro_call at x es) = p x
does_nothing p tree.deep = false

abbrev pub do_nothing : (List ℕ → Bool) → Items → Bool
do_nothing p tree.no_items = true
do_nothing p (tree.item i is) = does_nothing p i && do_nothing p is

abbrev pub idle_body : (List ℕ → Bool) → Option Macro → Bool
idle_body p None = false
idle_body p (Some m) = do_nothing p m.body

-- whether a call of this name does nothing, where so many calls may stand inside one another, it being one of them
unfoldable pub idle_call : Macros → ℕ → List ℕ → Bool
idle_call ms zero x = false
idle_call ms (suc n) x = idle_body (idle_call ms n) (ms x)

-- a place that p holds of
abbrev pub at_place : (ℕ → Bool) → Option ℕ → Bool
at_place p None = false
at_place p (Some j) = p j

-- whether a name's place is one that p holds of
abbrev pub by_place : (ℕ → Bool) → List (List ℕ) → List ℕ → Bool
by_place p names x = at_place p (place_of names x)

-- what the program knows of an item, and of a body, where p tells it of the macros by their places
abbrev pub doing_nothing : (ℕ → Bool) → Doing → Bool
doing_nothing p doing.Nothing = true
doing_nothing p (doing.Call j) = p j
doing_nothing p doing.Something = false

abbrev pub holds : (ℕ → Bool) → Body → Bool
holds p bodies.Active = false
holds p (bodies.Calls js) = list_all p js.items

abbrev pub row_at : List Bool → ℕ → Bool
row_at row j = unwrap_or (slice_get row j) false

abbrev pub row_in : Option (Vec Bool) → ℕ → Bool
row_in None j = false
row_in (Some row) j = row_at row.items j

-- row by row, for as many calls as may stand inside one another, each macro whose call does nothing is marked
abbrev pub AreMarked : Nodes → Listed → List (Vec Bool) → Type 0
AreMarked ns l rows = (n : ℕ) (x : List ℕ) → n ≤ most_inside → by_place (row_in (slice_get rows n)) l.names x ≡ idle_call (macros_by ns l) n x
