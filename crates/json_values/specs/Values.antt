-- Which trees the program's values stand for.
use Rattle.std.specs.Prelude.{◌≡◌, ◌<◌, ◌≤◌, ℕ, zero, suc, List, length, map, Option, Some, None, slice_get, String}
use Rattle.std.specs.BTreeMap.{BTreeMap, get_by_text}
use Rattle.std.specs.String.{string_bytes}
use Rattle.std.specs.declared.alloc.Global.{Global}
use Rattle.json_subset.specs.Tree.{Tree, node, Form, null, bool, number, text, list, object, trees_of, members_of, whole, decimal, wide}
use Rattle.json_subset.specs.Tree as spec
use Rattle.json_subset.specs.Nodes.{member_at, AllBelow, AllValuesBelow}
use Rattle.json_subset.specs.Documents.{Document, part, IsPart, form}
use Rattle.json_subset.specs.Numbered.{number_named}
use Rattle.json_values.specs.Amounts.{decimal_amount}
use Rattle.json_values.specs.declared.value.Form.{Form as CodeForm}
use Rattle.json_values.specs.declared.value.Form.TheVariants as code
use Rattle.json_values.specs.declared.value.Number.{Number}
use Rattle.json_values.specs.declared.value.Number.TheVariants as numbers
use Rattle.json_values.specs.declared.value.Value.{Value}

abbrev pub number_view : Number → spec.Number
number_view (numbers.Whole z) = whole z
number_view (numbers.Decimal a) = decimal
number_view numbers.Wide = wide

-- the form of a value, where f gives the trees of its parts
abbrev pub form_of : (ℕ → Tree) → CodeForm → Form
form_of f code.Null = null
form_of f (code.Bool b) = bool b
form_of f (code.Number x s) = number (number_view x) (string_bytes s)
form_of f (code.Text t) = text (string_bytes t)
form_of f (code.List ids) = list (trees_of (map f ids.items))
form_of f (code.Object ms) = object (members_of (map (member_at f) ms.list.items))

-- the parts of a form are before n
abbrev pub IsBelow : ℕ → CodeForm → Type 0
IsBelow n code.Null = Unit {0}
IsBelow n (code.Bool b) = Unit {0}
IsBelow n (code.Number x s) = Unit {0}
IsBelow n (code.Text t) = Unit {0}
IsBelow n (code.List ids) = AllBelow n ids.items
IsBelow n (code.Object ms) = AllValuesBelow n ms.list.items

abbrev pub IsNumberMeasured : Number → List ℕ → Type 0
IsNumberMeasured (numbers.Whole z) s = Unit {0}
IsNumberMeasured (numbers.Decimal a) s = a ≡ decimal_amount s
IsNumberMeasured numbers.Wide s = Unit {0}

abbrev pub first_of : Option ℕ → Option ℕ → Option ℕ
first_of None o = o
first_of (Some k) o = Some k

abbrev pub IsIndexed : List (String Global × ℕ) → BTreeMap (String Global) ℕ → Type 0
IsIndexed ms index = (q : List ℕ) → get_by_text index q ≡ number_named ms q

-- numbers are measured, and names are found
abbrev pub IsReady : CodeForm → Type 0
IsReady code.Null = Unit {0}
IsReady (code.Bool b) = Unit {0}
IsReady (code.Number x s) = IsNumberMeasured x (string_bytes s)
IsReady (code.Text t) = Unit {0}
IsReady (code.List ids) = Unit {0}
IsReady (code.Object ms) = IsIndexed ms.list.items ms.index

pub record IsSound (k : ℕ) (x : Value) : Type 0 where
  pub below : IsBelow k x.form
  pub ready : IsReady x.form

abbrev pub AreSound : List Value → Type 0
AreSound vs = (k : ℕ) (x : Value) → slice_get vs k ≡ Some x → IsSound k x

abbrev pub nothing : Tree
nothing = node 0 0 null

-- the tree of a value, without places
abbrev pub there : (ℕ → Tree) → Option Value → Tree
there f None = nothing
there f (Some x) = node 0 0 (form_of f x.form)

unfoldable pub plain_within : ℕ → List Value → ℕ → Tree
plain_within zero vs k = nothing
plain_within (suc d) vs k = there (plain_within d vs) (slice_get vs k)

abbrev pub plain_of : List Value → ℕ → Tree
plain_of vs k = plain_within (suc k) vs k

-- the part of the document that a value was read from
abbrev pub read_from : Document → Option Value → Tree
read_from d None = nothing
read_from d (Some x) = part d x.id

abbrev pub source_of : Document → List Value → ℕ → Tree
source_of d vs k = read_from d (slice_get vs k)

-- each value is the part that it was read from
pub record IsRead (d : Document) (vs : List Value) (x : Value) : Type 0 where
  pub stands : IsPart d x.id
  pub alike : form (part d x.id) ≡ form_of (source_of d vs) x.form

abbrev pub Mirror : Document → List Value → Type 0
Mirror d vs = (k : ℕ) (x : Value) → slice_get vs k ≡ Some x → IsRead d vs x

-- the values before are still there
pub record Extends (old new : List Value) : Type 0 where
  pub longer : length old ≤ length new
  pub same : (k : ℕ) → k < length old → slice_get new k ≡ slice_get old k
