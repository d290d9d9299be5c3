-- The values of JSON documents (RFC 8259), and the texts of their nodes.
use Rattle.std.specs.Prelude.{ℕ, List, [], ◌∷◌, ◌++◌, map, Option, Some, None, if◌then◌else◌}
use Rattle.std.specs.List.{flat_map}
use Rattle.std.specs.Result.{result_ok}
use Rattle.json_subset.specs.Compact.{compacted}
use Rattle.json_subset.specs.Documents.{span}
use Rattle.json_subset.specs.Reading.{json}
use Rattle.json_subset.specs.Tree.{Tree, node, Form, Number, Trees, Members}
use Rattle.json_subset.specs.Tree as json
use Rattle.jsonpath_core.specs.Reading.{path_of}
use Rattle.jsonpath_core.specs.Selecting.{select}
use Rattle.jsonpath_core.specs.Steps.{Step, starred}
use Rattle.vtl_values.specs.Val.{Val, null, boolean, whole, number, text}
use Rattle.vtl_values.specs.Making.{listed, mapped}

-- a number is a whole number where it is one of 64 bits, and else stands by its source
abbrev pub number_value : Number → List ℕ → Val
number_value (json.whole n) source = whole n
number_value json.decimal source = number source
number_value json.wide source = number source

-- the value that a node stands for: an object is the map of its members, in their order
abbrev mutual
  pub value_of : Tree → Val
  value_of (node first past f) = form_value f

  pub form_value : Form → Val
  form_value json.null = null
  form_value (json.bool b) = boolean b
  form_value (json.number kind source) = number_value kind source
  form_value (json.text t) = text t
  form_value (json.list ts) = listed (item_values ts)
  form_value (json.object ms) = mapped (member_values ms)

  pub item_values : Trees → List Val
  item_values json.no_trees = []
  item_values (json.tree t ts) = value_of t ∷ item_values ts

  pub member_values : Members → List (Val × Val)
  member_values json.no_members = []
  member_values (json.member x t ms) = (text x, value_of t) ∷ member_values ms

-- a member's name and value
abbrev pub member_row : List ℕ × Tree → Val × Val
member_row m = (text m.0, value_of m.1)

-- the tree of a text that is a document
unfoldable pub document : List ℕ → Option Tree
document body = result_ok (json body)

-- the steps of a text that is a path
unfoldable pub path : List ℕ → Option (List Step)
path p = result_ok (path_of p)

-- the text of a node without the white space outside strings
abbrev pub node_text : List ℕ → Tree → List ℕ
node_text body t = compacted (span body t)

-- these texts, parted by `,`
abbrev pub parted : List (List ℕ) → List ℕ
parted [] = []
parted (t ∷ ts) = t ++ flat_map (λ u. 44 ∷ u) ts

-- what stands for no node: two quotes
abbrev pub no_text : List ℕ
no_text = 34 ∷ 34 ∷ []

abbrev pub one_text : List ℕ → List Tree → List ℕ
one_text body [] = no_text
one_text body (t ∷ ts) = node_text body t

abbrev pub all_texts : List ℕ → List Tree → List ℕ
all_texts body ts = 91 ∷ (parted (map (node_text body) ts) ++ 93 ∷ [])

abbrev pub selected_text : List ℕ → Option Tree → Option (List Step) → List ℕ
selected_text body None steps = no_text
selected_text body (Some t) None = no_text
selected_text body (Some t) (Some steps) = if starred steps then all_texts body (select steps t) else one_text body (select steps t)

-- $input.json: the text of the node that a path selects; for a path with a star a list of the texts; two quotes where nothing is selected by a path without one, or where the body is no document or the path no path
unfoldable pub json_at : List ℕ → List ℕ → List ℕ
json_at body p = selected_text body (document body) (path p)

abbrev pub one_value : List Tree → Val
one_value [] = null
one_value (t ∷ ts) = value_of t

-- a list of these values, and null where there is none
abbrev pub all_values : List Val → Val
all_values [] = null
all_values (v ∷ vs) = listed (v ∷ vs)

abbrev pub selected_value : Option Tree → Option (List Step) → Val
selected_value None steps = null
selected_value (Some t) None = null
selected_value (Some t) (Some steps) = if starred steps then all_values (map value_of (select steps t)) else one_value (select steps t)

-- $input.path: the value of the node that a path selects; for a path with a star a list of the values; null where nothing is selected, or where the body is no document or the path no path
unfoldable pub value_at : List ℕ → List ℕ → Val
value_at body p = selected_value (document body) (path p)

-- $util.parseJson: the value of a document; null of any other text
abbrev pub parsed_value : Option Tree → Val
parsed_value None = null
parsed_value (Some t) = value_of t

unfoldable pub parsed : List ℕ → Val
parsed body = parsed_value (document body)
