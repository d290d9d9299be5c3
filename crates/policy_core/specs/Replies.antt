-- Which replies of an authorizer are policies, and what they say. A reply is the tree of a JSON document.
use Rattle.std.specs.Prelude.{ℕ, Bool, true, false, ◌||◌, List, [], ◌∷◌, map, codes, Option, Some, None, is_some, unwrap_or, slice_get, if◌then◌else◌}
use Rattle.std.specs.Str.{bytes_eq}
use Rattle.json_subset.specs.Tree.{Tree, Form, null, bool, number, text, list, object, Trees, no_trees, tree, Members, no_members, member}
use Rattle.json_subset.specs.Documents.{form, kind, place, span, decoded, member_named}
use Rattle.json_subset.specs.declared.doc.Kind.{Kind}
use Rattle.json_subset.specs.declared.doc.Kind.TheVariants as kinds
use Rattle.policy_core.specs.declared.policy.Policy.{Policy}
use Rattle.policy_core.specs.declared.policy.Statement.{Statement}

-- the items of a list, in their order
abbrev pub items_of : Trees → List Tree
items_of no_trees = []
items_of (tree t ts) = t ∷ items_of ts

abbrev pub items : Form → List Tree
items null = []
items (bool b) = []
items (number k s) = []
items (text t) = []
items (list ts) = items_of ts
items (object ms) = []

-- the members of an object, in their order
abbrev pub entries_of : Members → List (List ℕ × Tree)
entries_of no_members = []
entries_of (member x t ms) = (x, t) ∷ entries_of ms

abbrev pub entries : Form → List (List ℕ × Tree)
entries null = []
entries (bool b) = []
entries (number k s) = []
entries (text t) = []
entries (list ts) = []
entries (object ms) = entries_of ms

-- The first fault that is met, in the order of the document; what an object lacks is met at its end.
abbrev pub or_else : Option ℕ → Option ℕ → Option ℕ
or_else (Some at) later = Some at
or_else None later = later

abbrev pub first_of : {A : Type 0} → (A → Option ℕ) → List A → Option ℕ
first_of fault [] = None
first_of fault (x ∷ xs) = or_else (fault x) (first_of fault xs)

-- the fault at this place of a list, if something stands there
abbrev pub fault_there : {A : Type 0} → (A → Option ℕ) → Option A → Option ℕ
fault_there fault None = None
fault_there fault (Some x) = fault x

abbrev pub at_place : {A : Type 0} → (A → Option ℕ) → List A → ℕ → Option ℕ
at_place fault xs i = fault_there fault (slice_get xs i)

-- an object that has no member of this name lacks it
abbrev pub lacking : Tree → List ℕ → Option ℕ
lacking t name = if is_some (member_named (form t) name) then None else Some (place t)

-- a text
abbrev pub text_fault : Tree → Option ℕ
text_fault t = if is_some (decoded (form t)) then None else Some (place t)

-- a text, or a list of texts
abbrev pub texts_by : Kind → Tree → Option ℕ
texts_by kinds.Text t = None
texts_by (kinds.List n) t = first_of text_fault (items (form t))
texts_by kinds.Null t = Some (place t)
texts_by (kinds.Bool b) t = Some (place t)
texts_by (kinds.Whole z) t = Some (place t)
texts_by kinds.Decimal t = Some (place t)
texts_by kinds.Wide t = Some (place t)
texts_by (kinds.Object n) t = Some (place t)

abbrev pub texts_fault : Tree → Option ℕ
texts_fault t = texts_by (kind (form t)) t

-- `Allow` or `Deny`
abbrev pub is_effect : Option (List ℕ) → Bool
is_effect None = false
is_effect (Some x) = bytes_eq x (codes "Allow") || bytes_eq x (codes "Deny")

abbrev pub effect_fault : Tree → Option ℕ
effect_fault t = if is_effect (decoded (form t)) then None else Some (place t)

-- the members that a statement must not have
abbrev pub is_refused : List ℕ → Bool
is_refused x = bytes_eq x (codes "Condition") || bytes_eq x (codes "NotAction") || bytes_eq x (codes "NotResource")

-- a member of a statement, which begins at this place
abbrev pub statement_member_fault : ℕ → List ℕ × Tree → Option ℕ
statement_member_fault at e =
    if bytes_eq e.0 (codes "Effect") then effect_fault e.1
    else if bytes_eq e.0 (codes "Action") then texts_fault e.1
    else if bytes_eq e.0 (codes "Resource") then texts_fault e.1
    else if is_refused e.0 then Some at
    else None

abbrev pub statement_lacks : Tree → Option ℕ
statement_lacks t = or_else (lacking t (codes "Effect")) (or_else (lacking t (codes "Action")) (lacking t (codes "Resource")))

abbrev pub is_object : Kind → Bool
is_object (kinds.Object n) = true
is_object kinds.Text = false
is_object (kinds.List n) = false
is_object kinds.Null = false
is_object (kinds.Bool b) = false
is_object (kinds.Whole z) = false
is_object kinds.Decimal = false
is_object kinds.Wide = false

-- the fault of a value that has to be an object, where this is that of an object
abbrev pub object_fault : Tree → Option ℕ → Option ℕ
object_fault t fault = if is_object (kind (form t)) then fault else Some (place t)

-- a statement
unfoldable pub statement_fault : Tree → Option ℕ
statement_fault t = object_fault t (or_else (first_of (statement_member_fault (place t)) (entries (form t))) (statement_lacks t))

-- a statement, or a list of statements
abbrev pub statements_by : Kind → Tree → Option ℕ
statements_by (kinds.List n) t = first_of statement_fault (items (form t))
statements_by (kinds.Object n) t = statement_fault t
statements_by kinds.Text t = Some (place t)
statements_by kinds.Null t = Some (place t)
statements_by (kinds.Bool b) t = Some (place t)
statements_by (kinds.Whole z) t = Some (place t)
statements_by kinds.Decimal t = Some (place t)
statements_by kinds.Wide t = Some (place t)

unfoldable pub statements_fault : Tree → Option ℕ
statements_fault t = statements_by (kind (form t)) t

-- a policy document
abbrev pub document_member_fault : List ℕ × Tree → Option ℕ
document_member_fault e = if bytes_eq e.0 (codes "Statement") then statements_fault e.1 else None

unfoldable pub document_fault : Tree → Option ℕ
document_fault t = object_fault t (or_else (first_of document_member_fault (entries (form t))) (lacking t (codes "Statement")))

-- a value of a context: a text, a number or a boolean
abbrev pub is_kept : Kind → Bool
is_kept kinds.Text = true
is_kept (kinds.Bool b) = true
is_kept (kinds.Whole z) = true
is_kept kinds.Decimal = true
is_kept kinds.Wide = true
is_kept kinds.Null = false
is_kept (kinds.List n) = false
is_kept (kinds.Object n) = false

abbrev pub kept_fault : List ℕ × Tree → Option ℕ
kept_fault e = if is_kept (kind (form e.1)) then None else Some (place e.1)

unfoldable pub context_fault : Tree → Option ℕ
context_fault t = object_fault t (first_of kept_fault (entries (form t)))

-- a reply
abbrev pub reply_member_fault : List ℕ × Tree → Option ℕ
reply_member_fault e =
    if bytes_eq e.0 (codes "principalId") then text_fault e.1
    else if bytes_eq e.0 (codes "policyDocument") then document_fault e.1
    else if bytes_eq e.0 (codes "context") then context_fault e.1
    else None

abbrev pub reply_lacks : Tree → Option ℕ
reply_lacks t = or_else (lacking t (codes "principalId")) (lacking t (codes "policyDocument"))

unfoldable pub reply_fault : Tree → Option ℕ
reply_fault t = object_fault t (or_else (first_of reply_member_fault (entries (form t))) (reply_lacks t))

-- What a reply without a fault says. The text of a member, where it is one:
abbrev pub text_of : Tree → List ℕ
text_of t = unwrap_or (decoded (form t)) []

abbrev pub in_member : {A : Type 0} → A → (Tree → A) → Option Tree → A
in_member otherwise part None = otherwise
in_member otherwise part (Some t) = part t

-- a text, or each text of a list
abbrev pub texts_in : Kind → Tree → List (List ℕ)
texts_in kinds.Text t = text_of t ∷ []
texts_in (kinds.List n) t = map text_of (items (form t))
texts_in kinds.Null t = []
texts_in (kinds.Bool b) t = []
texts_in (kinds.Whole z) t = []
texts_in kinds.Decimal t = []
texts_in kinds.Wide t = []
texts_in (kinds.Object n) t = []

abbrev pub texts_of : Tree → List (List ℕ)
texts_of t = texts_in (kind (form t)) t

-- whether it is the text `Allow`
abbrev pub is_allow : Option (List ℕ) → Bool
is_allow None = false
is_allow (Some x) = bytes_eq x (codes "Allow")

abbrev pub allows : Tree → Bool
allows t = is_allow (decoded (form t))

unfoldable pub statement_of : Tree → Statement
statement_of t = record {
  allow = in_member false allows (member_named (form t) (codes "Effect"));
  actions = in_member [] texts_of (member_named (form t) (codes "Action"));
  resources = in_member [] texts_of (member_named (form t) (codes "Resource"));
}

abbrev pub statements_in : Kind → Tree → List Statement
statements_in (kinds.List n) t = map statement_of (items (form t))
statements_in (kinds.Object n) t = statement_of t ∷ []
statements_in kinds.Text t = []
statements_in kinds.Null t = []
statements_in (kinds.Bool b) t = []
statements_in (kinds.Whole z) t = []
statements_in kinds.Decimal t = []
statements_in kinds.Wide t = []

abbrev pub statements_of : Tree → List Statement
statements_of t = statements_in (kind (form t)) t

abbrev pub document_statements : Tree → List Statement
document_statements t = in_member [] statements_of (member_named (form t) (codes "Statement"))

-- a value of a context as its text: a string's decoded text, and the source text of a number or a boolean in the reply
abbrev pub kept_text : List ℕ → Tree → List ℕ
kept_text source t = unwrap_or (decoded (form t)) (span source t)

abbrev pub kept_entry : List ℕ → List ℕ × Tree → List ℕ × List ℕ
kept_entry source e = (e.0, kept_text source e.1)

abbrev pub context_of : List ℕ → Tree → List (List ℕ × List ℕ)
context_of source t = map (kept_entry source) (entries (form t))

unfoldable pub policy_of : List ℕ → Tree → Policy
policy_of source t = record {
  principal = in_member [] text_of (member_named (form t) (codes "principalId"));
  statements = in_member [] document_statements (member_named (form t) (codes "policyDocument"));
  context = in_member [] (context_of source) (member_named (form t) (codes "context"));
}
