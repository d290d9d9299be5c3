-- Which trees are policies: what a reply's values have to be, whatever the order in which they are read.
use Rattle.std.specs.Prelude.{◌≡◌, ◌≢◌, ◌⊎◌, ◌≤◌, ℕ, Bool, List, Some, codes, length}
use Rattle.std.specs.List.{AllByRecursion}
use Rattle.json_subset.specs.Tree.{Tree, Form, Number, bool, number, text, list, object, Trees, Members}
use Rattle.json_subset.specs.Documents.{form, member_named}
use Rattle.json_subset.specs.Grammar.{Spells}
use Rattle.policy_core.specs.declared.policy.Policy.{Policy}
use Rattle.policy_core.specs.Reading.{limit}
use Rattle.policy_core.specs.Replies.{entries, items_of, policy_of}

abbrev pub IsText : Tree → Type 0
IsText t = (x : List ℕ) × (form t ≡ text x)

abbrev pub IsObject : Tree → Type 0
IsObject t = (ms : Members) × (form t ≡ object ms)

abbrev pub HasMember : Tree → List ℕ → Type 0
HasMember t name = (v : Tree) × (member_named (form t) name ≡ Some v)

-- a text, or a list of texts
abbrev pub AreTexts : Tree → Type 0
AreTexts t = IsText t ⊎ ((ts : Trees) × (form t ≡ list ts) × AllByRecursion IsText (items_of ts))

abbrev pub IsEffect : Tree → Type 0
IsEffect t = (form t ≡ text (codes "Allow")) ⊎ (form t ≡ text (codes "Deny"))

-- what a statement's member of this name has to be; some must not stand there, and others are ignored
pub record IsStatementMember (e : List ℕ × Tree) : Type 0 where
  pub effect : e.0 ≡ codes "Effect" → IsEffect e.1
  pub action : e.0 ≡ codes "Action" → AreTexts e.1
  pub resource : e.0 ≡ codes "Resource" → AreTexts e.1
  pub no_condition : e.0 ≢ codes "Condition"
  pub no_not_action : e.0 ≢ codes "NotAction"
  pub no_not_resource : e.0 ≢ codes "NotResource"

pub record IsStatement (t : Tree) : Type 0 where
  pub object : IsObject t
  pub members : AllByRecursion IsStatementMember (entries (form t))
  pub effect : HasMember t (codes "Effect")
  pub action : HasMember t (codes "Action")
  pub resource : HasMember t (codes "Resource")

-- a statement, or a list of statements
abbrev pub AreStatements : Tree → Type 0
AreStatements t = IsStatement t ⊎ ((ts : Trees) × (form t ≡ list ts) × AllByRecursion IsStatement (items_of ts))

abbrev pub IsDocumentMember : List ℕ × Tree → Type 0
IsDocumentMember e = e.0 ≡ codes "Statement" → AreStatements e.1

pub record IsPolicyDocument (t : Tree) : Type 0 where
  pub object : IsObject t
  pub members : AllByRecursion IsDocumentMember (entries (form t))
  pub statement : HasMember t (codes "Statement")

-- a text, a number or a boolean
pub data IsKept : Form → Type 0 where
  kept_text : (x : List ℕ) → IsKept (text x)
  kept_bool : (b : Bool) → IsKept (bool b)
  kept_number : (k : Number) (source : List ℕ) → IsKept (number k source)

abbrev pub IsKeptMember : List ℕ × Tree → Type 0
IsKeptMember e = IsKept (form e.1)

pub record IsContext (t : Tree) : Type 0 where
  pub object : IsObject t
  pub members : AllByRecursion IsKeptMember (entries (form t))

-- what a reply's member of this name has to be; others are ignored
pub record IsReplyMember (e : List ℕ × Tree) : Type 0 where
  pub principal : e.0 ≡ codes "principalId" → IsText e.1
  pub document : e.0 ≡ codes "policyDocument" → IsPolicyDocument e.1
  pub context : e.0 ≡ codes "context" → IsContext e.1

pub record IsReply (t : Tree) : Type 0 where
  pub object : IsObject t
  pub members : AllByRecursion IsReplyMember (entries (form t))
  pub principal : HasMember t (codes "principalId")
  pub document : HasMember t (codes "policyDocument")

-- Bytes are a policy: they spell a reply, and are not too many.
pub record States (bytes : List ℕ) (policy : Policy) : Type 0 where
  pub reply : Tree
  pub spelled : Spells bytes reply
  pub form : IsReply reply
  pub within : length bytes ≤ limit
  pub says : policy ≡ policy_of bytes reply
