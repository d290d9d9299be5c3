-- Values of texts, and lists of one or two.
use Rattle.std.specs.Prelude.{ℕ, List, [], ◌∷◌, Option, Some, None}
use Rattle.std.specs.Str.Lossy.{utf8_lossy}
use Rattle.vtl_values.specs.Kinds.{text_in}
use Rattle.vtl_values.specs.Val.{Val, null, text}

-- the value of a text that may be wanting
abbrev pub text_or_null : Option (List ℕ) → Val
text_or_null None = null
text_or_null (Some t) = text t

-- the same of a short name; it is ASCII, so that reading it changes nothing
abbrev pub name_or_null : Option (List ℕ) → Val
name_or_null None = null
name_or_null (Some t) = text (utf8_lossy t)

-- the one item, where there is just one
abbrev pub only : {X : Type 0} → List X → Option X
only [] = None
only (x ∷ []) = Some x
only (x ∷ y ∷ more) = None

-- the two items, where there are just two
abbrev pub both : {X : Type 0} → List X → Option (X × X)
both [] = None
both (x ∷ []) = None
both (x ∷ y ∷ []) = Some (x, y)
both (x ∷ y ∷ z ∷ more) = None

-- the text that a value is
abbrev pub text_by : Option Val → Option (List ℕ)
text_by None = None
text_by (Some v) = text_in v
