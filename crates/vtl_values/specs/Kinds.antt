-- Which values are of one kind, and what they hold.
use Rattle.std.specs.Prelude.{ℕ, ℤ, Bool, true, false, List, Option, Some, None}
use Rattle.vtl_values.specs.Val.{Val, null, boolean, whole, number, text, list, range, map}

-- the number, where it is a whole
abbrev pub whole_in : Val → Option ℤ
whole_in null = None
whole_in (boolean b) = None
whole_in (whole n) = Some n
whole_in (number t) = None
whole_in (text t) = None
whole_in (list vs) = None
whole_in (range a b) = None
whole_in (map es) = None

-- the truth value, where it is a boolean
abbrev pub bool_in : Val → Option Bool
bool_in null = None
bool_in (boolean b) = Some b
bool_in (whole n) = None
bool_in (number t) = None
bool_in (text t) = None
bool_in (list vs) = None
bool_in (range a b) = None
bool_in (map es) = None

-- the bytes, where it is a text
abbrev pub text_in : Val → Option (List ℕ)
text_in null = None
text_in (boolean b) = None
text_in (whole n) = None
text_in (number t) = None
text_in (text t) = Some t
text_in (list vs) = None
text_in (range a b) = None
text_in (map es) = None

abbrev pub is_text : Val → Bool
is_text null = false
is_text (boolean b) = false
is_text (whole n) = false
is_text (number t) = false
is_text (text t) = true
is_text (list vs) = false
is_text (range a b) = false
is_text (map es) = false
