-- Which values count as true.
use Rattle.std.specs.Prelude.{Bool, true, false}
use Rattle.vtl_values.specs.Val.{Val, null, boolean, whole, number, text, list, range, map}

abbrev pub is_null : Val → Bool
is_null null = true
is_null (boolean b) = false
is_null (whole n) = false
is_null (number t) = false
is_null (text t) = false
is_null (list vs) = false
is_null (range a b) = false
is_null (map es) = false

-- everything but null and false
abbrev pub is_true : Val → Bool
is_true null = false
is_true (boolean b) = b
is_true (whole n) = true
is_true (number t) = true
is_true (text t) = true
is_true (list vs) = true
is_true (range a b) = true
is_true (map es) = true
