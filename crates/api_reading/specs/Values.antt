-- The forms of values. A value of another form is a bad member, by the name that is handed in.
use Rattle.std.specs.Prelude.{ℕ, ◌+◌, Bool, true, false, ◌&&◌, List, [], ◌∷◌, Option, Some, None, Result, Ok, Err, ℤ, pos, int_le, unsigned_abs, if◌then◌else◌}
use Rattle.std.specs.Fmt.{decimal}
use Rattle.json_subset.specs.Tree.{Tree, Form, null, bool, number, text, list, object}
use Rattle.json_subset.specs.Documents.{form, kind, decoded}
use Rattle.json_subset.specs.declared.doc.Kind.{Kind}
use Rattle.json_subset.specs.declared.doc.Kind.TheVariants as kinds
use Rattle.json_values.specs.Parts.{entries_of, items_of}
use Rattle.api_parts.specs.Reading.{Text, Read, bad}

-- true or false
abbrev pub flag_by : Text → Kind → Read Bool
flag_by name kinds.Null = bad name
flag_by name (kinds.Bool b) = Ok b
flag_by name (kinds.Whole z) = bad name
flag_by name kinds.Decimal = bad name
flag_by name kinds.Wide = bad name
flag_by name kinds.Text = bad name
flag_by name (kinds.List n) = bad name
flag_by name (kinds.Object n) = bad name

abbrev pub flag_in : Text → Tree → Read Bool
flag_in name t = flag_by name (kind (form t))

-- a whole number from the least to the most
abbrev pub number_by : ℕ → ℕ → Text → Kind → Read ℕ
number_by least most name kinds.Null = bad name
number_by least most name (kinds.Bool b) = bad name
number_by least most name (kinds.Whole z) = if int_le (pos least) z && int_le z (pos most) then Ok (unsigned_abs z) else bad name
number_by least most name kinds.Decimal = bad name
number_by least most name kinds.Wide = bad name
number_by least most name kinds.Text = bad name
number_by least most name (kinds.List n) = bad name
number_by least most name (kinds.Object n) = bad name

abbrev pub number_in : ℕ → ℕ → Text → Tree → Read ℕ
number_in least most name t = number_by least most name (kind (form t))

-- a text
abbrev pub text_by : Text → Option Text → Read Text
text_by name None = bad name
text_by name (Some t) = Ok t

abbrev pub text_in : Text → Tree → Read Text
text_in name t = text_by name (decoded (form t))

-- the members of an object, each with its name
abbrev pub object_by : Text → List (Text × Tree) → Kind → Read (List (Text × Tree))
object_by name ms kinds.Null = bad name
object_by name ms (kinds.Bool b) = bad name
object_by name ms (kinds.Whole z) = bad name
object_by name ms kinds.Decimal = bad name
object_by name ms kinds.Wide = bad name
object_by name ms kinds.Text = bad name
object_by name ms (kinds.List n) = bad name
object_by name ms (kinds.Object n) = Ok ms

abbrev pub object_in : Text → Tree → Read (List (Text × Tree))
object_in name t = object_by name (entries_of (form t)) (kind (form t))

-- the items of a list, each with its number as a name
abbrev pub numbered : ℕ → List Tree → List (Text × Tree)
numbered n [] = []
numbered n (t ∷ ts) = (decimal n, t) ∷ numbered (n + 1) ts

abbrev pub list_by : Text → List Tree → Kind → Read (List (Text × Tree))
list_by name ts kinds.Null = bad name
list_by name ts (kinds.Bool b) = bad name
list_by name ts (kinds.Whole z) = bad name
list_by name ts kinds.Decimal = bad name
list_by name ts kinds.Wide = bad name
list_by name ts kinds.Text = bad name
list_by name ts (kinds.List n) = Ok (numbered 0 ts)
list_by name ts (kinds.Object n) = bad name

abbrev pub list_in : Text → Tree → Read (List (Text × Tree))
list_in name t = list_by name (items_of (form t)) (kind (form t))
