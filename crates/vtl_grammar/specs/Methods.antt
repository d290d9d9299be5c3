-- How many arguments each method takes: those of values (Java's String, List and Map), and those of the roots.
use Rattle.std.specs.Prelude.{ℕ, List, [], ◌∷◌, codes, Option, Some, None, bytes_eq, if◌then◌else◌}
use Rattle.vtl_grammar.specs.Bytes.{is_one_of}

abbrev pub without_argument : List (List ℕ)
without_argument = codes "toString" ∷ codes "length" ∷ codes "toUpperCase" ∷ codes "toLowerCase" ∷ codes "trim" ∷ codes "isEmpty" ∷ codes "size" ∷ codes "keySet" ∷ codes "entrySet" ∷ []

abbrev pub with_one : List (List ℕ)
with_one = codes "equals" ∷ codes "contains" ∷ codes "startsWith" ∷ codes "endsWith" ∷ codes "indexOf" ∷ codes "split" ∷ codes "get" ∷ codes "containsKey" ∷ []

abbrev pub with_two : List (List ℕ)
with_two = codes "replace" ∷ codes "replaceAll" ∷ []

-- of `$input` and `$util`
abbrev pub of_roots : List (List ℕ)
of_roots = codes "json" ∷ codes "path" ∷ codes "escapeJavaScript" ∷ codes "parseJson" ∷ codes "urlEncode" ∷ codes "urlDecode" ∷ codes "base64Encode" ∷ codes "base64Decode" ∷ []

-- the fewest and the most arguments of a method of this name
abbrev pub arity : List ℕ → Option (ℕ × ℕ)
arity x =
    if is_one_of without_argument x then Some (0, 0)
    else if is_one_of with_one x then Some (1, 1)
    else if is_one_of with_two x then Some (2, 2)
    else if is_one_of of_roots x then Some (1, 1)
    else if bytes_eq x (codes "substring") then Some (1, 2)
    else if bytes_eq x (codes "params") then Some (0, 1)
    else None
