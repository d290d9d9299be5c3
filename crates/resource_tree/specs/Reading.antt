-- How a path is read as its parts.
use Rattle.std.specs.Prelude.{ℕ, ◌==◌, List, [], ◌∷◌, Option, Some, None, if◌then◌else◌}
use Rattle.std.specs.List.{slice_split}
use Rattle.std.specs.Option.{option_map}
use Rattle.resource_tree.specs.declared.part.Part.{Part}
use Rattle.resource_tree.specs.declared.part.Part.TheVariants.{Literal, Parameter, Greedy}
use Rattle.resource_tree.specs.Spelling.{is_literal, is_name}

-- what stands behind this byte, where a text begins with it
abbrev pub behind_first : ℕ → List ℕ → Option (List ℕ)
behind_first c [] = None
behind_first c (b ∷ text) = if b == c then Some text else None

-- what stands before this byte, where a text ends with it
abbrev pub before_last : ℕ → List ℕ → Option (List ℕ)
before_last c [] = None
before_last c (b ∷ []) = if b == c then Some [] else None
before_last c (b ∷ x ∷ text) = option_map (λ front. b ∷ front) (before_last c (x ∷ text))

-- a part with this name, where it is a name
abbrev pub named : (List ℕ → Part) → List ℕ → Option Part
named part name = if is_name name then Some (part name) else None

-- a parameter, by what stands between its braces, and before a `+` there
abbrev pub in_braces : List ℕ → Option (List ℕ) → Option Part
in_braces inner None = named (λ name. Parameter name) inner
in_braces inner (Some name) = named (λ name. Greedy name) name

-- a parameter, by what stands behind its first brace, and before a brace at its end there
abbrev pub behind_brace : Option (List ℕ) → Option Part
behind_brace None = None
behind_brace (Some inner) = in_braces inner (before_last 43 inner)

-- a part, by its text and what stands behind a brace there
abbrev pub part_in : List ℕ → Option (List ℕ) → Option Part
part_in text None = if is_literal text then Some (Literal text) else None
part_in text (Some rest) = behind_brace (before_last 125 rest)

-- the part that is written so
unfoldable pub part_of : List ℕ → Option Part
part_of text = part_in text (behind_first 123 text)

-- a part before others, where all are parts
abbrev pub onto_parts : Option Part → Option (List Part) → Option (List Part)
onto_parts None parts = None
onto_parts (Some part) None = None
onto_parts (Some part) (Some parts) = Some (part ∷ parts)

-- the parts that are written so, one after another
abbrev pub each_part : List (List ℕ) → Option (List Part)
each_part [] = Some []
each_part (text ∷ texts) = onto_parts (part_of text) (each_part texts)

-- the parts that stand behind the first `/`
abbrev pub parts_behind : List ℕ → Option (List Part)
parts_behind [] = Some []
parts_behind (b ∷ rest) = each_part (slice_split (λ c. c == 47) (b ∷ rest))

abbrev pub parts_in : Option (List ℕ) → Option (List Part)
parts_in None = None
parts_in (Some rest) = parts_behind rest

-- the parts of a path, wherever a `{name+}` stands among them; `None` where it is no path
unfoldable pub parts_of : List ℕ → Option (List Part)
parts_of path = parts_in (behind_first 47 path)
