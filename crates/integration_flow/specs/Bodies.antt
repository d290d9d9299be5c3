-- The texts that paths select of a body.
use Rattle.std.specs.Prelude.{ℕ, List, [], ◌∷◌, Option, Some, None, if◌then◌else◌}
use Rattle.std.specs.Option.{unwrap_or}
use Rattle.gateway_vars.specs.Documents.{all_texts, document, node_text}
use Rattle.json_subset.specs.Documents.{decoded, form}
use Rattle.json_subset.specs.Tree.{Tree}
use Rattle.jsonpath_core.specs.Selecting.{select}
use Rattle.jsonpath_core.specs.Steps.{Step, starred}

-- a string's own text, and of any other node its source without the white space outside strings
abbrev pub own_text : List ℕ → Tree → List ℕ
own_text body t = unwrap_or (decoded (form t)) (node_text body t)

abbrev pub first_text : List ℕ → List Tree → Option (List ℕ)
first_text body [] = None
first_text body (t ∷ ts) = Some (own_text body t)

-- of a path with a star the list of all texts
abbrev pub selected : List ℕ → List Step → Tree → Option (List ℕ)
selected body path t = if starred path then Some (all_texts body (select path t)) else first_text body (select path t)

abbrev pub selected_in : List ℕ → List Step → Option Tree → Option (List ℕ)
selected_in body path None = None
selected_in body path (Some t) = selected body path t

-- the text that a path selects of a body, where it is a JSON document
unfoldable pub text_at : List ℕ → List Step → Option (List ℕ)
text_at body path = selected_in body path (document body)
