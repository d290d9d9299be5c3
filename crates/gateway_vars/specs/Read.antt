-- A body with the document that it is.
use Rattle.std.specs.Prelude.{◌≡◌, ℕ, List, Option, IfSome}
use Rattle.std.specs.Option.{option_map}
use Rattle.json_subset.specs.Documents.{Document, root_tree}
use Rattle.gateway_vars.specs.Documents.{document}

pub record IsReading (body : List ℕ) (doc : Option Document) : Type 0 where
  pub tree : option_map root_tree doc ≡ document body
  pub text : IfSome doc (λ d. d.text ≡ body)
