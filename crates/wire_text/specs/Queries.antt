-- Pairs as a query, and a path with one.
use Rattle.std.specs.Prelude.{ℕ, List, [], ◌∷◌, ◌++◌}
use Rattle.form_urlencoded.specs.Form.{extend_pairs}
use Rattle.call_facts.specs.Pairs.{Pairs}

-- application/x-www-form-urlencoded (URL Standard, section 5.2)
abbrev pub query_of : Pairs → List ℕ
query_of pairs = extend_pairs [] pairs

-- an empty query is not written, and neither is its `?` (RFC 9112, section 3.2.1)
abbrev pub with_query_of : List ℕ → List ℕ → List ℕ
with_query_of path [] = path
with_query_of path (b ∷ bs) = path ++ 63 ∷ b ∷ bs
