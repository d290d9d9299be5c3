-- The query of a request.
use Rattle.std.specs.Prelude.{ℕ, ◌==◌, Bool, not, List, [], ◌∷◌, ◌++◌, fold, length, if◌then◌else◌}
use Rattle.std.specs.List.{filter, list_any}
use Rattle.std.specs.Str.{bytes_eq}
use Rattle.call_facts.specs.Pairs.{Pairs}
use Rattle.wire_text.specs.Queries.{query_of}

abbrev pub without : Pairs → List ℕ → Pairs
without ps x = filter (λ p. not (bytes_eq p.0 x)) ps

-- a pair takes the place of the first of just its name, and no other of that name stays; where there is none it comes last
abbrev pub replaced : Pairs → List ℕ × List ℕ → Pairs
replaced [] over = over ∷ []
replaced (p ∷ ps) over = if bytes_eq p.0 over.0 then over ∷ without ps over.0 else p ∷ replaced ps over

-- the pairs over which these are written, one after another
abbrev pub over_pairs : Pairs → Pairs → Pairs
over_pairs ps overs = fold replaced ps overs

-- the pair has the name of one of these
abbrev pub is_named : Pairs → List ℕ × List ℕ → Bool
is_named ps p = list_any (λ q. bytes_eq q.0 p.0) ps

-- the pairs whose names none of these has
abbrev pub others : Pairs → Pairs → Pairs
others asked mapped = filter (λ p. not (is_named mapped p)) asked

-- the query that a proxy sends: the client's as it is written; where pairs are mapped, its others and then these
abbrev pub proxied : List ℕ → Pairs → Pairs → List ℕ
proxied raw asked mapped = if length mapped == 0 then raw else query_of (others asked mapped ++ mapped)
