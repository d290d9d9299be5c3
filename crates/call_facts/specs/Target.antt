-- The parts of a request's target (RFC 9112, section 3.2).
use Rattle.std.specs.Prelude.{ℕ, ◌==◌, nat_eq, List, [], length, drop, map, if◌then◌else◌, codes}
use Rattle.std.specs.List.{before_first, after_first, starts_with}
use Rattle.std.specs.Str.Lossy.{utf8_lossy}
use Rattle.form_urlencoded.specs.Form as form
use Rattle.call_facts.specs.Pairs.{Pairs}
use Rattle.call_facts.specs.declared.target.Target.{Target}

-- what stands before the first of these bytes, what behind it, and what from it on
unfoldable pub until : ℕ → List ℕ → List ℕ
until c t = before_first (λ b. b == c) t

unfoldable pub past : ℕ → List ℕ → List ℕ
past c t = after_first (λ b. b == c) t

unfoldable pub from : ℕ → List ℕ → List ℕ
from c t = drop (length (before_first (λ b. b == c) t)) t

-- what stands behind the first `/` of a path: in absolute form the one that ends the authority; a target of another form has no path
abbrev pub behind_root : List ℕ → List ℕ
behind_root path =
    if starts_with nat_eq path (codes "http://") then past 47 (past 47 (past 47 path))
    else if starts_with nat_eq path (codes "/") then past 47 path
    else []

-- application/x-www-form-urlencoded (URL Standard, section 5.1); bytes that are no UTF-8 become U+FFFD
abbrev pub form_decoded : List ℕ → List ℕ
form_decoded text = utf8_lossy (form.decode text)

abbrev pub decoded_pair : List ℕ × List ℕ → List ℕ × List ℕ
decoded_pair p = (form_decoded p.0, form_decoded p.1)

-- the pairs of a query, decoded
unfoldable pub query_pairs : List ℕ → Pairs
query_pairs query = map decoded_pair (form.raw_pairs query)

-- the first two parts of a path behind its root, and what is left of it, all as they are written
abbrev pub parts_of : List ℕ → List ℕ → Target
parts_of path query = record { api = until 47 path; stage = until 47 (past 47 path); path = from 47 (past 47 path); query = query_pairs query }

-- what a target names
unfoldable pub target_of : List ℕ → Target
target_of target = parts_of (behind_root (until 63 target)) (past 63 target)
