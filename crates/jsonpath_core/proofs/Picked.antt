-- What a path without a star selects, and steps in turn.
use Rattle.std.proofs.Common.{◌≡◌, ◌≤◌, Bool, true, false, ◌||◌, List, [], ◌∷◌, ◌++◌, length, Option, Some, None, refl, ap, ◌∙◌, sym, subst, append_assoc, append-nil, arith, option_to_list}
use Rattle.std.specs.Prelude.{flat_map}
use Rattle.json_subset.specs.Tree.{Tree}
use Rattle.json_subset.specs.Documents.{form, item_at, member_named}
use Rattle.jsonpath_core.specs.Steps.{Step, name, index, star, is_star, starred}
use Rattle.jsonpath_core.specs.Selecting.{selected, selected_of_each, select_from, select}
use Rattle.jsonpath_core.proofs.Selected.{select_nothing}

at_most_one : (o : Option Tree) → length (option_to_list o) ≤ 1
at_most_one None = omega arith
at_most_one (Some t) = omega arith

one_each : (s : Step) (t : Tree) → is_star s ≡ false → length (selected s t) ≤ 1
one_each (name n) t e = at_most_one (member_named (form t) n)
one_each (index i) t e = at_most_one (item_at (form t) i)
one_each star t e = absurd (cc)

one_of_few : (s : Step) (ts : List Tree) → is_star s ≡ false → length ts ≤ 1 → length (selected_of_each s ts) ≤ 1
one_of_few s [] e le = omega arith
one_of_few s (t ∷ []) e le = subst (λ xs. length xs ≤ 1) (sym (append-nil (selected s t))) (one_each s t e)
one_of_few s (t ∷ u ∷ ts) e le = absurd (omega (arith, le))

split_or : (a b : Bool) → (a || b) ≡ false → (a ≡ false) × (b ≡ false)
split_or false b e = (refl, e)
split_or true b e = absurd (cc)

pub selects_one : (steps : List Step) (ts : List Tree) → starred steps ≡ false → length ts ≤ 1 → length (select_from steps ts) ≤ 1
selects_one [] ts e le = le
selects_one (s ∷ steps) ts e le =
    let both = split_or (is_star s) (starred steps) e in
    selects_one steps (selected_of_each s ts) both.1 (one_of_few s ts both.0 le)

-- more steps go on from where the first end
pub in_turn : (first second : List Step) (ts : List Tree) → select_from (first ++ second) ts ≡ select_from second (select_from first ts)
in_turn [] second ts = refl
in_turn (s ∷ first) second ts = in_turn first second (selected_of_each s ts)

each_append : (s : Step) (ts us : List Tree) → selected_of_each s (ts ++ us) ≡ selected_of_each s ts ++ selected_of_each s us
each_append s [] us = refl
each_append s (t ∷ ts) us = ap (λ x. selected s t ++ x) (each_append s ts us) ∙ sym (append_assoc (selected s t) (selected_of_each s ts) (selected_of_each s us))

from_append : (steps : List Step) (ts us : List Tree) → select_from steps (ts ++ us) ≡ select_from steps ts ++ select_from steps us
from_append [] ts us = refl
from_append (s ∷ steps) ts us = ap (select_from steps) (each_append s ts us) ∙ from_append steps (selected_of_each s ts) (selected_of_each s us)

-- and select of each node apart
pub of_each_apart : (steps : List Step) (ts : List Tree) → select_from steps ts ≡ flat_map (select steps) ts
of_each_apart steps [] = select_nothing steps
of_each_apart steps (t ∷ ts) = from_append steps (t ∷ []) ts ∙ ap (λ x. select steps t ++ x) (of_each_apart steps ts)
