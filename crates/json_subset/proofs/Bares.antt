-- Places say nothing of depth or names.
use Rattle.std.proofs.Common.{◌≡◌, ℕ, ◌+◌, List, [], ◌∷◌, ◌++◌, refl, sym, ap, ◌∙◌, subst}
use Rattle.std.specs.Prelude.{max}
use Rattle.json_subset.specs.Tree.{Tree, node, Form, null, bool, number, text, list, object, Trees, no_trees, tree, Members, no_members, member}
use Rattle.json_subset.specs.Bare.{bare, bare_form, bare_trees, bare_members}
use Rattle.json_subset.specs.Grammar.{depth, form_depth, trees_depth, members_depth, HasNewNames, IsDistinct, IsDistinctForm, AreDistinct, AreDistinctMembers}

mutual
  bare_depth : (t : Tree) → depth (bare t) ≡ depth t
  bare_depth (node first past f) = form_same f

  form_same : (f : Form) → form_depth (bare_form f) ≡ form_depth f
  form_same null = refl
  form_same (bool b) = refl
  form_same (number k s) = refl
  form_same (text t) = refl
  form_same (list ts) = ap (λ k. k + 1) (trees_same ts)
  form_same (object ms) = ap (λ k. k + 1) (members_same ms)

  trees_same : (ts : Trees) → trees_depth (bare_trees ts) ≡ trees_depth ts
  trees_same no_trees = refl
  trees_same (tree t ts) = ap (λ k. max k (trees_depth (bare_trees ts))) (bare_depth t) ∙ ap (max (depth t)) (trees_same ts)

  members_same : (ms : Members) → members_depth (bare_members ms) ≡ members_depth ms
  members_same no_members = refl
  members_same (member x t ms) = ap (λ k. max k (members_depth (bare_members ms))) (bare_depth t) ∙ ap (max (depth t)) (members_same ms)

names_bare : (names : List (List ℕ)) (ms : Members) → HasNewNames names ms → HasNewNames names (bare_members ms)
names_bare names no_members h = tt
names_bare names (member x t ms) h = (h.0, names_bare (names ++ x ∷ []) ms h.1)

names_back : (names : List (List ℕ)) (ms : Members) → HasNewNames names (bare_members ms) → HasNewNames names ms
names_back names no_members h = tt
names_back names (member x t ms) h = (h.0, names_back (names ++ x ∷ []) ms h.1)

mutual
  distinct_bare : (t : Tree) → IsDistinct t → IsDistinct (bare t)
  distinct_bare (node first past f) h = form_bare f h

  form_bare : (f : Form) → IsDistinctForm f → IsDistinctForm (bare_form f)
  form_bare null h = tt
  form_bare (bool b) h = tt
  form_bare (number k s) h = tt
  form_bare (text t) h = tt
  form_bare (list ts) h = trees_bare ts h
  form_bare (object ms) h = (names_bare [] ms h.0, members_bare ms h.1)

  trees_bare : (ts : Trees) → AreDistinct ts → AreDistinct (bare_trees ts)
  trees_bare no_trees h = tt
  trees_bare (tree t ts) h = (distinct_bare t h.0, trees_bare ts h.1)

  members_bare : (ms : Members) → AreDistinctMembers ms → AreDistinctMembers (bare_members ms)
  members_bare no_members h = tt
  members_bare (member x t ms) h = (distinct_bare t h.0, members_bare ms h.1)

mutual
  distinct_back : (t : Tree) → IsDistinct (bare t) → IsDistinct t
  distinct_back (node first past f) h = form_back f h

  form_back : (f : Form) → IsDistinctForm (bare_form f) → IsDistinctForm f
  form_back null h = tt
  form_back (bool b) h = tt
  form_back (number k s) h = tt
  form_back (text t) h = tt
  form_back (list ts) h = trees_back ts h
  form_back (object ms) h = (names_back [] ms h.0, members_back ms h.1)

  trees_back : (ts : Trees) → AreDistinct (bare_trees ts) → AreDistinct ts
  trees_back no_trees h = tt
  trees_back (tree t ts) h = (distinct_back t h.0, trees_back ts h.1)

  members_back : (ms : Members) → AreDistinctMembers (bare_members ms) → AreDistinctMembers ms
  members_back no_members h = tt
  members_back (member x t ms) h = (distinct_back t h.0, members_back ms h.1)

pub same_depth : (t u : Tree) → bare u ≡ bare t → depth u ≡ depth t
same_depth t u e = sym (bare_depth u) ∙ ap depth e ∙ bare_depth t

pub same_distinct : (t u : Tree) → bare u ≡ bare t → IsDistinct t → IsDistinct u
same_distinct t u e h = distinct_back u (subst (λ z. IsDistinct z) (sym e) (distinct_bare t h))
