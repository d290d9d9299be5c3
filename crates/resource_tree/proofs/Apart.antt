-- The paths of a list with no fault.
use Rattle.std.proofs.Common.{◌≡◌, ℕ, zero, suc, ◌<◌, ◌⊎◌, inl, inr, true, false, List, [], ◌∷◌, length, take, get_or, map, Some, ap, sym, ◌∙◌, arith, length-take}
use Rattle.std.proofs.lemmas.List.{length-map, take-map, get_or-take}
use Rattle.std.specs.List.{list_any}
use Rattle.resource_tree.specs.declared.part.Part.{Part}
use Rattle.resource_tree.specs.declared.fault.TreeFault.{TreeFault}
use Rattle.resource_tree.specs.Faults.{fault_of_parts, fault_behind, fault_at, parts_of_each, HasNoFault, IsFirstFault}
use Rattle.resource_tree.specs.Matching.{matches, ranks, path_at, IsBest}
use Rattle.resource_tree.specs.Reading.{parts_of}
use Rattle.resource_tree.specs.Sharing.{clashes, greedy_last}
use Rattle.resource_tree.proofs.FaultLemmas.{fault_none, none_of, parts_of_read}
use Rattle.resource_tree.proofs.Unique.{same_ranks_clash, equal_lists, three_ways}

heads : {X : Type 0} {x y : X} {xs ys : List X} → x ∷ xs ≡ y ∷ ys → x ≡ y
heads e = cc

tails : {X : Type 0} {x y : X} {xs ys : List X} → x ∷ xs ≡ y ∷ ys → xs ≡ ys
tails e = cc

-- what was read at a place
pub read_there : (paths : List (List Part)) (texts : List (List ℕ)) (at : ℕ) → map (λ parts. Some parts) paths ≡ map parts_of texts → at < length paths → parts_of (get_or texts at []) ≡ Some (path_at paths at)
read_there [] texts at e less = absurd (omega arith)
read_there (parts ∷ paths) [] at e less = absurd (cc)
read_there (parts ∷ paths) (text ∷ texts) zero e less = sym (heads e)
read_there (parts ∷ paths) (text ∷ texts) (suc at) e less = read_there paths texts at (tails e) (omega arith)

module _ (texts : List (List ℕ)) (paths : List (List Part)) (good : HasNoFault texts) (read : map (λ parts. Some parts) paths ≡ map parts_of texts) where
  pub no_fault_at : (at : ℕ) → at < length paths → (greedy_last (path_at paths at) ≡ true) × (list_any (λ other. clashes other (path_at paths at)) (take at paths) ≡ false)
  no_fault_at at less =
      let count : length paths ≡ length texts = sym (length-map paths (λ parts. Some parts)) ∙ ap length read ∙ length-map texts parts_of in
      let front : map (λ parts. Some parts) (take at paths) ≡ map parts_of (take at texts) = sym (take-map (λ parts. Some parts) at paths) ∙ ap (take at) read ∙ take-map parts_of at texts in
      fault_none (take at paths) at (path_at paths at)
      (ap (λ t. fault_of_parts t at (path_at paths at)) (sym (parts_of_read (take at paths) (take at texts) front))
      ∙ ap (fault_behind (parts_of_each (take at texts)) at) (sym (read_there paths texts at read less))
      ∙ good at (omega arith))

  apart : (first second : ℕ) → first < second → second < length paths → clashes (path_at paths first) (path_at paths second) ≡ false
  apart first second less within =
      let long : length (take second paths) ≡ second = length-take second paths ∙ omega arith in
      ap (λ p. clashes p (path_at paths second)) (sym (get_or-take second paths first [] less))
      ∙ none_of (path_at paths second) (take second paths) (no_fault_at second within).1 first [] (omega arith)

  pub never_alike : (segments : List (List ℕ)) (first second : ℕ) → first < length paths → second < length paths → matches (path_at paths first) segments ≡ true → matches (path_at paths second) segments ≡ true → ranks (path_at paths first) ≡ ranks (path_at paths second) → first ≡ second
  never_alike segments first second l r m n e = by_order (three_ways first second)
    where
      by_order : (first < second) ⊎ ((first ≡ second) ⊎ (second < first)) → first ≡ second
      by_order (inl less) =
          let no : true ≡ false = sym (same_ranks_clash (path_at paths first) (path_at paths second) segments (no_fault_at first l).0 (no_fault_at second r).0 m n e) ∙ apart first second less r in
          absurd (cc)
      by_order (inr (inl is)) = is
      by_order (inr (inr more)) =
          let no : true ≡ false = sym (same_ranks_clash (path_at paths second) (path_at paths first) segments (no_fault_at second r).0 (no_fault_at first l).0 n m (sym e)) ∙ apart second first more l in
          absurd (cc)

  pub never_two_best : (segments : List (List ℕ)) (first second : ℕ) → IsBest paths segments first → IsBest paths segments second → first ≡ second
  never_two_best segments first second a b =
      never_alike segments first second a.within b.within a.matched b.matched
      (equal_lists (ranks (path_at paths first)) (ranks (path_at paths second)) (a.least second b.within b.matched) (b.least first a.within a.matched))

some_same : {X : Type 0} {x y : X} → Some x ≡ Some y → x ≡ y
some_same e = cc

pub one_fault : (texts : List (List ℕ)) (fault : TreeFault) → IsFirstFault texts fault → (HasNoFault texts → ⊥) × ((other : TreeFault) → IsFirstFault texts other → fault ≡ other)
one_fault texts fault f = (λ good. let no = sym f.is ∙ good f.at f.within in cc, λ other g. by_order other g (three_ways f.at g.at))
  where
    by_order : (other : TreeFault) (g : IsFirstFault texts other) → (f.at < g.at) ⊎ ((f.at ≡ g.at) ⊎ (g.at < f.at)) → fault ≡ other
    by_order other g (inl less) = let no = sym f.is ∙ g.before f.at less in absurd (cc)
    by_order other g (inr (inl is)) = some_same (sym f.is ∙ ap (fault_at texts) is ∙ g.is)
    by_order other g (inr (inr more)) = let no = sym g.is ∙ f.before g.at more in absurd (cc)
