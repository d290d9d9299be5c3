-- The search for the best path over the nodes.
use Rattle.std.proofs.Common.{◌≡◌, ℕ, zero, suc, ◌+◌, ◌-◌, ◌<◌, ◌≤◌, ◌⊎◌, inl, inr, Bool, true, false, List, [], length, take, get_or, refl, ap, sym, ◌∙◌, subst, arith}
use Rattle.std.proofs.lemmas.List.{take-take, get_or_read}
use Rattle.resource_tree.specs.declared.part.Part.{Part}
use Rattle.resource_tree.specs.declared.node.Node.{Node}
use Rattle.resource_tree.specs.Matching.{matches, ranks, path_at, IsTable, IsBest, MatchesNone, IsUpTo}
use Rattle.resource_tree.specs.Nodes.{takes_front, node_at, depth_at, parts_at, IsWhole, IsPreorder, EndsAtNode, IsEndOf}
use Rattle.resource_tree.specs.Sharing.{greedy_last}
use Rattle.resource_tree.proofs.Fronts.{front_fewer, front_shared, matches_front}
use Rattle.resource_tree.proofs.Tried.{upto_from_tried, upto_itself}

-- all parts before the last of this node take their segments, and no path that ends before it matches
pub record IsSought (paths : List (List Part)) (nodes : List Node) (segments : List (List ℕ)) (at : ℕ) : Type 0 where
  pub front : at < length nodes → takes_front (depth_at nodes at - 1) (parts_at paths nodes at) segments ≡ true
  pub none : (k : ℕ) → k < at → k < length nodes → IsWhole paths nodes k → matches (parts_at paths nodes k) segments ≡ false

module _ (paths : List (List Part)) (nodes : List Node) (segments : List (List ℕ)) (table : IsTable paths) (tree : IsPreorder paths nodes) where
  last_at : (at : ℕ) → at < length nodes → greedy_last (parts_at paths nodes at) ≡ true
  last_at at within = table.last (node_at nodes at).path [] (tree.path at within)

  -- what all nodes up to one share with the first
  shares : (at n count : ℕ) → at + n < length nodes → ((k : ℕ) → at < k → k ≤ at + n → count ≤ depth_at nodes k - 1) → take count (parts_at paths nodes at) ≡ take count (parts_at paths nodes (at + n))
  shares at zero count within deep =
      let here : at ≡ at + 0 = omega arith in
      ap (λ k. take count (parts_at paths nodes k)) here
  shares at (suc n) count within deep =
      let next : at + n + 1 ≡ at + suc n = omega arith in
      let less : at + n + 1 < length nodes = omega arith in
      let d : count ≤ depth_at nodes (at + n + 1) - 1 = subst (λ k. count ≤ depth_at nodes k - 1) (sym next) (deep (at + suc n) (omega arith) (omega arith)) in
      let depth = depth_at nodes (at + n + 1) - 1 in
      shares at n count (omega arith) (λ k l m. deep k l (omega arith))
      ∙ sym (take-take count depth (parts_at paths nodes (at + n)) d)
      ∙ ap (take count) (tree.shared (at + n) less)
      ∙ take-take count depth (parts_at paths nodes (at + n + 1)) d
      ∙ ap (λ k. take count (parts_at paths nodes k)) next

  shares_to : (at k count : ℕ) → at ≤ k → k < length nodes → ((j : ℕ) → at < j → j ≤ k → count ≤ depth_at nodes j - 1) → take count (parts_at paths nodes at) ≡ take count (parts_at paths nodes k)
  shares_to at k count upto within deep =
      let there : at + (k - at) ≡ k = omega arith in
      shares at (k - at) count (omega arith) (λ j l m. deep j l (omega arith)) ∙ ap (λ k. take count (parts_at paths nodes k)) there

  pub start : IsSought paths nodes segments 0
  start = record {
    front = λ some. let none : 0 ≡ depth_at nodes 0 - 1 = omega (arith, tree.first some) in subst (λ n. takes_front n (parts_at paths nodes 0) segments ≡ true) none refl;
    none = λ k l. absurd (omega arith);
  }

  -- the path goes on from a node that takes its segment
  pub down : (at : ℕ) → IsSought paths nodes segments at → at < length nodes → takes_front (depth_at nodes at) (parts_at paths nodes at) segments ≡ true → (IsWhole paths nodes at → matches (parts_at paths nodes at) segments ≡ false) → IsSought paths nodes segments (at + 1)
  down at sought within taken other = record {
    front = λ more.
        let fewer : depth_at nodes (at + 1) - 1 ≤ depth_at nodes at = omega (arith, tree.deeper at more) in
        let l : depth_at nodes (at + 1) - 1 ≤ length (parts_at paths nodes at) = omega (arith, fewer, tree.depth at within) in
        let m : depth_at nodes (at + 1) - 1 ≤ length (parts_at paths nodes (at + 1)) = omega (arith, tree.depth (at + 1) more) in
        sym (front_shared (depth_at nodes (at + 1) - 1) (parts_at paths nodes at) (parts_at paths nodes (at + 1)) segments (tree.shared at more) l m)
        ∙ front_fewer (depth_at nodes (at + 1) - 1) (depth_at nodes at) (parts_at paths nodes at) segments fewer taken;
    none = λ k l m whole. by_place k m whole (split k l);
  }
    where
      split : (k : ℕ) → k < at + 1 → (k < at) ⊎ (k ≡ at)
      split k l = grind arith

      by_place : (k : ℕ) → k < length nodes → IsWhole paths nodes k → (k < at) ⊎ (k ≡ at) → matches (parts_at paths nodes k) segments ≡ false
      by_place k m whole (inl before) = sought.none k before m whole
      by_place k m whole (inr here) =
          ap (λ j. matches (parts_at paths nodes j) segments) here ∙ other (subst (λ j. IsWhole paths nodes j) here whole)

  -- no path through a node matches that doesn't take its segment
  stopped : (at k : ℕ) → at ≤ k → k < length nodes → ((j : ℕ) → at < j → j ≤ k → depth_at nodes at < depth_at nodes j) → takes_front (depth_at nodes at) (parts_at paths nodes at) segments ≡ false → matches (parts_at paths nodes k) segments ≡ false
  stopped at k upto within deep refused = by_match (matches (parts_at paths nodes k) segments) refl
    where
      fits_there : (at < k) ⊎ (at ≡ k) → depth_at nodes at ≤ length (parts_at paths nodes k)
      fits_there (inl before) = omega (arith, deep k before (omega arith), tree.depth k within)
      fits_there (inr here) = subst (λ j. depth_at nodes at ≤ length (parts_at paths nodes j)) here (tree.depth at (omega arith))

      two : (at < k) ⊎ (at ≡ k)
      two = grind arith

      by_match : (t : Bool) → matches (parts_at paths nodes k) segments ≡ t → t ≡ false
      by_match false e = refl
      by_match true e =
          let same = shares_to at k (depth_at nodes at) upto within (λ j l m. omega (arith, deep j l m)) in
          let taken = matches_front (depth_at nodes at) (parts_at paths nodes k) segments (last_at k within) (fits_there two) e in
          let no : true ≡ false = sym taken ∙ sym (front_shared (depth_at nodes at) (parts_at paths nodes at) (parts_at paths nodes k) segments same (tree.depth at (omega arith)) (fits_there two)) ∙ refused in
          absurd (cc)

  pub skip : (at end : ℕ) → IsSought paths nodes segments at → at < length nodes → IsEndOf nodes at end → takes_front (depth_at nodes at) (parts_at paths nodes at) segments ≡ false → IsSought paths nodes segments end
  skip at end sought within is refused = record {
    front = λ more.
        let fewer : depth_at nodes end - 1 ≤ depth_at nodes at - 1 = omega (arith, is.behind more) in
        let same = shares_to at end (depth_at nodes end - 1) (omega (arith, is.after)) more (λ j l m. deep j l m more (split j m)) in
        let l : depth_at nodes end - 1 ≤ length (parts_at paths nodes at) = omega (arith, fewer, tree.depth at within) in
        let m : depth_at nodes end - 1 ≤ length (parts_at paths nodes end) = omega (arith, tree.depth end more) in
        sym (front_shared (depth_at nodes end - 1) (parts_at paths nodes at) (parts_at paths nodes end) segments same l m)
        ∙ front_fewer (depth_at nodes end - 1) (depth_at nodes at - 1) (parts_at paths nodes at) segments fewer (sought.front within);
    none = λ k l m whole. by_place k l m whole (before k);
  }
    where
      split : (j : ℕ) → j ≤ end → (j < end) ⊎ (j ≡ end)
      split j m = grind arith

      before : (k : ℕ) → (k < at) ⊎ (at ≤ k)
      before k = grind arith

      deep : (j : ℕ) → at < j → j ≤ end → end < length nodes → (j < end) ⊎ (j ≡ end) → depth_at nodes end - 1 ≤ depth_at nodes j - 1
      deep j l m more (inl less) = omega (arith, is.below j l less, is.behind more)
      deep j l m more (inr here) = subst (λ i. depth_at nodes end - 1 ≤ depth_at nodes i - 1) (sym here) (omega arith)

      by_place : (k : ℕ) → k < end → k < length nodes → IsWhole paths nodes k → (k < at) ⊎ (at ≤ k) → matches (parts_at paths nodes k) segments ≡ false
      by_place k l m whole (inl less) = sought.none k less m whole
      by_place k l m whole (inr upto) = stopped at k upto m (λ j n o. is.below j n (omega arith)) refused

  -- the first that matches is the best
  pub found : (at : ℕ) → ((path : ℕ) → path < length paths → EndsAtNode paths nodes path) → IsSought paths nodes segments at → at < length nodes → IsWhole paths nodes at → matches (parts_at paths nodes at) segments ≡ true → IsBest paths segments (node_at nodes at).path
  found at covered sought within whole is = record {
    within = tree.path at within;
    matched = is;
    least = λ k l m. by_node k m (covered k l);
  }
    where
      three : (j : ℕ) → (j < at) ⊎ ((j ≡ at) ⊎ (at < j))
      three j = grind arith

      by_place : (k j : ℕ) → matches (path_at paths k) segments ≡ true → j < length nodes → (node_at nodes j).path ≡ k → IsWhole paths nodes j → (j < at) ⊎ ((j ≡ at) ⊎ (at < j)) → IsUpTo (ranks (parts_at paths nodes at)) (ranks (path_at paths k))
      by_place k j m l same ends (inl before) =
          let no : true ≡ false = sym m ∙ ap (λ p. matches (path_at paths p) segments) (sym same) ∙ sought.none j before l ends in
          absurd (cc)
      by_place k j m l same ends (inr (inl here)) =
          subst (λ p. IsUpTo (ranks (parts_at paths nodes at)) (ranks (path_at paths p))) (ap (λ i. (node_at nodes i).path) (sym here) ∙ same) (upto_itself (ranks (parts_at paths nodes at)))
      by_place k j m l same ends (inr (inr behind)) =
          subst (λ p. IsUpTo (ranks (parts_at paths nodes at)) (ranks (path_at paths p))) same
          (upto_from_tried (parts_at paths nodes at) (parts_at paths nodes j) segments (last_at at within) (last_at j l) is (ap (λ p. matches (path_at paths p) segments) same ∙ m) (tree.ordered at j behind l))

      by_node : (k : ℕ) → matches (path_at paths k) segments ≡ true → EndsAtNode paths nodes k → IsUpTo (ranks (parts_at paths nodes at)) (ranks (path_at paths k))
      by_node k m node = by_place k node.at m node.within node.is node.whole (three node.at)

  -- and where none was found none matches
  pub nothing : (at : ℕ) → ((path : ℕ) → path < length paths → EndsAtNode paths nodes path) → IsSought paths nodes segments at → length nodes ≤ at → MatchesNone paths segments
  nothing at covered sought past = λ k l.
      let node = covered k l in
      ap (λ p. matches (path_at paths p) segments) (sym node.is) ∙ sought.none node.at (omega (arith, node.within)) node.within node.whole

-- an item that was read is the path at its place
pub read_at : (paths : List (List Part)) (i : ℕ) (item slice : List Part) → i < length paths → item ≡ get_or paths i item → slice ≡ item → slice ≡ path_at paths i
read_at paths i item slice less is read = read ∙ get_or_read paths i item less is []
