-- Nodes that are added one by one.
use Rattle.std.proofs.Common.{◌≡◌, ℕ, ◌+◌, ◌-◌, ◌<◌, ◌≤◌, ◌⊎◌, inl, inr, List, [], ◌∷◌, ◌++◌, length, take, get_or, refl, ap, sym, ◌∙◌, subst, arith}
use Rattle.std.proofs.lemmas.Cmp.{tied_itself}
use Rattle.std.proofs.lemmas.List.{length_push, get_or_push, get_or_append_left, get_or_read}
use Rattle.std.specs.List.{All}
use Rattle.std.specs.Ordering.{is_gt}
use Rattle.resource_tree.specs.declared.part.Part.{Part}
use Rattle.resource_tree.specs.declared.node.Node.{Node}
use Rattle.resource_tree.specs.declared.order.Entry.{Entry}
use Rattle.resource_tree.specs.Matching.{path_at}
use Rattle.resource_tree.specs.Nodes.{node_at, depth_at, parts_at, IsTriedBefore, IsPreorder, AreTriedBefore, CanFollow, IsGrown, EndsAtNode}
use Rattle.resource_tree.specs.Order.{AreTriedInOrder, HasPath}
use Rattle.resource_tree.proofs.Ordered.{paths_total}

pub tried_itself : (parts : List Part) → IsTriedBefore parts parts
tried_itself parts = ap is_gt (tied_itself paths_total parts)

abbrev none : Node
none = record { path = 0; depth = 0 }

at_before : (nodes : List Node) (node : Node) (at : ℕ) → at < length nodes → node_at (nodes ++ node ∷ []) at ≡ node_at nodes at
at_before nodes node at less = get_or_append_left nodes (node ∷ []) none at less

at_last : (nodes : List Node) (node : Node) (at : ℕ) → at ≡ length nodes → node_at (nodes ++ node ∷ []) at ≡ node
at_last nodes node at is = get_or_push nodes node none at (sym is)

module _ (nodes : List Node) (node : Node) where
  split : (at : ℕ) → at < length (nodes ++ node ∷ []) → (at < length nodes) ⊎ (at ≡ length nodes)
  split at less = let count = length_push nodes node in grind arith

  -- what holds of each node
  each : (P : Node → Type 0) → ((at : ℕ) → at < length nodes → P (node_at nodes at)) → P node → (at : ℕ) → at < length (nodes ++ node ∷ []) → P (node_at (nodes ++ node ∷ []) at)
  each P before here at less = by_place (split at less)
    where
      by_place : (at < length nodes) ⊎ (at ≡ length nodes) → P (node_at (nodes ++ node ∷ []) at)
      by_place (inl is) = subst P (sym (at_before nodes node at is)) (before at is)
      by_place (inr is) = subst P (sym (at_last nodes node at is)) here

  -- what holds of each node and the next
  neighbours : (R : Node → Node → Type 0) → ((at : ℕ) → at + 1 < length nodes → R (node_at nodes at) (node_at nodes (at + 1))) → (0 < length nodes → R (node_at nodes (length nodes - 1)) node) → (at : ℕ) → at + 1 < length (nodes ++ node ∷ []) → R (node_at (nodes ++ node ∷ []) at) (node_at (nodes ++ node ∷ []) (at + 1))
  neighbours R before here at less = by_place (split (at + 1) less)
    where
      by_place : (at + 1 < length nodes) ⊎ (at + 1 ≡ length nodes) → R (node_at (nodes ++ node ∷ []) at) (node_at (nodes ++ node ∷ []) (at + 1))
      by_place (inl is) =
          let first : at < length nodes = omega arith in
          subst (λ n. R n (node_at (nodes ++ node ∷ []) (at + 1))) (sym (at_before nodes node at first))
          (subst (λ n. R (node_at nodes at) n) (sym (at_before nodes node (at + 1) is)) (before at is))
      by_place (inr is) =
          let first : at < length nodes = omega arith in
          let some : 0 < length nodes = omega arith in
          let there : length nodes - 1 ≡ at = omega arith in
          subst (λ n. R n (node_at (nodes ++ node ∷ []) (at + 1))) (sym (at_before nodes node at first))
          (subst (λ n. R (node_at nodes at) n) (sym (at_last nodes node (at + 1) is)) (subst (λ k. R (node_at nodes k) node) there (here some)))

module _ (paths : List (List Part)) (nodes : List Node) (node : Node) where
  push_preorder : IsPreorder paths nodes → node.path < length paths → node.depth ≤ length (path_at paths node.path) → CanFollow paths nodes node.path node.depth → AreTriedBefore paths nodes (path_at paths node.path) → IsPreorder paths (nodes ++ node ∷ [])
  push_preorder tree within fits follows order = record {
    path = each nodes node (λ n. n.path < length paths) tree.path within;
    depth = each nodes node (λ n. n.depth ≤ length (path_at paths n.path)) tree.depth fits;
    first = λ some. first_place (split nodes node 0 some);
    deeper = neighbours nodes node (λ m n. n.depth ≤ m.depth + 1) tree.deeper follows.deeper;
    shared = neighbours nodes node (λ m n. take (n.depth - 1) (path_at paths m.path) ≡ take (n.depth - 1) (path_at paths n.path)) tree.shared follows.shared;
    ordered = λ first second l m. by_place first second l (split nodes node second m);
  }
    where
      first_place : (0 < length nodes) ⊎ (0 ≡ length nodes) → depth_at (nodes ++ node ∷ []) 0 ≤ 1
      first_place (inl some) = subst (λ n. n.depth ≤ 1) (sym (at_before nodes node 0 some)) (tree.first some)
      first_place (inr none) = subst (λ n. n.depth ≤ 1) (sym (at_last nodes node 0 none)) (follows.none (sym none))

      by_place : (first second : ℕ) → first < second → (second < length nodes) ⊎ (second ≡ length nodes) → IsTriedBefore (parts_at paths (nodes ++ node ∷ []) first) (parts_at paths (nodes ++ node ∷ []) second)
      by_place first second l (inl is) =
          let m : first < length nodes = omega arith in
          subst (λ n. IsTriedBefore (path_at paths n.path) (parts_at paths (nodes ++ node ∷ []) second)) (sym (at_before nodes node first m))
          (subst (λ n. IsTriedBefore (parts_at paths nodes first) (path_at paths n.path)) (sym (at_before nodes node second is)) (tree.ordered first second l is))
      by_place first second l (inr is) =
          let m : first < length nodes = omega arith in
          subst (λ n. IsTriedBefore (path_at paths n.path) (parts_at paths (nodes ++ node ∷ []) second)) (sym (at_before nodes node first m))
          (subst (λ n. IsTriedBefore (parts_at paths nodes first) (path_at paths n.path)) (sym (at_last nodes node second is)) (order first m))

-- nodes of a path were added, and one at this depth may follow
pub record IsGrowing (paths : List (List Part)) (old nodes : List Node) (path depth : ℕ) : Type 0 where
  pub grown : IsGrown paths old nodes path
  pub order : AreTriedBefore paths nodes (path_at paths path)
  pub follows : CanFollow paths nodes path depth

pub grow_none : (paths : List (List Part)) (nodes : List Node) (path depth : ℕ) → IsPreorder paths nodes → AreTriedBefore paths nodes (path_at paths path) → CanFollow paths nodes path depth → IsGrowing paths nodes nodes path depth
grow_none paths nodes path depth tree order follows = record {
  grown = record { preorder = tree; longer = omega arith; kept = λ at less. refl; added = λ at past less. absurd (omega arith) };
  order = order;
  follows = follows;
}

pub grow_one : (paths : List (List Part)) (old nodes : List Node) (path depth : ℕ) → path < length paths → depth ≤ length (path_at paths path) → IsGrowing paths old nodes path depth → IsGrowing paths old (nodes ++ (record { path = path; depth = depth }) ∷ []) path (depth + 1)
grow_one paths old nodes path depth within fits growing = record {
  grown = record {
    preorder = push_preorder paths nodes node growing.grown.preorder within fits growing.follows growing.order;
    longer = omega (arith, length_push nodes node, growing.grown.longer);
    kept = λ at less.
        let before : at < length nodes = omega (arith, growing.grown.longer) in
        at_before nodes node at before ∙ growing.grown.kept at less;
    added = λ at past less. by_place at past (split nodes node at less);
  };
  order = each nodes node (λ n. IsTriedBefore (path_at paths n.path) (path_at paths path)) growing.order (tried_itself (path_at paths path));
  follows = record {
    none = λ empty. absurd (omega (arith, length_push nodes node));
    deeper = λ some. subst (λ n. depth + 1 ≤ n.depth + 1) (sym (at_last nodes node (length (nodes ++ node ∷ []) - 1) end)) (omega arith);
    shared = λ some.
        let same : depth + 1 - 1 ≡ depth = omega arith in
        subst (λ n. take (depth + 1 - 1) (path_at paths n.path) ≡ take (depth + 1 - 1) (path_at paths path)) (sym (at_last nodes node (length (nodes ++ node ∷ []) - 1) end)) refl;
  };
}
  where
    node : Node
    node = record { path = path; depth = depth }

    end : length (nodes ++ node ∷ []) - 1 ≡ length nodes
    end = omega (arith, length_push nodes node)

    by_place : (at : ℕ) → length old ≤ at → (at < length nodes) ⊎ (at ≡ length nodes) → (node_at (nodes ++ node ∷ []) at).path ≡ path
    by_place at past (inl is) = ap (λ (n : Node). n.path) (at_before nodes node at is) ∙ growing.grown.added at past is
    by_place at past (inr is) = ap (λ (n : Node). n.path) (at_last nodes node at is)

pub ends_there : (paths : List (List Part)) (nodes : List Node) (path depth : ℕ) → depth ≡ length (path_at paths path) → EndsAtNode paths (nodes ++ (record { path = path; depth = depth }) ∷ []) path
ends_there paths nodes path depth whole = record {
  at = length nodes;
  within = omega (arith, length_push nodes node);
  is = ap (λ (n : Node). n.path) (at_last nodes node (length nodes) refl);
  whole = subst (λ (n : Node). n.depth ≡ length (path_at paths n.path)) (sym (at_last nodes node (length nodes) refl)) whole;
}
  where
    node : Node
    node = record { path = path; depth = depth }

-- a path that ended at a node still does
pub ends_still : (paths : List (List Part)) (old new : List Node) (path other : ℕ) → IsGrown paths old new path → EndsAtNode paths old other → EndsAtNode paths new other
ends_still paths old new path other grown node = record {
  at = node.at;
  within = omega (arith, node.within, grown.longer);
  is = ap (λ (n : Node). n.path) (grown.kept node.at node.within) ∙ node.is;
  whole = subst (λ (n : Node). n.depth ≡ length (path_at paths n.path)) (sym (grown.kept node.at node.within)) node.whole;
}

-- the path is one of so many at the front
pub record IsOfEarlier (entries : List Entry) (count path : ℕ) : Type 0 where
  pub k : ℕ
  pub less : k < count
  pub is : (d : Entry) → (get_or entries k d).path ≡ path

pub none_preorder : (paths : List (List Part)) → IsPreorder paths []
none_preorder paths = record {
  path = λ at less. absurd (omega arith);
  depth = λ at less. absurd (omega arith);
  first = λ some. absurd (omega arith);
  deeper = λ at less. absurd (omega arith);
  shared = λ at less. absurd (omega arith);
  ordered = λ first second l m. absurd (omega arith);
}

-- Of the paths in order, nodes were added for so many:
module _ (paths : List (List Part)) (entries : List Entry) (count : ℕ) (entry : Entry) (within : count < length entries) (here : entry ≡ get_or entries count entry) where
  there : (d : Entry) → get_or entries count d ≡ entry
  there d = sym (get_or_read entries count entry within here d)

  -- the next is tried no earlier,
  pub next_order : (nodes : List Node) → All (λ entry. (entry.path < length paths) × (entry.parts.now ≡ path_at paths entry.path)) entries → AreTriedInOrder entries → ((at : ℕ) → at < length nodes → IsOfEarlier entries count (node_at nodes at).path) → AreTriedBefore paths nodes (path_at paths entry.path)
  next_order nodes entry_of in_order earlier at less =
      let e = earlier at less in
      let first : (get_or entries e.k entry).parts.now ≡ parts_at paths nodes at = (entry_of e.k entry (omega (arith, e.less))).1 ∙ ap (path_at paths) (e.is entry) in
      let second : (get_or entries count entry).parts.now ≡ path_at paths entry.path = (entry_of count entry within).1 ∙ ap (λ (x : Entry). path_at paths x.path) (there entry) in
      subst (λ p. IsTriedBefore p (path_at paths entry.path)) first (subst (λ p. IsTriedBefore (get_or entries e.k entry).parts.now p) second (in_order e.k count entry (omega (arith, e.less)) within))

  -- and behind it, each of them ends at a node,
  pub next_ends : (old new : List Node) → IsGrown paths old new entry.path → EndsAtNode paths new entry.path → ((k : ℕ) (d : Entry) → k < count → EndsAtNode paths old (get_or entries k d).path) → (k : ℕ) (d : Entry) → k < count + 1 → EndsAtNode paths new (get_or entries k d).path
  next_ends old new grown end ends k d less = by_place (split_at less)
    where
      split_at : k < count + 1 → (k < count) ⊎ (k ≡ count)
      split_at l = grind arith

      by_place : (k < count) ⊎ (k ≡ count) → EndsAtNode paths new (get_or entries k d).path
      by_place (inl is) = ends_still paths old new entry.path (get_or entries k d).path grown (ends k d is)
      by_place (inr is) = subst (λ (x : Entry). EndsAtNode paths new x.path) (sym (there d) ∙ ap (λ i. get_or entries i d) (sym is)) end

  -- and all nodes are theirs.
  pub next_earlier : (old new : List Node) → IsGrown paths old new entry.path → ((at : ℕ) → at < length old → IsOfEarlier entries count (node_at old at).path) → (at : ℕ) → at < length new → IsOfEarlier entries (count + 1) (node_at new at).path
  next_earlier old new grown earlier at less = by_place split_at
    where
      split_at : (at < length old) ⊎ (length old ≤ at)
      split_at = grind arith

      by_place : (at < length old) ⊎ (length old ≤ at) → IsOfEarlier entries (count + 1) (node_at new at).path
      by_place (inl is) =
          let e = earlier at is in
          record { k = e.k; less = omega (arith, e.less); is = λ d. e.is d ∙ ap (λ (n : Node). n.path) (sym (grown.kept at is)) }
      by_place (inr is) = record { k = count; less = omega arith; is = λ d. ap (λ (x : Entry). x.path) (there d) ∙ sym (grown.added at is less) }

-- each path is among those in order, so it ends at a node
pub each_ends : (paths : List (List Part)) (entries : List Entry) (nodes : List Node) (count path : ℕ) → length entries ≤ count → ((k : ℕ) (d : Entry) → k < count → EndsAtNode paths nodes (get_or entries k d).path) → HasPath entries path → EndsAtNode paths nodes path
each_ends paths entries nodes count path all ends has =
    subst (λ p. EndsAtNode paths nodes p) (ap (λ (x : Entry). x.path) has.1.2 ∙ has.2) (ends has.1.0 has.0 (omega (arith, has.1.1)))
