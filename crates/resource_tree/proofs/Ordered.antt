-- The order in which paths are tried.
use Rattle.std.proofs.Common.{◌≡◌, ℕ, ◌+◌, ◌<◌, ◌⊎◌, inl, inr, Bool, false, List, [], ◌∷◌, ◌++◌, get_or, refl, ap, sym, ◌∙◌, arith}
use Rattle.std.proofs.lemmas.Cmp.{nat_cmp_total, nat_list_cmp_total, lists_total, then_total, on_total}
use Rattle.std.proofs.lemmas.List.Elements.{Contains-append_left, Contains-append_right}
use Rattle.std.proofs.lemmas.List.Sorted.{ranks_by, sorted_far}
use Rattle.std.specs.Cmp.{IsTotalOrder, IsStrictWeakOrder}
use Rattle.std.specs.Cmp.Lexicographic.{slice_cmp}
use Rattle.std.specs.List.Sorted.{IsSortedBy}
use Rattle.std.specs.Ordering.{is_lt, is_gt, ordering_reverse}
use Rattle.std.specs.declared.cmp.Ordering.{Ordering}
use Rattle.std.specs.declared.cmp.Ordering.TheVariants.{Less, Equal, Greater}
use Rattle.resource_tree.specs.declared.order.Entry.{Entry}
use Rattle.resource_tree.specs.Matching.{rank}
use Rattle.resource_tree.specs.Nodes.{part_cmp, literal_of}
use Rattle.resource_tree.specs.Order.{AreTriedInOrder, HasPath}

part_cmp_total : IsTotalOrder part_cmp
part_cmp_total = then_total (on_total rank nat_cmp_total) (on_total literal_of nat_list_cmp_total)

pub paths_total : IsTotalOrder (slice_cmp part_cmp)
paths_total = lists_total part_cmp_total

abbrev pub is_earlier : Entry → Entry → Bool
is_earlier first second = is_lt (slice_cmp part_cmp first.parts.now second.parts.now)

pub earlier_orders : IsStrictWeakOrder is_earlier
earlier_orders = ranks_by paths_total (λ (entry : Entry). entry.parts.now)

not_less : (o r : Ordering) → r ≡ ordering_reverse o → is_lt o ≡ false → is_gt r ≡ false
not_less Less r e h = absurd (cc)
not_less Equal r e h = ap is_gt e
not_less Greater r e h = ap is_gt e

pub tried_in_order : (entries : List Entry) → IsSortedBy is_earlier entries → AreTriedInOrder entries
tried_in_order entries sorted i j d upto within =
    let first = (get_or entries i d).parts.now in
    let second = (get_or entries j d).parts.now in
    not_less (slice_cmp part_cmp second first) (slice_cmp part_cmp first second) (paths_total.antisymm first second) (sorted_far is_earlier earlier_orders entries sorted i j d upto within)

pub has_more : (entries : List Entry) (entry : Entry) (count : ℕ) → ((k : ℕ) → k < count → HasPath entries k) → entry.path ≡ count → (k : ℕ) → k < count + 1 → HasPath (entries ++ entry ∷ []) k
has_more entries entry count has is k less = by_place (split k less)
  where
    split : (k : ℕ) → k < count + 1 → (k < count) ⊎ (k ≡ count)
    split k l = grind arith

    by_place : (k < count) ⊎ (k ≡ count) → HasPath (entries ++ entry ∷ []) k
    by_place (inl before) = let h = has k before in (h.0, Contains-append_left entries (entry ∷ []) h.0 h.1, h.2)
    by_place (inr here) = (entry, Contains-append_right entries (entry ∷ []) entry (0, omega arith, refl), is ∙ sym here)
