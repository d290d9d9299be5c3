-- The order in which paths are tried is that of their ranks, where both match.
use Rattle.std.proofs.Common.{◌≡◌, ℕ, true, ◌&&◌, List, [], ◌∷◌, refl, ap, sym, ◌∙◌}
use Rattle.std.proofs.lemmas.Cmp.{tied_itself, nat_list_cmp_total}
use Rattle.std.proofs.lemmas.Slice.Eq.{bytes_eq-Decides}
use Rattle.std.specs.Cmp.Lexicographic.{slice_cmp}
use Rattle.std.specs.Ordering.{nat_cmp, is_gt, ordering_then}
use Rattle.std.specs.Str.{bytes_eq}
use Rattle.resource_tree.specs.declared.part.Part.{Part}
use Rattle.resource_tree.specs.declared.part.Part.TheVariants.{Literal, Parameter, Greedy}
use Rattle.resource_tree.specs.Matching.{matches, ranks, IsUpTo}
use Rattle.resource_tree.specs.Nodes.{part_cmp, IsTriedBefore}
use Rattle.resource_tree.specs.Sharing.{greedy_last}
use Rattle.resource_tree.specs.Spelling.{has_bytes}
use Rattle.resource_tree.proofs.Unique.{both_true, rest_last, greedy_alone}

same_text : (a b s : List ℕ) → bytes_eq a s ≡ true → bytes_eq b s ≡ true → a ≡ b
same_text a b s e f = (bytes_eq-Decides a s).0 e ∙ sym ((bytes_eq-Decides b s).0 f)

pub tried_as_ranked : (first second : List Part) (segments : List (List ℕ)) → greedy_last first ≡ true → greedy_last second ≡ true → matches first segments ≡ true → matches second segments ≡ true → slice_cmp part_cmp first second ≡ slice_cmp nat_cmp (ranks first) (ranks second)
tried_as_ranked [] [] segments l r m n = refl
tried_as_ranked [] (q ∷ second) segments l r m n = refl
tried_as_ranked (p ∷ first) [] segments l r m n = refl
tried_as_ranked (p ∷ first) (q ∷ second) [] l r m n = absurd (cc)
tried_as_ranked (Literal a ∷ first) (Literal b ∷ second) (s ∷ segments) l r m n =
    let m' = both_true (bytes_eq a s) (matches first segments) (both_true (has_bytes s) (bytes_eq a s && matches first segments) m).1 in
    let n' = both_true (bytes_eq b s) (matches second segments) (both_true (has_bytes s) (bytes_eq b s && matches second segments) n).1 in
    ap (λ t. ordering_then (slice_cmp nat_cmp a t) (slice_cmp part_cmp first second)) (sym (same_text a b s m'.0 n'.0))
    ∙ ap (λ o. ordering_then o (slice_cmp part_cmp first second)) (tied_itself nat_list_cmp_total a)
    ∙ tried_as_ranked first second segments (rest_last _ _ l) (rest_last _ _ r) m'.1 n'.1
tried_as_ranked (Literal a ∷ first) (Parameter b ∷ second) (s ∷ segments) l r m n = refl
tried_as_ranked (Literal a ∷ first) (Greedy b ∷ second) (s ∷ segments) l r m n = refl
tried_as_ranked (Parameter a ∷ first) (Literal b ∷ second) (s ∷ segments) l r m n = refl
tried_as_ranked (Parameter a ∷ first) (Parameter b ∷ second) (s ∷ segments) l r m n =
    tried_as_ranked first second segments (rest_last _ _ l) (rest_last _ _ r) (both_true (has_bytes s) (matches first segments) m).1 (both_true (has_bytes s) (matches second segments) n).1
tried_as_ranked (Parameter a ∷ first) (Greedy b ∷ second) (s ∷ segments) l r m n = refl
tried_as_ranked (Greedy a ∷ first) (Literal b ∷ second) (s ∷ segments) l r m n = refl
tried_as_ranked (Greedy a ∷ first) (Parameter b ∷ second) (s ∷ segments) l r m n = refl
tried_as_ranked (Greedy a ∷ first) (Greedy b ∷ second) (s ∷ segments) l r m n =
    rw (greedy_alone a first l, greedy_alone b second r) refl

pub upto_from_tried : (first second : List Part) (segments : List (List ℕ)) → greedy_last first ≡ true → greedy_last second ≡ true → matches first segments ≡ true → matches second segments ≡ true → IsTriedBefore first second → IsUpTo (ranks first) (ranks second)
upto_from_tried first second segments l r m n h = ap is_gt (sym (tried_as_ranked first second segments l r m n)) ∙ h

pub upto_itself : (list : List ℕ) → IsUpTo list list
upto_itself list = ap is_gt (tied_itself nat_list_cmp_total list)
