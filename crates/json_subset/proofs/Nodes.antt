-- The trees of nodes, and what one more node keeps.
use Rattle.std.proofs.Common.{◌≡◌, ℕ, zero, suc, ◌+◌, ◌<◌, ◌≤◌, List, [], ◌∷◌, ◌++◌, length, map, Option, Some, None, refl, sym, ◌∙◌, ap, arith, ◌⊎◌, inl, inr, subst, unwrap_or}
use Rattle.std.specs.Prelude.{slice_get, slice_range, String}
use Rattle.std.specs.String.{string_bytes}
use Rattle.std.specs.declared.alloc.Global.{Global}
use Rattle.std.proofs.lemmas.Option.{slice_get_within}
use Rattle.json_subset.specs.Tree.{Tree, node, list, object, trees_of, members_of}
use Rattle.json_subset.specs.Nodes.{made, form_of, member_at, AllBelow, AllValuesBelow, IsBelow, IsSound, AreSound, there, tree_within, tree_of, Keeps}
use Rattle.json_subset.specs.declared.node.Node.{Node}
use Rattle.json_subset.specs.declared.node.Form.{Form as CodeForm}
use Rattle.json_subset.specs.declared.node.Form.TheVariants as code

pub map_alike : (f g : ℕ → Tree) (n : ℕ) (ids : List ℕ) → ((k : ℕ) → k < n → f k ≡ g k) → AllBelow n ids → map f ids ≡ map g ids
map_alike f g n [] same below = refl
map_alike f g n (k ∷ ids) same below = ap (λ z. z ∷ map f ids) (same k below.0) ∙ ap (λ z. g k ∷ z) (map_alike f g n ids same below.1)

pub members_alike : (f g : ℕ → Tree) (n : ℕ) (ms : List (String Global × ℕ)) → ((k : ℕ) → k < n → f k ≡ g k) → AllValuesBelow n ms → map (member_at f) ms ≡ map (member_at g) ms
members_alike f g n [] same below = refl
members_alike f g n (m ∷ ms) same below = ap (λ z. (string_bytes m.0, z) ∷ map (member_at f) ms) (same m.1 below.0) ∙ ap (λ z. member_at g m ∷ z) (members_alike f g n ms same below.1)

pub form_alike : (s : List ℕ) (f g : ℕ → Tree) (k : ℕ) (x : CodeForm) → ((j : ℕ) → j < k → f j ≡ g j) → IsBelow k x → form_of s f x ≡ form_of s g x
form_alike s f g k code.Null same below = refl
form_alike s f g k (code.Bool b) same below = refl
form_alike s f g k (code.Number x) same below = refl
form_alike s f g k (code.Text t) same below = refl
form_alike s f g k (code.List ids) same below = ap (λ z. list (trees_of z)) (map_alike f g k ids.items same below)
form_alike s f g k (code.Object ms) same below = ap (λ z. object (members_of z)) (members_alike f g k ms.list.items same below)

module _ (s : List ℕ) where
  made_alike : (f g : ℕ → Tree) (k : ℕ) (x : Node) → ((j : ℕ) → j < k → f j ≡ g j) → IsBelow k x.form → made s f x ≡ made s g x
  made_alike f g k x same below = ap (node x.first x.past) (form_alike (slice_range s x.first x.past) f g k x.form same below)

  there_alike : (f g : ℕ → Tree) (k : ℕ) (o : Option Node) → ((j : ℕ) → j < k → f j ≡ g j) → ((x : Node) → o ≡ Some x → IsBelow k x.form) → there s f o ≡ there s g o
  there_alike f g k None same below = refl
  there_alike f g k (Some x) same below = made_alike f g k x same (below x refl)

  abbrev AreOrdered : List Node → Type 0
  AreOrdered ns = (k : ℕ) (x : Node) → slice_get ns k ≡ Some x → IsBelow k x.form

  -- lists that agree up to k have the same tree there
  alike : (ms ns : List Node) (c d k : ℕ) → AreOrdered ms → ((j : ℕ) → j ≤ k → slice_get ms j ≡ slice_get ns j) → k < c → k < d → tree_within c s ms k ≡ tree_within d s ns k
  unfolding tree_within
  alike ms ns zero d k ordered agree h i = absurd (omega (arith, h))
  alike ms ns (suc c) zero k ordered agree h i = absurd (omega (arith, i))
  alike ms ns (suc c) (suc d) k ordered agree h i =
      there_alike (tree_within c s ms) (tree_within d s ns) k (slice_get ms k) (λ j below. alike ms ns c d j ordered (λ m le. agree m (omega (arith, le, below))) (omega (arith, h, below)) (omega (arith, i, below))) (ordered k)
      ∙ ap (there s (tree_within d s ns)) (agree k (omega arith))

  get_front : {A : Type 0} (xs : List A) (y : A) (j : ℕ) → j < length xs → slice_get (xs ++ y ∷ []) j ≡ slice_get xs j
  get_front [] y j h = absurd (omega (arith, h))
  get_front (x ∷ xs) y zero h = refl
  get_front (x ∷ xs) y (suc j) h = get_front xs y j (omega (arith, h))

  get_last : {A : Type 0} (xs : List A) (y : A) → slice_get (xs ++ y ∷ []) (length xs) ≡ Some y
  get_last [] y = refl
  get_last (x ∷ xs) y = get_last xs y

  split : (k n : ℕ) → k < n + 1 → (k < n) ⊎ (k ≡ n)
  split zero zero h = inr refl
  split zero (suc n) h = inl (omega arith)
  split (suc k) zero h = absurd (omega (arith, h))
  split (suc k) (suc n) h = up (split k n (omega (arith, h)))
    where
      up : (k < n) ⊎ (k ≡ n) → (suc k < suc n) ⊎ (suc k ≡ suc n)
      up (inl h) = inl (omega (arith, h))
      up (inr e) = inr (ap suc e)

  length_push : {A : Type 0} (xs : List A) (y : A) → length (xs ++ y ∷ []) ≡ length xs + 1
  length_push [] y = refl
  length_push (x ∷ xs) y = let e = length_push xs y in omega (arith, e)

  some_inj : {A : Type 0} (x y : A) → Some x ≡ Some y → x ≡ y
  some_inj {A = A} x y e = let out : Option A → A = λ o. unwrap_or o x in ap out e

  agree_front : (ns : List Node) (x : Node) (k : ℕ) → k < length ns → (j : ℕ) → j ≤ k → slice_get ns j ≡ slice_get (ns ++ x ∷ []) j
  agree_front ns x k h j le = sym (get_front ns x j (omega (arith, h, le)))

  pub sound_push : (ns : List Node) (x : Node) → AreSound s ns → IsSound s (length ns) x → AreSound s (ns ++ x ∷ [])
  sound_push ns x sound here k y at = go (split k (length ns) (omega (arith, slice_get_within (ns ++ x ∷ []) k y at, length_push ns x)))
    where
      go : (k < length ns) ⊎ (k ≡ length ns) → IsSound s k y
      go (inl h) = sound k y (sym (get_front ns x k h) ∙ at)
      go (inr e) =
          let last : slice_get (ns ++ x ∷ []) k ≡ Some x = ap (slice_get (ns ++ x ∷ [])) e ∙ get_last ns x in
          let P : Node → Type 0 = λ z. IsSound s k z in
          let Q : ℕ → Type 0 = λ z. IsSound s z x in
          subst P (some_inj x y (sym last ∙ at)) (subst Q (sym e) here)

  ordered_of : (ns : List Node) → AreSound s ns → AreOrdered ns
  ordered_of ns sound k x at = (sound k x at).below

  pub keeps_push : (ns : List Node) (x : Node) → AreSound s ns → IsSound s (length ns) x → Keeps s ns (ns ++ x ∷ [])
  keeps_push ns x sound here = record {
    sound = sound_push ns x sound here;
    longer = omega (arith, length_push ns x);
    same = λ k h. sym (alike ns (ns ++ x ∷ []) (suc k) (suc k) k (ordered_of ns sound) (agree_front ns x k h) (omega arith) (omega arith));
  }

  pub tree_push : (ns : List Node) (x : Node) → AreSound s ns → IsSound s (length ns) x → tree_of s (ns ++ x ∷ []) (length ns) ≡ made s (tree_of s ns) x
  unfolding tree_within
  tree_push ns x sound here =
      ap (there s (tree_within (length ns) s (ns ++ x ∷ []))) (get_last ns x)
      ∙ made_alike (tree_within (length ns) s (ns ++ x ∷ [])) (tree_of s ns) (length ns) x (λ j h. sym (alike ns (ns ++ x ∷ []) (suc j) (length ns) j (ordered_of ns sound) (agree_front ns x j h) (omega arith) h)) here.below

  pub opened : (ns : List Node) (k : ℕ) (x : Node) → AreSound s ns → slice_get ns k ≡ Some x → tree_of s ns k ≡ made s (tree_of s ns) x
  unfolding tree_within
  opened ns k x sound at =
      ap (there s (tree_within k s ns)) at
      ∙ made_alike (tree_within k s ns) (tree_of s ns) k x (λ j h. alike ns ns k (suc j) j (ordered_of ns sound) (λ m le. refl) h (omega arith)) (sound k x at).below

  pub keeps_all : (ns : List Node) → AreSound s ns → Keeps s ns ns
  keeps_all ns sound = record { sound = sound; longer = omega arith; same = λ k h. refl }

  pub keeps_trans : (a b c : List Node) → Keeps s a b → Keeps s b c → Keeps s a c
  keeps_trans a b c p q = record {
    sound = q.sound;
    longer = omega (arith, p.longer, q.longer);
    same = λ k h. q.same k (omega (arith, h, p.longer)) ∙ p.same k h;
  }

pub below_more : (m n : ℕ) (ids : List ℕ) → m ≤ n → AllBelow m ids → AllBelow n ids
below_more m n [] le h = tt
below_more m n (k ∷ ids) le h = (omega (arith, le, h.0), below_more m n ids le h.1)

pub below_push : (n : ℕ) (ids : List ℕ) (k : ℕ) → AllBelow n ids → k < n → AllBelow n (ids ++ k ∷ [])
below_push n [] k h i = (i, tt)
below_push n (j ∷ ids) k h i = (h.0, below_push n ids k h.1 i)

pub map_push : (f : ℕ → Tree) (ids : List ℕ) (k : ℕ) → map f (ids ++ k ∷ []) ≡ map f ids ++ f k ∷ []
map_push f [] k = refl
map_push f (j ∷ ids) k = ap (λ z. f j ∷ z) (map_push f ids k)

pub values_more : (m n : ℕ) (ms : List (String Global × ℕ)) → m ≤ n → AllValuesBelow m ms → AllValuesBelow n ms
values_more m n [] le h = tt
values_more m n (x ∷ ms) le h = (omega (arith, le, h.0), values_more m n ms le h.1)

pub values_push : (n : ℕ) (ms : List (String Global × ℕ)) (x : String Global × ℕ) → AllValuesBelow n ms → x.1 < n → AllValuesBelow n (ms ++ x ∷ [])
values_push n [] x h i = (i, tt)
values_push n (y ∷ ms) x h i = (h.0, values_push n ms x h.1 i)

pub map_member_push : (f : ℕ → Tree) (ms : List (String Global × ℕ)) (x : String Global × ℕ) → map (member_at f) (ms ++ x ∷ []) ≡ map (member_at f) ms ++ member_at f x ∷ []
map_member_push f [] x = refl
map_member_push f (y ∷ ms) x = ap (λ z. member_at f y ∷ z) (map_member_push f ms x)

pub form_below : (n : ℕ) (x : CodeForm) → IsBelow 0 x → IsBelow n x
form_below n code.Null h = tt
form_below n (code.Bool b) h = tt
form_below n (code.Number x) h = tt
form_below n (code.Text t) h = tt
form_below n (code.List ids) h = below_more 0 n ids.items (omega arith) h
form_below n (code.Object ms) h = values_more 0 n ms.list.items (omega arith) h
