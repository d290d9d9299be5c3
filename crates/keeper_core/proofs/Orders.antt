-- Rows in the order of their keys: a binary search finds a key's place, and a row that is put keeps the order.
use Rattle.std.proofs.Common.{◌≡◌, ℕ, zero, suc, ◌<◌, ◌≤◌, nat_lt, Bool, true, false, not, List, [], ◌∷◌, length, cond, Option, Some, None, Result, Ok, Err, get_or, is_none, refl, sym, ap, ◌∙◌, arith, find}
use Rattle.std.specs.List.{AllByRecursion, position, position_or_len, insert}
use Rattle.std.specs.List.Sorted.{IsSearchInRange, IsBinarySearchResult, IsNonDecreasingBy}
use Rattle.std.specs.Cmp.{IsTotalOrder}
use Rattle.std.specs.Ordering.{is_lt, is_eq, is_gt, ordering_index, ordering_reverse}
use Rattle.std.specs.declared.cmp.Ordering.{Ordering}
use Rattle.std.specs.declared.cmp.Ordering.TheVariants.{Less, Equal, Greater}
use Rattle.std.proofs.lemmas.Bool.Decides.{nat_tests}
use Rattle.std.proofs.lemmas.Cmp.{alike_right}
use Rattle.std.proofs.lemmas.List.Sums.{position_or_len_is}
use Rattle.std.proofs.lemmas.List.Edits.{insert_end as insert_at_end}
use Rattle.keeper_core.specs.Lists.{Ascends, adjust, insert_before, put_by}
use Rattle.keeper_core.specs.Places.{IsPlace, place_of}
use Rattle.keeper_core.proofs.Placing.{insert_inside, insert_end, find_inside}

-- how rows compare with a key, beside the order of the rows: ord says how a row's key compares with it
pub record OrdersBy {R : Type 0} (behind : R → R → Bool) (ord : R → Ordering) : Type 0 where
  pub onward : (r s : R) → behind r s ≡ true → is_lt (ord r) ≡ false → ord s ≡ Greater
  pub before : (r x : R) → ord x ≡ Equal → ord r ≡ Less → behind r x ≡ true
  pub after : (x s : R) → ord x ≡ Equal → ord s ≡ Greater → behind x s ≡ true

reversed : (a b : Ordering) → a ≡ ordering_reverse b → is_gt b ≡ true → a ≡ Less
reversed a Less e h = absurd cc
reversed a Equal e h = absurd cc
reversed a Greater e h = e

is_Greater : (o : Ordering) → is_gt o ≡ true → o ≡ Greater
is_Greater Less h = absurd cc
is_Greater Equal h = absurd cc
is_Greater Greater h = refl

is_Equal : (o : Ordering) → is_eq o ≡ true → o ≡ Equal
is_Equal Less h = absurd cc
is_Equal Equal h = refl
is_Equal Greater h = absurd cc

module _ {K R : Type 0} {cmp : K → K → Ordering} (o : IsTotalOrder cmp) (key : R → K) (behind : R → R → Bool) (is : (r s : R) → behind r s ≡ is_gt (cmp (key s) (key r))) where
  greater_from : (x y : K) → cmp x y ≡ Less → cmp y x ≡ Greater
  greater_from x y e = o.antisymm y x ∙ ap ordering_reverse e

  less_from : (x y : K) → is_gt (cmp y x) ≡ true → cmp x y ≡ Less
  less_from x y h = reversed (cmp x y) (cmp y x) (o.antisymm x y) h

  onward_by : (k : K) (r s : R) (t : Ordering) → cmp (key r) k ≡ t → is_gt (cmp (key s) (key r)) ≡ true → is_lt t ≡ false → cmp (key s) k ≡ Greater
  onward_by k r s Less e h not_less = absurd cc
  onward_by k r s Equal e h not_less = sym (alike_right o (key r) k (key s) e) ∙ is_Greater _ h
  onward_by k r s Greater e h not_less = greater_from k (key s) (o.trans k (key r) (key s) (less_from k (key r) (ap is_gt e)) (less_from (key r) (key s) h))

  -- rows under an order of their keys
  pub orders_by : (k : K) → OrdersBy behind (λ r. cmp (key r) k)
  orders_by k = record {
    onward = λ r s b not_less. onward_by k r s (cmp (key r) k) refl (sym (is r s) ∙ b) not_less;
    before = λ r x e less. is r x ∙ ap is_gt (o.congr (key x) k (key r) e ∙ greater_from (key r) k less);
    after = λ x s e greater. is x s ∙ ap is_gt (alike_right o (key x) k (key s) e ∙ greater);
  }

module _ {R : Type 0} (behind : R → R → Bool) where
  -- any two rows stand in the order
  at_two : (y : R) (ys : List R) (j : ℕ) (d : R) → AllByRecursion (λ other. behind y other ≡ true) ys → j < length ys → behind y (get_or ys j d) ≡ true
  at_two y [] j d all inside = absurd (omega (arith, inside))
  at_two y (z ∷ zs) zero d all inside = all.0
  at_two y (z ∷ zs) (suc j) d all inside = at_two y zs j d all.1 (omega (arith, inside))

  pub ascends_at : (xs : List R) → Ascends behind xs → (i j : ℕ) (d : R) → i < j → j < length xs → behind (get_or xs i d) (get_or xs j d) ≡ true
  ascends_at [] up i j d less inside = absurd (omega (arith, inside))
  ascends_at (y ∷ ys) up i zero d less inside = absurd (omega (arith, less))
  ascends_at (y ∷ ys) up zero (suc j) d less inside = at_two y ys j d up.0 (omega (arith, inside))
  ascends_at (y ∷ ys) up (suc i) (suc j) d less inside = ascends_at ys up.1 i j d (omega (arith, less)) (omega (arith, inside))

  module _ (ord : R → Ordering) (orders : OrdersBy behind ord) where
    rises_by : (r s : R) (t : Ordering) → ord r ≡ t → (is_lt t ≡ false → ord s ≡ Greater) → ordering_index t ≤ ordering_index (ord s)
    rises_by r s Less e more = omega arith
    rises_by r s Equal e more = rw (more refl) (omega arith)
    rises_by r s Greater e more = rw (more refl) (omega arith)

    rises_at : (xs : List R) → Ascends behind xs → (i j : ℕ) (d : R) → i < j → j < length xs → ordering_index (ord (get_or xs i d)) ≤ ordering_index (ord (get_or xs j d))
    rises_at xs up i j d less inside =
        rises_by (get_or xs i d) (get_or xs j d) (ord (get_or xs i d)) refl (orders.onward _ _ (ascends_at xs up i j d less inside))

    -- the answers rise along the rows, as a binary search asks
    rising : (xs : List R) → Ascends behind xs → IsNonDecreasingBy (λ r. ordering_index (ord r)) xs
    rising xs up i j d le inside = grind (arith, rises_at xs up i j d, λ (same : i ≡ j). ap (λ k. ordering_index (ord (get_or xs k d))) same)

    not_equal_before : (r s : R) (t : Ordering) → ord r ≡ t → (is_lt t ≡ false → ord s ≡ Greater) → ord s ≡ Equal → is_eq t ≡ false
    not_equal_before r s Less e more here = refl
    not_equal_before r s Equal e more here = absurd (let bad = more refl in cc)
    not_equal_before r s Greater e more here = refl

    module _ (has_key has_greater : R → Bool) (is : (r : R) → has_key r ≡ is_eq (ord r)) (greater : (r : R) → has_greater r ≡ is_gt (ord r)) where
      pub found : (xs : List R) (i : ℕ) (d : R) → Ascends behind xs → i < length xs → ord (get_or xs i d) ≡ Equal → position has_key xs ≡ Some i
      found xs i d up inside here =
          let first : position_or_len has_key xs ≡ i = position_or_len_is has_key xs i d (omega arith)
          (λ k less. is (get_or xs k d) ∙ not_equal_before (get_or xs k d) (get_or xs i d) (ord (get_or xs k d)) refl
          (orders.onward _ _ (ascends_at xs up k i d less inside)) here)
          (λ _. is (get_or xs i d) ∙ ap is_eq here) in
          let fits : nat_lt i (length xs) ≡ true = grind (arith, nat_tests) in
          ap (λ k. cond (nat_lt k (length xs)) (Some k) None) first ∙ ap (λ b. cond b (Some i) None) fits

      none_is : {X : Type 0} (found : Option X) → is_none found ≡ true → found ≡ None
      none_is None e = refl
      none_is (Some x) e = absurd cc

      absent : (xs : List R) (d : R) → ((k : ℕ) → k < length xs → has_key (get_or xs k d) ≡ false) → find has_key xs ≡ None
      absent xs d all =
          let past : position_or_len has_key xs ≡ length xs = position_or_len_is has_key xs (length xs) d (omega arith) all (λ below. absurd (omega (arith, below))) in
          let outside : nat_lt (length xs) (length xs) ≡ false = grind (arith, nat_tests) in
          none_is (find has_key xs) (find_inside has_key xs ∙ ap (λ k. not (nat_lt k (length xs))) past ∙ ap not outside)

      gap_before : (xs : List R) (i : ℕ) (row : R) → i ≤ length xs → position_or_len has_greater xs ≡ i → (b : Bool) → nat_lt i (length xs) ≡ b → insert_before has_greater row xs ≡ insert xs i row
      gap_before xs i row inside at true e =
          insert_inside has_greater row xs (rw at (grind (arith, nat_tests))) ∙ ap (λ k. insert xs k row) at
      gap_before xs i row inside at false e =
          let end : i ≡ length xs = grind (arith, nat_tests) in
          insert_end has_greater row xs (rw at (omega arith)) ∙ sym (insert_at_end xs row) ∙ ap (λ k. insert xs k row) (sym end)

      -- what a binary search found is the place of the key
      pub placed : (xs : List R) → Ascends behind xs → (found : Result ℕ ℕ) → IsSearchInRange found (length xs) → IsBinarySearchResult ord xs found → IsPlace has_key has_greater xs (place_of found)
      placed [] up (Ok i) inside here = absurd (omega (arith, inside))
      placed (y ∷ ys) up (Ok i) inside here = record { inside = inside; first = found (y ∷ ys) i y up inside (here y) }
      placed [] up (Err i) inside parted = record { inside = inside; none = refl; before = λ row. let e : i ≡ 0 = omega (arith, inside) in rw e refl }
      placed (y ∷ ys) up (Err i) inside parted =
          let parts = parted (rising (y ∷ ys) up) in
          let xs : List R = y ∷ ys in
          record {
            inside = inside;
            none = absent xs y (λ k below. is (get_or xs k y)
                ∙ elim (nat_lt k i) as (λ b. nat_lt k i ≡ b → is_eq (ord (get_or xs k y)) ≡ false) [
                  | true ↦ λ e. ap is_eq (parts.0 k y (omega arith) (grind (arith, nat_tests)))
                  | false ↦ λ e. ap is_eq (parts.1 k y (grind (arith, nat_tests)) below)
                ] refl);
            before = λ row. gap_before xs i row inside
                (position_or_len_is has_greater xs i y inside (λ k less. greater (get_or xs k y) ∙ ap is_gt (parts.0 k y (omega arith) less))
                (λ below. greater (get_or xs i y) ∙ ap is_gt (parts.1 i y (omega arith) below)))
                (nat_lt i (length xs)) refl;
          }

      all_inserted : (P : R → Type 0) (x : R) (ys : List R) → P x → AllByRecursion P ys → AllByRecursion P (insert_before has_greater x ys)
      all_inserted P x [] here all = (here, tt)
      all_inserted P x (y ∷ ys) here all =
          let more = all_inserted P x ys here all.1 in
          elim (has_greater y) as (λ b. AllByRecursion P (cond b (x ∷ y ∷ ys) (y ∷ insert_before has_greater x ys))) [ true ↦ (here, all) | false ↦ (all.0, more) ]

      all_adjusted : (P : R → Type 0) (x : R) (ys : List R) → ((y : R) → P y → has_key y ≡ true → P x) → AllByRecursion P ys → AllByRecursion P (adjust has_key (λ old. x) ys)
      all_adjusted P x [] here all = tt
      all_adjusted P x (y ∷ ys) here all =
          let more = all_adjusted P x ys here all.1 in
          elim (has_key y) as (λ b. has_key y ≡ b → AllByRecursion P (cond b (x ∷ ys) (y ∷ adjust has_key (λ old. x) ys))) [
            | true ↦ λ e. (here y all.0 e, all.1)
            | false ↦ λ e. (all.0, more)
          ] refl

      all_onward : (x y : R) (ys : List R) → ord x ≡ Equal → is_lt (ord y) ≡ false → AllByRecursion (λ other. behind y other ≡ true) ys → AllByRecursion (λ other. behind x other ≡ true) ys
      all_onward x y [] here past all = tt
      all_onward x y (z ∷ zs) here past all = (orders.after x z here (orders.onward y z all.0 past), all_onward x y zs here past all.1)

      is_Less : (o : Ordering) → is_eq o ≡ false → is_gt o ≡ false → o ≡ Less
      is_Less Less not_equal not_greater = refl
      is_Less Equal not_equal not_greater = absurd cc
      is_Less Greater not_equal not_greater = absurd cc

      not_found_front : (y : R) (b : Bool) (rest : Option R) → cond b (Some y) rest ≡ None → b ≡ false
      not_found_front y true rest e = absurd cc
      not_found_front y false rest e = refl

      not_found_rest : (y : R) (b : Bool) (rest : Option R) → cond b (Some y) rest ≡ None → rest ≡ None
      not_found_rest y true rest e = absurd cc
      not_found_rest y false rest e = e

      inserted_ascends : (x : R) → ord x ≡ Equal → (xs : List R) → find has_key xs ≡ None → Ascends behind xs → Ascends behind (insert_before has_greater x xs)
      inserted_ascends x here [] none up = (tt, tt)
      inserted_ascends x here (y ∷ ys) none up =
          let other : has_key y ≡ false = not_found_front y (has_key y) (find has_key ys) none in
          let more = inserted_ascends x here ys (not_found_rest y (has_key y) (find has_key ys) none) up.1 in
          elim (has_greater y) as (λ b. has_greater y ≡ b → Ascends behind (cond b (x ∷ y ∷ ys) (y ∷ insert_before has_greater x ys))) [
            | true ↦ λ e.
                let past : ord y ≡ Greater = is_Greater (ord y) (sym (greater y) ∙ e) in
                ((orders.after x y here past, all_onward x y ys here (ap is_lt past) up.0), up)
            | false ↦ λ e.
                let less : ord y ≡ Less = is_Less (ord y) (sym (is y) ∙ other) (sym (greater y) ∙ e) in
                (all_inserted (λ other. behind y other ≡ true) x ys (orders.before y x here less) up.0, more)
          ] refl

      before_equal : (y z : R) (t : Ordering) → ord y ≡ t → (is_lt t ≡ false → ord z ≡ Greater) → ord z ≡ Equal → ord y ≡ Less
      before_equal y z Less e more here = e
      before_equal y z Equal e more here = absurd (let bad = more refl in cc)
      before_equal y z Greater e more here = absurd (let bad = more refl in cc)

      adjusted_ascends : (x : R) → ord x ≡ Equal → (xs : List R) → Ascends behind xs → Ascends behind (adjust has_key (λ old. x) xs)
      adjusted_ascends x here [] up = tt
      adjusted_ascends x here (y ∷ ys) up =
          let more = adjusted_ascends x here ys up.1 in
          elim (has_key y) as (λ b. has_key y ≡ b → Ascends behind (cond b (x ∷ ys) (y ∷ adjust has_key (λ old. x) ys))) [
            | true ↦ λ e.
                let same : ord y ≡ Equal = is_Equal (ord y) (sym (is y) ∙ e) in
                (all_onward x y ys here (ap is_lt same) up.0, up.1)
            | false ↦ λ e. (
              all_adjusted (λ other. behind y other ≡ true) x ys (λ z b has.
                  orders.before y x here (before_equal y z (ord y) refl (orders.onward y z b) (is_Equal (ord z) (sym (is z) ∙ has)))) up.0,
              more,
            )
          ] refl

      -- a row that is put keeps the order
      pub put_ascends : (x : R) → ord x ≡ Equal → (xs : List R) → Ascends behind xs → Ascends behind (put_by has_key has_greater x xs)
      put_ascends x here xs up =
          elim (find has_key xs) as (λ found. find has_key xs ≡ found → Ascends behind (cond (is_none found) (insert_before has_greater x xs) (adjust has_key (λ old. x) xs))) [
            | None ↦ λ e. inserted_ascends x here xs e up
            | Some y ↦ λ e. adjusted_ascends x here xs up
          ] refl
