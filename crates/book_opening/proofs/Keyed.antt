-- The keys by their values, one row more at a time.
use Rattle.std.proofs.Common.{◌≡◌, ◌∙◌, sym, ap, subst, refl, ℕ, ◌+◌, ◌<◌, ◌≤◌, Bool, true, false, not, ◌&&◌, ◌||◌, List, [], ◌∷◌, ◌++◌, length, take, get_or, reverse, find, suc, zero, Option, Some, None, IfSome, option_map, is_none, cond, ◌↔◌, arith}
use Rattle.std.specs.List.{list_any, AllByRecursion}
use Rattle.std.specs.Map.{update}
use Rattle.std.specs.Option.{option_and_then}
use Rattle.std.specs.Str.{bytes_eq}
use Rattle.std.specs.Ordering.{is_gt, nat_cmp}
use Rattle.std.proofs.lemmas.List.{take_all, take_more}
use Rattle.std.proofs.lemmas.Cmp.{nat_list_cmp_total, tied_itself}
use Rattle.std.proofs.lemmas.Slice.Eq.{bytes_eq-Decides}
use Rattle.keeper_core.specs.Lists.{Ascends, is_behind, is_key, key_behind}
use Rattle.keeper_core.specs.declared.rows.KeyRow.{KeyRow}
use Rattle.key_index.specs.Indexes.{Index, Indexes, value_of}
use Rattle.std.specs.Prelude.{nat_lt}
use Rattle.gw_base.specs.Names.{is_name}
use Rattle.book_rules.proofs.Viewing.{found_holds}
use Rattle.book_rules.specs.Good.{is_flag, takes_key}
use Rattle.book_rules.specs.Limits.{most_keys}
use Rattle.book_rules.specs.Names.{is_key_value}
use Rattle.book_rules.specs.PlanCommands.{has_value}
use Rattle.book_opening.proofs.Values.{list_any-reverse}

same_text : (a b : List ℕ) → bytes_eq a b ≡ true → a ≡ b
same_text a b e = (bytes_eq-Decides a b).0 e

is_itself : (a : List ℕ) → bytes_eq a a ≡ true
is_itself a = (bytes_eq-Decides a a).1 refl

some_same : {A : Type 0} (a b : A) → Some a ≡ Some b → a ≡ b
some_same a b same = cc

apart : (b : Bool) → b ≡ true → b ≡ false → ⊥
apart true e f = absurd cc
apart false e f = absurd cc

-- what is found in a list with one row more
find_last : {R : Type 0} (p : R → Bool) (rows : List R) (row : R) → find p rows ≡ None → find p (rows ++ row ∷ []) ≡ cond (p row) (Some row) None
find_last p [] row e = refl
find_last p (y ∷ ys) row e = pick (p y) e (find_last p ys row)
  where
    pick : (b : Bool) → cond b (Some y) (find p ys) ≡ None → (find p ys ≡ None → find p (ys ++ row ∷ []) ≡ cond (p row) (Some row) None)
        → cond b (Some y) (find p (ys ++ row ∷ [])) ≡ cond (p row) (Some row) None
    pick true f more = absurd cc
    pick false f more = more f

find_before : {R : Type 0} (p : R → Bool) (rows : List R) (row : R) → p row ≡ false → find p (rows ++ row ∷ []) ≡ find p rows
find_before p [] row e = ap (λ b. cond b (Some row) None) e
find_before p (y ∷ ys) row e = pick (p y) (find_before p ys row e)
  where
    pick : (b : Bool) → find p (ys ++ row ∷ []) ≡ find p ys → cond b (Some y) (find p (ys ++ row ∷ [])) ≡ cond b (Some y) (find p ys)
    pick true more = refl
    pick false more = more

-- a row that is found has the value that its list has then
found_value : (rows : List KeyRow) (key value : List ℕ) → value_of rows key ≡ Some value → list_any (λ (row : KeyRow). bytes_eq row.value value) rows ≡ true
found_value [] key value e = absurd cc
found_value (y ∷ ys) key value e = pick (is_key key y) e (found_value ys key value)
  where
    either : (b : Bool) → list_any (λ (row : KeyRow). bytes_eq row.value value) ys ≡ true → (b || list_any (λ (row : KeyRow). bytes_eq row.value value) ys) ≡ true
    either true g = refl
    either false g = g

    pick : (b : Bool) → option_map (λ (row : KeyRow). row.value) (cond b (Some y) (find (is_key key) ys)) ≡ Some value
        → (value_of ys key ≡ Some value → list_any (λ (row : KeyRow). bytes_eq row.value value) ys ≡ true)
        → (bytes_eq y.value value || list_any (λ (row : KeyRow). bytes_eq row.value value) ys) ≡ true
    pick true f more = ap (λ b. b || list_any (λ (row : KeyRow). bytes_eq row.value value) ys) (ap (λ v. bytes_eq v value) (some_same y.value value f) ∙ is_itself value)
    pick false f more = either (bytes_eq y.value value) (more f)

-- the index of one row more, whose key and whose value no row before it has
module _ (rows : List KeyRow) (row : KeyRow) (old new : Index) (h : Indexes rows old) (no_key : find (is_key row.key) rows ≡ None)
    (no_value : list_any (λ (other : KeyRow). bytes_eq other.value row.value) rows ≡ false) (entered : (v : List ℕ) → new v ≡ update bytes_eq old row.value (Some row.key) v) where
  value_last : (key : List ℕ) (b : Bool) → bytes_eq row.key key ≡ b → value_of (rows ++ row ∷ []) key ≡ cond b (Some row.value) (value_of rows key)
  value_last key true e =
      subst (λ k. value_of (rows ++ row ∷ []) k ≡ Some row.value) (same_text row.key key e)
      (ap (option_map (λ (r : KeyRow). r.value)) (find_last (is_key row.key) rows row no_key ∙ ap (λ b. cond b (Some row) None) (is_itself row.key)))
  value_last key false e = ap (option_map (λ (r : KeyRow). r.value)) (find_before (is_key key) rows row e)

  to_rows : (value key : List ℕ) (a c : Bool) → bytes_eq row.value value ≡ a → bytes_eq row.key key ≡ c
      → cond a (Some row.key) (old value) ≡ Some key → cond c (Some row.value) (value_of rows key) ≡ Some value
  to_rows value key true true ea ec e = ap Some (same_text row.value value ea)
  to_rows value key true false ea ec e = absurd (apart (bytes_eq row.key key) (subst (λ k. bytes_eq row.key k ≡ true) (some_same row.key key e) (is_itself row.key)) ec)
  to_rows value key false true ea ec e =
      absurd (not_both (ap (option_map (λ (r : KeyRow). r.value)) no_key) (subst (λ k. value_of rows k ≡ Some value) (sym (same_text row.key key ec)) ((h value key).0 e)))
    where
      not_both : {o : Option (List ℕ)} → o ≡ None → o ≡ Some value → ⊥
      not_both n s = absurd cc
  to_rows value key false false ea ec e = (h value key).0 e

  from_rows : (value key : List ℕ) (a c : Bool) → bytes_eq row.value value ≡ a → bytes_eq row.key key ≡ c
      → cond c (Some row.value) (value_of rows key) ≡ Some value → cond a (Some row.key) (old value) ≡ Some key
  from_rows value key true true ea ec e = ap Some (same_text row.key key ec)
  from_rows value key false true ea ec e = absurd (apart (bytes_eq row.value value) (subst (λ v. bytes_eq row.value v ≡ true) (some_same row.value value e) (is_itself row.value)) ea)
  from_rows value key true false ea ec e =
      absurd (apart (list_any (λ (other : KeyRow). bytes_eq other.value row.value) rows)
      (found_value rows key row.value (e ∙ ap Some (sym (same_text row.value value ea)))) no_value)
  from_rows value key false false ea ec e = (h value key).1 e

  pub indexes_more : Indexes (rows ++ row ∷ []) new
  indexes_more value key = (
    (λ e. value_last key (bytes_eq row.key key) refl ∙ to_rows value key (bytes_eq row.value value) (bytes_eq row.key key) refl refl (sym (entered value) ∙ e)),
    (λ e. entered value ∙ from_rows value key (bytes_eq row.value value) (bytes_eq row.key key) refl refl (sym (value_last key (bytes_eq row.key key) refl) ∙ e)),
  )

-- no rows are in any index that is empty
pub indexes_none : (index : Index) → ((v : List ℕ) → index v ≡ None) → Indexes [] index
indexes_none index empty value key = ((λ e. absurd (neither (empty value) e)), (λ e. absurd cc))
  where
    neither : {o : Option (List ℕ)} → o ≡ None → o ≡ Some key → ⊥
    neither n s = absurd cc

-- a row behind another has another key
pub other_key : (y row : KeyRow) → key_behind y.key row ≡ true → is_key row.key y ≡ false
other_key y row behind = pick (is_key row.key y) refl
  where
    not_behind_itself : (a : List ℕ) → is_behind a a ≡ false
    not_behind_itself a = ap is_gt (tied_itself nat_list_cmp_total a)

    pick : (b : Bool) → is_key row.key y ≡ b → b ≡ false
    pick false e = refl
    pick true e = absurd (apart (is_behind row.key y.key) behind (subst (λ k. is_behind k y.key ≡ false) (same_text y.key row.key e) (not_behind_itself y.key)))

all_at : (y : KeyRow) (ys : List KeyRow) (n : ℕ) (d : KeyRow) → AllByRecursion (λ other. key_behind y.key other ≡ true) ys → n < length ys → key_behind y.key (get_or ys n d) ≡ true
all_at y [] n d all inside = absurd (omega (arith, inside))
all_at y (z ∷ zs) zero d all inside = all.0
all_at y (z ∷ zs) (suc n) d all inside = all_at y zs n d all.1 (omega (arith, inside))

-- no row before another has its key
pub none_before : (rows : List KeyRow) (n : ℕ) (d : KeyRow) → Ascends (λ row. key_behind row.key) rows → n < length rows → find (is_key (get_or rows n d).key) (take n rows) ≡ None
none_before [] n d order inside = absurd (omega (arith, inside))
none_before (y ∷ ys) zero d order inside = refl
none_before (y ∷ ys) (suc n) d order inside =
    ap (λ b. cond b (Some y) (find (is_key (get_or ys n d).key) (take n ys))) (other_key y (get_or ys n d) (all_at y ys n d order.0 (omega (arith, inside))))
    ∙ none_before ys n d order.1 (omega (arith, inside))

-- with one row more
pub keyed_more : (rows : List KeyRow) (n : ℕ) (row : KeyRow) (old new : Index) → n < length rows → row ≡ get_or rows n row → Ascends (λ row. key_behind row.key) rows
    → false ≡ list_any (λ (other : KeyRow). bytes_eq other.value row.value) (reverse (take n rows)) → ((v : List ℕ) → new v ≡ update bytes_eq old row.value (Some row.key) v)
    → Indexes (take n rows) old → Indexes (take (n + 1) rows) new
keyed_more rows n row old new inside is order fresh entered so_far =
    subst (λ r. Indexes r new) (sym (take_more rows n row inside ∙ ap (λ r. take n rows ++ r ∷ []) (sym is)))
    (indexes_more (take n rows) row old new so_far
    (subst (λ r. find (is_key r.key) (take n rows) ≡ None) (sym is) (none_before rows n row order inside))
    (sym (list_any-reverse (λ (other : KeyRow). bytes_eq other.value row.value) (take n rows)) ∙ sym fresh) entered)

pub keyed_all : (rows : List KeyRow) (n : ℕ) (index : Index) → length rows ≤ n → Indexes (take n rows) index → Indexes rows index
keyed_all rows n index past so_far = subst (λ r. Indexes r index) (take_all n rows past) so_far

-- a key's row is taken where none before it has its value
pub taken_fresh : (before : List KeyRow) (row : KeyRow) → takes_key before row ≡ true → false ≡ list_any (λ (other : KeyRow). bytes_eq other.value row.value) before
taken_fresh before row h =
    fresh (nat_lt (length before) most_keys && is_name row.key && is_key_value row.value && is_flag row.enabled) (list_any (λ (other : KeyRow). bytes_eq other.value row.value) before) h
  where
    fresh : (a b : Bool) → (a && not b) ≡ true → false ≡ b
    fresh true true e = absurd cc
    fresh true false e = refl
    fresh false b e = absurd cc

-- a row that is found by its value is found by its key
all_found : (y : KeyRow) (ys : List KeyRow) (p : KeyRow → Bool) (row : KeyRow) → AllByRecursion (λ other. key_behind y.key other ≡ true) ys → find p ys ≡ Some row → key_behind y.key row ≡ true
all_found y [] p row all e = absurd cc
all_found y (z ∷ zs) p row all e = pick (p z) e (all_found y zs p row all.1)
  where
    pick : (b : Bool) → cond b (Some z) (find p zs) ≡ Some row → (find p zs ≡ Some row → key_behind y.key row ≡ true) → key_behind y.key row ≡ true
    pick true f more = subst (λ r. key_behind y.key r ≡ true) (some_same z row f) all.0
    pick false f more = more f

pub found_by_key : (p : KeyRow → Bool) (rows : List KeyRow) (row : KeyRow) → Ascends (λ row. key_behind row.key) rows → find p rows ≡ Some row → find (is_key row.key) rows ≡ Some row
found_by_key p [] row order e = absurd cc
found_by_key p (y ∷ ys) row order e = pick (p y) e (found_by_key p ys row order.1)
  where
    pick : (b : Bool) → cond b (Some y) (find p ys) ≡ Some row → (find p ys ≡ Some row → find (is_key row.key) ys ≡ Some row)
        → cond (is_key row.key y) (Some y) (find (is_key row.key) ys) ≡ Some row
    pick true f more =
        ap (λ (r : KeyRow). cond (is_key r.key y) (Some y) (find (is_key r.key) ys)) (sym (some_same y row f))
        ∙ ap (λ b. cond b (Some y) (find (is_key y.key) ys)) (is_itself y.key) ∙ f
    pick false f more =
        ap (λ b. cond b (Some y) (find (is_key row.key) ys)) (other_key y row (all_found y ys p row order.0 f)) ∙ more f

-- where a key has the value, a row is found by it
none_of_value : (rows : List KeyRow) (key value : List ℕ) → find (has_value value) rows ≡ None → value_of rows key ≡ Some value → ⊥
none_of_value [] key value none e = cc
none_of_value (y ∷ ys) key value none e = pick (has_value value y) (is_key key y) refl none e (none_of_value ys key value)
  where
    pick : (b c : Bool) → has_value value y ≡ b → cond b (Some y) (find (has_value value) ys) ≡ None
        → option_map (λ (row : KeyRow). row.value) (cond c (Some y) (find (is_key key) ys)) ≡ Some value
        → (find (has_value value) ys ≡ None → value_of ys key ≡ Some value → ⊥) → ⊥
    pick true c h n f more = absurd cc
    pick false true h n f more = apart (has_value value y) (ap (λ v. bytes_eq v value) (some_same y.value value f) ∙ is_itself value) h
    pick false false h n f more = more n f

has_its_value : (value : List ℕ) (rows : List KeyRow) (row : KeyRow) → find (has_value value) rows ≡ Some row → row.value ≡ value
has_its_value value rows row e = same_text row.value value (found_holds (has_value value) rows row e)

value_found : (rows : List KeyRow) (row : KeyRow) → find (is_key row.key) rows ≡ Some row → value_of rows row.key ≡ Some row.value
value_found rows row e = ap (option_map (λ (r : KeyRow). r.value)) e

-- THE ROW OF A VALUE is that of the key which the index names
pub key_found : (rows : List KeyRow) (index : Index) (value : List ℕ) → Ascends (λ row. key_behind row.key) rows → Indexes rows index
    → find (has_value value) rows ≡ option_and_then (λ key. find (is_key key) rows) (index value)
key_found rows index value order h = by_value (find (has_value value) rows) (index value) refl refl
  where
    indexed : (row : KeyRow) → find (has_value value) rows ≡ Some row → index value ≡ Some row.key
    indexed row e = (h value row.key).1 (value_found rows row (found_by_key (has_value value) rows row order e) ∙ ap Some (has_its_value value rows row e))

    by_value : (found : Option KeyRow) (named : Option (List ℕ)) → find (has_value value) rows ≡ found → index value ≡ named
        → found ≡ option_and_then (λ key. find (is_key key) rows) named
    by_value None None e n = refl
    by_value None (Some key) e n = absurd (none_of_value rows key value e ((h value key).0 n))
    by_value (Some row) None e n = absurd (neither (indexed row e) n)
      where
        neither : {o : Option (List ℕ)} → o ≡ Some row.key → o ≡ None → ⊥
        neither s f = absurd cc
    by_value (Some row) (Some key) e n =
        sym (subst (λ k. find (is_key k) rows ≡ Some row) (some_same row.key key (sym (indexed row e) ∙ n)) (found_by_key (has_value value) rows row order e))
