-- The values of keys, while one is put.
use Rattle.std.proofs.Common.{◌≡◌, ◌∙◌, sym, ap, subst, refl, ℕ, Bool, true, false, not, List, find, Option, Some, None, IfSome, option_map, is_some, cond, ◌↔◌}
use Rattle.std.specs.Map.{update}
use Rattle.std.specs.Option.{option_and_then}
use Rattle.std.specs.Str.{bytes_eq}
use Rattle.std.proofs.lemmas.Slice.Eq.{bytes_eq-Decides}
use Rattle.keeper_core.specs.Lists.{Lists, Ascends, is_key, key_behind, key_row, put_by}
use Rattle.keeper_core.specs.declared.rows.KeyRow.{KeyRow}
use Rattle.key_index.proofs.Following.{follows}
use Rattle.key_index.specs.Indexes.{Index, Indexes, IsFree, is_this, renamed, value_of}
use Rattle.book_opening.proofs.Keyed.{key_found}
use Rattle.book_rules.proofs.Viewing.{found_holds}
use Rattle.book_rules.specs.PlanCommands.{has_value, is_of_another, key_with}
use Rattle.book_core.specs.Naming.{left_by}

same_text : (a b : List ℕ) → bytes_eq a b ≡ true → a ≡ b
same_text a b e = (bytes_eq-Decides a b).0 e

is_itself : (a : List ℕ) → bytes_eq a a ≡ true
is_itself a = (bytes_eq-Decides a a).1 refl

some_same : {A : Type 0} (a b : A) → Some a ≡ Some b → a ≡ b
some_same a b same = cc

apart : (b : Bool) → b ≡ true → b ≡ false → ⊥
apart true e f = absurd cc
apart false e f = absurd cc

other_way : (a b : List ℕ) → bytes_eq a b ≡ false → bytes_eq b a ≡ false
other_way a b e = pick (bytes_eq b a) refl
  where
    pick : (c : Bool) → bytes_eq b a ≡ c → c ≡ false
    pick false f = refl
    pick true f = absurd (apart (bytes_eq a b) (subst (λ x. bytes_eq x b ≡ true) (same_text b a f) (is_itself b)) e)

-- an index that answers the same has just the same values
pub indexes_same : (rows : List KeyRow) (old new : Index) → ((v : List ℕ) → new v ≡ old v) → Indexes rows old → Indexes rows new
indexes_same rows old new same h value key = ((λ e. (h value key).0 (sym (same value) ∙ e)), (λ e. same value ∙ (h value key).1 e))

-- a value that no other key has is of this one, or of none
pub is_free : (lists : Lists) (index : Index) (row : KeyRow) → Ascends (λ row. key_behind row.key) lists.keys → Indexes lists.keys index
    → is_of_another row.key (key_with lists row.value) ≡ false → IsFree index row
is_free lists index row order h none = pick (index row.value) refl
  where
    pick : (named : Option (List ℕ)) → index row.value ≡ named → IfSome named (λ key. key ≡ row.key)
    pick None e = tt
    pick (Some key) e = at_key (find (is_key key) lists.keys) refl
      where
        found : key_with lists row.value ≡ find (is_key key) lists.keys
        found = key_found lists.keys index row.value order h ∙ ap (option_and_then (λ k. find (is_key k) lists.keys)) e

        at_key : (o : Option KeyRow) → find (is_key key) lists.keys ≡ o → key ≡ row.key
        at_key None f = absurd (neither (ap (option_map (λ (r : KeyRow). r.value)) f) ((h row.value key).0 e))
          where
            neither : {o : Option (List ℕ)} → o ≡ None → o ≡ Some row.value → ⊥
            neither n s = absurd cc
        at_key (Some r) f =
            let named : r.key ≡ key = same_text r.key key (found_holds (is_key key) lists.keys r f) in
            sym named ∙ same_text r.key row.key (unless_other (bytes_eq r.key row.key) (sym (ap (is_of_another row.key) (found ∙ f)) ∙ none))
          where
            unless_other : (b : Bool) → not b ≡ false → b ≡ true
            unless_other true g = refl
            unless_other false g = absurd cc

module _ (rows : List KeyRow) (row : KeyRow) (old : Index) (h : Indexes rows old) (free : IsFree old row) where
  -- the value that its key has is the one that leads to it
  own_value : is_some (old row.value) ≡ true → value_of rows row.key ≡ Some row.value
  own_value some = pick (old row.value) refl some free
    where
      pick : (named : Option (List ℕ)) → old row.value ≡ named → is_some named ≡ true → IfSome named (λ key. key ≡ row.key) → value_of rows row.key ≡ Some row.value
      pick None e s f = absurd cc
      pick (Some key) e s f = subst (λ k. value_of rows k ≡ Some row.value) f ((h row.value key).0 e)

  no_value : is_some (old row.value) ≡ false → (v : List ℕ) → value_of rows row.key ≡ Some v → bytes_eq v row.value ≡ false
  no_value none v e = pick (bytes_eq v row.value) refl
    where
      pick : (b : Bool) → bytes_eq v row.value ≡ b → b ≡ false
      pick false f = refl
      pick true f = absurd (apart (is_some (old row.value)) (ap is_some ((h row.value row.key).1 (e ∙ ap Some (same_text v row.value f)))) none)

  -- the index with the value entered, and the old value taken, is that of the row that was put
  entered_own : is_some (old row.value) ≡ true → (v : List ℕ) → left_by (value_of rows row.key) row.value old v ≡ renamed old (value_of rows row.key) row.value row.key v
  entered_own some v =
      ap (λ o. left_by o row.value old v) (own_value some)
      ∙ ap (λ b. cond b (old v) (update bytes_eq old row.value None v)) (is_itself row.value)
      ∙ by_value (bytes_eq row.value v) refl
      ∙ sym (ap (λ o. renamed old o row.value row.key v) (own_value some))
    where
      named : old row.value ≡ Some row.key
      named = (h row.value row.key).1 (own_value some)

      by_value : (b : Bool) → bytes_eq row.value v ≡ b → old v ≡ cond b (Some row.key) (cond b None (old v))
      by_value true e = ap old (sym (same_text row.value v e)) ∙ named
      by_value false e = refl

  entered_new : is_some (old row.value) ≡ false → (v : List ℕ)
      → left_by (value_of rows row.key) row.value (update bytes_eq old row.value (Some row.key)) v ≡ renamed old (value_of rows row.key) row.value row.key v
  entered_new none v = pick (value_of rows row.key) refl
    where
      pick : (before : Option (List ℕ)) → value_of rows row.key ≡ before
          → left_by before row.value (update bytes_eq old row.value (Some row.key)) v ≡ renamed old before row.value row.key v
      pick None e = refl
      pick (Some w) e =
          ap (λ b. cond b (update bytes_eq old row.value (Some row.key) v) (update bytes_eq (update bytes_eq old row.value (Some row.key)) w None v)) differ
          ∙ by_value (bytes_eq w v) (bytes_eq row.value v) refl refl
        where
          differ : bytes_eq w row.value ≡ false
          differ = no_value none w e

          by_value : (a b : Bool) → bytes_eq w v ≡ a → bytes_eq row.value v ≡ b → cond a None (cond b (Some row.key) (old v)) ≡ cond b (Some row.key) (cond a None (old v))
          by_value true true f g = absurd (apart (bytes_eq w row.value) (subst (λ x. bytes_eq w x ≡ true) (same_text w v f ∙ sym (same_text row.value v g)) (is_itself w)) differ)
          by_value true false f g = refl
          by_value false true f g = refl
          by_value false false f g = refl

  -- what the row that was put leaves
  pub index_put : (own : Bool) (entered new : Index) → own ≡ is_some (old row.value)
      → ((v : List ℕ) → entered v ≡ cond own (old v) (update bytes_eq old row.value (Some row.key) v))
      → ((v : List ℕ) → new v ≡ left_by (value_of rows row.key) row.value entered v)
      → Indexes (put_by (is_key row.key) (key_behind row.key) row rows) new
  index_put own entered new is e n = follows rows row old new h free changed
    where
      left_same : (before : Option (List ℕ)) (value : List ℕ) (a b : Index) → ((v : List ℕ) → a v ≡ b v) → (v : List ℕ) → left_by before value a v ≡ left_by before value b v
      left_same None value a b same v = same v
      left_same (Some w) value a b same v = by_test (bytes_eq w value) (bytes_eq w v)
        where
          by_test : (c d : Bool) → cond c (a v) (cond d None (a v)) ≡ cond c (b v) (cond d None (b v))
          by_test true d = same v
          by_test false true = refl
          by_test false false = same v

      changed : (v : List ℕ) → new v ≡ renamed old (value_of rows row.key) row.value row.key v
      changed v = by_own own (sym is) e
        where
          by_own : (o : Bool) → is_some (old row.value) ≡ o → ((w : List ℕ) → entered w ≡ cond o (old w) (update bytes_eq old row.value (Some row.key) w))
              → new v ≡ renamed old (value_of rows row.key) row.value row.key v
          by_own true some same = n v ∙ left_same (value_of rows row.key) row.value entered old same v ∙ entered_own some v
          by_own false none same = n v ∙ left_same (value_of rows row.key) row.value entered (update bytes_eq old row.value (Some row.key)) same v ∙ entered_new none v

  -- and one that was not, once the value is taken from its key again
  pub index_left : (own : Bool) (entered new : Index) → own ≡ is_some (old row.value)
      → ((v : List ℕ) → entered v ≡ cond own (old v) (update bytes_eq old row.value (Some row.key) v))
      → ((v : List ℕ) → new v ≡ cond own (entered v) (update bytes_eq entered row.value None v))
      → Indexes rows new
  index_left own entered new is e n = indexes_same rows old new (λ v. by_own own (sym is) e n v) h
    where
      by_own : (o : Bool) → is_some (old row.value) ≡ o → ((w : List ℕ) → entered w ≡ cond o (old w) (update bytes_eq old row.value (Some row.key) w))
          → ((w : List ℕ) → new w ≡ cond o (entered w) (update bytes_eq entered row.value None w)) → (v : List ℕ) → new v ≡ old v
      by_own true some same left v = left v ∙ same v
      by_own false none same left v = left v ∙ by_value (bytes_eq row.value v) refl
        where
          no_key : (o : Option (List ℕ)) → is_some o ≡ false → None ≡ o
          no_key None f = refl
          no_key (Some key) f = absurd cc

          by_value : (b : Bool) → bytes_eq row.value v ≡ b → cond b None (entered v) ≡ old v
          by_value true f = no_key (old row.value) none ∙ ap old (same_text row.value v f)
          by_value false f = same v ∙ ap (λ b. cond b (Some row.key) (old v)) f
