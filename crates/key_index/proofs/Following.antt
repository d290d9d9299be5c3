-- An index follows the rows of its keys.
use Rattle.std.proofs.Common.{◌≡◌, ◌∙◌, sym, ap, subst, refl, ℕ, Bool, true, false, List, find, Option, Some, None, IfSome, option_map, cond, ◌↔◌}
use Rattle.std.specs.Str.{bytes_eq}
use Rattle.std.proofs.lemmas.Slice.Eq.{bytes_eq-Decides}
use Rattle.keeper_core.specs.Lists.{is_key, key_behind, put_by}
use Rattle.keeper_core.specs.declared.rows.KeyRow.{KeyRow}
use Rattle.keeper_core.proofs.Finding.{find_put, find_beside_put}
use Rattle.key_index.specs.Indexes.{Index, is_this, renamed, value_of, Indexes, IsFree, IndexFollowsRows}

same_text : (a b : List ℕ) → bytes_eq a b ≡ true → a ≡ b
same_text a b e = (bytes_eq-Decides a b).0 e

is_itself : (a : List ℕ) → bytes_eq a a ≡ true
is_itself a = (bytes_eq-Decides a a).1 refl

some-same : {A : Type 0} (a b : A) → Some a ≡ Some b → a ≡ b
some-same a b same = cc

apart : (b : Bool) → b ≡ true → b ≡ false → ⊥
apart true e f = absurd cc
apart false e f = absurd cc

-- the values behind a row that was put
value-put : (rows : List KeyRow) (row : KeyRow) (key : List ℕ) (b : Bool) → bytes_eq row.key key ≡ b
    → value_of (put_by (is_key row.key) (key_behind row.key) row rows) key ≡ cond b (Some row.value) (value_of rows key)
value-put rows row key true e =
    subst (λ k. value_of (put_by (is_key row.key) (key_behind row.key) row rows) k ≡ Some row.value) (same_text row.key key e)
    (ap (option_map (λ (r : KeyRow). r.value)) (find_put (is_key row.key) (key_behind row.key) row (is_itself row.key) rows))
value-put rows row key false e =
    ap (option_map (λ (r : KeyRow). r.value))
    (find_beside_put (is_key row.key) (key_behind row.key) (is_key key) row e (λ y h. ap (λ k. bytes_eq k key) (same_text y.key row.key h) ∙ e) rows)

module _ (rows : List KeyRow) (row : KeyRow) (index new : Index) (h : Indexes rows index) (free : IsFree index row)
    (changed : (v : List ℕ) → new v ≡ renamed index (value_of rows row.key) row.value row.key v) where
  free-key : (key : List ℕ) → index row.value ≡ Some key → key ≡ row.key
  free-key key e = pick (index row.value) free e
    where
      pick : (o : Option (List ℕ)) → IfSome o (λ k. k ≡ row.key) → o ≡ Some key → key ≡ row.key
      pick None f e = absurd cc
      pick (Some k) f e = sym (some-same k key e) ∙ f

  -- a value that was the row's key's before is found under no other key
  was-its-own : (value key : List ℕ) → index value ≡ Some key → is_this value (value_of rows row.key) ≡ true → key ≡ row.key
  was-its-own value key e mine = pick (value_of rows row.key) refl mine
    where
      pick : (o : Option (List ℕ)) → value_of rows row.key ≡ o → is_this value o ≡ true → key ≡ row.key
      pick None f m = absurd cc
      pick (Some other) f m = sym (some-same row.key key (sym ((h value row.key).1 (f ∙ ap Some (same_text other value m))) ∙ e))

  not-its-own : (value key : List ℕ) → value_of rows key ≡ Some value → bytes_eq row.key key ≡ false → is_this value (value_of rows row.key) ≡ false
  not-its-own value key e differ = pick (is_this value (value_of rows row.key)) refl
    where
      pick : (b : Bool) → is_this value (value_of rows row.key) ≡ b → b ≡ false
      pick false m = refl
      pick true m = absurd (apart (bytes_eq row.key key) (subst (λ k. bytes_eq row.key k ≡ true) (sym (was-its-own value key ((h value key).1 e) m)) (is_itself row.key)) differ)

  to-rows : (value key : List ℕ) (a b c : Bool) → bytes_eq row.value value ≡ a → is_this value (value_of rows row.key) ≡ b → bytes_eq row.key key ≡ c
      → cond a (Some row.key) (cond b None (index value)) ≡ Some key → cond c (Some row.value) (value_of rows key) ≡ Some value
  to-rows value key true b true ea eb ec e = ap Some (same_text row.value value ea)
  to-rows value key true b false ea eb ec e = absurd (apart (bytes_eq row.key key) (subst (λ k. bytes_eq row.key k ≡ true) (some-same row.key key e) (is_itself row.key)) ec)
  to-rows value key false true c ea eb ec e = absurd cc
  to-rows value key false false true ea eb ec e =
      absurd (apart (is_this value (value_of rows row.key))
      (ap (is_this value) (subst (λ k. value_of rows k ≡ Some value) (sym (same_text row.key key ec)) ((h value key).0 e)) ∙ is_itself value) eb)
  to-rows value key false false false ea eb ec e = (h value key).0 e

  from-rows : (value key : List ℕ) (a b c : Bool) → bytes_eq row.value value ≡ a → is_this value (value_of rows row.key) ≡ b → bytes_eq row.key key ≡ c
      → cond c (Some row.value) (value_of rows key) ≡ Some value → cond a (Some row.key) (cond b None (index value)) ≡ Some key
  from-rows value key true b true ea eb ec e = ap Some (same_text row.key key ec)
  from-rows value key false b true ea eb ec e = absurd (apart (bytes_eq row.value value) (subst (λ v. bytes_eq row.value v ≡ true) (some-same row.value value e) (is_itself row.value)) ea)
  from-rows value key true b false ea eb ec e =
      absurd (apart (bytes_eq row.key key)
      (subst (λ k. bytes_eq row.key k ≡ true)
      (sym (free-key key (ap index (same_text row.value value ea) ∙ (h value key).1 e))) (is_itself row.key)) ec)
  from-rows value key false true false ea eb ec e = absurd (apart (is_this value (value_of rows row.key)) eb (not-its-own value key e ec))
  from-rows value key false false false ea eb ec e = (h value key).1 e

  pub follows : Indexes (put_by (is_key row.key) (key_behind row.key) row rows) new
  follows value key = (
    (λ e. value-put rows row key (bytes_eq row.key key) refl ∙ to-rows value key (bytes_eq row.value value) (is_this value (value_of rows row.key)) (bytes_eq row.key key) refl refl refl (sym (changed value) ∙ e)),
    (λ e. changed value ∙ from-rows value key (bytes_eq row.value value) (is_this value (value_of rows row.key)) (bytes_eq row.key key) refl refl refl (sym (value-put rows row key (bytes_eq row.key key) refl) ∙ e)),
  )
