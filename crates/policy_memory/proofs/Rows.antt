-- Rows of flushes.
use Rattle.std.proofs.Common.{◌≡◌, ℕ, zero, suc, ◌+◌, ◌<◌, Bool, true, false, cond, List, [], ◌∷◌, ◌++◌, length, take, get_or, set, Option, Some, None, refl, sym, ap, subst, ◌∙◌, arith, add-one}
use Rattle.std.specs.Cmp.{first_so, second_so}
use Rattle.std.specs.Cmp.Lexicographic.{bytes_decides}
use Rattle.std.specs.Str.{bytes_eq}
use Rattle.policy_memory.specs.declared.flushes.StageFlush.{StageFlush}
use Rattle.policy_memory.specs.Kept.{last_in, Flushes, IsFirstFlush}
use Rattle.policy_memory.specs.Names.{same_stage}

same_stage-api : (a s b r : List ℕ) → same_stage a s b r ≡ true → a ≡ b
unfolding same_stage
same_stage-api a s b r e = (bytes_decides a b).0 (first_so (bytes_eq a b) (bytes_eq s r) e)

same_stage-stage : (a s b r : List ℕ) → same_stage a s b r ≡ true → s ≡ r
unfolding same_stage
same_stage-stage a s b r e = (bytes_decides s r).0 (second_so (bytes_eq a b) (bytes_eq s r) e)

-- rows of two stages are not of one
apart : (a s b r c u : List ℕ) → same_stage a s b r ≡ false → same_stage b r c u ≡ true → same_stage a s c u ≡ false
apart a s b r c u h t = subst (λ x. same_stage a s c x ≡ false) (same_stage-stage b r c u t) (subst (λ x. same_stage a s x r ≡ false) (same_stage-api b r c u t) h)

some_none : (b : Bool) (place : ℕ) (o : Option ℕ) → cond b (Some place) o ≡ None → (b ≡ false) × (o ≡ None)
some_none true place o e = absurd cc
some_none false place o e = (refl, e)

module _ (api stage : List ℕ) where
  -- no row before the next one either
  pub none-more : (rows : List StageFlush) (i : ℕ) (d : StageFlush) → i < length rows → last_in (take i rows) api stage ≡ None
      → same_stage (get_or rows i d).api (get_or rows i d).stage api stage ≡ false → last_in (take (suc i) rows) api stage ≡ None
  none-more [] i d lt h f = refl
  none-more (r ∷ rows) zero d lt h f = rw f refl
  none-more (r ∷ rows) (suc i) d lt h f =
      let parts = some_none (same_stage r.api r.stage api stage) r.place (last_in (take i rows) api stage) h in
      let here : same_stage r.api r.stage api stage ≡ false = parts.0 in
      rw here (none-more rows i d (omega (arith, lt)) parts.1 f)

  module _ (place : ℕ) where
    -- a row of another stage says the same before and after
    other : (r : StageFlush) (a s : List ℕ) (old : Option ℕ) → same_stage r.api r.stage api stage ≡ false
        → cond (same_stage r.api r.stage a s) (Some r.place) (cond (same_stage api stage a s) (Some place) old) ≡ cond (same_stage api stage a s) (Some place) (cond (same_stage r.api r.stage a s) (Some r.place) old)
    other r a s old h = (elim (same_stage api stage a s) as (λ b. same_stage api stage a s ≡ b → cond (same_stage r.api r.stage a s) (Some r.place) (cond b (Some place) old) ≡ cond b (Some place) (cond (same_stage r.api r.stage a s) (Some r.place) old)) [
      | true ↦ λ t. rw (apart r.api r.stage api stage a s h t) refl
      | false ↦ λ t. refl
    ]) refl

    -- one row more at the end
    pub flushes-pushed : (rows : List StageFlush) → last_in rows api stage ≡ None → Flushes rows api stage place (rows ++ record { api = api; stage = stage; place = place } ∷ [])
    flushes-pushed [] h a s = refl
    flushes-pushed (r ∷ rows) h a s =
        let parts = some_none (same_stage r.api r.stage api stage) r.place (last_in rows api stage) h in
        ap (λ o. cond (same_stage r.api r.stage a s) (Some r.place) o) (flushes-pushed rows parts.1 a s) ∙ other r a s (last_in rows a s) parts.0

    head : (r : StageFlush) (a s : List ℕ) (old : Option ℕ) → same_stage r.api r.stage api stage ≡ true
        → cond (same_stage r.api r.stage a s) (Some place) old ≡ cond (same_stage api stage a s) (Some place) (cond (same_stage r.api r.stage a s) (Some r.place) old)
    head r a s old t =
        subst (λ x. cond (same_stage x r.stage a s) (Some place) old ≡ cond (same_stage api stage a s) (Some place) (cond (same_stage x r.stage a s) (Some r.place) old)) (sym (same_stage-api r.api r.stage api stage t))
        (subst (λ y. cond (same_stage api y a s) (Some place) old ≡ cond (same_stage api stage a s) (Some place) (cond (same_stage api y a s) (Some r.place) old)) (sym (same_stage-stage r.api r.stage api stage t))
        (both (same_stage api stage a s)))
      where
        both : (b : Bool) → cond b (Some place) old ≡ cond b (Some place) (cond b (Some r.place) old)
        both true = refl
        both false = refl

    -- the first row of the stage is written
    pub flushes-set : (rows : List StageFlush) (i : ℕ) (d : StageFlush) → i < length rows → same_stage (get_or rows i d).api (get_or rows i d).stage api stage ≡ true → last_in (take i rows) api stage ≡ None
        → Flushes rows api stage place (set rows i (record (get_or rows i d) { place = place }))
    flushes-set [] i d lt t h a s = absurd (omega (arith, lt))
    flushes-set (r ∷ rows) zero d lt t h a s = head r a s (last_in rows a s) t
    flushes-set (r ∷ rows) (suc i) d lt t h a s =
        let parts = some_none (same_stage r.api r.stage api stage) r.place (last_in (take i rows) api stage) h in
        ap (λ o. cond (same_stage r.api r.stage a s) (Some r.place) o) (flushes-set rows i d (omega (arith, lt)) t parts.1 a s) ∙ other r a s (last_in rows a s) parts.0

    -- the same, for a row that is at the place
    pub flushes-noted : (rows : List StageFlush) (i : ℕ) (r : StageFlush) → r ≡ get_or rows i r → IsFirstFlush rows api stage i
        → Flushes rows api stage place (set rows i (record { api = r.api; stage = r.stage; place = place }))
    flushes-noted rows i r e first =
        subst (λ (x : StageFlush). Flushes rows api stage place (set rows i (record { api = x.api; stage = x.stage; place = place }))) (sym e)
        (flushes-set rows i r first.within (first.matches r) first.before)

    -- and for a row more
    pub flushes-added : (rows new : List StageFlush) (a s : List ℕ) → new ≡ rows ++ record { api = a; stage = s; place = place } ∷ [] → a ≡ api → s ≡ stage → last_in rows api stage ≡ None → Flushes rows api stage place new
    flushes-added rows new a s e same_api same_stages none =
        subst (λ (fs : List StageFlush). Flushes rows api stage place fs) (sym (e ∙ ap (λ x. rows ++ record { api = x; stage = s; place = place } ∷ []) same_api ∙ ap (λ x. rows ++ record { api = api; stage = x; place = place } ∷ []) same_stages))
        (flushes-pushed rows none)
