-- How rows are searched, by segments.
use Rattle.std.proofs.Common.{◌≡◌, ◌≢◌, ℕ, ◌-◌, ◌<◌, ◌==◌, Bool, true, false, cond, ◌&&◌, List, [], ◌∷◌, ◌++◌, bytes_eq, nat_eq, Some, None, refl, sym, ◌∙◌, arith, subst, append-nil, lt_irrefl}
use Rattle.std.proofs.lemmas.Bool.Decides.{nat_tests}
use Rattle.matchit.specs.Rows.{Rows, prepend}
use Rattle.matchit.specs.Seek.{step, or_else, seek, param_step}
use Rattle.matchit.specs.Level.{IsText}
use Rattle.matchit.proofs.SeekLemmas.{own-append, own-prepend, step-append, step-hit, step-miss, or_else-none, param_step-empty, prepend-nil, seek-empty, seek-lit}
use Rattle.admin_paths.proofs.Segments.{Plain}

same_test : (x y : ℕ) → (x == y) ≡ nat_eq y x
same_test x y = grind (arith, nat_tests)

-- one row of this text
pub exactly : (w s : List ℕ) (k : ℕ) → IsText w → seek 0 (prepend w (([], k) ∷ [])) s ≡ cond (bytes_eq s w) (Some k) None
unfolding seek
exactly [] [] k h = refl
exactly [] (b ∷ s) k h = simp (seek-empty 0 s, param_step-empty (b ∷ s), seek-empty (((param_step {K = ℕ} [] (b ∷ s)).0) - 1) s)
exactly (x ∷ w) [] k h = own-prepend x w (([], k) ∷ [])
exactly (x ∷ w) (y ∷ s) k h = seek-lit x w (([], k) ∷ []) y s h.0 ∙ by (nat_eq y x) refl (exactly w s k h.1)
  where
    by : (v : Bool) → nat_eq y x ≡ v → seek 0 (prepend w (([], k) ∷ [])) s ≡ cond (bytes_eq s w) (Some k) None
        → seek 0 (step y (prepend (x ∷ w) (([], k) ∷ []))) s ≡ cond (v && bytes_eq s w) (Some k) None
    by true e ih =
        let same : x ≡ y = grind (arith, nat_tests) in
        rw (← same, step-hit x w (([], k) ∷ [])) ih
    by false e ih =
        let other : x ≢ y = λ q. grind (arith, nat_tests) in
        rw (step-miss y x w (([], k) ∷ []) other) (seek-empty 0 s)

-- rows behind a literal segment, and a text of more segments
pub behind : (w s r : List ℕ) (t : Rows) → Plain w → Plain s → seek 0 (prepend (w ++ 47 ∷ []) t) (s ++ 47 ∷ r) ≡ cond (bytes_eq s w) (seek 0 t r) None
behind [] [] r t h k = seek-lit 47 [] t 47 r (omega arith) ∙ rw (step-hit 47 [] t, prepend-nil t) refl
behind [] (y ∷ s) r t h k =
    let other : 47 ≢ y = λ q. (let n : (y == 47) ≡ false = k.1 in grind (arith, nat_tests)) in
    seek-lit 47 [] t y (s ++ 47 ∷ r) (omega arith) ∙ rw (step-miss y 47 [] t other) (seek-empty 0 (s ++ 47 ∷ r))
behind (x ∷ w) [] r t h k =
    let other : x ≢ 47 = λ q. (let n : (x == 47) ≡ false = h.1 in grind (arith, nat_tests)) in
    seek-lit x (w ++ 47 ∷ []) t 47 r h.0 ∙ rw (step-miss 47 x (w ++ 47 ∷ []) t other) (seek-empty 0 r)
behind (x ∷ w) (y ∷ s) r t h k = seek-lit x (w ++ 47 ∷ []) t y (s ++ 47 ∷ r) h.0 ∙ by (nat_eq y x) refl (behind w s r t h.2 k.2)
  where
    by : (v : Bool) → nat_eq y x ≡ v → seek 0 (prepend (w ++ 47 ∷ []) t) (s ++ 47 ∷ r) ≡ cond (bytes_eq s w) (seek 0 t r) None
        → seek 0 (step y (prepend (x ∷ w ++ 47 ∷ []) t)) (s ++ 47 ∷ r) ≡ cond (v && bytes_eq s w) (seek 0 t r) None
    by true e ih =
        let same : x ≡ y = grind (arith, nat_tests) in
        rw (← same, step-hit x (w ++ 47 ∷ []) t) ih
    by false e ih =
        let other : x ≢ y = λ q. grind (arith, nat_tests) in
        rw (step-miss y x (w ++ 47 ∷ []) t other) (seek-empty 0 (s ++ 47 ∷ r))

-- and a text of one segment
pub not_behind : (w s : List ℕ) (t : Rows) → Plain w → Plain s → seek 0 (prepend (w ++ 47 ∷ []) t) s ≡ None
unfolding seek
not_behind [] [] t h k = own-prepend 47 [] t
not_behind [] (y ∷ s) t h k =
    let other : 47 ≢ y = λ q. (let n : (y == 47) ≡ false = k.1 in grind (arith, nat_tests)) in
    seek-lit 47 [] t y s (omega arith) ∙ rw (step-miss y 47 [] t other) (seek-empty 0 s)
not_behind (x ∷ w) [] t h k = own-prepend x (w ++ 47 ∷ []) t
not_behind (x ∷ w) (y ∷ s) t h k = seek-lit x (w ++ 47 ∷ []) t y s h.0 ∙ by (x == y) refl (not_behind w s t h.2 k.2)
  where
    by : (v : Bool) → (x == y) ≡ v → seek 0 (prepend (w ++ 47 ∷ []) t) s ≡ None → seek 0 (step y (prepend (x ∷ w ++ 47 ∷ []) t)) s ≡ None
    by true e ih =
        let same : x ≡ y = grind (arith, nat_tests) in
        rw (← same, step-hit x (w ++ 47 ∷ []) t) ih
    by false e ih =
        let other : x ≢ y = λ q. grind (arith, nat_tests) in
        rw (step-miss y x (w ++ 47 ∷ []) t other) (seek-empty 0 s)

-- rows of one first byte, and rows of others
pub fork : (x : ℕ) (w : List ℕ) (t u : Rows) (p : List ℕ) → x < 256 → step x u ≡ [] → step 256 u ≡ [] → step 257 u ≡ []
    → seek 0 (prepend (x ∷ w) t ++ u) p ≡ or_else (seek 0 (prepend (x ∷ w) t) p) (seek 0 u p)
unfolding seek
fork x w t u [] small h k l = own-append (prepend (x ∷ w) t) u
fork x w t u (b ∷ p) small h k l =
    let n1 : x ≢ 256 = λ e. omega arith in
    let n2 : x ≢ 257 = λ e. omega arith in
    let a1 = step-miss 256 x w t n1 in
    let a2 = step-miss 257 x w t n2 in
    let none = param_step-empty (b ∷ p) in
    let nothing = seek-empty ((param_step {K = ℕ} [] (b ∷ p)).0 - 1) p in
    rw (step-append b (prepend (x ∷ w) t) u, step-append 256 (prepend (x ∷ w) t) u, step-append 257 (prepend (x ∷ w) t) u, a1, a2, k, l, none, nothing)
    (or_else-none _ ∙ by (x == b) refl)
  where
    by : (v : Bool) → (x == b) ≡ v
        → seek 0 (step b (prepend (x ∷ w) t) ++ step b u) p ≡ or_else (or_else (seek 0 (step b (prepend (x ∷ w) t)) p) None) (or_else (seek 0 (step b u) p) None)
    by true e =
        let same : x ≡ b = grind (arith, nat_tests) in
        let gone : step b u ≡ [] = subst (λ z. step z u ≡ []) same h in
        rw (gone, append-nil (step b (prepend (x ∷ w) t)), seek-empty 0 p) (sym (or_else-none _ ∙ or_else-none _))
    by false e =
        let other : x ≢ b = λ q. grind (arith, nat_tests) in
        rw (step-miss b x w t other, seek-empty 0 p) (sym (or_else-none _))

apart : ◌≢◌ {A = ℕ} 256 257
apart e = lt_irrefl 257 (subst (λ z. z < 257) e (omega arith))

no_rest : (q : Rows) → step 257 (prepend (256 ∷ []) q) ≡ []
no_rest q = step-miss 257 256 [] q apart

-- rows behind a parameter
pub wild : (q : Rows) (b : ℕ) (p : List ℕ) → b < 256 → seek 0 (prepend (256 ∷ []) q) (b ∷ p) ≡ seek ((param_step q (b ∷ p)).0 - 1) (param_step q (b ∷ p)).1 p
unfolding seek
wild q b p small =
    let n1 : 256 ≢ b = λ e. lt_irrefl 256 (subst (λ z. z < 256) (sym e) small) in
    rw (step-miss b 256 [] q n1, no_rest q, step-hit 256 [] q, prepend-nil q, seek-empty 0 p) (or_else-none _)
