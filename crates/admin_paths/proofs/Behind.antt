-- Rows behind a parameter: some behind a slash, and its own route.
use Rattle.std.proofs.Common.{◌≡◌, ℕ, suc, ◌+◌, ◌-◌, Bool, true, false, cond, ltb, length, length-append, drop_of_length-le, List, [], ◌∷◌, ◌++◌, Some, None, refl, ap, sym, ◌∙◌, arith, le_refl}
use Rattle.std.proofs.Math.Seq.{drop-append_seam}
use Rattle.matchit.specs.Rows.{Row, Rows, prepend}
use Rattle.matchit.specs.Seek.{cuts, has_slash, longest_from, longest_suffix, param_step, seek, segment, with_suffix}
use Rattle.matchit.proofs.SeekLemmas.{seek-drop, seek-empty}
use Rattle.admin_paths.specs.Paths.{is_parameter}
use Rattle.admin_paths.proofs.Segments.{Plain, has_one, is_cut, is_not_cut, no_slash, segment_until, segment_whole}
use Rattle.admin_paths.proofs.Steps.{behind, wild}

-- these rows behind a slash, and the route that ends here
abbrev pub ending : ℕ → Rows → Rows
ending k more = prepend (47 ∷ []) more ++ ([], k) ∷ []

-- rows that begin with a slash have one suffix, the slash
longest_stays : (seg : List ℕ) (k : ℕ) (more : Rows) → longest_from seg (47 ∷ []) (ending k more) ≡ 47 ∷ []
longest_stays seg k [] = refl
longest_stays seg k ((t, key) ∷ more) = longest_stays seg k more

longest_cut : (seg : List ℕ) (k : ℕ) (row : Row) (more : Rows) → cuts seg (47 ∷ []) ≡ true → longest_suffix seg (ending k (row ∷ more)) ≡ 47 ∷ []
longest_cut seg k (t, key) more e = ap (λ v. longest_from seg (cond v (47 ∷ []) []) (ending k more)) e ∙ longest_stays seg k more

longest_whole : (seg : List ℕ) (k : ℕ) (more : Rows) → cuts seg (47 ∷ []) ≡ false → longest_suffix seg (ending k more) ≡ []
longest_whole seg k [] e = refl
longest_whole seg k ((t, key) ∷ more) e = ap (λ v. longest_from seg (cond v (47 ∷ []) []) (ending k more)) e ∙ longest_whole seg k more e

with_slash : (k : ℕ) (more : Rows) → with_suffix (47 ∷ []) (ending k more) ≡ prepend (47 ∷ []) more
with_slash k [] = refl
with_slash k ((t, key) ∷ more) = ap (λ rest. (47 ∷ t, key) ∷ rest) (with_slash k more)

-- how far a parameter goes, by the segment and the longest suffix
abbrev goes : Rows → List ℕ → List ℕ → List ℕ → ℕ × Rows
goes rs path seg suffix = cond (ltb 0 (length suffix)) (length seg - length suffix, with_suffix suffix rs) (cond (has_slash path) (0, []) (length path, rs))

step_by : (rs : Rows) (path seg suffix : List ℕ) → segment path ≡ seg → longest_suffix seg rs ≡ suffix → param_step rs path ≡ goes rs path seg suffix
unfolding param_step
step_by rs path seg suffix e f = ap (λ x. goes rs path x (longest_suffix x rs)) e ∙ ap (goes rs path seg) f

step_cut : (k : ℕ) (row : Row) (more : Rows) (b : ℕ) (s r : List ℕ) → Plain (b ∷ s)
    → param_step (ending k (row ∷ more)) (b ∷ s ++ 47 ∷ r) ≡ (length (b ∷ s ++ 47 ∷ []) - 1, prepend (47 ∷ []) (row ∷ more))
step_cut k row more b s r h =
    let seg = b ∷ s ++ 47 ∷ [] in
    step_by (ending k (row ∷ more)) (b ∷ s ++ 47 ∷ r) seg (47 ∷ []) (segment_until (b ∷ s) r h) (longest_cut seg k row more (is_cut b s))
    ∙ ap (λ rest. (length seg - 1, rest)) (with_slash k (row ∷ more))

step_whole : (k : ℕ) (more : Rows) (b : ℕ) (s : List ℕ) → Plain (b ∷ s) → param_step (ending k more) (b ∷ s) ≡ (length (b ∷ s), ending k more)
step_whole k more b s h =
    step_by (ending k more) (b ∷ s) (b ∷ s) [] (segment_whole (b ∷ s) h) (longest_whole (b ∷ s) k more (is_not_cut (b ∷ s) h))
    ∙ ap (λ v. cond v (0, []) (length (b ∷ s), ending k more)) (no_slash (b ∷ s) h)

-- a segment without a byte is no parameter, and none goes past a slash that no row has
step_empty : (k : ℕ) (more : Rows) (r : List ℕ) → param_step (ending k more) (47 ∷ r) ≡ (0, [])
step_empty k more r = step_by (ending k more) (47 ∷ r) (47 ∷ []) [] refl (longest_whole (47 ∷ []) k more refl)

step_past : (k : ℕ) (s r : List ℕ) → param_step (ending k []) (s ++ 47 ∷ r) ≡ (0, [])
step_past k s r =
    let path = s ++ 47 ∷ r in
    step_by (ending k []) path (segment path) [] refl refl ∙ ap (λ v. cond v (0, []) (length path, ending k [])) (has_one s r)

-- where the path ends with the parameter, the route is its own
own_route : (k : ℕ) (more : Rows) → seek 0 (ending k more) [] ≡ Some k
unfolding seek
own_route k [] = refl
own_route k ((t, key) ∷ more) = own_route k more

pub ends_here : (k : ℕ) (more : Rows) (s : List ℕ) → Plain s → seek 0 (prepend (256 ∷ []) (ending k more)) s ≡ cond (is_parameter s) (Some k) None
unfolding seek
ends_here k [] [] h = refl
ends_here k ((t, key) ∷ more) [] h = ends_here k more [] h
ends_here k more (b ∷ s) h =
    let n : suc (length s) - 1 ≡ length s = omega arith in
    wild (ending k more) b s h.0
    ∙ rw (step_whole k more b s h) (seek-drop (suc (length s) - 1) (ending k more) s ∙ rw (n, drop_of_length-le s (le_refl (length s))) (own_route k more))

-- where it goes on, the rows behind the slash decide
pub goes_on : (k : ℕ) (more : Rows) (s r : List ℕ) → Plain s → seek 0 (prepend (256 ∷ []) (ending k more)) (s ++ 47 ∷ r) ≡ cond (is_parameter s) (seek 0 more r) None
goes_on k more [] r h = wild (ending k more) 47 r (omega arith) ∙ rw (step_empty k more r) (seek-empty 0 r)
goes_on k [] (b ∷ s) r h = wild (ending k []) b (s ++ 47 ∷ r) h.0 ∙ rw (step_past k (b ∷ s) r) (seek-empty 0 (s ++ 47 ∷ r) ∙ sym (seek-empty 0 r))
goes_on k (row ∷ more) (b ∷ s) r h =
    let l : length (s ++ 47 ∷ []) ≡ length s + 1 = length-append s (47 ∷ []) in
    let n : suc (length (s ++ 47 ∷ [])) - 1 - 1 ≡ length s = omega arith in
    wild (ending k (row ∷ more)) b (s ++ 47 ∷ r) h.0 ∙ rw (step_cut k row more b s r h)
    (seek-drop (suc (length (s ++ 47 ∷ [])) - 1 - 1) (prepend (47 ∷ []) (row ∷ more)) (s ++ 47 ∷ r)
    ∙ rw (n, drop-append_seam s (47 ∷ r)) (behind [] [] r (row ∷ more) tt tt))
