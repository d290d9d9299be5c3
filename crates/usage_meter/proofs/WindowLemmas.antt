-- One level, brought up to date at each admission, is the least over all windows.
use Rattle.std.proofs.Common.{◌≡◌, ◌∙◌, sym, ap, subst, refl, ℕ, suc, ◌+◌, ◌-◌, ◌*◌, ◌≤◌, min, nat_le, List, [], ◌∷◌, length, map, fold, Bool, true, false, if◌then◌else◌, arith}
use Rattle.std.proofs.lemmas.Bool.{leb-true}
use Rattle.std.specs.List.{enumerate_from, AllByRecursion}
use Rattle.usage_meter.specs.declared.throttle.Throttle.{Throttle}
use Rattle.usage_meter.specs.declared.throttle.Bucket.{Bucket}
use Rattle.usage_meter.specs.Levels.{capacity, level_at, bucket_after_admission, bucket_after_attempt}
use Rattle.usage_meter.specs.Windows.{full_bucket, window_level, level_over, AreInOrder, AreAdmissions, kept_bucket, KeptIsLeast, Covers, NoneIsOverdrawn, admissions_with, admissions_of, bucket_after_attempts, AdmitsByWindows}
use Rattle.usage_meter.proofs.LevelLemmas.{rise-split}

-- the least that the windows leave, where `later` admissions came after these
abbrev pub least : Throttle → Bucket → List ℕ → ℕ → ℕ → ℕ
least throttle begun [] later t = window_level throttle begun later t
least throttle begun (x ∷ xs) later t =
    min (window_level throttle (full_bucket throttle x) (later + 1) t) (least throttle begun xs (later + 1) t)

-- what the windows leave that begin at admissions, the newest of which has n admissions in its window
abbrev later_levels : Throttle → List ℕ → ℕ → ℕ → List ℕ
later_levels throttle xs n t =
    map (λ (w : ℕ × ℕ). window_level throttle (full_bucket throttle w.1) w.0 t) (enumerate_from n xs)

min-swap : (a b c : ℕ) → min (min a b) c ≡ min (min a c) b
min-swap a b c = omega arith

min-assoc : (a b c : ℕ) → min (min a b) c ≡ min a (min b c)
min-assoc a b c = omega arith

fold-least : (throttle : Throttle) (begun : Bucket) (xs : List ℕ) (later t most : ℕ)
    → fold min (min most (window_level throttle begun (length xs + later) t)) (later_levels throttle xs (later + 1) t)
    ≡ min most (least throttle begun xs later t)
fold-least throttle begun [] later t most = let none : 0 + later ≡ later = omega arith in rw none
fold-least throttle begun (x ∷ xs) later t most =
    let here = window_level throttle (full_bucket throttle x) (later + 1) t in
    let all = window_level throttle begun (length xs + (later + 1)) t in
    let count : suc (length xs) + later ≡ length xs + (later + 1) = omega arith in
    let first : min (min most (window_level throttle begun (suc (length xs) + later) t)) here ≡ min (min most here) all =
    rw count (min-swap most all here) in
    ap (λ (n : ℕ). fold min n (later_levels throttle xs (later + 1 + 1) t)) first
    ∙ fold-least throttle begun xs (later + 1) t (min most here)
    ∙ min-assoc most here _

-- the level over a history, as one recursion
pub level_over-least : (throttle : Throttle) (begun : Bucket) (xs : List ℕ) (t : ℕ)
    → level_over throttle begun xs t ≡ min (capacity throttle) (least throttle begun xs 0 t)
level_over-least throttle begun xs t =
    let all : length xs + 0 ≡ length xs = omega arith in
    rw all at (fold-least throttle begun xs 0 t (capacity throttle))

in_order-later : (begin : ℕ) (xs : List ℕ) (x t : ℕ) → AreInOrder begin xs x → x ≤ t → AreInOrder begin xs t
in_order-later begin [] x t order h = omega arith
in_order-later begin (y ∷ ys) x t order h = (omega (arith, order.0), order.1)

-- one more admission at x, which found 1,000
pub least-more : (throttle : Throttle) (begun : Bucket) (xs : List ℕ) (later x t : ℕ)
    → AreInOrder begun.at xs x → x ≤ t → 1000 ≤ least throttle begun xs later x
    → least throttle begun xs (later + 1) t ≡ (least throttle begun xs later x - 1000) + throttle.rate * (t - x)
least-more throttle begun [] later x t order h enough =
    let rise = rise-split throttle.rate begun.at x t order h in
    omega arith
least-more throttle begun (y ∷ ys) later x t order h enough =
    let rise = rise-split throttle.rate y x t order.0 h in
    let before = in_order-later begun.at ys y x order.1 order.0 in
    let rest = least-more throttle begun ys (later + 1) x t before h (omega arith) in
    omega arith

-- the kept level is the least over all windows
pub kept-least : KeptIsLeast
kept-least throttle begun [] t full order found = omega arith
kept-least throttle begun (x ∷ xs) t full order found =
    let before = kept-least throttle begun xs x full order.1 found.1 ∙ level_over-least throttle begun xs x in
    let enough = rw level_over-least at found.0 in
    let more = least-more throttle begun xs 0 x t order.1 order.0 (omega arith) in
    rw (level_over-least throttle begun (x ∷ xs) t) (omega arith)

-- windows that leave 1,000 at x hold one admission more than they have in them, at x and later
covers-more : (throttle : Throttle) (begun : Bucket) (xs : List ℕ) (later x t : ℕ)
    → AreInOrder begun.at xs x → x ≤ t → 1000 ≤ least throttle begun xs later x
    → Covers throttle begun (length xs + (later + 1)) t
    × AllByRecursion (λ w. Covers throttle (full_bucket throttle w.1) w.0 t) (enumerate_from (later + 1 + 1) xs)
covers-more throttle begun [] later x t order h enough =
    let rise = rise-split throttle.rate begun.at x t order h in
    (omega arith, tt)
covers-more throttle begun (y ∷ ys) later x t order h enough =
    let rise = rise-split throttle.rate y x t order.0 h in
    let before = in_order-later begun.at ys y x order.1 order.0 in
    let rest = covers-more throttle begun ys (later + 1) x t before h (omega arith) in
    let count : suc (length ys) + (later + 1) ≡ length ys + (later + 1 + 1) = omega arith in
    (rw count rest.0, (omega arith, rest.1))

-- no window is overdrawn
pub windows_cover : NoneIsOverdrawn
windows_cover throttle begun [] t order found = (omega arith, tt)
windows_cover throttle begun (x ∷ xs) t order found =
    let enough = rw level_over-least at found.0 in
    let rest = covers-more throttle begun xs 0 x t order.1 order.0 (omega arith) in
    let count : suc (length xs) ≡ length xs + 1 = omega arith in
    (rw count rest.0, (omega arith, rest.1))

-- the bucket is the one that is kept over these admissions, each of which found 1,000
record IsKept (throttle : Throttle) (begun bucket : Bucket) (admissions : List ℕ) (t : ℕ) : Type 0 where
  pub same : bucket ≡ kept_bucket throttle begun admissions
  pub order : AreInOrder begun.at admissions t
  pub found : AreAdmissions throttle begun admissions

kept-cases : (throttle : Throttle) (begun bucket : Bucket) (before : List ℕ) (x t : ℕ) (b : Bool)
    → IsKept throttle begun bucket before x → x ≤ t → (b ≡ true → 1000 ≤ level_over throttle begun before x)
    → IsKept throttle begun (if b then bucket_after_admission throttle bucket x else bucket) (if b then x ∷ before else before) t
kept-cases throttle begun bucket before x t true h le enough =
    record {
      same = ap (λ (k : Bucket). bucket_after_admission throttle k x) h.same;
      order = (le, h.order);
      found = (enough refl, h.found);
    }
kept-cases throttle begun bucket before x t false h le enough =
    record { same = h.same; order = in_order-later begun.at before x t h.order le; found = h.found }

-- the kept level and the windows admit the same attempt
kept-attempt : (throttle : Throttle) (begun bucket : Bucket) (before : List ℕ) (x t : ℕ)
    → begun.level ≤ capacity throttle → IsKept throttle begun bucket before x → x ≤ t
    → IsKept throttle begun (bucket_after_attempt throttle bucket x) (admissions_with throttle begun x before) t
kept-attempt throttle begun bucket before x t full h le =
    let now = level_over throttle begun before x in
    let same : level_at throttle bucket x ≡ now =
    ap (λ (k : Bucket). level_at throttle k x) h.same ∙ kept-least throttle begun before x full h.order h.found in
    let after : ℕ → Bucket = λ n. if nat_le 1000 n then bucket_after_admission throttle bucket x else bucket in
    let P : ℕ → Type 0 = λ n. IsKept throttle begun (after n) (admissions_with throttle begun x before) t in
    subst P (sym same) (kept-cases throttle begun bucket before x t (nat_le 1000 now) h le (leb-true 1000 now))

kept-attempts : (throttle : Throttle) (begun : Bucket) (attempts : List ℕ) (t : ℕ)
    → begun.level ≤ capacity throttle → AreInOrder begun.at attempts t
    → IsKept throttle begun (bucket_after_attempts throttle begun attempts) (admissions_of throttle begun attempts) t
kept-attempts throttle begun [] t full order = record { same = refl; order = order; found = tt }
kept-attempts throttle begun (x ∷ xs) t full order =
    kept-attempt throttle begun _ _ x t full (kept-attempts throttle begun xs x full order.1) order.0

-- after any attempts the bucket is the one that is kept over those that the windows admit
pub attempts-kept : AdmitsByWindows
attempts-kept throttle begun attempts t full order =
    let h = kept-attempts throttle begun attempts t full order in
    let least = kept-least throttle begun (admissions_of throttle begun attempts) t full h.order h.found in
    record { bucket_is = h.same; level_is = ap (λ (k : Bucket). level_at throttle k t) h.same ∙ least }
