-- The row that is kept shows the numbers of all that befell it.
use Rattle.std.proofs.Common.{◌≡◌, ◌∙◌, sym, ap, subst, refl, ℕ, ◌+◌, ◌==◌, ◌≤◌, ◌<◌, nat_le, Bool, true, false, ◌&&◌, ◌||◌, List, [], ◌∷◌, map, Option, Some, None, option_map, cond, unwrap_or, IfSome, Ok, Err, arith}
use Rattle.std.specs.Result.{result_map_both}
use Rattle.usage_meter.specs.declared.period.TheConstants.{YEAR_2100}
use Rattle.usage_meter.specs.declared.period.Period.{Period}
use Rattle.usage_meter.specs.declared.throttle.Throttle.{Throttle}
use Rattle.usage_meter.specs.declared.allowance.Quota.{Quota}
use Rattle.usage_meter.specs.declared.allowance.Allowance.{Allowance}
use Rattle.usage_meter.specs.Windows.{full_bucket, AreInOrder}
use Rattle.usage_meter.specs.Allowances.{allowance_at}
use Rattle.usage_plans.specs.declared.terms.TheConstants.{MOST_UNITS}
use Rattle.usage_plans.specs.declared.terms.Terms.{Terms}
use Rattle.usage_plans.specs.declared.tally.Tally.{Tally}
use Rattle.usage_plans.specs.declared.tally.Admission.TheVariants.{Admitted, Throttled, QuotaExceeded}
use Rattle.usage_plans.specs.declared.tally.GrantRefusal.TheVariants.{TooLarge}
use Rattle.usage_plans.specs.Tallies.{level_under, is_spent, level_taken, written, is_used_up, one_used, more_allowed, counted, decided, admission_of, decided_grant, grant_of}
use Rattle.usage_plans.specs.Deeds.{Account, Deed, Event, Receipt, same_throttle, terms_put, terms_by, begun_by, taken_by, level_by, period_by, used_by, allowed_by, counts_of, standing_by, call_receipts, grant_receipts, deed_receipts, receipts_of, tally_after_call, tally_after_grant, account_with, account_after}
use Rattle.usage_plans.specs.Deeds.Deed.{call, grant, put}
use Rattle.usage_plans.specs.Deeds.What.{admission, granted, revised}
use Rattle.usage_plans.specs.Laws.{IsOpening, LevelIsLeast, CountsAreConserved, RefusalsAreExact, GrantsAreExact}
use Rattle.usage_plans.proofs.Filling.{LevelShown, level-call, level-grant, levels-later, levels-shown, levels-anew, levels-opening}
use Rattle.usage_plans.proofs.Charging.{CountShown, standing-shown, count-later, count-uncharged, count-revised, count-admission, count-granted, count-opening}

pub record Shown (opening : Account) (tally : Tally) (rs : List Receipt) (x : ℕ) : Type 0 where
  pub version : tally.version ≤ (terms_by opening rs).version
  pub level : IfSome (terms_by opening rs).throttle (λ th. LevelShown th (begun_by th opening rs) (taken_by opening rs) (terms_by opening rs).version tally x)
  pub count : CountShown opening tally.allowance rs x

itself : (n : ℕ) → (n == n) ≡ true
itself n = grind arith

one-more : (n : ℕ) → (n + 1 == n) ≡ false
one-more n = grind arith

module _ (opening : Account) (tally : Tally) (rs : List Receipt) (x : ℕ) (h : Shown opening tally rs x) where
  pub shown-later : (t : ℕ) → x ≤ t → t < YEAR_2100 → Shown opening tally rs t
  shown-later t le early =
      record {
        version = h.version;
        level = levels-later (λ th. begun_by th opening rs) (taken_by opening rs) (terms_by opening rs).version tally x t le (terms_by opening rs).throttle h.level;
        count = count-later opening tally.allowance rs x t h.count le early;
      }

  pub level-shown : level_under (terms_by opening rs) tally x ≡ level_by opening rs x
  level-shown = levels-shown (λ th. begun_by th opening rs) (taken_by opening rs) (terms_by opening rs).version tally x x (omega arith) (terms_by opening rs).throttle h.level

  pub counts-shown : x < YEAR_2100 → allowance_at tally.allowance (terms_by opening rs).quota x ≡ standing_by opening rs x
  counts-shown early = standing-shown opening tally.allowance rs x x h.count (omega arith) early

  -- a call
  admitted-level : is_spent (level_under (terms_by opening rs) tally x) ≡ false → (allowance : Allowance)
      → IfSome (terms_by opening rs).throttle (λ th. LevelShown th (begun_by th opening rs) (x ∷ taken_by opening rs) (terms_by opening rs).version
      (written (terms_by opening rs) (level_taken (level_under (terms_by opening rs) tally x)) x allowance) x)
  admitted-level unspent allowance =
      level-call (λ th. begun_by th opening rs) (taken_by opening rs) (terms_by opening rs).version tally x (terms_by opening rs).throttle h.level unspent allowance

  called : (early : x < YEAR_2100) (charged : Option Period) → period_by opening rs x ≡ charged
      → (spent : Bool) → is_spent (level_under (terms_by opening rs) tally x) ≡ spent
      → Shown opening
      (tally_after_call tally (cond spent (Throttled (unwrap_or (level_under (terms_by opening rs) tally x) 0)) (counted (terms_by opening rs) (level_under (terms_by opening rs) tally x) x tally.allowance (option_map (counts_of opening rs) charged))))
      (cond (spent || is_used_up (option_map (counts_of opening rs) charged)) rs (record { at = x; what = admission charged } ∷ rs)) x
  called early charged here true s = h
  called early None here false s =
      record {
        version = omega arith;
        level = admitted-level s tally.allowance;
        count = count-uncharged opening tally.allowance rs x h.count x;
      }
  called early (Some p) here false s = pick (nat_le (allowed_by opening rs p) (used_by opening rs p))
    where
      pick : (b : Bool)
          → Shown opening
          (tally_after_call tally (cond b (QuotaExceeded (allowed_by opening rs p) (used_by opening rs p)) (Admitted (written (terms_by opening rs) (level_taken (level_under (terms_by opening rs) tally x)) x (one_used (counts_of opening rs p))))))
          (cond b rs (record { at = x; what = admission (Some p) } ∷ rs)) x
      pick true = h
      pick false =
          record {
            version = omega arith;
            level = admitted-level s (one_used (counts_of opening rs p));
            count = count-admission opening tally.allowance rs x h.count early p here x;
          }

  pub shown-call : x < YEAR_2100 → Shown opening (tally_after_call tally (admission_of (terms_by opening rs) tally x)) (call_receipts opening rs x) x
  shown-call early =
      subst (λ s. Shown opening (tally_after_call tally (decided (terms_by opening rs) (level_under (terms_by opening rs) tally x) s tally.allowance x)) (call_receipts opening rs x) x)
      (sym (counts-shown early))
      (subst (λ l. Shown opening (tally_after_call tally (decided (terms_by opening rs) (level_under (terms_by opening rs) tally x) (standing_by opening rs x) tally.allowance x))
      (cond (is_spent l || is_used_up (standing_by opening rs x)) rs (record { at = x; what = admission (period_by opening rs x) } ∷ rs)) x)
      level-shown
      (called early (period_by opening rs x) refl (is_spent (level_under (terms_by opening rs) tally x)) refl))

  -- a grant
  given : (early : x < YEAR_2100) (amount : ℕ) (charged : Option Period) → period_by opening rs x ≡ charged
      → Shown opening
      (tally_after_grant tally (decided_grant (terms_by opening rs) (level_under (terms_by opening rs) tally x) (option_map (counts_of opening rs) charged) amount x))
      (grant_receipts opening rs amount x charged) x
  given early amount None here = h
  given early amount (Some p) here = pick (nat_le (allowed_by opening rs p + amount) MOST_UNITS)
    where
      pick : (b : Bool)
          → Shown opening
          (tally_after_grant tally (result_map_both (λ allowance. written (terms_by opening rs) (level_under (terms_by opening rs) tally x) x allowance) (λ refusal. refusal) (cond b (Ok (more_allowed amount (counts_of opening rs p))) (Err TooLarge))))
          (cond b (record { at = x; what = granted amount p } ∷ rs) rs) x
      pick true =
          record {
            version = omega arith;
            level = level-grant (λ th. begun_by th opening rs) (taken_by opening rs) (terms_by opening rs).version tally x (terms_by opening rs).throttle h.level (more_allowed amount (counts_of opening rs p));
            count = count-granted opening tally.allowance rs x h.count early p here x amount;
          }
      pick false = h

  pub shown-grant : x < YEAR_2100 → (amount : ℕ) → Shown opening (tally_after_grant tally (grant_of (terms_by opening rs) tally amount x)) (grant_receipts opening rs amount x (period_by opening rs x)) x
  shown-grant early amount =
      subst (λ s. Shown opening (tally_after_grant tally (decided_grant (terms_by opening rs) (level_under (terms_by opening rs) tally x) s amount x)) (grant_receipts opening rs amount x (period_by opening rs x)) x)
      (sym (counts-shown early))
      (given early amount (period_by opening rs x) refl)

-- a plan that is put anew
number-same : (a b : ℕ) → (a == b) ≡ true → a ≡ b
number-same a b e = grind arith

first_of : (a b : Bool) → (a && b) ≡ true → a ≡ true
first_of true b e = refl
first_of false b e = e

second_of : (a b : Bool) → (a && b) ≡ true → b ≡ true
second_of true b e = e
second_of false b e = absurd cc

pub throttle-same : (old new : Option Throttle) → same_throttle old new ≡ true → old ≡ new
throttle-same None None e = refl
throttle-same None (Some new) e = absurd cc
throttle-same (Some old) None e = absurd cc
throttle-same (Some old) (Some new) e =
    ap (λ i. Some (record old { rate = i })) (number-same old.rate new.rate (first_of (old.rate == new.rate) (old.burst == new.burst) e))
    ∙ ap (λ i. Some (record old { rate = new.rate; burst = i })) (number-same old.burst new.burst (second_of (old.rate == new.rate) (old.burst == new.burst) e))

module _ (opening : Account) (tally : Tally) (rs : List Receipt) (x : ℕ) (h : Shown opening tally rs x) (throttle : Option Throttle) (quota : Option Quota) where
  put-level : (b : Bool) → same_throttle (terms_by opening rs).throttle throttle ≡ b
      → IfSome throttle (λ th. LevelShown th
      (cond (cond b (terms_by opening rs).version ((terms_by opening rs).version + 1) == (terms_by opening rs).version) (begun_by th opening rs) (full_bucket th x))
      (cond (cond b (terms_by opening rs).version ((terms_by opening rs).version + 1) == (terms_by opening rs).version) (taken_by opening rs) [])
      (cond b (terms_by opening rs).version ((terms_by opening rs).version + 1)) tally x)
  put-level true e =
      subst (λ o. IfSome o (λ th. LevelShown th
      (cond ((terms_by opening rs).version == (terms_by opening rs).version) (begun_by th opening rs) (full_bucket th x))
      (cond ((terms_by opening rs).version == (terms_by opening rs).version) (taken_by opening rs) []) (terms_by opening rs).version tally x))
      (throttle-same (terms_by opening rs).throttle throttle e)
      (subst (λ c. IfSome (terms_by opening rs).throttle (λ th. LevelShown th (cond c (begun_by th opening rs) (full_bucket th x)) (cond c (taken_by opening rs) []) (terms_by opening rs).version tally x))
      (sym (itself (terms_by opening rs).version)) h.level)
  put-level false e =
      subst (λ c. IfSome throttle (λ th. LevelShown th (cond c (begun_by th opening rs) (full_bucket th x)) (cond c (taken_by opening rs) []) ((terms_by opening rs).version + 1) tally x))
      (sym (one-more (terms_by opening rs).version))
      (levels-anew (terms_by opening rs).version tally x h.version throttle)

  later-version : (b : Bool) → tally.version ≤ cond b (terms_by opening rs).version ((terms_by opening rs).version + 1)
  later-version true = h.version
  later-version false = omega (arith, h.version)

  pub shown-put : Shown opening tally (record { at = x; what = revised (terms_put (terms_by opening rs) throttle quota) } ∷ rs) x
  shown-put =
      record {
        version = later-version (same_throttle (terms_by opening rs).throttle throttle);
        level = put-level (same_throttle (terms_by opening rs).throttle throttle) refl;
        count = count-revised opening tally.allowance rs x h.count x (terms_put (terms_by opening rs) throttle quota);
      }

-- any events in order
record Follows (opening account : Account) (rs : List Receipt) (x : ℕ) : Type 0 where
  pub terms : account.terms ≡ terms_by opening rs
  pub shown : Shown opening account.tally rs x

module _ (opening account : Account) (rs : List Receipt) (x : ℕ) (h : Follows opening account rs x) (early : x < YEAR_2100) where
  follows-deed : (deed : Deed) → Follows opening (account_with account x deed) (deed_receipts opening rs x deed) x
  follows-deed call =
      record {
        terms = h.terms ∙ unchanged (is_spent (level_by opening rs x) || is_used_up (standing_by opening rs x));
        shown = subst (λ terms. Shown opening (tally_after_call account.tally (admission_of terms account.tally x)) (call_receipts opening rs x) x) (sym h.terms)
            (shown-call opening account.tally rs x h.shown early);
      }
    where
      unchanged : (b : Bool) → terms_by opening rs ≡ terms_by opening (cond b rs (record { at = x; what = admission (period_by opening rs x) } ∷ rs))
      unchanged true = refl
      unchanged false = refl
  follows-deed (grant amount) =
      record {
        terms = h.terms ∙ unchanged (period_by opening rs x);
        shown = subst (λ terms. Shown opening (tally_after_grant account.tally (grant_of terms account.tally amount x)) (grant_receipts opening rs amount x (period_by opening rs x)) x) (sym h.terms)
            (shown-grant opening account.tally rs x h.shown early amount);
      }
    where
      unchanged : (charged : Option Period) → terms_by opening rs ≡ terms_by opening (grant_receipts opening rs amount x charged)
      unchanged None = refl
      unchanged (Some p) = pick (nat_le (allowed_by opening rs p + amount) MOST_UNITS)
        where
          pick : (b : Bool) → terms_by opening rs ≡ terms_by opening (cond b (record { at = x; what = granted amount p } ∷ rs) rs)
          pick true = refl
          pick false = refl
  follows-deed (put throttle quota) =
      record {
        terms = ap (λ terms. terms_put terms throttle quota) h.terms;
        shown = shown-put opening account.tally rs x h.shown throttle quota;
      }

follows-later : (opening account : Account) (rs : List Receipt) (x t : ℕ) → Follows opening account rs x → x ≤ t → t < YEAR_2100 → Follows opening account rs t
follows-later opening account rs x t h le early = record { terms = h.terms; shown = shown-later opening account.tally rs x h.shown t le early }

follows : (opening : Account) (events : List Event) (t : ℕ) → IsOpening opening → AreInOrder opening.tally.bucket.at (map (λ (e : Event). e.at) events) t → t < YEAR_2100
    → Follows opening (account_after opening events) (receipts_of opening events) t
follows opening [] t ok order early =
    follows-later opening opening [] opening.tally.bucket.at t
    (record {
      terms = refl;
      shown = record {
        version = ok.version;
        level = levels-opening opening.terms.version opening.tally opening.terms.throttle ok.filled;
        count = count-opening opening ok.opened;
      };
    })
    order early
follows opening (e ∷ es) t ok order early =
    follows-later opening (account_after opening (e ∷ es)) (receipts_of opening (e ∷ es)) e.at t
    (pick e.kept (follows opening es e.at ok order.1 (omega (arith, order.0, early)))) order.0 early
  where
    pick : (b : Bool) → Follows opening (account_after opening es) (receipts_of opening es) e.at
        → Follows opening (cond b (account_with (account_after opening es) e.at e.deed) (account_after opening es))
        (cond b (deed_receipts opening (receipts_of opening es) e.at e.deed) (receipts_of opening es)) e.at
    pick true h = follows-deed opening (account_after opening es) (receipts_of opening es) e.at h (omega (arith, order.0, early)) e.deed
    pick false h = h

pub level-is-least : LevelIsLeast
level-is-least opening events t ok timely =
    let h = follows opening events t ok timely.order timely.early in
    ap (λ terms. level_under terms (account_after opening events).tally t) h.terms
    ∙ level-shown opening (account_after opening events).tally (receipts_of opening events) t h.shown

pub counts-conserved : CountsAreConserved
counts-conserved opening events t ok timely =
    let h = follows opening events t ok timely.order timely.early in
    ap (λ (terms : Terms). allowance_at (account_after opening events).tally.allowance terms.quota t) h.terms
    ∙ counts-shown opening (account_after opening events).tally (receipts_of opening events) t h.shown timely.early

pub refusals-exact : RefusalsAreExact
refusals-exact opening events t ok timely =
    let h = follows opening events t ok timely.order timely.early in
    ap (λ level. decided (account_after opening events).terms level (allowance_at (account_after opening events).tally.allowance (account_after opening events).terms.quota t) (account_after opening events).tally.allowance t)
    (level-is-least opening events t ok timely)
    ∙ ap (λ standing. decided (account_after opening events).terms (level_by opening (receipts_of opening events) t) standing (account_after opening events).tally.allowance t)
    (counts-conserved opening events t ok timely)
    ∙ ap (λ terms. decided terms (level_by opening (receipts_of opening events) t) (standing_by opening (receipts_of opening events) t) (account_after opening events).tally.allowance t) h.terms

pub grants-exact : GrantsAreExact
grants-exact opening events amount t ok timely =
    let h = follows opening events t ok timely.order timely.early in
    ap (λ level. decided_grant (account_after opening events).terms level (allowance_at (account_after opening events).tally.allowance (account_after opening events).terms.quota t) amount t)
    (level-is-least opening events t ok timely)
    ∙ ap (λ standing. decided_grant (account_after opening events).terms (level_by opening (receipts_of opening events) t) standing amount t)
    (counts-conserved opening events t ok timely)
    ∙ ap (λ terms. decided_grant terms (level_by opening (receipts_of opening events) t) (standing_by opening (receipts_of opening events) t) amount t) h.terms
