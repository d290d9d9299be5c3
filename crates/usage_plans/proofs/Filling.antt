-- The level that is kept, by the moments of the admissions since its bucket began.
use Rattle.std.proofs.Common.{◌≡◌, ◌∙◌, sym, ap, subst, refl, ℕ, ◌+◌, ◌-◌, ◌==◌, ◌≤◌, Bool, true, false, List, [], ◌∷◌, cond, Option, Some, None, IfSome, option_map, unwrap_or, nat_lt, arith}
use Rattle.usage_meter.specs.declared.throttle.Throttle.{Throttle}
use Rattle.usage_meter.specs.declared.throttle.Bucket.{Bucket}
use Rattle.usage_meter.specs.declared.allowance.Allowance.{Allowance}
use Rattle.usage_meter.specs.Levels.{capacity, level_at}
use Rattle.usage_meter.specs.Windows.{full_bucket, level_over, AreInOrder, AreAdmissions, kept_bucket}
use Rattle.usage_meter.proofs.LevelLemmas.{level_at-bucket_at}
use Rattle.usage_meter.proofs.WindowLemmas.{kept-least}
use Rattle.usage_plans.specs.declared.tally.Tally.{Tally}
use Rattle.usage_plans.specs.Tallies.{bucket_under, is_spent, level_taken}

pub order-later : (begin : ℕ) (xs : List ℕ) (x t : ℕ) → AreInOrder begin xs x → x ≤ t → AreInOrder begin xs t
order-later begin [] x t order le = omega arith
order-later begin (y ∷ ys) x t order le = (omega (arith, order.0), order.1)

-- From x on the row's bucket has the level of the one that is kept over these admissions, each of which found 1,000.
pub record LevelShown (throttle : Throttle) (begun : Bucket) (taken : List ℕ) (version : ℕ) (tally : Tally) (x : ℕ) : Type 0 where
  pub full : begun.level ≤ capacity throttle
  pub order : AreInOrder begun.at taken x
  pub found : AreAdmissions throttle begun taken
  pub same : (t : ℕ) → x ≤ t → level_at throttle (bucket_under version throttle tally t) t ≡ level_at throttle (kept_bucket throttle begun taken) t

-- a full bucket stays full
full-on : (throttle : Throttle) (x t : ℕ) → level_at throttle (full_bucket throttle x) t ≡ capacity throttle
full-on throttle x t = omega arith

itself : (n : ℕ) → (n == n) ≡ true
itself n = grind arith

-- a row that was written under this version has its own bucket
own-bucket : (version : ℕ) (throttle : Throttle) (bucket : Bucket) (allowance : Allowance) (t : ℕ)
    → bucket_under version throttle (record { bucket = bucket; version = version; allowance = allowance }) t ≡ bucket
own-bucket version throttle bucket allowance t =
    ap (λ b. cond b bucket (full_bucket throttle t)) (itself version)

kept-at : (throttle : Throttle) (begun : Bucket) (taken : List ℕ) (x : ℕ) → AreInOrder begun.at taken x → (kept_bucket throttle begun taken).at ≤ x
kept-at throttle begun [] x order = order
kept-at throttle begun (y ∷ ys) x order = order.0

module _ (throttle : Throttle) (begun : Bucket) (taken : List ℕ) (version : ℕ) (tally : Tally) (x : ℕ)
    (h : LevelShown throttle begun taken version tally x) where
  pub shown-level : (t : ℕ) → x ≤ t → level_at throttle (bucket_under version throttle tally t) t ≡ level_over throttle begun taken t
  shown-level t le = h.same t le ∙ kept-least throttle begun taken t h.full (order-later begun.at taken x t h.order le) h.found

  pub level-later : (y : ℕ) → x ≤ y → LevelShown throttle begun taken version tally y
  level-later y le =
      record {
        full = h.full;
        order = order-later begun.at taken x y h.order le;
        found = h.found;
        same = λ t later. h.same t (omega (arith, le, later));
      }

  now : x ≤ x
  now = omega arith

  pub level-admitted : 1000 ≤ level_over throttle begun taken x → (allowance : Allowance)
      → LevelShown throttle begun (x ∷ taken) version
      (record { bucket = record { level = level_at throttle (bucket_under version throttle tally x) x - 1000; at = x }; version = version; allowance = allowance }) x
  level-admitted enough allowance =
      record {
        full = h.full;
        order = (now, h.order);
        found = (enough, h.found);
        same = λ t later. ap (λ (b : Bucket). level_at throttle b t) (own-bucket version throttle _ allowance t ∙ ap (λ l. record { level = l - 1000; at = x }) (h.same x now));
      }

  pub level-brought : (allowance : Allowance)
      → LevelShown throttle begun taken version
      (record { bucket = record { level = level_at throttle (bucket_under version throttle tally x) x; at = x }; version = version; allowance = allowance }) x
  level-brought allowance =
      record {
        full = h.full;
        order = h.order;
        found = h.found;
        same = λ t later.
            ap (λ (b : Bucket). level_at throttle b t) (own-bucket version throttle _ allowance t ∙ ap (λ l. record { level = l; at = x }) (h.same x now))
            ∙ level_at-bucket_at throttle (kept_bucket throttle begun taken) x t (kept-at throttle begun taken x h.order) later;
      }

-- a row of an older version is full
older-full : (version : ℕ) (throttle : Throttle) (tally : Tally) (t : ℕ) → (tally.version == version) ≡ false
    → bucket_under version throttle tally t ≡ full_bucket throttle t
older-full version throttle tally t differ = ap (λ c. cond c tally.bucket (full_bucket throttle t)) differ

pub level-anew : (throttle : Throttle) (version : ℕ) (tally : Tally) (x : ℕ) → tally.version ≤ version
    → LevelShown throttle (full_bucket throttle x) [] (version + 1) tally x
level-anew throttle version tally x old =
    record {
      full = omega arith;
      order = omega arith;
      found = tt;
      same = λ t later.
          ap (λ (b : Bucket). level_at throttle b t) (older-full (version + 1) throttle tally t (less tally.version version old))
          ∙ full-on throttle t t ∙ sym (full-on throttle x t);
    }
  where
    less : (a b : ℕ) → a ≤ b → (a == b + 1) ≡ false
    less a b le = grind arith

pub level-opening : (throttle : Throttle) (version : ℕ) (tally : Tally) → (tally.version ≡ version → tally.bucket.level ≤ capacity throttle)
    → LevelShown throttle (bucket_under version throttle tally tally.bucket.at) [] version tally tally.bucket.at
level-opening throttle version tally filled = pick (tally.version == version) refl
  where
    number-same : (a b : ℕ) → (a == b) ≡ true → a ≡ b
    number-same a b e = grind arith

    pick : (b : Bool) → (tally.version == version) ≡ b → LevelShown throttle (cond b tally.bucket (full_bucket throttle tally.bucket.at)) [] version tally tally.bucket.at
    pick true e =
        record {
          full = filled (number-same tally.version version e);
          order = omega arith;
          found = tt;
          same = λ t later. ap (λ b. level_at throttle (cond b tally.bucket (full_bucket throttle t)) t) e;
        }
    pick false e =
        record {
          full = omega arith;
          order = omega arith;
          found = tt;
          same = λ t later. ap (λ b. level_at throttle (cond b tally.bucket (full_bucket throttle t)) t) e ∙ full-on throttle t t ∙ sym (full-on throttle tally.bucket.at t);
        }

-- the level, where there is a throttle
module _ (begun : Throttle → Bucket) (taken : List ℕ) (version : ℕ) (tally : Tally) (x : ℕ) where
  pub level-call : (throttle : Option Throttle) → IfSome throttle (λ th. LevelShown th (begun th) taken version tally x)
      → is_spent (option_map (λ th. level_at th (bucket_under version th tally x) x) throttle) ≡ false → (allowance : Allowance)
      → IfSome throttle (λ th. LevelShown th (begun th) (x ∷ taken) version
      (record { bucket = record { level = unwrap_or (level_taken (option_map (λ t. level_at t (bucket_under version t tally x) x) throttle)) 0; at = x }; version = version; allowance = allowance }) x)
  level-call None h unspent allowance = tt
  level-call (Some th) h unspent allowance =
      level-admitted th (begun th) taken version tally x h
      (enough (level_at th (bucket_under version th tally x) x) (level_over th (begun th) taken x) (shown-level th (begun th) taken version tally x h x (omega arith)) unspent)
      allowance
    where
      enough : (l over : ℕ) → l ≡ over → nat_lt l 1000 ≡ false → 1000 ≤ over
      enough l over same e = subst (λ n. 1000 ≤ n) same (not-less l e)
        where
          not-less : (l : ℕ) → nat_lt l 1000 ≡ false → 1000 ≤ l
          not-less l e = grind arith

  pub level-grant : (throttle : Option Throttle) → IfSome throttle (λ th. LevelShown th (begun th) taken version tally x)
      → (allowance : Allowance)
      → IfSome throttle (λ th. LevelShown th (begun th) taken version
      (record { bucket = record { level = unwrap_or (option_map (λ t. level_at t (bucket_under version t tally x) x) throttle) 0; at = x }; version = version; allowance = allowance }) x)
  level-grant None h allowance = tt
  level-grant (Some th) h allowance = level-brought th (begun th) taken version tally x h allowance

  pub levels-later : (y : ℕ) → x ≤ y → (throttle : Option Throttle) → IfSome throttle (λ th. LevelShown th (begun th) taken version tally x)
      → IfSome throttle (λ th. LevelShown th (begun th) taken version tally y)
  levels-later y le None h = tt
  levels-later y le (Some th) h = level-later th (begun th) taken version tally x h y le

  pub levels-shown : (t : ℕ) → x ≤ t → (throttle : Option Throttle) → IfSome throttle (λ th. LevelShown th (begun th) taken version tally x)
      → option_map (λ th. level_at th (bucket_under version th tally t) t) throttle ≡ option_map (λ th. level_over th (begun th) taken t) throttle
  levels-shown t le None h = refl
  levels-shown t le (Some th) h = ap Some (shown-level th (begun th) taken version tally x h t le)

pub levels-anew : (version : ℕ) (tally : Tally) (x : ℕ) → tally.version ≤ version → (throttle : Option Throttle)
    → IfSome throttle (λ th. LevelShown th (full_bucket th x) [] (version + 1) tally x)
levels-anew version tally x old None = tt
levels-anew version tally x old (Some th) = level-anew th version tally x old

pub levels-opening : (version : ℕ) (tally : Tally) (throttle : Option Throttle)
    → (tally.version ≡ version → IfSome throttle (λ th. tally.bucket.level ≤ capacity th))
    → IfSome throttle (λ th. LevelShown th (bucket_under version th tally tally.bucket.at) [] version tally tally.bucket.at)
levels-opening version tally None filled = tt
levels-opening version tally (Some th) filled = level-opening th version tally filled
