-- Reading is local: two inputs that share a front are read alike as long as the reading stays in that front.
use Rattle.std.proofs.Common.{◌≡◌, ℕ, zero, suc, ◌+◌, ◌-◌, ◌<◌, ◌≤◌, List, [], ◌∷◌, length, take, Bool, true, false, refl, sym, ap, ◌∙◌, subst, arith}
use Rattle.std.specs.Prelude.{Ok, Err, Result, if◌then◌else◌, ◌==◌, ◌||◌, IfOk}
use Rattle.json_subset.specs.declared.fault.JsonFault.{JsonFault}
use Rattle.json_subset.specs.declared.fault.JsonFault.TheVariants.{Syntax, Depth, Repeated, NotUtf8, Memory}
use Rattle.json_subset.specs.Scan.{◌>>=◌, Read, place, is_white, after_white, word, is_digit, after_digits, some_digits, unsigned, whole_part, fraction, unsigned_exponent, exponent, after_number, Next, done, more, next_front, next, colon_front, colon}
use Rattle.json_subset.proofs.Choices.{ok_then, ok_map}

-- how many bytes two inputs share, and how many follow in each
pub record Fork : Type 0 where
  pub k : ℕ
  pub u : ℕ
  pub v : ℕ

-- the rests of both inputs at the same place of the shared front
pub data Front (c : Fork) : List ℕ → List ℕ → Type 0 where
  apart : (xs ys : List ℕ) → length xs ≡ c.u → length ys ≡ c.v → Front c xs ys
  along : (b : ℕ) (xs ys : List ℕ) → length xs < c.k + c.u → Front c xs ys → Front c (b ∷ xs) (b ∷ ys)

-- what a reading gives, and what it leaves
pub record View (X V : Type 0) : Type 0 where
  pub rest : X → List ℕ
  pub given : X → V

-- the fault lies behind the shared front, if it is a syntax fault
abbrev pub IsBeyond : ℕ → JsonFault → Type 0
IsBeyond k (Syntax p) = k ≤ p
IsBeyond k (Depth p) = Unit {0}
IsBeyond k (Repeated p) = Unit {0}
IsBeyond k (NotUtf8 p) = Unit {0}
IsBeyond k Memory = Unit {0}

-- the reading came behind the shared front
abbrev pub Late : (c : Fork) {X V : Type 0} → View X V → Result X JsonFault → Type 0
Late c w (Ok x) = length (w.rest x) ≤ c.u
Late c w (Err e) = IsBeyond c.k e

-- both readings give the same, or the first came behind the shared front
pub data Alike (c : Fork) {X V : Type 0} (w : View X V) : Result X JsonFault → Result X JsonFault → Type 0 where
  same : (x y : X) → w.given x ≡ w.given y → Front c (w.rest x) (w.rest y) → Alike c w (Ok x) (Ok y)
  fault : (e : JsonFault) → Alike c w (Err e) (Err e)
  late : (r s : Result X JsonFault) → Late c w r → Alike c w r s

front_length : {c : Fork} {xs ys : List ℕ} → Front c xs ys → length xs + c.v ≡ length ys + c.u
front_length (apart xs ys h k) = omega (arith, h, k)
front_length (along b xs ys h f) = let e = front_length f in omega (arith, e)

pub front_least : {c : Fork} {xs ys : List ℕ} → Front c xs ys → c.u ≤ length xs
front_least (apart xs ys h k) = omega (arith, h)
front_least (along b xs ys h f) = let e = front_least f in omega (arith, e)

pub front_bound : {c : Fork} {xs ys : List ℕ} → Front c xs ys → (length xs ≤ c.k + c.u) × (length ys ≤ c.k + c.v)
front_bound {c = c} {xs = xs} {ys = ys} f = let e = front_length f in let h = first f in (h, omega (arith, e, h))
  where
    first : {xs ys : List ℕ} → Front c xs ys → length xs ≤ c.k + c.u
    first (apart xs ys h k) = omega (arith, h)
    first (along b xs ys h f) = omega (arith, h)

pub same_place : {c : Fork} {xs ys : List ℕ} → Front c xs ys → place (c.k + c.u) xs ≡ place (c.k + c.v) ys
same_place f = let e = front_length f in omega (arith, e)

take_along : {c : Fork} {xs ys : List ℕ} (d : ℕ) → Front c xs ys → d + c.u ≤ length xs → take d xs ≡ take d ys
take_along zero f h = refl
take_along (suc d) (apart xs ys i j) h = absurd (omega (arith, h, i))
take_along (suc d) (along b xs ys i f) h = ap (λ z. b ∷ z) (take_along d f (omega (arith, h)))

-- what stands between two places of the shared front
pub same_between : {c : Fork} {xs ys cs ds : List ℕ} → Front c xs ys → Front c cs ds → take (length xs - length cs) xs ≡ take (length ys - length ds) ys
same_between {c = c} {xs = xs} {ys = ys} {cs = cs} {ds = ds} f g =
    let i = front_length f in
    let j = front_length g in
    let l = front_least g in
    let m = front_least f in
    take_along (length xs - length cs) f (omega (arith, l, m)) ∙ ap (λ k. take k ys) (let e : length xs - length cs ≡ length ys - length ds = omega (arith, i, j) in e)

-- a reading function that is local
pub record Good {X V : Type 0} (w : View X V) (F : ℕ → List ℕ → Result X JsonFault) : Type 0 where
  pub local : (c : Fork) (xs ys : List ℕ) → Front c xs ys → Alike c w (F (c.k + c.u) xs) (F (c.k + c.v) ys)
  pub late : (c : Fork) (xs : List ℕ) → length xs ≤ c.u → Late c w (F (c.k + c.u) xs)
  pub less : (n : ℕ) (xs : List ℕ) → IfOk (F n xs) (λ x. length (w.rest x) ≤ length xs)

-- the same of a reading function behind this byte
pub record Tail {X V : Type 0} (w : View X V) (b : ℕ) (F : ℕ → List ℕ → Result X JsonFault) : Type 0 where
  pub local : (c : Fork) (xs ys : List ℕ) → length xs < c.k + c.u → Front c xs ys → Alike c w (F (c.k + c.u) xs) (F (c.k + c.v) ys)
  pub late : (c : Fork) (xs : List ℕ) → length xs < c.u → Late c w (F (c.k + c.u) xs)
  pub less : (n : ℕ) (xs : List ℕ) → IfOk (F n xs) (λ x. length (w.rest x) ≤ suc (length xs))

pub tail_good : {X V : Type 0} {w : View X V} {F : ℕ → List ℕ → Result X JsonFault} (b : ℕ) → Good w F → Tail w b F
tail_good {w = w} {F = F} b g = record {
  local = λ c xs ys h f. g.local c xs ys f;
  late = λ c xs h. g.late c xs (omega (arith, h));
  less = λ n xs. ok_map (λ x. length (w.rest x) ≤ length xs) (λ x. length (w.rest x) ≤ suc (length xs)) (F n xs) (g.less n xs) (λ x h. omega (arith, h));
}

-- the end of the input is met, or a byte
pub from_tails : {X V : Type 0} (w : View X V) (F : ℕ → List ℕ → Result X JsonFault) → ((c : Fork) → Late c w (F (c.k + c.u) [])) → ((n : ℕ) → IfOk (F n []) (λ x. length (w.rest x) ≤ 0)) → ((b : ℕ) → Tail w b (λ n xs. F n (b ∷ xs))) → Good w F
from_tails w F end nothing t = record { local = λ c xs ys f. go c f; late = late_at; less = less }
  where
    late_at : (c : Fork) (xs : List ℕ) → length xs ≤ c.u → Late c w (F (c.k + c.u) xs)
    late_at c [] h = end c
    late_at c (b ∷ xs) h = (t b).late c xs (omega (arith, h))

    go : (c : Fork) {xs ys : List ℕ} → Front c xs ys → Alike c w (F (c.k + c.u) xs) (F (c.k + c.v) ys)
    go c (apart xs ys h k) = late (F (c.k + c.u) xs) (F (c.k + c.v) ys) (late_at c xs (omega (arith, h)))
    go c (along b xs ys h f) = (t b).local c xs ys h f

    less : (n : ℕ) (xs : List ℕ) → IfOk (F n xs) (λ x. length (w.rest x) ≤ length xs)
    less n [] = nothing n
    less n (b ∷ xs) = (t b).less n xs

-- this byte is no part of a document
pub tail_syntax : {X V : Type 0} (w : View X V) (b : ℕ) → Tail w b (λ n xs. Err (Syntax (place n (b ∷ xs))))
tail_syntax w b = record {
  local = λ c xs ys h f. subst (λ p. Alike c w (Err (Syntax (place (c.k + c.u) (b ∷ xs)))) (Err (Syntax p))) (same_place (along b xs ys h f)) (fault (Syntax (place (c.k + c.u) (b ∷ xs))));
  late = λ c xs h. omega (arith, h);
  less = λ n xs. tt;
}

-- this byte opens one level too many
pub tail_depth : {X V : Type 0} (w : View X V) (b : ℕ) → Tail w b (λ n xs. Err (Depth (place n (b ∷ xs))))
tail_depth w b = record {
  local = λ c xs ys h f. subst (λ p. Alike c w (Err (Depth (place (c.k + c.u) (b ∷ xs)))) (Err (Depth p))) (same_place (along b xs ys h f)) (fault (Depth (place (c.k + c.u) (b ∷ xs))));
  late = λ c xs h. tt;
  less = λ n xs. tt;
}

-- a reading function, from this byte on
pub tail_from : {X V : Type 0} {w : View X V} {F : ℕ → List ℕ → Result X JsonFault} (b : ℕ) → Good w F → Tail w b (λ n xs. F n (b ∷ xs))
tail_from b g = record { local = λ c xs ys h f. g.local c (b ∷ xs) (b ∷ ys) (along b xs ys h f); late = λ c xs h. g.late c (b ∷ xs) (omega (arith, h)); less = λ n xs. g.less n (b ∷ xs) }

pub tail_if : {X V : Type 0} {w : View X V} {b : ℕ} {F G : ℕ → List ℕ → Result X JsonFault} (v : Bool) → Tail w b F → Tail w b G → Tail w b (λ n xs. if v then F n xs else G n xs)
tail_if true f g = f
tail_if false f g = g

pub good_if : {X V : Type 0} {w : View X V} {F G : ℕ → List ℕ → Result X JsonFault} (v : Bool) → Good w F → Good w G → Good w (λ n xs. if v then F n xs else G n xs)
good_if true f g = f
good_if false f g = g

-- one reading after another
pub alike_then : {c : Fork} {X V Y W : Type 0} (w : View X V) (z : View Y W) {r s : Result X JsonFault} (f g : X → Result Y JsonFault) → Alike c w r s → ((x y : X) → w.given x ≡ w.given y → Front c (w.rest x) (w.rest y) → Alike c z (f x) (g y)) → ((x : X) → length (w.rest x) ≤ c.u → Late c z (f x)) → Alike c z (r >>= f) (s >>= g)
alike_then w z f g (same x y e t) go stay = go x y e t
alike_then w z f g (fault e) go stay = fault e
alike_then w z f g (late (Ok x) s h) go stay = late (f x) (s >>= g) (stay x h)
alike_then w z f g (late (Err e) s h) go stay = late (Err e) (s >>= g) h

pub late_then : (c : Fork) {X V Y W : Type 0} (w : View X V) (z : View Y W) (r : Result X JsonFault) (f : X → Result Y JsonFault) → Late c w r → ((x : X) → length (w.rest x) ≤ c.u → Late c z (f x)) → Late c z (r >>= f)
late_then c w z (Ok x) f h stay = stay x h
late_then c w z (Err e) f h stay = h

abbrev pub rests : View (List ℕ) (Unit {0})
rests = record { rest = λ x. x; given = λ x. tt }

abbrev pub reads : {A : Type 0} → View (A × List ℕ) A
reads = record { rest = λ x. x.1; given = λ x. x.0 }

pub rest_then : {Y W : Type 0} {z : View Y W} {F : ℕ → List ℕ → Result (List ℕ) JsonFault} {G : ℕ → List ℕ → Result Y JsonFault} → Good rests F → Good z G → Good z (λ n xs. F n xs >>= λ r. G n r)
rest_then {z = z} {F = F} {G = G} f g = record {
  local = λ c xs ys t. alike_then rests z (G (c.k + c.u)) (G (c.k + c.v)) (f.local c xs ys t) (λ x y e i. g.local c x y i) (λ x h. g.late c x h);
  late = λ c xs h. late_then c rests z (F (c.k + c.u) xs) (G (c.k + c.u)) (f.late c xs h) (λ x i. g.late c x i);
  less = λ n xs. ok_then (λ r. length r ≤ length xs) (λ x. length (z.rest x) ≤ length xs) (F n xs) (G n) (f.less n xs)
      (λ r h. ok_map (λ x. length (z.rest x) ≤ length r) (λ x. length (z.rest x) ≤ length xs) (G n r) (g.less n r) (λ x i. omega (arith, h, i)));
}

pub read_then : {A Y W : Type 0} {z : View Y W} {F : ℕ → List ℕ → Read A} {G : A → ℕ → List ℕ → Result Y JsonFault} → Good reads F → ((a : A) → Good z (G a)) → Good z (λ n xs. F n xs >>= λ p. G p.0 n p.1)
read_then {A = A} {z = z} {F = F} {G = G} f g = record {
  local = λ c xs ys t. alike_then reads z (λ p. G p.0 (c.k + c.u) p.1) (λ p. G p.0 (c.k + c.v) p.1) (f.local c xs ys t) (λ x y e i. subst (λ a. Alike c z (G x.0 (c.k + c.u) x.1) (G a (c.k + c.v) y.1)) e ((g x.0).local c x.1 y.1 i)) (λ x h. (g x.0).late c x.1 h);
  late = λ c xs h. late_then c reads z (F (c.k + c.u) xs) (λ p. G p.0 (c.k + c.u) p.1) (f.late c xs h) (λ x i. (g x.0).late c x.1 i);
  less = λ n xs. ok_then (λ p. length p.1 ≤ length xs) (λ x. length (z.rest x) ≤ length xs) (F n xs) (λ p. G p.0 n p.1) (f.less n xs)
      (λ p h. ok_map (λ x. length (z.rest x) ≤ length p.1) (λ x. length (z.rest x) ≤ length xs) (G p.0 n p.1) ((g p.0).less n p.1) (λ x i. omega (arith, h, i)));
}

-- what was read is put into something else
module _ {X V Y W : Type 0} (w : View X V) (z : View Y W) (j : X → Y) (h : Result X JsonFault → Result Y JsonFault) (ok : (x : X) → h (Ok x) ≡ Ok (j x)) (err : (e : JsonFault) → h (Err e) ≡ Err e) (rest : (x : X) → w.rest x ≡ z.rest (j x)) (given : (x y : X) → w.given x ≡ w.given y → z.given (j x) ≡ z.given (j y)) where
  late_map : (c : Fork) (r : Result X JsonFault) → Late c w r → Late c z (h r)
  late_map c (Ok x) i = subst (λ r. Late c z r) (sym (ok x)) (let e = ap length (rest x) in omega (arith, e, i))
  late_map c (Err e) i = subst (λ r. Late c z r) (sym (err e)) i

  alike_map : {c : Fork} {r s : Result X JsonFault} → Alike c w r s → Alike c z (h r) (h s)
  alike_map {c = c} (same x y e t) = subst (λ r. Alike c z r (h (Ok y))) (sym (ok x)) (subst (λ r. Alike c z (Ok (j x)) r) (sym (ok y)) (same (j x) (j y) (given x y e) (subst (λ a. Front c a (z.rest (j y))) (rest x) (subst (λ a. Front c (w.rest x) a) (rest y) t))))
  alike_map {c = c} (fault e) = subst (λ r. Alike c z r r) (sym (err e)) (fault e)
  alike_map {c = c} (late r s i) = late (h r) (h s) (late_map c r i)

  less_map : (m : ℕ) (r : Result X JsonFault) → IfOk r (λ x. length (w.rest x) ≤ m) → IfOk (h r) (λ y. length (z.rest y) ≤ m)
  less_map m (Ok x) i = subst (λ r. IfOk r (λ y. length (z.rest y) ≤ m)) (sym (ok x)) (let e = ap length (rest x) in omega (arith, e, i))
  less_map m (Err e) i = subst (λ r. IfOk r (λ y. length (z.rest y) ≤ m)) (sym (err e)) tt

  pub good_map : {F : ℕ → List ℕ → Result X JsonFault} → Good w F → Good z (λ n xs. h (F n xs))
  good_map {F = F} g = record { local = λ c xs ys f. alike_map (g.local c xs ys f); late = λ c xs i. late_map c (F (c.k + c.u) xs) (g.late c xs i); less = λ n xs. less_map (length xs) (F n xs) (g.less n xs) }

-- nothing is read but what is here
pub stays : Good rests (λ n xs. Ok xs)
stays = record { local = λ c xs ys f. same xs ys refl f; late = λ c xs h. h; less = λ n xs. omega arith }

pub gives : {A : Type 0} (a : A) → Good reads (λ n xs. Ok (a, xs))
gives a = record { local = λ c xs ys f. same (a, xs) (a, ys) refl f; late = λ c xs h. h; less = λ n xs. omega arith }

-- what stands behind this byte, the byte included
pub tail_here : (b : ℕ) → Tail rests b (λ n xs. Ok (b ∷ xs))
tail_here b = record { local = λ c xs ys h f. same (b ∷ xs) (b ∷ ys) refl (along b xs ys h f); late = λ c xs h. omega (arith, h); less = λ n xs. omega arith }

-- bytes of one kind are passed over
pub passes : (p : ℕ → Bool) (P : List ℕ → List ℕ) → P [] ≡ [] → ((b : ℕ) (xs : List ℕ) → P (b ∷ xs) ≡ (if p b then P xs else b ∷ xs)) → Good rests (λ n xs. Ok (P xs))
passes p P nil cons = record { local = λ c xs ys f. local c f; late = λ c xs h. let k = shorter xs in omega (arith, h, k); less = λ n xs. shorter xs }
  where
    shorter : (xs : List ℕ) → length (P xs) ≤ length xs
    shorter [] = let e = ap length nil in omega (arith, e)
    shorter (b ∷ xs) = subst (λ z. length z ≤ suc (length xs)) (sym (cons b xs)) (go (shorter xs) (p b))
      where
        go : length (P xs) ≤ length xs → (v : Bool) → length (if v then P xs else b ∷ xs) ≤ suc (length xs)
        go h true = omega (arith, h)
        go h false = omega arith

    local : (c : Fork) {xs ys : List ℕ} → Front c xs ys → Alike c rests (Ok (P xs)) (Ok (P ys))
    local c (apart xs ys h k) = late (Ok (P xs)) (Ok (P ys)) (let i = shorter xs in omega (arith, h, i))
    local c (along b xs ys i f) =
        let R : List ℕ → List ℕ → Type 0 = λ s t. Alike c rests (Ok s) (Ok t) in
        subst (λ t. R (P (b ∷ xs)) t) (sym (cons b ys)) (subst (λ s. R s (if p b then P ys else b ∷ ys)) (sym (cons b xs)) (go (local c f) (p b)))
      where
        go : Alike c rests (Ok (P xs)) (Ok (P ys)) → (v : Bool) → Alike c rests (Ok (if v then P xs else b ∷ xs)) (Ok (if v then P ys else b ∷ ys))
        go h true = h
        go h false = same (b ∷ xs) (b ∷ ys) refl (along b xs ys i f)

-- scanning
pub white_good : Good rests (λ n xs. Ok (after_white xs))
white_good = passes is_white after_white refl (λ b xs. refl)

digits_good : Good rests (λ n xs. Ok (after_digits xs))
digits_good = passes is_digit after_digits refl (λ b xs. refl)

pub word_good : (w : List ℕ) → Good rests (λ n xs. word n w xs)
word_good [] = stays
word_good (b ∷ w) = from_tails rests (λ n xs. word n (b ∷ w) xs) (λ c. omega arith) (λ n. tt) (λ a. tail_if (a == b) (tail_good a (word_good w)) (tail_syntax rests a))

some_good : Good rests some_digits
some_good = from_tails rests some_digits (λ c. omega arith) (λ n. tt) (λ b. tail_if (is_digit b) (tail_good b digits_good) (tail_syntax rests b))

unsigned_good : Good rests (λ n xs. Ok (unsigned xs))
unsigned_good = from_tails rests (λ n xs. Ok (unsigned xs)) (λ c. omega arith) (λ n. omega arith) (λ b. tail_ok_if (b == 45) b)
  where
    tail_ok_if : (v : Bool) (b : ℕ) → Tail rests b (λ n xs. Ok (if v then xs else b ∷ xs))
    tail_ok_if true b = tail_good b stays
    tail_ok_if false b = tail_here b

whole_good : Good rests whole_part
whole_good = from_tails rests whole_part (λ c. omega arith) (λ n. tt) (λ b. tail_if (b == 48) (tail_good b stays) (tail_if (is_digit b) (tail_good b digits_good) (tail_syntax rests b)))

fraction_good : Good rests fraction
fraction_good = from_tails rests fraction (λ c. omega arith) (λ n. omega arith) (λ b. tail_if (b == 46) (tail_good b some_good) (tail_here b))

sign_good : Good rests (λ n xs. Ok (unsigned_exponent xs))
sign_good = from_tails rests (λ n xs. Ok (unsigned_exponent xs)) (λ c. omega arith) (λ n. omega arith) (λ b. tail_ok_if ((b == 43) || (b == 45)) b)
  where
    tail_ok_if : (v : Bool) (b : ℕ) → Tail rests b (λ n xs. Ok (if v then xs else b ∷ xs))
    tail_ok_if true b = tail_good b stays
    tail_ok_if false b = tail_here b

exponent_good : Good rests exponent
exponent_good = from_tails rests exponent (λ c. omega arith) (λ n. omega arith) (λ b. tail_if ((b == 101) || (b == 69)) (tail_good b (rest_then sign_good some_good)) (tail_here b))

pub number_good : Good rests after_number
number_good = rest_then unsigned_good (rest_then whole_good (rest_then fraction_good exponent_good))

abbrev pub is_done : Next → Bool
is_done (done r) = true
is_done (more r) = false

abbrev pub next_rest : Next → List ℕ
next_rest (done r) = r
next_rest (more r) = r

abbrev pub nexts : View Next Bool
nexts = record { rest = next_rest; given = is_done }

done_good : Good nexts (λ n xs. Ok (done xs))
done_good = record { local = λ c xs ys f. same (done xs) (done ys) refl f; late = λ c xs h. h; less = λ n xs. omega arith }

more_good : Good nexts (λ n xs. Ok (more xs))
more_good = record { local = λ c xs ys f. same (more xs) (more ys) refl f; late = λ c xs h. h; less = λ n xs. omega arith }

pub next_good : (close : ℕ) → Good nexts (λ n xs. next n close xs)
next_good close = rest_then white_good (from_tails nexts (λ n xs. next_front n close xs) (λ c. omega arith) (λ n. tt)
    (λ b. tail_if (b == close) (tail_good b done_good) (tail_if (b == 44) (tail_good b (rest_then white_good more_good)) (tail_syntax nexts b))))

pub colon_good : Good rests colon
colon_good = rest_then white_good (from_tails rests colon_front (λ c. omega arith) (λ n. tt) (λ b. tail_if (b == 58) (tail_good b white_good) (tail_syntax rests b)))
