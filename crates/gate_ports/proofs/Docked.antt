-- The first of the connections to come is lent, and one is given back.
use Rattle.std.proofs.Common.{◌≡◌, ℕ, zero, suc, ◌-◌, ◌<◌, ◌≤◌, List, [], ◌∷◌, ◌++◌, take, drop, length, map, All, slice_index_or, remove, ap, refl, arith, Some}
use Rattle.std.specs.Prelude.{Result, Ok, Err}
use Rattle.std.proofs.lemmas.List.{map-append}
use Rattle.gw_base.specs.declared.outside.Failed.{Failed}
use Rattle.gate_ports.specs.declared.port.Accepted.{Accepted}
use Rattle.gate_ports.specs.declared.port.Accepted.TheVariants.{Conn, NotYet, Ended}
use Rattle.gate_ports.specs.Docks.{ConnFacts, PortFacts, IsUnwritten, Looks, coming_of, served_of}
use Rattle.gate_ports.specs.Facts.{ConnTold}
use Rattle.gate_ports.specs.Lending.{IfLent, Lent, GivenBack}

-- the first of a front leaves, and the front is shorter by one
pub front_less_first : {A : Type 0} (n : ℕ) (all rest : List A) (first : A) → 0 < n → n ≤ length all → first ≡ slice_index_or all 0 first → rest ≡ remove all 0 → take n all ≡ first ∷ take (n - 1) rest
front_less_first n [] rest first some within is left = absurd (omega (arith, some, within))
front_less_first zero (x ∷ xs) rest first some within is left = absurd (omega (arith, some))
front_less_first (suc m) (x ∷ xs) rest first some within is left =
    let less : suc m - 1 ≡ m = omega arith in
    rw (less, is, left) refl

-- and what stands behind the front stays
pub back_stays : {A : Type 0} (n : ℕ) (all rest : List A) → 0 < n → n ≤ length all → rest ≡ remove all 0 → drop n all ≡ drop (n - 1) rest
back_stays n [] rest some within left = absurd (omega (arith, some, within))
back_stays zero (x ∷ xs) rest some within left = absurd (omega (arith, some))
back_stays (suc m) (x ∷ xs) rest some within left =
    let less : suc m - 1 ≡ m = omega arith in
    rw (less, left) refl

pub of_first : {A : Type 0} (P : A → Type 0) (x : A) (xs : List A) → All P (x ∷ xs) → P x
of_first P x xs all = all 0 x (omega arith)

pub of_rest : {A : Type 0} (P : A → Type 0) (x : A) (xs : List A) → All P (x ∷ xs) → All P xs
of_rest P x xs all k d within = all (suc k) d (omega (arith, within))

-- what a connection in memory tells
abbrev pub told_by : ConnFacts → ConnTold
told_by c = record { left = Some c.source.left; written = Some c.sink.written; read_faults = c.source.faults; write_faults = c.sink.faults }

-- a connection that a look lent was the first of those to come
pub lent_first : (look : Result (Accepted ConnFacts) Failed) (old new : PortFacts) → Looks look old new → IfLent look IsUnwritten
    → IfLent look (λ c. Lent (told_by c) (Some (map coming_of old.coming)) (Some (map coming_of new.coming)))
lent_first (Ok (Conn link)) old new looks unwritten = (
  coming_of link,
  map coming_of new.coming,
  ap (map coming_of) looks.0,
  refl,
  ap (λ (bytes : List ℕ). record { left = Some link.source.left; written = Some bytes; read_faults = link.source.faults; write_faults = link.sink.faults }) unwritten,
)
lent_first (Ok NotYet) old new looks unwritten = tt
lent_first (Ok Ended) old new looks unwritten = tt
lent_first (Err failed) old new looks unwritten = tt

-- a connection that was given back is the last of those served
pub given_last : (served : List ConnFacts) (link : ConnFacts) → GivenBack (told_by link) (Some (map served_of served)) (Some (map served_of (served ++ link ∷ [])))
given_last served link = (served_of link, ap Some (map-append served_of served (link ∷ [])), refl)
