-- The places of the changes that were lost.
use Rattle.std.proofs.Common.{◌≡◌, ℕ, ◌+◌, ◌≤◌, Bool, true, false, List, [], ◌∷◌, ◌++◌, length, ap, refl, sym, ◌∙◌, arith, if◌then◌else◌}
use Rattle.std.proofs.lemmas.List.Sums.{sum_by-cons}
use Rattle.book_rules.specs.History.{not_kept}
use Rattle.book_rules.specs.declared.events.Entry.{Entry}
use Rattle.admin_command.specs.Administering.{lost_from}

more_lost : (place : ℕ) (entry : Entry) (entries : List Entry) (kept : Bool) → entry.kept ≡ kept → length (lost_from (place + 1) entries) ≡ not_kept entries
    → length (if kept then lost_from (place + 1) entries else place ∷ lost_from (place + 1) entries) ≡ not_kept (entry ∷ entries)
more_lost place entry entries true e same =
    let more : not_kept (entry ∷ entries) ≡ 0 + not_kept entries = sum_by-cons (λ (x : Entry). if x.kept then 0 else 1) entry entries ∙ ap (λ k. (if k then 0 else 1) + not_kept entries) e in
    omega (arith, same, more)
more_lost place entry entries false e same =
    let more : not_kept (entry ∷ entries) ≡ 1 + not_kept entries = sum_by-cons (λ (x : Entry). if x.kept then 0 else 1) entry entries ∙ ap (λ k. (if k then 0 else 1) + not_kept entries) e in
    omega (arith, same, more)

-- there are as many as entries that are not kept
pub as_many : (place : ℕ) (history : List Entry) → length (lost_from place history) ≡ not_kept history
as_many place [] = refl
as_many place (entry ∷ entries) = more_lost place entry entries entry.kept refl (as_many (place + 1) entries)

-- each of them is at or behind the first place
abbrev IsAtLeast : ℕ → List ℕ → Type 0
IsAtLeast place [] = Unit {0}
IsAtLeast place (p ∷ places) = (place ≤ p) × IsAtLeast place places

at_least_before : (place : ℕ) (places : List ℕ) → IsAtLeast (place + 1) places → IsAtLeast place places
at_least_before place [] h = tt
at_least_before place (p ∷ places) h = (omega (arith, h.0), at_least_before place places h.1)

more_at_least : (place : ℕ) (kept : Bool) (places : List ℕ) → IsAtLeast (place + 1) places → IsAtLeast place (if kept then places else place ∷ places)
more_at_least place true places h = at_least_before place places h
more_at_least place false places h = (omega arith, at_least_before place places h)

at_least : (place : ℕ) (history : List Entry) → IsAtLeast place (lost_from place history)
at_least place [] = tt
at_least place (entry ∷ entries) = more_at_least place entry.kept (lost_from (place + 1) entries) (at_least (place + 1) entries)

-- a list that begins with a place below is none of those behind it
abbrev head : List ℕ → ℕ
head [] = 0
head (x ∷ xs) = x

abbrev tail : List ℕ → List ℕ
tail [] = []
tail (x ∷ xs) = xs

below : (place q : ℕ) → place ≡ q → place + 1 ≤ q → ⊥
below place q is le = omega (arith, is, le)

not_behind : (place : ℕ) (places more : List ℕ) → IsAtLeast (place + 1) more → place ∷ places ≡ more → ⊥
not_behind place places [] h e = cc
not_behind place places (p ∷ more) h e = below place p (ap head e) h.0

-- so the entry at a place is kept or not, as the places say
by_both : (place : ℕ) (one other : Bool) (rest more : List ℕ) → IsAtLeast (place + 1) rest → IsAtLeast (place + 1) more
    → (if one then rest else place ∷ rest) ≡ (if other then more else place ∷ more) → one ≡ other
by_both place true true rest more h k e = refl
by_both place false false rest more h k e = refl
by_both place true false rest more h k e = absurd (not_behind place more rest h (sym e))
by_both place false true rest more h k e = absurd (not_behind place rest more k e)

drop_head : (place : ℕ) (kept : Bool) (rest more : List ℕ) → (if kept then rest else place ∷ rest) ≡ (if kept then more else place ∷ more) → rest ≡ more
drop_head place true rest more e = e
drop_head place false rest more e = ap tail e

pub kept_alike : (place : ℕ) (history : List Entry) (one other : Entry) (rest more : List Entry) → lost_from place (history ++ one ∷ rest) ≡ lost_from place (history ++ other ∷ more) → one.kept ≡ other.kept
kept_alike place [] one other rest more e =
    by_both place one.kept other.kept (lost_from (place + 1) rest) (lost_from (place + 1) more) (at_least (place + 1) rest) (at_least (place + 1) more) e
kept_alike place (entry ∷ history) one other rest more e =
    kept_alike (place + 1) history one other rest more (drop_head place entry.kept (lost_from (place + 1) (history ++ one ∷ rest)) (lost_from (place + 1) (history ++ other ∷ more)) e)
