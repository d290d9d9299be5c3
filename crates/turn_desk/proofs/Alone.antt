-- Where a desk has one seat, every entry is that seat's.
use Rattle.std.proofs.Common.{◌≡◌, ◌≢◌, ℕ, zero, suc, ◌==◌, ◌≤◌, Bool, true, false, cond, List, [], ◌∷◌, ◌++◌, Option, Some, Result, Ok, Err, IfOk, IfErr, All, refl, sym, ap, ◌∙◌, subst, arith}
use Rattle.std.proofs.lemmas.Bool.{eq-eqb}
use Rattle.std.proofs.lemmas.List.{append_cancel_right}
use Rattle.std.proofs.lemmas.List.Elements.{All-nil}
use Rattle.turn_desk.specs.Entries.{entries_of, HasNoneFrom}
use Rattle.turn_desk.specs.Calls.{TableId, SeatFacts, Taken, NotTaken, IsSameSeat, HasItsOwn}
use Rattle.turn_desk.specs.OneSeat.{IsOnly, IsTheOne, seen_by}

module _ {E : Type 0} (seat_of : E → ℕ) where
  none_behind : (n : ℕ) (x : E) (xs : List E) (b : Bool) → cond b (x ∷ entries_of seat_of n xs) (entries_of seat_of n xs) ≡ [] → entries_of seat_of n xs ≡ []
  none_behind n x xs true none = absurd cc
  none_behind n x xs false none = none

  own_first : (x : E) (xs : List E) (n : ℕ) → seat_of x ≡ n → (1 ≤ n → entries_of seat_of n (x ∷ xs) ≡ []) → entries_of seat_of 0 xs ≡ xs → entries_of seat_of 0 (x ∷ xs) ≡ x ∷ xs
  own_first x xs zero is none all = ap (λ b. cond b (x ∷ entries_of seat_of 0 xs) (entries_of seat_of 0 xs)) (ap (λ m. m == 0) is) ∙ ap (λ l. x ∷ l) all
  own_first x xs (suc n) is none all =
      let found : entries_of seat_of (suc n) (x ∷ xs) ≡ x ∷ entries_of seat_of (suc n) xs =
      ap (λ b. cond b (x ∷ entries_of seat_of (suc n) xs) (entries_of seat_of (suc n) xs)) (eq-eqb (seat_of x) (suc n) is) in
      let e : x ∷ entries_of seat_of (suc n) xs ≡ [] = sym found ∙ none (omega arith) in
      absurd cc

  -- where no number but 0 has an entry, all entries are that number's
  pub all_own : (log : List E) → HasNoneFrom seat_of 1 log → entries_of seat_of 0 log ≡ log
  all_own [] none = refl
  all_own (x ∷ xs) none = own_first x xs (seat_of x) refl (λ le. none (seat_of x) le) (all_own xs (λ n le. none_behind n x xs (seat_of x == n) (none n le)))

module _ {E B V R F : Type 0} (seat_of : E → ℕ) (event_of : E → V) (answers : B → List E → E → R → Type 0) (refuses : B → List E → ℕ → V → F → Type 0)
    (desk : TableId) (base : B) (k l : SeatFacts E B) (asked : V) (only : IsOnly desk base k) (same : IsSameSeat k l) (own : HasItsOwn seat_of l) (none : HasNoneFrom seat_of l.seats l.seen) where
  saw_all : l.mine ≡ l.seen
  saw_all = own ∙ ap (λ n. entries_of seat_of n l.seen) (same.2 ∙ only.first) ∙ all_own seat_of l.seen (subst (λ n. HasNoneFrom seat_of n l.seen) (same.1 ∙ only.one) none)

  same_base : (other : B) → k.base ≡ Some other → other ≡ base
  same_base other is = cc (is, only.based)

  -- the seat stays the only one
  pub stays_only : IsOnly desk base l
  stays_only = record {
    at = same.0 ∙ only.at;
    one = same.1 ∙ only.one;
    first = same.2 ∙ only.first;
    none_ended = same.4 ∙ only.none_ended;
    none_spare = same.5 ∙ only.none_spare;
    based = same.3 ∙ only.based;
    all = saw_all;
  }

  -- the machine was called right behind what the seat had seen
  pub taken_next : (got : R) → Taken seat_of event_of answers k l asked got
      → (e : E) × (l.seen ≡ k.seen ++ e ∷ []) × (seat_of e ≡ 0) × (event_of e ≡ asked) × answers base k.seen e got
  taken_next got t =
      let before : t.before ≡ k.seen = append_cancel_right t.before k.seen (t.entry ∷ []) (sym t.seen ∙ sym saw_all ∙ t.mine ∙ ap (λ m. m ++ t.entry ∷ []) only.all) in (
        t.entry,
        t.seen ∙ ap (λ b. b ++ t.entry ∷ []) before,
        t.seat ∙ only.first,
        t.event,
        subst (λ b. answers b k.seen t.entry got) (same_base t.base t.based) (subst (λ b. answers t.base b t.entry got) before t.reply),
      )

  pub refused_next : (got : F) → NotTaken refuses k l asked got → (l.seen ≡ k.seen) × refuses base k.seen 0 asked got
  refused_next got t =
      let seen : l.seen ≡ k.seen = sym saw_all ∙ t.mine ∙ only.all in (
        seen,
        subst (λ b. refuses b k.seen 0 asked got) (same_base t.base t.based)
            (subst (λ n. refuses t.base k.seen n asked got) only.first (subst (λ s. refuses t.base s k.number asked got) seen t.fault)),
      )

-- the seat that is there is the only one
pub only_of : {E B : Type 0} (desk : TableId) (base : B) (held : Option (SeatFacts E B)) (seat : SeatFacts E B) → held ≡ Some seat → IsTheOne desk base held → IsOnly desk base seat
only_of desk base held seat is only = subst (IsTheOne desk base) is only

-- the closed machine has the history that its one seat has seen
pub closed_to : {E B : Type 0} (seat_of : E → ℕ) (desk : TableId) (base closed_base : B) (k : SeatFacts E B) (history : List E) → IsOnly desk base k
    → k.base ≡ Some closed_base → k.mine ≡ entries_of seat_of k.number history
    → ((n : ℕ) → n ≢ k.number → All (λ p. p.0 ≢ n) k.ended → entries_of seat_of n history ≡ [])
    → (closed_base ≡ base) × (history ≡ k.seen)
closed_to seat_of desk base closed_base k history only based own none = (
  cc (based, only.based),
  sym (all_own seat_of history (λ n le. none n (λ is. absurd (omega (arith, le, is, only.first))) (subst (All (λ p. p.0 ≢ n)) (sym only.none_ended) (All-nil (λ p. p.0 ≢ n)))))
      ∙ ap (λ n. entries_of seat_of n history) (sym only.first) ∙ sym own ∙ only.all,
)
