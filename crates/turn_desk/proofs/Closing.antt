-- What the machine of a desk is, once one seat has every number.
use Rattle.std.proofs.Common.{◌≡◌, ◌≢◌, ℕ, ◌≤◌, List, [], ◌∷◌, map, length, refl, sym, ap, ◌∙◌, subst, arith, Option, Some}
use mathlib.Core.Logic.{dite}
use mathlib.Core.Option.{Option as Maybe, some, some-injective}
use mathlib.Core.List.{IsPrefix}
use native.Mathlib.Decide.{dec_le}
use lib.ListN.{get_elem?}
use Rattle.std.specs.List.{All}
use Rattle.atomic_table.specs.Table.{State, Final, Seen}
use Rattle.turn_desk.specs.declared.view.Phase.{Phase}
use Rattle.turn_desk.specs.declared.view.Phase.TheVariants.{Idle, Waiting, Turn, Committed, Spent}
use Rattle.turn_desk.specs.declared.view.Known.{Known}
use Rattle.turn_desk.specs.declared.view.View.{View}
use Rattle.turn_desk.specs.Counts.{total, times, Every}
use Rattle.turn_desk.specs.Entries.{entries_of}
use Rattle.turn_desk.specs.Rule.{Stored, Ruled}
use Rattle.turn_desk.specs.Views.{in_line, serving, numbers, view, shares, held, holds_of}
use Rattle.turn_desk.specs.Calls.{TableId, SeatFacts, facts_of, IsWhole}
use Rattle.turn_desk.proofs.Totals.{total_parts, bit_other}
use Rattle.turn_desk.proofs.Keeps.{busy, rooms, copies}
use Rattle.turn_desk.proofs.Shares.{all_from_every, blank, every_back, every_front, length_shares, spare_none, times_length, times_none, times_shares, total_alone}

module _ {M E B : Type 0} (history : M → List E) (base_of : M → B) (seat_of : E → ℕ) (seats : ℕ) (base : B) where
  abbrev Rule : State (Option M) (View E B) → Type 0
  Rule = Ruled history base_of seat_of seats base

  -- the machine has just what the seat and those joined into it did
  pub record Closes (k : SeatFacts E B) (m : M) : Type 0 where
    pub based : k.base ≡ Some (base_of m)
    pub seen : IsPrefix k.seen (history m)
    pub own : k.mine ≡ entries_of seat_of k.number (history m)
    pub ended : All (λ p. p.1 ≡ entries_of seat_of p.0 (history m)) k.ended
    pub no_others : (n : ℕ) → n ≢ k.number → All (λ p. p.0 ≢ n) k.ended → entries_of seat_of n (history m) ≡ []

  -- what the machine is where one seat has every number
  pub record Ends (k : Known E B) (homes : List (Maybe (Option M))) : Type 0 where
    pub machine : M
    pub home : homes ≡ some (Some machine) ∷ []
    pub closes : (t : TableId) → Closes (facts_of t k) machine

  empty_held : (p : Phase E) (k : Known E B) → length (held p k) ≡ 0 → in_line p ≡ 0
  empty_held Idle k e = refl
  empty_held (Waiting t) k e = absurd (omega arith)
  empty_held (Turn t found) k e = absurd (omega arith)
  empty_held (Committed t) k e = absurd (omega arith)
  empty_held Spent k e = refl

  busy_in_line : (p : Phase E) → serving p ≤ in_line p
  busy_in_line Idle = omega arith
  busy_in_line (Waiting t) = omega arith
  busy_in_line (Turn t found) = omega arith
  busy_in_line (Committed t) = omega arith
  busy_in_line Spent = omega arith

  pub ends : (s : State (Option M) (View E B)) → Rule s → (id : ℕ) (k : Known E B) → get_elem? s.views id ≡ some (view Idle k) → length (shares k) ≡ k.seats → Ends k s.homes
  ends s r id k at whole =
      let v : View E B = view Idle k in
      let knows = r.each id v at in
      let none_left : (j : ℕ) (d : View E B) → j ≢ id → get_elem? s.views j ≡ some d → rooms d ≡ 0 = λ j d ne there.
      omega (arith, total_parts rooms s.views id j v d (λ e. ne (sym e)) at there, r.shared, whole, knows.sized) in
      let quiet : total busy s.views ≡ 0 = total_alone busy s.views id v at (λ j d ne there. omega (arith, busy_in_line d.phase, empty_held d.phase d.known (none_left j d ne there))) in
      let home = subst (Stored history base_of base r.log s.homes) quiet r.slot in
      let all_of : (n : ℕ) → total (copies n) s.views ≡ times n (numbers (shares k)) = λ n. total_alone (copies n) s.views id v at (λ j d ne there. omega (arith, times_length n (holds_of d), none_left j d ne there)) in
      record {
        machine = home.0;
        home = home.1;
        closes = λ t. record {
          based = knows.based ∙ ap Some (sym home.3);
          seen = subst (IsPrefix k.seen) (sym home.2) knows.seen;
          own = knows.listed.0 ∙ ap (entries_of seat_of k.number) (sym home.2);
          ended = all_from_every _ k.ended (subst (λ log. Every (λ p. p.1 ≡ entries_of seat_of p.0 log) k.ended) (sym home.2) (every_front _ k.ended (map blank k.spare) knows.listed.1));
          no_others = λ n other none_of. ap (entries_of seat_of n) home.2 ∙ dite (dec_le seats n)
              (λ le. r.no_more n le)
              (λ lt. sym (spare_none seat_of n r.log k.spare (omega (arith, r.once n (omega arith), all_of n, times_shares n k, times_none n k.ended none_of, bit_other k.number n (λ e. other (sym e)))) (every_back _ k.ended (map blank k.spare) knows.listed.1)));
        };
      }

  -- the machine in the slot, once the seat of a closed table has every number
  pub closed : (ws : List ℕ) (xs : List (Option M)) (id : ℕ) (v : View E B) (t : TableId) (seat : SeatFacts E B) → facts_of t v.known ≡ seat → v.phase ≡ Idle → IsWhole seat
      → Final (Seen Rule id v) ws xs → (x : Option M) → get_elem? xs 0 ≡ some x → (m : M) × (x ≡ Some m) × Closes seat m
  closed ws xs id v t seat is idle whole last x at =
      let at' : get_elem? last.0.views id ≡ some (view Idle v.known) = last.1.1 ∙ (λ i. some (view (idle i) v.known)) in
      let all_of : IsWhole (facts_of t v.known) = subst IsWhole (sym is) whole in
      let e = ends last.0 last.1.0 id v.known at' (length_shares v.known ∙ all_of) in
      let there : get_elem? xs 0 ≡ some (Some e.machine) = last.4 0 (Some e.machine) (ap (λ hs. get_elem? hs 0) e.home) in
      (e.machine, some-injective x (Some e.machine) (sym at ∙ there), subst (λ s. Closes s e.machine) is (e.closes t))

  pub closed_to : (ws : List ℕ) (xs : List (Option M)) (id : ℕ) (v : View E B) (t : TableId) (seat : SeatFacts E B) → facts_of t v.known ≡ seat → v.phase ≡ Idle → IsWhole seat
      → Final (Seen Rule id v) ws xs → (x : Option M) → get_elem? xs 0 ≡ some x → (m : M) → x ≡ Some m → Closes seat m
  closed_to ws xs id v t seat is idle whole last x at m found = let e = closed ws xs id v t seat is idle whole last x at in subst (Closes seat) (cc (e.1, found)) e.2
