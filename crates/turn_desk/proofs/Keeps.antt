-- Each step of the desk keeps its rule.
use Rattle.std.proofs.Common.{◌≡◌, ◌≢◌, ℕ, zero, suc, ◌+◌, ◌%◌, ◌^◌, ◌<◌, ◌≤◌, List, [], ◌∷◌, ◌++◌, map, length, set, get_or, cond, eqb, refl, sym, ap, ◌∙◌, subst, inl, inr, ⊎_elim, arith, Option, Some, None, length-append}
use mathlib.Core.Logic.{dite}
use mathlib.Core.Option.{Option as Maybe, some, none, some-injective, some-ne-none}
use mathlib.Core.List.{IsPrefix}
use native.Mathlib.Decide.{ℕ_discrete, dec_le}
use lib.ListN.{get_elem?}
use Rattle.std.proofs.lemmas.List.{set-get_or, append-nil}
use Rattle.std.proofs.lemmas.Bool.{eq-eqb, ne_eqb}
use Rattle.std.proofs.lemmas.List.Elements.{filter-append}
use Rattle.atomic_table.specs.Table.{State, Me, rest, step, keeps, takes, gives, stepped, Allows}
use Rattle.atomic_table.proofs.Lists.{at_set, set_else, set_again, one_turn}
use Rattle.turn_desk.specs.declared.view.Phase.{Phase}
use Rattle.turn_desk.specs.declared.view.Phase.TheVariants.{Idle, Waiting, Turn, Committed, Spent}
use Rattle.turn_desk.specs.declared.view.Known.{Known}
use Rattle.turn_desk.specs.declared.view.View.{View}
use Rattle.turn_desk.specs.Counts.{total, times, Every}
use Rattle.turn_desk.specs.Entries.{entries_of, HasNoneFrom}
use Rattle.turn_desk.specs.Rule.{Knows, Stands, Stored, Ruled}
use Rattle.turn_desk.specs.Steps.{looked, commits_to, committed, drew, served}
use Rattle.turn_desk.specs.Views.{tickets_of, in_line, serving, numbers, view, shares, held, holds_of, IsSeen}
use Rattle.turn_desk.proofs.Prefixes.{every_behind, prefix_self, prefix_trans}
use Rattle.turn_desk.proofs.Totals.{total-set, total_part, total_parts, total-same, total_below, total_less, bit_same, bit_other}

mod_same : (a : ℕ) → (a % 2 ^ 64 + 0) % 2 ^ 64 ≡ a % 2 ^ 64
mod_same a = omega arith

mod_up : (a : ℕ) → (a % 2 ^ 64 + 1) % 2 ^ 64 ≡ (a + 1) % 2 ^ 64
mod_up a = omega arith

module _ {E B : Type 0} where
  pub each_set : (K : View E B → Type 0) (vs : List (View E B)) (me : ℕ) (w : View E B) → K w → ((j : ℕ) (d : View E B) → j ≢ me → get_elem? vs j ≡ some d → K d)
      → (j : ℕ) (d : View E B) → get_elem? (set vs me w) j ≡ some d → K d
  each_set K vs me w mine others j d e = ⊎_elim (λ (t : (j ≡ me) × (w ≡ d)). subst K t.1 mine) (λ (t : (j ≢ me) × (get_elem? vs j ≡ some d)). others j d t.0 t.1) (at_set vs me j w d e)

  pub set_at : (vs : List (View E B)) (id : ℕ) (v w : View E B) → get_elem? vs id ≡ some v → get_elem? (set vs id w) id ≡ some w
  set_at [] id v w e = absurd (some-ne-none v (sym e))
  set_at (x ∷ xs) zero v w e = refl
  set_at (x ∷ xs) (suc id) v w e = set_at xs id v w e

  pub seen_new : (log : List E) (vs : List (View E B)) (id : ℕ) (v w : View E B) → get_elem? vs id ≡ some v → w.known.seen ≡ log → IsSeen log (set vs id w)
  seen_new log vs id v w at is = (id, w, set_at vs id v w at, is)

  pub seen_kept : (log : List E) (vs : List (View E B)) (id : ℕ) (v w : View E B) → get_elem? vs id ≡ some v → w.known.seen ≡ v.known.seen → IsSeen log vs → IsSeen log (set vs id w)
  seen_kept log vs id v w at same h = dite (ℕ_discrete h.0 id)
      (λ e. let is : v ≡ h.1 = some-injective v h.1 (sym at ∙ (ap (get_elem? vs) (sym e) ∙ h.2)) in (id, w, set_at vs id v w at, same ∙ (ap (λ d. d.known.seen) is ∙ h.3)))
      (λ ne. (h.0, h.1, set_else vs id h.0 w ne ∙ h.2, h.3))

  abbrev pub waits_in : ℕ → View E B → ℕ
  waits_in k v = tickets_of k v.phase

  abbrev pub lines : View E B → ℕ
  lines v = in_line v.phase

  abbrev pub busy : View E B → ℕ
  busy v = serving v.phase

  abbrev pub rooms : View E B → ℕ
  rooms v = length (holds_of v)

  abbrev pub copies : ℕ → View E B → ℕ
  copies n v = times n (numbers (holds_of v))

  pub in_line_room : (p : Phase E) (k : Known E B) → in_line p ≤ length (held p k)
  in_line_room Idle k = omega arith
  in_line_room (Waiting t) k = omega arith
  in_line_room (Turn t found) k = omega arith
  in_line_room (Committed t) k = omega arith
  in_line_room Spent k = omega arith

module _ {E : Type 0} (seat_of : E → ℕ) (log : List E) (e : E) where
  -- an entry is one more of its seat's, and changes no other seat's
  pub entries_own : (n : ℕ) → seat_of e ≡ n → entries_of seat_of n (log ++ e ∷ []) ≡ entries_of seat_of n log ++ e ∷ []
  entries_own n is = filter-append (λ (x : E). eqb (seat_of x) n) log (e ∷ []) ∙ ap (λ b. entries_of seat_of n log ++ cond b (e ∷ []) []) (eq-eqb (seat_of e) n is)

  entries_other : (n : ℕ) → seat_of e ≢ n → entries_of seat_of n (log ++ e ∷ []) ≡ entries_of seat_of n log
  entries_other n ne = filter-append (λ (x : E). eqb (seat_of x) n) log (e ∷ []) ∙ (ap (λ b. entries_of seat_of n log ++ cond b (e ∷ []) []) (ne_eqb (seat_of e) n ne) ∙ append-nil (entries_of seat_of n log))

  -- what is listed stays so, where no number is the entry's
  listed_more : (ps : List (ℕ × List E)) → times (seat_of e) (numbers ps) ≡ 0 → Every (λ p. p.1 ≡ entries_of seat_of p.0 log) ps → Every (λ p. p.1 ≡ entries_of seat_of p.0 (log ++ e ∷ [])) ps
  listed_more [] none_of h = tt
  listed_more (p ∷ ps) none_of h = (
    h.0 ∙ sym (entries_other p.0 (λ is. omega (arith, bit_same p.0 (seat_of e) (sym is), none_of))),
    listed_more ps (omega (arith, none_of)) h.1,
  )

module _ {M E B : Type 0} (history : M → List E) (base_of : M → B) (seat_of : E → ℕ) (seats : ℕ) (base : B) where
  abbrev St : Type 0
  St = State (Option M) (View E B)

  abbrev Rule : St → Type 0
  Rule = Ruled history base_of seat_of seats base

  pub draws : (slots id : ℕ) (k : Known E B) (c : List (ℕ × Option M)) → Allows Rule slots id (view Idle k, c) 0 (λ n. (n + 1) % 2 ^ 64) (drew (step slots 0 1 0 none) (view Idle k, c))
  draws slots id k c s r _ at _ =
      let v : View E B = view Idle k in
      let w : View E B = view (Waiting r.drawn) k in
      let line = r.line in (
        w,
        keeps,
        tt,
        record {
          log = r.log;
          drawn = r.drawn + 1;
          serves = r.serves;
          words = ap (λ ws. set ws 0 ((get_or ws 0 0 + 1) % 2 ^ 64)) r.words ∙ ap (λ n. n ∷ r.serves % 2 ^ 64 ∷ length r.log % 2 ^ 64 ∷ []) (mod_up r.drawn);
          line = omega (arith, total-set lines s.views id v w at);
          tickets = λ k' lo hi. dite (ℕ_discrete r.drawn k')
              (λ e. omega (arith, total-set (waits_in k') s.views id v w at, bit_same r.drawn k' e, r.no_tickets k' (inr (omega arith))))
              (λ ne. omega (arith, total-set (waits_in k') s.views id v w at, bit_other r.drawn k' ne, r.tickets k' lo (omega arith)));
          no_tickets = λ k' out. ⊎_elim
              (λ lo. omega (arith, total-set (waits_in k') s.views id v w at, bit_other r.drawn k' (λ e. omega arith), r.no_tickets k' (inl lo)))
              (λ hi. omega (arith, total-set (waits_in k') s.views id v w at, bit_other r.drawn k' (λ e. omega arith), r.no_tickets k' (inr (omega arith)))) out;
          slot = subst (Stored history base_of base r.log s.homes) (sym (total-same busy s.views id v w at refl)) r.slot;
          each = each_set (λ d. Stands seat_of seats base r.log r.serves d.phase d.known) s.views id w (r.each id v at) (λ j d _ e. r.each j d e);
          longest = seen_kept r.log s.views id v w at refl r.longest;
          few = r.few;
          shared = total-same rooms s.views id v w at refl ∙ r.shared;
          once = λ n lt. total-same (copies n) s.views id v w at refl ∙ r.once n lt;
          none_above = λ n le. total-same (copies n) s.views id v w at refl ∙ r.none_above n le;
          no_more = r.no_more;
        },
        (r.drawn, refl, ap (λ ws. get_or ws 0 0) r.words),
      )

  busy_ticket : (log : List E) (serves : ℕ) (p : Phase E) (k : Known E B) → Stands seat_of seats base log serves p k → serving p ≤ tickets_of serves p
  busy_ticket log serves Idle k h = omega arith
  busy_ticket log serves (Waiting t) k h = omega arith
  busy_ticket log serves (Turn t found) k h = omega (arith, bit_same t serves h.1)
  busy_ticket log serves (Committed t) k h = omega (arith, bit_same t serves h.1)
  busy_ticket log serves Spent k h = omega arith

  line_fits : (s : St) (r : Rule s) → r.drawn < r.serves + 2 ^ 64
  line_fits s r = omega (arith, r.line, r.few, r.shared, total_below lines rooms s.views (λ j v _. in_line_room v.phase v.known))

  one_ticket : (s : St) (r : Rule s) (k : ℕ) → total (waits_in k) s.views ≤ 1
  one_ticket s r k = dite (dec_le r.serves k)
      (λ lo. dite (dec_le (k + 1) r.drawn) (λ hi. omega (arith, r.tickets k lo (omega arith))) (λ out. omega (arith, r.no_tickets k (inr (omega arith)))))
      (λ out. omega (arith, r.no_tickets k (inl (omega arith))))

  busy_tickets : (s : St) (r : Rule s) (j : ℕ) (v : View E B) → get_elem? s.views j ≡ some v → busy v ≤ waits_in r.serves v
  busy_tickets s r j v at = busy_ticket r.log r.serves v.phase v.known (r.each j v at)

  one_busy : (s : St) (r : Rule s) → total busy s.views ≤ 1
  one_busy s r = omega (arith, total_below busy (waits_in r.serves) s.views (busy_tickets s r), one_ticket s r r.serves)

  -- a ticket is one of those drawn and not served yet
  in_range : (s : St) (r : Rule s) (k : ℕ) → 1 ≤ total (waits_in k) s.views → (r.serves ≤ k) × (k < r.drawn)
  in_range s r k some_of = dite (dec_le r.serves k)
      (λ lo. dite (dec_le (k + 1) r.drawn) (λ hi. (lo, omega arith)) (λ out. absurd (omega (arith, r.no_tickets k (inr (omega arith)), some_of))))
      (λ out. absurd (omega (arith, r.no_tickets k (inl (omega arith)), some_of)))

  -- the ticket that is found to be served is the seat's own
  is_served : (s : St) (r : Rule s) (id t : ℕ) (k : Known E B) → get_elem? s.views id ≡ some (view (Waiting t) k) → get_or s.words 1 0 ≡ t % 2 ^ 64 → r.serves ≡ t
  is_served s r id t k at e =
      let some_of : 1 ≤ total (waits_in t) s.views = omega (arith, total_part (waits_in t) s.views id (view (Waiting t) k) at, bit_same t t refl) in
      let range = in_range s r t some_of in
      one_turn r.serves t (2 ^ 64) range.0 (omega (arith, range.1, line_fits s r)) (sym (ap (λ ws. get_or ws 1 0) r.words) ∙ e)

  at_home : (s : St) (r : Rule s) (id t : ℕ) (k : Known E B) → get_elem? s.views id ≡ some (view (Waiting t) k) → r.serves ≡ t → total busy s.views ≡ 0
  at_home s r id t k at e = omega (arith, total_less busy (waits_in r.serves) s.views id (view (Waiting t) k) (busy_tickets s r) at (omega (arith, bit_same t r.serves (sym e))), one_ticket s r r.serves)

  pub unmoved : (s : St) (r : Rule s) (i id : ℕ) (v : View E B) (c : List (ℕ × Option M)) → get_elem? s.views id ≡ some v → Rule (stepped s i (get_or s.words i 0) id c v keeps)
  unmoved s r i id v c at = subst (λ (p : List ℕ × List (View E B)). Rule record { words = p.0; homes = s.homes; views = p.1 })
      (λ j. (sym (set-get_or s.words i 0) j, sym (set_again s.views id v at) j)) r

  abbrev Held : Type 0
  Held = List (ℕ × Option M)

  pub looks : (slots id t : ℕ) (k : Known E B) (c : Held) → Allows Rule slots id (view (Waiting t) k, c) 1 (λ n. n) (looked history base_of seat_of (step slots 1 0 0 none) (view (Waiting t) k, c))
  looks slots id t k c s r _ at _ =
      let v : View E B = view (Waiting t) k in
      dite (ℕ_discrete (get_or s.words 1 0) (t % 2 ^ 64))
      (λ hit.
      let served_now = is_served s r id t k at hit in
      let free = at_home s r id t k at served_now in
      let home = subst (Stored history base_of base r.log s.homes) free r.slot in
      let x : M = home.0 in
      let w : View E B = view (Turn t (history x)) k in
      let out_now : total busy (set s.views id w) ≡ 1 = omega (arith, total-set busy s.views id v w at, free) in
      let knows = r.each id v at in (
        w,
        takes 0 (Some x),
        ap (λ hs. get_elem? hs 0) home.1,
        record {
          log = r.log;
          drawn = r.drawn;
          serves = r.serves;
          words = set-get_or s.words 1 0 ∙ r.words;
          line = omega (arith, total-same lines s.views id v w at refl, r.line);
          tickets = λ k' lo hi. total-same (waits_in k') s.views id v w at refl ∙ r.tickets k' lo hi;
          no_tickets = λ k' out. total-same (waits_in k') s.views id v w at refl ∙ r.no_tickets k' out;
          slot = subst (Stored history base_of base r.log (set s.homes 0 none)) (sym out_now) (ap (λ hs. set hs 0 none) home.1);
          each = each_set (λ d. Stands seat_of seats base r.log r.serves d.phase d.known) s.views id w (knows, sym served_now, home.2) (λ j d _ e. r.each j d e);
          longest = seen_kept r.log s.views id v w at refl r.longest;
          few = r.few;
          shared = total-same rooms s.views id v w at refl ∙ r.shared;
          once = λ n lt. total-same (copies n) s.views id v w at refl ∙ r.once n lt;
          none_above = λ n le. total-same (copies n) s.views id v w at refl ∙ r.none_above n le;
          no_more = r.no_more;
        },
        (
          (λ _. record {
            machine = x;
            out = refl;
            turn = refl;
            based = knows.based ∙ ap Some (sym home.3);
            seen = subst (IsPrefix k.seen) (sym home.2) knows.seen;
            own = knows.listed.0 ∙ ap (entries_of seat_of k.number) (sym home.2);
          }),
          (λ ne. absurd (ne hit)),
        ),
      ))
      (λ miss. (v, keeps, tt, unmoved s r 1 id v c at, ((λ e. absurd (miss e)), (λ _. refl))))

  stored_out : (log log' : List E) (homes : List (Maybe (Option M))) (n : ℕ) → 1 ≤ n → Stored history base_of base log homes n → Stored history base_of base log' homes n
  stored_out log log' homes zero out h = absurd (omega arith)
  stored_out log log' homes (suc n) out h = h

  homes_out : (log : List E) (homes : List (Maybe (Option M))) (n : ℕ) → 1 ≤ n → Stored history base_of base log homes n → homes ≡ none ∷ []
  homes_out log homes zero out h = absurd (omega arith)
  homes_out log homes (suc n) out h = h

  -- the number of a seat is below `seats`, and no other seat has it
  number_below : (s : St) (r : Rule s) (n : ℕ) → 1 ≤ total (copies n) s.views → n < seats
  number_below s r n some_of = dite (dec_le (n + 1) seats) (λ lo. omega arith) (λ out. absurd (omega (arith, r.none_above n (omega arith), some_of)))

  pub number_once : (s : St) (r : Rule s) (n : ℕ) → total (copies n) s.views ≤ 1
  number_once s r n = dite (dec_le (n + 1) seats) (λ lo. omega (arith, r.once n (omega arith))) (λ out. omega (arith, r.none_above n (omega arith)))

  -- another seat's view holds after one more entry
  module _ (log : List E) (e : E) where
    knows_more : (serves : ℕ) (k : Known E B) → times (seat_of e) (numbers (shares k)) ≡ 0 → Knows seat_of seats base log serves k → Knows seat_of seats base (log ++ e ∷ []) serves k
    knows_more serves k none_of h = record {
      sized = h.sized;
      based = h.based;
      seen = prefix_trans k.seen log (log ++ e ∷ []) h.seen (e ∷ [], refl);
      merged = h.merged;
      own = h.own;
      listed = listed_more seat_of log e (shares k) none_of h.listed;
      spare = h.spare;
    }

    stands_more : (serves : ℕ) (p : Phase E) (k : Known E B) → serving p ≡ 0 → times (seat_of e) (numbers (held p k)) ≡ 0 → Stands seat_of seats base log serves p k → Stands seat_of seats base (log ++ e ∷ []) serves p k
    stands_more serves Idle k idle none_of h = knows_more serves k none_of h
    stands_more serves (Waiting t) k idle none_of h = knows_more serves k none_of h
    stands_more serves (Turn t found) k idle none_of h = absurd (omega (arith, idle))
    stands_more serves (Committed t) k idle none_of h = absurd (omega (arith, idle))
    stands_more serves Spent k idle none_of h = tt

  stands_on : (log : List E) (serves : ℕ) (p : Phase E) (k : Known E B) → serving p ≡ 0 → Stands seat_of seats base log serves p k → Stands seat_of seats base log (serves + 1) p k
  stands_on log serves Idle k idle h = record { sized = h.sized; based = h.based; seen = h.seen; merged = h.merged; own = h.own; listed = h.listed; spare = h.spare }
  stands_on log serves (Waiting t) k idle h = record { sized = h.sized; based = h.based; seen = h.seen; merged = h.merged; own = h.own; listed = h.listed; spare = h.spare }
  stands_on log serves (Turn t found) k idle h = absurd (omega (arith, idle))
  stands_on log serves (Committed t) k idle h = absurd (omega (arith, idle))
  stands_on log serves Spent k idle h = tt

  alone : (s : St) (r : Rule s) (id : ℕ) (v : View E B) → get_elem? s.views id ≡ some v → busy v ≡ 1 → (j : ℕ) (d : View E B) → j ≢ id → get_elem? s.views j ≡ some d → serving d.phase ≡ 0
  alone s r id v at one j d ne there = omega (arith, total_parts busy s.views id j v d (λ e. ne (sym e)) at there, one_busy s r, one)

  pub commits : (slots id t : ℕ) (found : List E) (k : Known E B) (x : M) (c : Held) (e : E) → history x ≡ found ++ e ∷ [] → seat_of e ≡ k.number
      → Allows Rule slots id (view (Turn t found) k, (0, Some x) ∷ c) 2 (λ n. (n + 1) % 2 ^ 64) (committed history seat_of (step slots 2 1 0 none) (view (Turn t found) k, (0, Some x) ∷ c))
  commits slots id t found k x c e grew own s r _ at _ =
      let v : View E B = view (Turn t found) k in
      let w : View E B = commits_to history seat_of (v, (0, Some x) ∷ c) in
      let h = r.each id v at in
      let knows = h.0 in
      let log : List E = r.log ++ e ∷ [] in
      let now : history x ≡ log = grew ∙ ap (λ l. l ++ e ∷ []) h.2 in
      let mine : 1 ≤ copies (seat_of e) v = omega (arith, bit_same k.number (seat_of e) (sym own)) in
      let mine' : 1 ≤ total (copies (seat_of e)) s.views = omega (arith, total_part (copies (seat_of e)) s.views id v at, mine) in
      let once = number_once s r (seat_of e) in
      let below = number_below s r (seat_of e) mine' in
      let others_none : (j : ℕ) (d : View E B) → j ≢ id → get_elem? s.views j ≡ some d → copies (seat_of e) d ≡ 0 =
      λ j d ne there. omega (arith, total_parts (copies (seat_of e)) s.views id j v d (λ is. ne (sym is)) at there, once, mine) in
      let rest_none : times (seat_of e) (numbers (k.ended ++ map (λ n. (n, [])) k.spare)) ≡ 0 = omega (arith, total_part (copies (seat_of e)) s.views id v at, once, bit_same k.number (seat_of e) (sym own)) in
      let busy_now : 1 ≤ total busy (set s.views id w) = omega (arith, total-same busy s.views id v w at refl, total_part busy s.views id v at) in
      let longer : length log ≡ length r.log + 1 = length-append r.log (e ∷ []) in
      let none_from : HasNoneFrom seat_of seats log = λ n le. entries_other seat_of r.log e n (λ is. omega arith) ∙ r.no_more n le in (
        w,
        keeps,
        tt,
        record {
          log = log;
          drawn = r.drawn;
          serves = r.serves;
          words = ap (λ ws. set ws 2 ((get_or ws 2 0 + 1) % 2 ^ 64)) r.words ∙ ap (λ n. r.drawn % 2 ^ 64 ∷ r.serves % 2 ^ 64 ∷ n ∷ []) (mod_up (length r.log) ∙ ap (λ n. n % 2 ^ 64) (sym longer));
          line = omega (arith, total-same lines s.views id v w at refl, r.line);
          tickets = λ k' lo hi. total-same (waits_in k') s.views id v w at refl ∙ r.tickets k' lo hi;
          no_tickets = λ k' out. total-same (waits_in k') s.views id v w at refl ∙ r.no_tickets k' out;
          slot = stored_out r.log log s.homes _ busy_now (subst (Stored history base_of base r.log s.homes) (sym (total-same busy s.views id v w at refl)) r.slot);
          each = each_set (λ d. Stands seat_of seats base log r.serves d.phase d.known) s.views id w (
            record {
              sized = knows.sized;
              based = knows.based;
              seen = subst (λ l. IsPrefix l log) (sym now) (prefix_self log);
              merged = every_behind k.merged k.seen (history x) (subst (IsPrefix k.seen) (sym now) (prefix_trans k.seen r.log log knows.seen (e ∷ [], refl))) knows.merged;
              own = refl;
              listed = (ap (entries_of seat_of k.number) now, listed_more seat_of r.log e _ rest_none knows.listed.1);
              spare = knows.spare;
            },
            h.1,
            now,
          )
              (λ j d ne there. stands_more r.log e r.serves d.phase d.known (alone s r id v at refl j d ne there) (others_none j d ne there) (r.each j d there));
          longest = seen_new _ s.views id v w at now;
          few = r.few;
          shared = total-same rooms s.views id v w at refl ∙ r.shared;
          once = λ n lt. total-same (copies n) s.views id v w at refl ∙ r.once n lt;
          none_above = λ n le. total-same (copies n) s.views id v w at refl ∙ r.none_above n le;
          no_more = none_from;
        },
        (refl, λ n le. ap (entries_of seat_of n) now ∙ none_from n (subst (λ m. m ≤ n) knows.sized le)),
      )

  pub settles : (slots id t : ℕ) (found : List E) (k : Known E B) (x : M) (c : Held) → history x ≡ found
      → Allows Rule slots id (view (Turn t found) k, (0, Some x) ∷ c) 2 (λ n. (n + 0) % 2 ^ 64) (committed history seat_of (step slots 2 0 0 none) (view (Turn t found) k, (0, Some x) ∷ c))
  settles slots id t found k x c same s r _ at _ =
      let v : View E B = view (Turn t found) k in
      let w : View E B = commits_to history seat_of (v, (0, Some x) ∷ c) in
      let h = r.each id v at in
      let knows = h.0 in
      let now : history x ≡ r.log = same ∙ h.2 in (
        w,
        keeps,
        tt,
        record {
          log = r.log;
          drawn = r.drawn;
          serves = r.serves;
          words = ap (λ ws. set ws 2 ((get_or ws 2 0 + 0) % 2 ^ 64)) r.words ∙ ap (λ n. r.drawn % 2 ^ 64 ∷ r.serves % 2 ^ 64 ∷ n ∷ []) (mod_same (length r.log));
          line = omega (arith, total-same lines s.views id v w at refl, r.line);
          tickets = λ k' lo hi. total-same (waits_in k') s.views id v w at refl ∙ r.tickets k' lo hi;
          no_tickets = λ k' out. total-same (waits_in k') s.views id v w at refl ∙ r.no_tickets k' out;
          slot = subst (Stored history base_of base r.log s.homes) (sym (total-same busy s.views id v w at refl)) r.slot;
          each = each_set (λ d. Stands seat_of seats base r.log r.serves d.phase d.known) s.views id w (
            record {
              sized = knows.sized;
              based = knows.based;
              seen = subst (λ l. IsPrefix l r.log) (sym now) (prefix_self r.log);
              merged = every_behind k.merged k.seen (history x) (subst (IsPrefix k.seen) (sym now) knows.seen) knows.merged;
              own = refl;
              listed = (ap (entries_of seat_of k.number) now, knows.listed.1);
              spare = knows.spare;
            },
            h.1,
            now,
          )
              (λ j d ne there. r.each j d there);
          longest = seen_new _ s.views id v w at now;
          few = r.few;
          shared = total-same rooms s.views id v w at refl ∙ r.shared;
          once = λ n lt. total-same (copies n) s.views id v w at refl ∙ r.once n lt;
          none_above = λ n le. total-same (copies n) s.views id v w at refl ∙ r.none_above n le;
          no_more = r.no_more;
        },
        (refl, λ n le. ap (entries_of seat_of n) now ∙ r.no_more n (subst (λ m. m ≤ n) knows.sized le)),
      )

  pub serves_next : (slots id t : ℕ) (k : Known E B) (x : M) (c : Held) → history x ≡ k.seen → k.base ≡ Some (base_of x)
      → Allows Rule slots id (view (Committed t) k, (0, Some x) ∷ c) 1 (λ n. (n + 1) % 2 ^ 64) (served (step slots 1 1 0 none) (view (Committed t) k, (0, Some x) ∷ c))
  serves_next slots id t k x c same based s r _ at _ =
      let v : View E B = view (Committed t) k in
      let w : View E B = view Idle k in
      let h = r.each id v at in
      let knows = h.0 in
      let ours : base_of x ≡ base = cc (based, knows.based) in
      let out : 1 ≤ total busy s.views = total_part busy s.views id v at in
      let free : total busy (set s.views id w) ≡ 0 = omega (arith, total-set busy s.views id v w at, one_busy s r, out) in
      let homes = homes_out r.log s.homes _ out r.slot in
      let some_of : 1 ≤ total lines s.views = total_part lines s.views id v at in
      let range : r.serves + 1 ≤ r.drawn = omega (arith, r.line, some_of) in (
        w,
        gives,
        tt,
        record {
          log = r.log;
          drawn = r.drawn;
          serves = r.serves + 1;
          words = ap (λ ws. set ws 1 ((get_or ws 1 0 + 1) % 2 ^ 64)) r.words ∙ ap (λ n. r.drawn % 2 ^ 64 ∷ n ∷ length r.log % 2 ^ 64 ∷ []) (mod_up r.serves);
          line = omega (arith, total-set lines s.views id v w at, r.line);
          tickets = λ k' lo hi. omega (arith, total-set (waits_in k') s.views id v w at, bit_other t k' (λ is. omega (arith, h.1)), r.tickets k' (omega arith) hi);
          no_tickets = λ k' out'. dite (ℕ_discrete t k')
              (λ is. omega (arith, total-set (waits_in k') s.views id v w at, bit_same t k' is, r.tickets k' (omega (arith, h.1)) (omega (arith, h.1))))
              (λ ne. omega (arith, total-set (waits_in k') s.views id v w at, bit_other t k' ne, ⊎_elim (λ lo. r.no_tickets k' (inl (omega (arith, h.1)))) (λ hi. r.no_tickets k' (inr hi)) out'));
          slot = subst (Stored history base_of base r.log (set s.homes 0 (some (Some x)))) (sym free) (x, ap (λ hs. set hs 0 (some (Some x))) homes, same ∙ h.2, ours);
          each = each_set (λ d. Stands seat_of seats base r.log (r.serves + 1) d.phase d.known) s.views id w (stands_on r.log r.serves Idle k refl knows)
              (λ j d ne there. stands_on r.log r.serves d.phase d.known (alone s r id v at refl j d ne there) (r.each j d there));
          longest = seen_kept r.log s.views id v w at refl r.longest;
          few = r.few;
          shared = total-same rooms s.views id v w at refl ∙ r.shared;
          once = λ n lt. total-same (copies n) s.views id v w at refl ∙ r.once n lt;
          none_above = λ n le. total-same (copies n) s.views id v w at refl ∙ r.none_above n le;
          no_more = r.no_more;
        },
        refl,
      )

  abbrev Us : Type 0
  Us = Me (Option M) (View E B)

  -- the same, at a seat of which these facts are known
  pub draws_as : (slots id : ℕ) (me : Us) → me.0.phase ≡ Idle → Allows Rule slots id me 0 (λ n. (n + 1) % 2 ^ 64) (drew (step slots 0 1 0 none) me)
  draws_as slots id me is = subst (λ (p : Phase E). Allows Rule slots id (view p me.0.known, me.1) 0 (λ n. (n + 1) % 2 ^ 64) (drew (step slots 0 1 0 none) (view p me.0.known, me.1))) (sym is) (draws slots id me.0.known me.1)

  pub looks_as : (slots id t : ℕ) (me : Us) → me.0.phase ≡ Waiting t → Allows Rule slots id me 1 (λ n. n) (looked history base_of seat_of (step slots 1 0 0 none) me)
  looks_as slots id t me is = subst (λ (p : Phase E). Allows Rule slots id (view p me.0.known, me.1) 1 (λ n. n) (looked history base_of seat_of (step slots 1 0 0 none) (view p me.0.known, me.1))) (sym is) (looks slots id t me.0.known me.1)

  pub commits_as : (slots id t : ℕ) (found : List E) (me : Us) (x : M) (e : E) → me.0.phase ≡ Turn t found → me.1 ≡ (0, Some x) ∷ [] → history x ≡ found ++ e ∷ [] → seat_of e ≡ me.0.known.number
      → Allows Rule slots id me 2 (λ n. (n + 1) % 2 ^ 64) (committed history seat_of (step slots 2 1 0 none) me)
  commits_as slots id t found me x e is out grew own = subst (λ (q : Phase E × Held). Allows Rule slots id (view q.0 me.0.known, q.1) 2 (λ n. (n + 1) % 2 ^ 64) (committed history seat_of (step slots 2 1 0 none) (view q.0 me.0.known, q.1)))
      (λ i. (sym is i, sym out i)) (commits slots id t found me.0.known x [] e grew own)

  pub settles_as : (slots id t : ℕ) (found : List E) (me : Us) (x : M) → me.0.phase ≡ Turn t found → me.1 ≡ (0, Some x) ∷ [] → history x ≡ found
      → Allows Rule slots id me 2 (λ n. (n + 0) % 2 ^ 64) (committed history seat_of (step slots 2 0 0 none) me)
  settles_as slots id t found me x is out same = subst (λ (q : Phase E × Held). Allows Rule slots id (view q.0 me.0.known, q.1) 2 (λ n. (n + 0) % 2 ^ 64) (committed history seat_of (step slots 2 0 0 none) (view q.0 me.0.known, q.1)))
      (λ i. (sym is i, sym out i)) (settles slots id t found me.0.known x [] same)

  pub serves_as : (slots id t : ℕ) (me : Us) (x : M) → me.0.phase ≡ Committed t → me.1 ≡ (0, Some x) ∷ [] → history x ≡ me.0.known.seen → me.0.known.base ≡ Some (base_of x)
      → Allows Rule slots id me 1 (λ n. (n + 1) % 2 ^ 64) (served (step slots 1 1 0 none) me)
  serves_as slots id t me x is out same based = subst (λ (q : Phase E × Held). Allows Rule slots id (view q.0 me.0.known, q.1) 1 (λ n. (n + 1) % 2 ^ 64) (served (step slots 1 1 0 none) (view q.0 me.0.known, q.1)))
      (λ i. (sym is i, sym out i)) (serves_next slots id t me.0.known x [] same based)

pub one_out : {S : Type 0} (l : List (ℕ × S)) (x : S) → l ≡ (0, x) ∷ [] → l ≡ (0, x) ∷ rest l
one_out l x e = e ∙ ap (λ c. (0, x) ∷ rest c) (sym e)

pub in_its_place : {S : Type 0} (l : List (ℕ × S)) (x y : S) → l ≡ (0, x) ∷ [] → (0, y) ∷ rest l ≡ (0, y) ∷ []
in_its_place l x y e = ap (λ c. (0, y) ∷ rest c) e

-- where the machine lies in the seat's slot, the seat commits to its history
pub commits_at : {M E B : Type 0} (history : M → List E) (seat_of : E → ℕ) (old now : Me (Option M) (View E B)) (k : ℕ) (found : List E) (x : M) → old.0.phase ≡ Turn k found → old.1 ≡ (0, None) ∷ []
    → now ≡ (old.0, (0, Some x) ∷ rest old.1) → now ≡ (view (Turn k found) old.0.known, (0, Some x) ∷ [])
commits_at history seat_of old now k found x turn out is = is ∙ (λ i. (view (turn i) old.0.known, in_its_place old.1 None (Some x) out i))
