-- The desk opens under its rule, and seats are split and joined under it.
use Rattle.std.proofs.Common.{◌≡◌, ◌⊎◌, ℕ, zero, suc, ◌+◌, ◌-◌, ◌^◌, ◌<◌, ◌≤◌, Bool, true, false, List, [], ◌∷◌, ◌++◌, map, length, set, cond, eqb, ltb, refl, sym, ap, ◌∙◌, subst, inl, inr, ⊎_elim, arith, Option, Some, length-append}
use mathlib.Core.Logic.{dite}
use mathlib.Core.Option.{some, none, some-injective, some-ne-none}
use mathlib.Core.List.{IsPrefix}
use native.Mathlib.Decide.{ℕ_discrete, dec_le}
use borrow.Author.Tests.{ltb-true}
use lib.ListN.{get_elem?}
use Rattle.std.proofs.lemmas.List.{append-nil}
use Rattle.std.proofs.lemmas.List.Elements.{filter-append}
use Rattle.std.proofs.lemmas.List.FromFn.{length-range_with_len}
use Rattle.std.specs.List.{range_with_len}
use Rattle.atomic_table.specs.Table.{State, Me, step, keeps, Allows, Splits, Joins, opening}
use Rattle.atomic_table.proofs.Lists.{at_snoc, at_longer, set_else}
use Rattle.turn_desk.specs.declared.view.Phase.{Phase}
use Rattle.turn_desk.specs.declared.view.Phase.TheVariants.{Idle}
use Rattle.turn_desk.specs.declared.view.Known.{Known}
use Rattle.turn_desk.specs.declared.view.View.{View}
use Rattle.turn_desk.specs.Counts.{total, bit, times, Every}
use Rattle.turn_desk.specs.Entries.{entries_of}
use Rattle.turn_desk.specs.Rule.{Knows, Stands, Stored, Ruled}
use Rattle.turn_desk.specs.Steps.{told}
use Rattle.turn_desk.specs.Views.{IsSpare, first_of, others, view, shares, IsSeen, first_view, left, right, both, spent}
use Rattle.turn_desk.proofs.Prefixes.{prefix_self, prefix_shorter, prefix_whole, prefix_length}
use Rattle.turn_desk.proofs.Totals.{total-set, total-append, total_part, total_parts, total-same, bit_same, bit_other}
use Rattle.turn_desk.proofs.Keeps.{each_set, set_at, waits_in, lines, busy, seen_kept, rooms, copies, number_once, unmoved}
use Rattle.turn_desk.proofs.Shares.{blank, blanks-append, every_append, every_back, every_blank, every_front, last_in, length_joined, length_shares, ne_ltb, no_earlier, run_has, run_lacks, spare_rest, times_held, times_joined, times_shares}

module _ {M E B : Type 0} (history : M → List E) (base_of : M → B) (seat_of : E → ℕ) (seats : ℕ) (base : B) where
  abbrev Rule : State (Option M) (View E B) → Type 0
  Rule = Ruled history base_of seat_of seats base

  abbrev Held : Type 0
  Held = List (ℕ × Option M)

  first_spare : 1 ≤ seats → IsSpare seats (range_with_len 1 (seats - 1))
  first_spare some_of = let len = length-range_with_len 1 (seats - 1) in
      let a : 1 ≡ seats - length (range_with_len 1 (seats - 1)) = omega (arith, len) in λ i. range_with_len (a i) (sym len i)

  first_knows : 1 ≤ seats → Knows seat_of seats base [] 0 (first_view seats base).known
  first_knows some_of = record { sized = refl; based = refl; seen = prefix_self []; merged = tt; own = refl; listed = (refl, every_blank seat_of (range_with_len 1 (seats - 1))); spare = first_spare some_of }

  pub opens : (x : M) → history x ≡ [] → base_of x ≡ base → 1 ≤ seats → seats < 2 ^ 32 → Rule (opening (0 ∷ 0 ∷ 0 ∷ []) (Some x ∷ []) (first_view seats base))
  opens x fresh ours some_of few = let k = (first_view {E = E} seats base).known in record {
    log = [];
    drawn = 0;
    serves = 0;
    words = refl;
    line = refl;
    tickets = λ k' lo hi. absurd (omega arith);
    no_tickets = λ k' out. refl;
    slot = (x, refl, fresh, ours);
    each = one;
    longest = (0, first_view seats base, refl, refl);
    few = few;
    shared = omega (arith, length_shares {E = E} {B = B} (first_view seats base).known, length-range_with_len 1 (seats - 1));
    once = λ n lt. dite (ℕ_discrete 0 n)
        (λ e. omega (arith, times_shares {E = E} {B = B} n (first_view seats base).known, bit_same 0 n e, run_lacks n 1 (seats - 1) (inl (omega arith))))
        (λ ne. omega (arith, times_shares {E = E} {B = B} n (first_view seats base).known, bit_other 0 n ne, run_has n 1 (seats - 1) (omega arith) (omega arith)));
    none_above = λ n le. omega (arith, times_shares {E = E} {B = B} n (first_view seats base).known, bit_other 0 n (λ e. omega arith), run_lacks n 1 (seats - 1) (inr (omega arith)));
    no_more = λ n le. refl;
  }
    where
      one : (j : ℕ) (v : View E B) → get_elem? (first_view seats base ∷ []) j ≡ some v → Stands seat_of seats base [] 0 v.phase v.known
      one zero v e = subst (λ (u : View E B). Stands seat_of seats base [] 0 u.phase u.known) (some-injective _ _ e) (first_knows some_of)
      one (suc j) v e = absurd (some-ne-none v (sym e))

  pub tells : (slots id : ℕ) (k : Known E B) (c : Held) → Allows Rule slots id (view Idle k, c) 0 (λ n. n) (told seat_of (step slots 0 0 0 none) (view Idle k, c))
  tells slots id k c s r _ at _ = let knows = r.each id (view Idle k) at in (
    view Idle k,
    keeps,
    tt,
    unmoved history base_of seat_of seats base s r 0 id (view Idle k) c at,
    record {
      same = refl;
      own = knows.own;
      merged = knows.merged;
      spare = subst (λ n. IsSpare n k.spare) (sym knows.sized) knows.spare;
      room = omega (arith, total_part rooms s.views id (view Idle k) at, r.shared, knows.sized);
      few = omega (arith, r.few, knows.sized);
      apart = λ n. (
        omega (arith, times_held n k, total_part (copies n) s.views id (view Idle k) at, number_once history base_of seat_of seats base s r n),
        λ le. omega (arith, times_held n k, total_part (copies n) s.views id (view Idle k) at, r.none_above n (omega (arith, le, knows.sized))),
      );
    },
  )

  pub tells_as : (slots id : ℕ) (me : Me (Option M) (View E B)) → me.0.phase ≡ Idle → Allows Rule slots id me 0 (λ n. n) (told seat_of (step slots 0 0 0 none) me)
  tells_as slots id me is = subst (λ (p : Phase E). Allows Rule slots id (view p me.0.known, me.1) 0 (λ n. n) (told seat_of (step slots 0 0 0 none) (view p me.0.known, me.1))) (sym is) (tells slots id me.0.known me.1)

  pub splits : (id : ℕ) (k : Known E B) (n : ℕ) (ns : List ℕ) → k.spare ≡ n ∷ ns → Splits Rule id (view Idle k) (left (view Idle k)) (right (view Idle k))
  splits id k n ns is s r at =
      let v : View E B = view Idle k in
      let l : View E B = left v in
      let w : View E B = right v in
      let vs : List (View E B) = set s.views id l in
      let knows = r.each id v at in
      let rest : l.known.spare ≡ ns = ap others is in
      let head : w.known.number ≡ n = ap first_of is in
      let len : length k.spare ≡ suc (length ns) = ap length is in
      let fits : suc (length ns) ≤ seats = omega (arith, length_shares k, total_part rooms s.views id v at, r.shared, len) in
      let tail = spare_rest seats n ns fits (subst (IsSpare seats) is knows.spare) in
      let blanks : map (blank {E = E}) k.spare ≡ blank n ∷ map blank ns = ap (map blank) is in
      let listed : Every (λ p. p.1 ≡ entries_of seat_of p.0 r.log) (map blank k.spare) = every_back _ k.ended (map blank k.spare) knows.listed.1 in
      let spared : Every (λ p. p.1 ≡ entries_of seat_of p.0 r.log) (blank n ∷ map blank ns) = subst (Every (λ p. p.1 ≡ entries_of seat_of p.0 r.log)) blanks listed in
      let room : rooms l + 1 ≡ rooms v = omega (arith, length_shares l.known, length_shares k, ap length rest, len) in
      let copy : (m : ℕ) → copies m l + copies m w ≡ copies m v = λ m.
      omega (arith, times_shares m l.known, times_shares m w.known, times_shares m k, ap (times m) rest, ap (times m) is, ap (λ x. bit (eqb x m)) head) in
      record {
        log = r.log;
        drawn = r.drawn;
        serves = r.serves;
        words = r.words;
        line = omega (arith, total-append lines vs (w ∷ []), total-same lines s.views id v l at refl, r.line);
        tickets = λ k' lo hi. omega (arith, total-append (waits_in k') vs (w ∷ []), total-same (waits_in k') s.views id v l at refl, r.tickets k' lo hi);
        no_tickets = λ k' out. omega (arith, total-append (waits_in k') vs (w ∷ []), total-same (waits_in k') s.views id v l at refl, r.no_tickets k' out);
        slot = let same : total busy (vs ++ w ∷ []) ≡ total busy s.views = omega (arith, total-append busy vs (w ∷ []), total-same busy s.views id v l at refl) in
            subst (Stored history base_of base r.log s.homes) (sym same) r.slot;
        each = λ j d there. ⊎_elim
            (λ old. each_set (λ (u : View E B). Stands seat_of seats base r.log r.serves u.phase u.known) s.views id l
            (record {
              sized = knows.sized;
              based = knows.based;
              seen = knows.seen;
              merged = knows.merged;
              own = knows.own;
              listed = (
                knows.listed.0,
                every_append _ k.ended (map blank l.known.spare) (every_front _ k.ended (map blank k.spare) knows.listed.1)
                    (subst (λ x. Every (λ p. p.1 ≡ entries_of seat_of p.0 r.log) (map blank x)) (sym rest) spared.1),
              );
              spare = subst (IsSpare seats) (sym rest) tail.0;
            })
            (λ i u _ e. r.each i u e) j d old)
            (λ (new : w ≡ d). subst (λ (u : View E B). Stands seat_of seats base r.log r.serves u.phase u.known) new
            (let none_yet : [] ≡ entries_of seat_of w.known.number r.log = subst (λ x. [] ≡ entries_of seat_of x r.log) (sym head) spared.0 in record {
              sized = knows.sized;
              based = knows.based;
              seen = knows.seen;
              merged = tt;
              own = no_earlier seat_of w.known.number k.seen r.log knows.seen none_yet;
              listed = (none_yet, tt);
              spare = refl;
            }))
            (at_snoc vs w d j there);
        longest = let h = seen_kept r.log s.views id v l at refl r.longest in (h.0, h.1, at_longer vs (w ∷ []) h.0 h.1 h.2, h.3);
        few = r.few;
        shared = omega (arith, total-append rooms vs (w ∷ []), total-set rooms s.views id v l at, room, r.shared);
        once = λ m lt. omega (arith, total-append (copies m) vs (w ∷ []), total-set (copies m) s.views id v l at, copy m, r.once m lt);
        none_above = λ m le. omega (arith, total-append (copies m) vs (w ∷ []), total-set (copies m) s.views id v l at, copy m, r.none_above m le);
        no_more = r.no_more;
      }

  pub splits_as : (id : ℕ) (v : View E B) → v.phase ≡ Idle → 0 < length v.known.spare → Splits Rule id v (left v) (right v)
  splits_as id v is some_of = subst (λ (p : Phase E). Splits Rule id (view p v.known) (left (view p v.known)) (right (view p v.known))) (sym is) (cut v.known.spare refl some_of)
    where
      cut : (ns : List ℕ) → v.known.spare ≡ ns → 0 < length ns → Splits Rule id (view Idle v.known) (left (view Idle v.known)) (right (view Idle v.known))
      cut [] e lt = absurd (omega arith)
      cut (n ∷ ns) e lt = splits id v.known n ns e

  nil_from_length : {A : Type 0} (xs : List A) → length xs ≡ 0 → xs ≡ []
  nil_from_length [] e = refl
  nil_from_length (x ∷ xs) e = absurd (omega arith)

  entries-append : (n : ℕ) (xs ys : List E) → entries_of seat_of n (xs ++ ys) ≡ entries_of seat_of n xs ++ entries_of seat_of n ys
  entries-append n xs ys = filter-append (λ (e : E). eqb (seat_of e) n) xs ys

  -- a seat's entries are the same at a history between two at which they are the same
  same_between : (n : ℕ) (xs ys zs : List E) → IsPrefix xs ys → IsPrefix ys zs → entries_of seat_of n xs ≡ entries_of seat_of n zs → entries_of seat_of n xs ≡ entries_of seat_of n ys
  same_between n xs ys zs p q e =
      let a : entries_of seat_of n ys ≡ entries_of seat_of n xs ++ entries_of seat_of n p.0 = ap (entries_of seat_of n) (sym p.1) ∙ entries-append n xs p.0 in
      let b : entries_of seat_of n zs ≡ entries_of seat_of n ys ++ entries_of seat_of n q.0 = ap (entries_of seat_of n) (sym q.1) ∙ entries-append n ys q.0 in
      let none_of : entries_of seat_of n p.0 ≡ [] = nil_from_length (entries_of seat_of n p.0)
      (omega (arith, ap length a, ap length b, ap length e, length-append (entries_of seat_of n xs) (entries_of seat_of n p.0), length-append (entries_of seat_of n ys) (entries_of seat_of n q.0))) in
      sym (a ∙ (ap (λ l. entries_of seat_of n xs ++ l) none_of ∙ append-nil (entries_of seat_of n xs)))

  longer_seen : (log : List E) (serves : ℕ) (k l : Known E B) → Knows seat_of seats base log serves k → Knows seat_of seats base log serves l → (b : Bool) → ltb (length k.seen) (length l.seen) ≡ b
      → IsPrefix (cond b l.seen k.seen) log × (k.mine ≡ entries_of seat_of k.number (cond b l.seen k.seen))
  longer_seen log serves k l hk hl false is = (hk.seen, hk.own)
  longer_seen log serves k l hk hl true is = (
    hl.seen,
    hk.own ∙ same_between k.number k.seen l.seen log (prefix_shorter k.seen l.seen log hk.seen hl.seen (omega (arith, ltb-true (length k.seen) (length l.seen) is))) hl.seen (sym hk.own ∙ hk.listed.0),
  )

  -- the longer of two beginnings of one history begins with either
  longer_begins : (log k l : List E) → IsPrefix k log → IsPrefix l log → (b : Bool) → ltb (length k) (length l) ≡ b → IsPrefix k (cond b l k) × IsPrefix l (cond b l k)
  longer_begins log k l pk pl true is = (prefix_shorter k l log pk pl (omega (arith, ltb-true (length k) (length l) is)), prefix_self l)
  longer_begins log k l pk pl false is = (prefix_self k, prefix_shorter l k log pl pk (dite (dec_le (length l) (length k)) (λ le. le) (λ lt. absurd (ne_ltb (length k) (length l) (omega arith) is))))

  longer_is : (log k l : List E) → IsPrefix k log → IsPrefix l log → (k ≡ log) ⊎ (l ≡ log) → (b : Bool) → ltb (length k) (length l) ≡ b → cond b l k ≡ log
  longer_is log k l pk pl top true is = ⊎_elim (λ (e : k ≡ log). absurd (omega (arith, ltb-true (length k) (length l) is, prefix_length l log pl, ap length e))) (λ (e : l ≡ log). e) top
  longer_is log k l pk pl top false is = ⊎_elim (λ (e : k ≡ log). e)
      (λ (e : l ≡ log). prefix_whole k log pk (dite (dec_le (length log) (length k)) (λ le. le) (λ lt. absurd (ne_ltb (length k) (length l) (omega (arith, ap length e)) is)))) top

  seen_both : (log : List E) (serves : ℕ) (vs : List (View E B)) (id : ℕ) (k : Known E B) (other : ℕ) (l : Known E B) → Knows seat_of seats base log serves k → Knows seat_of seats base log serves l
      → get_elem? vs id ≡ some (view Idle k) → get_elem? vs other ≡ some (view Idle l) → (other ≡ id → ⊥) → IsSeen log vs → IsSeen log (set (set vs id (both (view Idle k) (view Idle l))) other spent)
  seen_both log serves vs id k other l hk hl at at' apart h =
      let b : View E B = both (view Idle k) (view Idle l) in
      let there : get_elem? (set (set vs id b) other spent) id ≡ some b = set_else (set vs id b) other id spent (λ e. apart (sym e)) ∙ set_at vs id (view Idle k) b at in
      dite (ℕ_discrete h.0 id)
      (λ e. let is : view Idle k ≡ h.1 = some-injective (view Idle k) h.1 (sym at ∙ (ap (get_elem? vs) (sym e) ∙ h.2)) in
      (id, b, there, longer_is log k.seen l.seen hk.seen hl.seen (inl (ap (λ d. d.known.seen) is ∙ h.3)) (ltb (length k.seen) (length l.seen)) refl))
      (λ ne. dite (ℕ_discrete h.0 other)
      (λ e. let is : view Idle l ≡ h.1 = some-injective (view Idle l) h.1 (sym at' ∙ (ap (get_elem? vs) (sym e) ∙ h.2)) in
      (id, b, there, longer_is log k.seen l.seen hk.seen hl.seen (inr (ap (λ d. d.known.seen) is ∙ h.3)) (ltb (length k.seen) (length l.seen)) refl))
      (λ ne'. (h.0, h.1, set_else (set vs id b) other h.0 spent ne' ∙ (set_else vs id h.0 b ne ∙ h.2), h.3)))

  -- two seats with spare numbers would both have the last one
  one_spares : (n : ℕ) (ms ns : List ℕ) → IsSpare n ms → IsSpare n ns → length ms + length ns ≤ n → times (n - 1) ms + times (n - 1) ns ≤ 1 → IsSpare n (ms ++ ns)
  one_spares n [] ns h h' fits once = h'
  one_spares n (m ∷ ms) [] h h' fits once = subst (IsSpare n) (sym (append-nil (m ∷ ms))) h
  one_spares n (m ∷ ms) (x ∷ ns) h h' fits once = absurd (omega (arith, once, has (suc (length ms)) (m ∷ ms) refl (omega arith) h, has (suc (length ns)) (x ∷ ns) refl (omega arith) h'))
    where
      has : (len : ℕ) (xs : List ℕ) → length xs ≡ len → (0 < len) × (len ≤ n) → IsSpare n xs → 1 ≤ times (n - 1) xs
      has zero xs e lt is = absurd (omega (arith, lt.0))
      has (suc len) xs e lt is =
          let a : xs ≡ range_with_len (n - suc len) (suc len) = is ∙ ap (λ k. range_with_len (n - k) k) e in
          let p : n - suc len + len ≡ n - 1 = omega (arith, lt.1) in
          subst (λ ys. 1 ≤ times (n - 1) ys) (sym a) (subst (λ y. 1 ≤ times y (range_with_len (n - suc len) (suc len))) p (last_in (n - suc len) len))

  pub joins : (id : ℕ) (k : Known E B) (other : ℕ) (l : Known E B) → Joins Rule id (view Idle k) other (view Idle l) (both (view Idle k) (view Idle l)) spent
  joins id k other l s r at apart there =
      let v : View E B = view Idle k in
      let w : View E B = view Idle l in
      let b : View E B = both v w in
      let vs : List (View E B) = set s.views id b in
      let there' : get_elem? s.views other ≡ some w = sym (set_else s.views id other b apart) ∙ there in
      let hk = r.each id v at in
      let hl = r.each other w there' in
      let seen = longer_seen r.log r.serves k l hk hl (ltb (length k.seen) (length l.seen)) refl in
      let behind = longer_begins r.log k.seen l.seen hk.seen hl.seen (ltb (length k.seen) (length l.seen)) refl in
      let listed : Every (λ p. p.1 ≡ entries_of seat_of p.0 r.log) (shares b.known) = (
        hk.listed.0,
        every_append _ (k.ended ++ (l.number, l.mine) ∷ l.ended) (map blank (k.spare ++ l.spare))
            (every_append _ k.ended ((l.number, l.mine) ∷ l.ended) (every_front _ k.ended (map blank k.spare) hk.listed.1) (hl.listed.0, every_front _ l.ended (map blank l.spare) hl.listed.1))
            (subst (Every (λ p. p.1 ≡ entries_of seat_of p.0 r.log)) (sym (blanks-append k.spare l.spare))
            (every_append _ (map blank k.spare) (map blank l.spare) (every_back _ k.ended (map blank k.spare) hk.listed.1) (every_back _ l.ended (map blank l.spare) hl.listed.1))),
      ) in
      let fits : rooms v + rooms w ≤ seats = omega (arith, total_parts rooms s.views id other v w (λ e. apart (sym e)) at there', r.shared) in
      let last_once : times (seats - 1) k.spare + times (seats - 1) l.spare ≤ 1 =
      omega (arith, total_parts (copies (seats - 1)) s.views id other v w (λ e. apart (sym e)) at there', r.once (seats - 1) (omega (arith, length_shares k)), times_shares (seats - 1) k, times_shares (seats - 1) l) in
      record {
        log = r.log;
        drawn = r.drawn;
        serves = r.serves;
        words = r.words;
        line = omega (arith, total-set lines s.views id v b at, total-set lines vs other w spent there, r.line);
        tickets = λ k' lo hi. omega (arith, total-set (waits_in k') s.views id v b at, total-set (waits_in k') vs other w spent there, r.tickets k' lo hi);
        no_tickets = λ k' out. omega (arith, total-set (waits_in k') s.views id v b at, total-set (waits_in k') vs other w spent there, r.no_tickets k' out);
        slot = let same : total busy (set vs other spent) ≡ total busy s.views = omega (arith, total-set busy s.views id v b at, total-set busy vs other w spent there) in
            subst (Stored history base_of base r.log s.homes) (sym same) r.slot;
        each = each_set (λ (u : View E B). Stands seat_of seats base r.log r.serves u.phase u.known) vs other spent tt
            (λ j d _ e. each_set (λ (u : View E B). Stands seat_of seats base r.log r.serves u.phase u.known) s.views id b
            (record {
              sized = hk.sized;
              based = hk.based;
              seen = seen.0;
              merged = (behind.0, (behind.1, tt));
              own = seen.1;
              listed = listed;
              spare = one_spares seats k.spare l.spare hk.spare hl.spare (omega (arith, fits, length_shares k, length_shares l)) last_once;
            })
            (λ i u _ h. r.each i u h) j d e);
        longest = seen_both r.log r.serves s.views id k other l (hk) (hl) at there' apart r.longest;
        few = r.few;
        shared = omega (arith, total-set rooms s.views id v b at, total-set rooms vs other w spent there, length_joined k l, r.shared);
        once = λ m lt. omega (arith, total-set (copies m) s.views id v b at, total-set (copies m) vs other w spent there, times_joined m k l, r.once m lt);
        none_above = λ m le. omega (arith, total-set (copies m) s.views id v b at, total-set (copies m) vs other w spent there, times_joined m k l, r.none_above m le);
        no_more = r.no_more;
      }

  pub joins_as : (id : ℕ) (v : View E B) (other : ℕ) (w : View E B) → v.phase ≡ Idle → w.phase ≡ Idle → Joins Rule id v other w (both v w) spent
  joins_as id v other w is is' = subst (λ (p : Phase E × Phase E). Joins Rule id (view p.0 v.known) other (view p.1 w.known) (both (view p.0 v.known) (view p.1 w.known)) spent)
      (λ i. (sym is i, sym is' i)) (joins id v.known other w.known)
