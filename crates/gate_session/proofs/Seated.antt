-- Lanes at their posts, one after another.
use Rattle.std.proofs.Common.{◌≡◌, ◌≢◌, ℕ, zero, suc, ◌+◌, ◌<◌, ◌≤◌, List, [], ◌∷◌, ◌++◌, length, map, All, Option, Some, None, IfSome, MatchOption, get_or, drop, take, ⊎_elim, append_assoc, ap, sym, ◌∙◌, subst, refl, arith}
use Rattle.std.specs.List.{range_with_len}
use Rattle.turn_desk.specs.Views.{first_of, others}
use Rattle.std.proofs.lemmas.List.{map-append}
use mathlib.Core.List.{IsPrefix}
use Rattle.book_rules.specs.History.{Base}
use Rattle.book_rules.specs.declared.events.Entry.{Entry}
use Rattle.gate_serve.specs.Serving.{seat_of}
use Rattle.gate_session.specs.Posts.{Seat, PostFacts, IsOpen, IsReady, Served, WasServed, EachTo, IsFresh, AreSeated, IsBack, share_of}
use Rattle.gate_session.specs.Sessions.{LaneDid, LanesDid, Session}
use Rattle.gate_session.proofs.Histories.{lane_did}
use Rattle.gate_walk.specs.Acts.{entries_of}
use Rattle.gate_walk.specs.declared.ended.LaneEnd.{LaneEnd}
use Rattle.outside_core.specs.Told.{LaneTold}
use Rattle.turn_desk.specs.Calls.{TableId, HasItsOwn, first_spare_of}

-- what holds of the elements at each place holds of them one to one
pub each_at : {A : Type 0} (R : A → A → Type 0) (xs ys : List A) → length ys ≡ length xs → ((k : ℕ) (d : A) → k < length xs → R (get_or xs k d) (get_or ys k d)) → EachTo R xs ys
each_at R [] [] len h = tt
each_at R [] (y ∷ ys) len h = absurd (omega (arith, len))
each_at R (x ∷ xs) [] len h = absurd (omega (arith, len))
each_at R (x ∷ xs) (y ∷ ys) len h = (h 0 x (omega arith), each_at R xs ys (omega (arith, len)) (λ k d lt. h (suc k) d (omega (arith, lt))))

pub all_more : {A : Type 0} (P : A → Type 0) (x : A) (xs : List A) → P x → All P xs → All P (x ∷ xs)
all_more P x xs here rest zero d lt = here
all_more P x xs here rest (suc k) d lt = rest k d (omega (arith, lt))

pub all_none : {A : Type 0} (P : A → Type 0) → All P []
all_none P k d lt = absurd (omega (arith, lt))

pub first_of_all : {A : Type 0} (P : A → Type 0) (x : A) (xs : List A) → All P (x ∷ xs) → P x
first_of_all P x xs h = h 0 x (omega arith)

pub others_of_all : {A : Type 0} (P : A → Type 0) (x : A) (xs : List A) → All P (x ∷ xs) → All P xs
others_of_all P x xs h k d lt = h (suc k) d (omega (arith, lt))

-- one lane more at its post
pub seated_more : (desk : TableId) (base : Base) (number : ℕ) (told : List LaneTold) (posts : List PostFacts) (t : LaneTold) (p : PostFacts)
    → AreSeated desk base number told posts → p.told ≡ t → MatchOption p.seat ⊥ (IsFresh desk base (number + length posts)) → AreSeated desk base number (told ++ t ∷ []) (posts ++ p ∷ [])
seated_more desk base number [] [] t p h is fresh = (is, subst (λ n. MatchOption p.seat ⊥ (IsFresh desk base n)) (plus_zero number) fresh, tt)
  where
    plus_zero : (n : ℕ) → n + length {A = PostFacts} [] ≡ n
    plus_zero n = omega arith
seated_more desk base number [] (q ∷ qs) t p h is fresh = absurd h
seated_more desk base number (u ∷ us) [] t p h is fresh = absurd h
seated_more desk base number (u ∷ us) (q ∷ qs) t p h is fresh = (h.0, h.1, seated_more desk base (number + 1) us qs t p h.2 is (subst (λ n. MatchOption p.seat ⊥ (IsFresh desk base n)) (over number (length qs)) fresh))
  where
    over : (n m : ℕ) → n + suc m ≡ n + 1 + m
    over n m = omega arith

-- lanes at their posts whose ports are open can be served
pub are_ready : (desk : TableId) (base : Base) (number : ℕ) (told : List LaneTold) (posts : List PostFacts) → AreSeated desk base number told posts → All IsOpen told → All (IsReady desk) posts
are_ready desk base number [] [] h o = all_none (IsReady desk)
are_ready desk base number [] (q ∷ qs) h o = absurd h
are_ready desk base number (u ∷ us) [] h o = absurd h
are_ready desk base number (u ∷ us) (q ∷ qs) h o =
    all_more (IsReady desk) q qs (record { seat = ready q.seat h.1; is_open = subst IsOpen (sym h.0) (first_of_all IsOpen u us o) }) (are_ready desk base (number + 1) us qs h.2 (others_of_all IsOpen u us o))
  where
    ready : (seat : Option Seat) → MatchOption seat ⊥ (IsFresh desk base number) → MatchOption seat ⊥ (λ s. (s.desk ≡ desk) × HasItsOwn seat_of s × (s.mine ≡ []))
    ready None f = absurd f
    ready (Some s) f = (f.desk_is, subst (λ x. s.mine ≡ own s.number x) (sym f.seen) f.mine, f.mine)
      where
        own : ℕ → List Entry → List Entry
        own n seen = entries_of n seen

-- behind their service, each seat is back at its post, and each lane has an end
pub are_back : (desk : TableId) (base : Base) (number : ℕ) (told : List LaneTold) (posts served : List PostFacts) → AreSeated desk base number told posts → EachTo WasServed posts served → All (IsBack desk) served
are_back desk base number [] [] [] h e = all_none (IsBack desk)
are_back desk base number [] [] (r ∷ rs) h e = absurd e
are_back desk base number [] (q ∷ qs) served h e = absurd h
are_back desk base number (u ∷ us) [] served h e = absurd h
are_back desk base number (u ∷ us) (q ∷ qs) [] h e = absurd e
are_back desk base number (u ∷ us) (q ∷ qs) (r ∷ rs) h e = all_more (IsBack desk) r rs (back q.seat r.seat r.end h.1 e.0) (are_back desk base (number + 1) us qs rs h.2 e.1)
  where
    back : (seat now : Option Seat) (end : Option LaneEnd) → MatchOption seat ⊥ (IsFresh desk base number)
        → MatchOption seat ⊥ (λ s. MatchOption now ⊥ (λ t. MatchOption end ⊥ (λ e. Served s t q.told r.told e))) → IsBack desk (record { told = r.told; seat = now; end = end })
    back None now end f s = absurd f
    back (Some k) None end f s = absurd s
    back (Some k) (Some l) None f s = absurd s
    back (Some k) (Some l) (Some x) f s = record { seat = (s.did.same.0 ∙ f.desk_is, s.did.same.4 ∙ f.ended, s.did.same.5 ∙ f.spare); end = refl }

-- So what the lanes did stands in the closed history.
pub lanes_did : (desk : TableId) (base : Base) (history : List Entry) (number : ℕ) (told : List LaneTold) (posts served : List PostFacts) (ends : List LaneEnd) (seats : List Seat)
    → AreSeated desk base number told posts → EachTo WasServed posts served → map Some ends ≡ map (λ (p : PostFacts). p.end) served → map Some seats ≡ map (λ (p : PostFacts). p.seat) served
    → All (λ (p : ℕ × List Entry). p.1 ≡ entries_of p.0 history) (map share_of seats) → All (λ (s : Seat). IsPrefix s.seen history) seats
    → LanesDid base number told (map (λ (p : PostFacts). p.told) served) ends history
lanes_did desk base history number [] [] [] [] [] h e en se all behind = tt
lanes_did desk base history number [] [] [] (x ∷ xs) seats h e en se all behind = absurd (omega (arith, ap length en))
lanes_did desk base history number [] [] [] [] (s ∷ ss) h e en se all behind = absurd (omega (arith, ap length se))
lanes_did desk base history number [] [] (r ∷ rs) ends seats h e en se all behind = absurd e
lanes_did desk base history number [] (q ∷ qs) served ends seats h e en se all behind = absurd h
lanes_did desk base history number (u ∷ us) [] served ends seats h e en se all behind = absurd h
lanes_did desk base history number (u ∷ us) (q ∷ qs) [] ends seats h e en se all behind = absurd e
lanes_did desk base history number (u ∷ us) (q ∷ qs) (r ∷ rs) [] seats h e en se all behind = absurd (omega (arith, ap length en))
lanes_did desk base history number (u ∷ us) (q ∷ qs) (r ∷ rs) (x ∷ xs) [] h e en se all behind = absurd (omega (arith, ap length se))
lanes_did desk base history number (u ∷ us) (q ∷ qs) (r ∷ rs) (x ∷ xs) (s ∷ ss) h e en se all behind = (
  one q.seat h.1 (subst (λ n. MatchOption q.seat ⊥ (λ k. MatchOption n ⊥ (λ l. MatchOption (Some x) ⊥ (λ y. Served k l u r.told y)))) (head None (map Some ss) (map (λ (p : PostFacts). p.seat) rs) (Some s) r.seat se)
      (subst (λ n. MatchOption q.seat ⊥ (λ k. MatchOption r.seat ⊥ (λ l. MatchOption n ⊥ (λ y. Served k l u r.told y)))) (head None (map Some xs) (map (λ (p : PostFacts). p.end) rs) (Some x) r.end en)
      (subst (λ n. MatchOption q.seat ⊥ (λ k. MatchOption r.seat ⊥ (λ l. MatchOption r.end ⊥ (λ y. Served k l n r.told y)))) h.0 e.0))),
  lanes_did desk base history (number + 1) us qs rs xs ss h.2 e.1 (tail (map Some xs) (map (λ (p : PostFacts). p.end) rs) (Some x) r.end en) (tail (map Some ss) (map (λ (p : PostFacts). p.seat) rs) (Some s) r.seat se)
      (others_of_all (λ (p : ℕ × List Entry). p.1 ≡ entries_of p.0 history) (share_of s) (map share_of ss) all) (others_of_all (λ (k : Seat). IsPrefix k.seen history) s ss behind),
)
  where
    first : {A : Type 0} → A → List A → A
    first d [] = d
    first d (y ∷ ys) = y

    rest : {A : Type 0} → List A → List A
    rest [] = []
    rest (y ∷ ys) = ys

    head : {A : Type 0} (d : A) (xs ys : List A) (x y : A) → x ∷ xs ≡ y ∷ ys → y ≡ x
    head d xs ys x y e = sym (ap (first d) e)

    tail : {A : Type 0} (xs ys : List A) (x y : A) → x ∷ xs ≡ y ∷ ys → xs ≡ ys
    tail xs ys x y e = ap rest e

    one : (seat : Option Seat) → MatchOption seat ⊥ (IsFresh desk base number) → MatchOption seat ⊥ (λ k. Served k s u r.told x) → LaneDid base number u r.told x history
    one None f k = absurd f
    one (Some k) f served = lane_did desk base number k s u r.told x history f served (first_of_all (λ (p : ℕ × List Entry). p.1 ≡ entries_of p.0 history) (share_of s) (map share_of ss) all) (first_of_all (λ (l : Seat). IsPrefix l.seen history) s ss behind)

-- the numbers of the lanes are those from the first on
pub numbers_within : (desk : TableId) (base : Base) (number other : ℕ) (told : List LaneTold) (posts served : List PostFacts) (seats : List Seat)
    → AreSeated desk base number told posts → EachTo WasServed posts served → map Some seats ≡ map (λ (p : PostFacts). p.seat) served → number + length told ≤ other
    → All (λ (p : ℕ × List Entry). p.0 ≢ other) (map share_of seats)
numbers_within desk base number other [] [] [] [] h e se far = all_none (λ (p : ℕ × List Entry). p.0 ≢ other)
numbers_within desk base number other [] [] [] (s ∷ ss) h e se far = absurd (omega (arith, ap length se))
numbers_within desk base number other [] [] (r ∷ rs) seats h e se far = absurd e
numbers_within desk base number other [] (q ∷ qs) served seats h e se far = absurd h
numbers_within desk base number other (u ∷ us) [] served seats h e se far = absurd h
numbers_within desk base number other (u ∷ us) (q ∷ qs) [] seats h e se far = absurd e
numbers_within desk base number other (u ∷ us) (q ∷ qs) (r ∷ rs) [] h e se far = absurd (omega (arith, ap length se))
numbers_within desk base number other (u ∷ us) (q ∷ qs) (r ∷ rs) (s ∷ ss) h e se far =
    all_more (λ (p : ℕ × List Entry). p.0 ≢ other) (share_of s) (map share_of ss) (λ is. differs is)
    (numbers_within desk base (number + 1) other us qs rs ss h.2 e.1 (tail (map Some ss) (map (λ (p : PostFacts). p.seat) rs) (Some s) r.seat se) (omega (arith, far)))
  where
    first : {A : Type 0} → A → List A → A
    first d [] = d
    first d (y ∷ ys) = y

    rest : {A : Type 0} → List A → List A
    rest [] = []
    rest (y ∷ ys) = ys

    tail : {A : Type 0} (xs ys : List A) (x y : A) → x ∷ xs ≡ y ∷ ys → xs ≡ ys
    tail xs ys x y e = ap rest e

    number_in : Option Seat → ℕ
    number_in None = number
    number_in (Some z) = z.number

    number_of : (seat now : Option Seat) (end : Option LaneEnd) → MatchOption seat ⊥ (IsFresh desk base number) → MatchOption seat ⊥ (λ k. MatchOption now ⊥ (λ l. MatchOption end ⊥ (λ y. Served k l q.told r.told y))) → now ≡ Some s → s.number ≡ number
    number_of None now end f k is = absurd f
    number_of (Some k) None end f served is = absurd served
    number_of (Some k) (Some l) None f served is = absurd served
    number_of (Some k) (Some l) (Some y) f served is = ap number_in (sym is) ∙ served.did.same.2 ∙ f.number_is

    here : s.number ≡ number
    here = number_of q.seat r.seat r.end h.1 e.0 (sym (ap (first None) se))

    differs : s.number ≡ other → ⊥
    differs is = omega (arith, far, is, here)

-- what was taken from the front of a list
pub taken_front : {A : Type 0} (xs ys : List A) (x : A) → 0 < length xs → x ≡ get_or xs 0 x → ys ≡ drop 1 xs → xs ≡ x ∷ ys
taken_front [] ys x some is rest = absurd (omega (arith, some))
taken_front (z ∷ zs) ys x some is rest = ap (λ y. y ∷ zs) (sym is) ∙ ap (λ l. x ∷ l) (sym rest)

pub mapped_more : {A B : Type 0} (f : A → B) (all xs ys : List A) (x : A) (done : List B) → map f all ≡ done ++ map f xs → xs ≡ x ∷ ys → map f all ≡ (done ++ f x ∷ []) ++ map f ys
mapped_more f all xs ys x done e is = e ∙ ap (λ l. done ++ map f l) is ∙ sym (append_assoc done (f x ∷ []) (map f ys))

-- the numbers that are left to a seat, where it gives the first away
pub gives_first : (k seat : Seat) (first number left : ℕ) → seat ≡ record k { spare = range_with_len first number } → number ≡ suc left
    → (0 < length seat.spare) × (first_of seat.spare ≡ first) × (others seat.spare ≡ range_with_len (first + 1) left)
gives_first k seat first number left is some =
    let all : seat.spare ≡ first ∷ range_with_len (first + 1) left = ap (λ s. s.spare) is ∙ ap (range_with_len first) some in
    (subst (λ (l : List ℕ). 0 < length l) (sym all) (omega arith), ap first_of all, ap others all)

-- the seat with the first number is fresh, where the first seat has seen nothing
pub fresh_next : (desk : TableId) (base : Base) (k seat new : Seat) (first number left : ℕ) → k.desk ≡ desk → k.base ≡ Some base → k.seen ≡ [] → k.ended ≡ []
    → seat ≡ record k { spare = range_with_len first number } → number ≡ suc left → new ≡ first_spare_of seat → IsFresh desk base first new
fresh_next desk base k seat new first number left at based seen ended is some given = record {
  desk_is = ap (λ s. s.desk) given ∙ ap (λ s. s.desk) is ∙ at;
  number_is = ap (λ s. s.number) given ∙ (gives_first k seat first number left is some).1;
  based = ap (λ s. s.base) given ∙ ap (λ s. s.base) is ∙ based;
  seen = ap (λ s. s.seen) given ∙ ap (λ s. s.seen) is ∙ seen;
  mine = ap (λ s. s.mine) given;
  ended = ap (λ s. s.ended) given;
  spare = ap (λ s. s.spare) given;
}

-- and a lane more is at its post
pub seated_next : (desk : TableId) (told : Option Base) (done : List LaneTold) (posts : List PostFacts) (t : LaneTold) (p : PostFacts) (k seat new : Seat) (number left : ℕ)
    → IfSome told (λ base. AreSeated desk base 1 done posts) → p.told ≡ t → p.seat ≡ Some new → k.desk ≡ desk → k.base ≡ told → k.seen ≡ [] → k.ended ≡ []
    → seat ≡ record k { spare = range_with_len (1 + length posts) number } → number ≡ suc left → new ≡ first_spare_of seat
    → IfSome told (λ base. AreSeated desk base 1 (done ++ t ∷ []) (posts ++ p ∷ []))
seated_next desk None done posts t p k seat new number left h is own at based seen ended seat_is some given = tt
seated_next desk (Some base) done posts t p k seat new number left h is own at based seen ended seat_is some given =
    seated_more desk base 1 done posts t p h is
    (subst (λ o. MatchOption o ⊥ (IsFresh desk base (1 + length posts))) (sym own) (fresh_next desk base k seat new (1 + length posts) number left at based seen ended seat_is some given))

pub seated_none : (desk : TableId) (told : Option Base) (posts : List PostFacts) → posts ≡ [] → IfSome told (λ base. AreSeated desk base 1 [] posts)
seated_none desk None posts is = tt
seated_none desk (Some base) posts is = subst (AreSeated desk base 1 []) (sym is) tt

pub mapped_both : {A B C : Type 0} (f : A → C) (h : B → C) (xs : List A) (ys : List B) (x : A) (y : B) → map f xs ≡ map h ys → f x ≡ h y → map f (xs ++ x ∷ []) ≡ map h (ys ++ y ∷ [])
mapped_both f h xs ys x y e is = map-append f xs (x ∷ []) ∙ ap (λ l. l ++ f x ∷ []) e ∙ ap (λ z. map h ys ++ z ∷ []) is ∙ sym (map-append h ys (y ∷ []))

pub prefix_far : {A : Type 0} (xs ys zs : List A) → IsPrefix xs ys → IsPrefix ys zs → IsPrefix xs zs
prefix_far xs ys zs p q = (p.0 ++ q.0, sym (append_assoc xs p.0 q.0) ∙ ap (λ l. l ++ q.0) p.1 ∙ q.1)

pub all_behind : {A : Type 0} (P : A → Type 0) (xs : List A) (x : A) → All P xs → P x → All P (xs ++ x ∷ [])
all_behind P [] x h here = all_more P x [] here (all_none P)
all_behind P (y ∷ ys) x h here = all_more P y (ys ++ x ∷ []) (first_of_all P y ys h) (all_behind P ys x (others_of_all P y ys h) here)

pub all_by : {A : Type 0} (P Q : A → Type 0) (xs : List A) → ((x : A) → P x → Q x) → All P xs → All Q xs
all_by P Q xs f h k d lt = f (get_or xs k d) (h k d lt)

pub seat_back : (desk : TableId) (p : PostFacts) (own : Seat) → IsBack desk p → p.seat ≡ Some own → (own.desk ≡ desk) × (own.ended ≡ []) × (own.spare ≡ [])
seat_back desk p own back is = subst (λ o. MatchOption o ⊥ (λ (s : Seat). (s.desk ≡ desk) × (s.ended ≡ []) × (s.spare ≡ []))) is back.seat

-- what was written over all of a list is all of it
pub took_all : {A : Type 0} (xs ys : List A) (n : ℕ) → length xs ≡ n → take n (xs ++ ys) ≡ xs
took_all [] ys n e = ap (λ k. take k ys) (sym e)
took_all (x ∷ xs) ys n e = ap (λ k. take k (x ∷ (xs ++ ys))) (sym e) ∙ ap (λ l. x ∷ l) (took_all xs ys (length xs) refl)

pub as_long : {A B C : Type 0} (f : A → C) (h : B → C) (xs : List A) (ys : List B) → map f xs ≡ map h ys → length xs ≡ length ys
as_long f h [] [] e = refl
as_long f h [] (y ∷ ys) e = absurd (omega (arith, ap length e))
as_long f h (x ∷ xs) [] e = absurd (omega (arith, ap length e))
as_long f h (x ∷ xs) (y ∷ ys) e = ap suc (as_long f h xs ys (ap others_in e))
  where
    others_in : {C : Type 0} → List C → List C
    others_in [] = []
    others_in (z ∷ zs) = zs

-- the seat that all were joined into, which made no entry itself, closed the history
pub session_of : (desk : TableId) (base : Base) (told : List LaneTold) (posts served : List PostFacts) (ends : List LaneEnd) (seats : List Seat) (seat : Seat) (history : List Entry)
    → AreSeated desk base 1 told posts → EachTo WasServed posts served → map Some ends ≡ map (λ (p : PostFacts). p.end) served → map Some seats ≡ map (λ (p : PostFacts). p.seat) served
    → seat.ended ≡ map share_of seats → All (λ (s : Seat). IsPrefix s.seen seat.seen) seats → IsPrefix seat.seen history
    → All (λ (p : ℕ × List Entry). p.1 ≡ entries_of p.0 history) seat.ended → seat.mine ≡ entries_of seat.number history
    → ((n : ℕ) → n ≢ seat.number → All (λ (p : ℕ × List Entry). p.0 ≢ n) seat.ended → entries_of n history ≡ []) → seat.number ≡ 0 → seat.mine ≡ []
    → Session base told (map (λ (p : PostFacts). p.told) served) ends history
session_of desk base told posts served ends seats seat history h e en se joined behind seen all own no_others first none = record {
  lanes = lanes_did desk base history 1 told posts served ends seats h e en se (subst (All (λ (p : ℕ × List Entry). p.1 ≡ entries_of p.0 history)) joined all)
      (all_by (λ (s : Seat). IsPrefix s.seen seat.seen) (λ (s : Seat). IsPrefix s.seen history) seats (λ s q. prefix_far s.seen seat.seen history q seen) behind);
  others = λ number out. ⊎_elim
      (λ (zeroth : number ≡ 0). ap (λ n. entries_of n history) (zeroth ∙ sym first) ∙ sym own ∙ none)
      (λ (above : length told < number). no_others number (λ same. zero_above number (same ∙ first) above)
      (subst (All (λ (p : ℕ × List Entry). p.0 ≢ number)) (sym joined) (numbers_within desk base 1 number told posts served seats h e se (next_to number above))))
      out;
}
  where
    zero_above : (number : ℕ) → number ≡ 0 → length told < number → ⊥
    zero_above number is above = omega (arith, is, above)

    next_to : (number : ℕ) → length told < number → 1 + length told ≤ number
    next_to number above = omega (arith, above)
