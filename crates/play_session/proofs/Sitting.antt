-- The one seat of a play.
use Rattle.std.proofs.Common.{◌≡◌, ◌≢◌, ℕ, List, [], ◌∷◌, ◌++◌, Option, Some, None, IfSome, refl, sym, ap, ◌∙◌, subst}
use Rattle.backend_core.specs.Script.{BackendFacts}
use Rattle.backend_core.specs.declared.outcome.Outcome.{Outcome}
use Rattle.book_core.specs.Books.{Refuses}
use Rattle.book_rules.specs.History.{Base, Answers}
use Rattle.book_rules.specs.declared.events.Entry.{Entry}
use Rattle.book_rules.specs.declared.events.Event.{Event}
use Rattle.book_rules.specs.declared.events.Event.TheVariants.{Leave}
use Rattle.gate_serve.specs.Serving.{Asked, BackendTold, Did}
use Rattle.gate_walk.specs.Acts.{Act, Draws, Stand, given_to, sent_by}
use Rattle.gate_walk.specs.Stories.{Story, Tells, acts_of}
use Rattle.gate_walk.specs.Told.{ComesTo, faultless}
use Rattle.gate_walk.specs.declared.ended.Ended.{Ended}
use Rattle.gate_walk.specs.declared.ended.Ended.TheVariants.{Memory}
use Rattle.play_session.specs.Sessions.{ConnFacts, IsSeated, seat_of}
use Rattle.turn_desk.specs.Calls.{TableId, SeatFacts, IsSameSeat, HasItsOwn, first_seat}
use Rattle.turn_desk.specs.Entries.{HasNoneFrom, entries_of}
use Rattle.turn_desk.specs.OneSeat.{IsOnly, IsTheOne, seen_by}
use Rattle.turn_desk.proofs.Alone.{all_own, only_of, stays_only}

abbrev pub Seats : Type 0
Seats = SeatFacts Entry Base

abbrev pub event_of : Entry → Event
event_of e = e.event

some_same : {A : Type 0} {x y : A} → Some x ≡ Some y → x ≡ y
some_same e = cc

-- what a backend in memory tells
abbrev pub told_of : BackendFacts → BackendTold
told_of b = record { sent = Some b.sent; given = Some b.given; to_come = Some b.to_come }

-- no entry is of another number
pub first_none : (number : ℕ) → HasNoneFrom seat_of number []
first_none number n le = refl

pub first_seated : (desk : TableId) (base : Base) (seat : Seats) → seat ≡ first_seat desk 1 base → IsSeated desk base (Some seat)
first_seated desk base seat is = subst (λ s. IsSeated desk base (Some s)) (sym is) (
  record { at = refl; one = refl; first = refl; none_ended = refl; none_spare = refl; based = refl; all = refl },
  first_none 1,
)

module _ (desk : TableId) (base : Base) (k l : Seats) (only : IsOnly desk base k) (none : HasNoneFrom seat_of 1 k.seen) where
  pub own_of : HasItsOwn seat_of k
  own_of = only.all ∙ sym (all_own seat_of k.seen none) ∙ ap (λ n. entries_of seat_of n k.seen) (sym only.first)

  none_before : HasNoneFrom seat_of k.seats k.seen
  none_before = subst (λ n. HasNoneFrom seat_of n k.seen) (sym only.one) none

  none_after : IsSameSeat k l → HasNoneFrom seat_of l.seats l.seen → HasNoneFrom seat_of 1 l.seen
  none_after same after = subst (λ n. HasNoneFrom seat_of n l.seen) (same.1 ∙ only.one) after

  -- it stays the only one
  pub stays_seated : IsSameSeat k l → HasItsOwn seat_of l → HasNoneFrom seat_of l.seats l.seen → IsSeated desk base (Some l)
  stays_seated same own after = (stays_only seat_of event_of Answers Refuses desk base k l (Leave 0 None) only same own after, none_after same after)

  pub did_seated : (acts : List Act) → Did k l acts → IsSeated desk base (Some l)
  did_seated acts did = stays_seated did.same did.own (did.none_from none_before)

  -- what it did on a connection
  pub comes_to : (moment word : ℕ) (script : List Outcome) (before after : ConnFacts) (first last : BackendFacts) (ended : Ended) (story : Story) → Did k l (acts_of story)
      → Asked (told_of first) (told_of last) (acts_of story)
      → Tells (Some moment) (Some word) (faultless before.left before.written) (faultless after.left after.written) ended story → before.written ≡ [] → first.sent ≡ [] → first.to_come ≡ script → ended ≢ Memory
      → ComesTo base 0 moment word k.seen before.left script (record { history = l.seen; sent = last.sent; written = after.written; ended = ended })
  comes_to moment word script before after first last ended story did asked tells unwritten unsent come ample = record {
    story = story;
    sends = some_same (asked.sends ∙ ap (λ l. Some (l ++ sent_by (acts_of story))) unsent);
    to_come = asked.draws.0;
    draws = subst (λ s. Draws s (given_to (acts_of story)) asked.draws.0) come asked.draws.2;
    left = after.left;
    tells = subst (λ w. Tells (Some moment) (Some word) (faultless before.left w) (faultless after.left after.written) ended story) unwritten tells;
    stands = subst (λ n. Stand base n k.seen (acts_of story) l.seen) only.first (subst (λ b. IfSome b (λ x. Stand x k.number k.seen (acts_of story) l.seen)) only.based did.stand);
    alone = all_own seat_of l.seen (none_after did.same (did.none_from none_before));
    ample = ample;
  }

-- the seat that is there
pub seated : (desk : TableId) (base : Base) (held : Option Seats) (seat : Seats) → held ≡ Some seat → IsSeated desk base held → IsSeated desk base (Some seat)
seated desk base held seat is h = subst (IsSeated desk base) is h
