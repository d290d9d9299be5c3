-- Lines come to one thing, where the same changes are lost.
use Rattle.std.proofs.Common.{◌≡◌, ◌⊎◌, inl, inr, ℕ, ◌+◌, Bool, true, false, List, [], ◌∷◌, ◌++◌, Option, Some, None, Ok, Err, sym, ap, ◌∙◌, append_assoc, append-nil, subst}
use Rattle.book_rules.specs.History.{Base, is_full, reply}
use Rattle.book_rules.specs.declared.events.Entry.{Entry}
use Rattle.book_rules.specs.declared.events.Event.{Event}
use Rattle.book_rules.specs.declared.replies.Reply.{Reply}
use Rattle.script_records.specs.Coding.{is_passed_over}
use Rattle.play_script.specs.Play.{Turn}
use Rattle.play_script.specs.Printed.{reply_line}
use Rattle.play_script.specs.declared.turns.End.{End}
use Rattle.admin_command.specs.Lines.{Asked, asked_in}
use Rattle.admin_command.specs.Administering.{Administers, Came, before, DoesOrNot, GoesOn, IsFull, IsTaken, PassesOrDoes, lost_in}
use Rattle.admin_command.specs.Laws.{LinesComeToOneThing}
use Rattle.admin_command.proofs.Lost.{kept_alike}

-- a history goes on from another
abbrev GoesOnFrom : List Entry → List Entry → Type 0
GoesOnFrom history now = (more : List Entry) × (now ≡ history ++ more)

from_itself : (history now : List Entry) → now ≡ history → GoesOnFrom history now
from_itself history now e = ([], e ∙ sym (append-nil history))

from_both : (history mid now : List Entry) → GoesOnFrom history mid → GoesOnFrom mid now → GoesOnFrom history now
from_both history mid now (m, e) (n, f) = (m ++ n, f ∙ ap (λ h. h ++ n) e ∙ append_assoc history m n)

taken_extends : (base : Base) (history : List Entry) (event : Event) (now : Turn) → IsTaken base history event now ⊎ IsFull base history event now → GoesOnFrom history now.history
taken_extends base history event now (inl (entry, answer, seat, is, answers, now_is)) = (entry ∷ [], ap (λ (t : Turn). t.history) now_is)
taken_extends base history event now (inr (full, now_is)) = from_itself history now.history (ap (λ (t : Turn). t.history) now_is)

asked_extends : (asked : Asked) (base : Base) (number : ℕ) (history : List Entry) (now : Turn) → DoesOrNot base number history asked now → GoesOnFrom history now.history
asked_extends (Ok order) base number history now does = taken_extends base history _ now does
asked_extends (Err fault) base number history now is = from_itself history now.history (ap (λ (t : Turn). t.history) is)

turn_extends : (passed : Bool) (base : Base) (number : ℕ) (history : List Entry) (line : List ℕ) (now : Turn) → PassesOrDoes base number history line passed now → GoesOnFrom history now.history
turn_extends true base number history line now is = from_itself history now.history (ap (λ (t : Turn). t.history) is)
turn_extends false base number history line now does = asked_extends (asked_in line) base number history now does

goes_extends : (ends : Option End) (now : Turn) (Further : Came → Type 0) (came : Came) → ((rest : Came) → Further rest → GoesOnFrom now.history rest.history) → GoesOn ends now Further came → GoesOnFrom now.history came.history
goes_extends None now Further came further (rest, is, came_is) = subst (GoesOnFrom now.history) (sym (ap (λ (c : Came). c.history) came_is)) (further rest is)
goes_extends (Some end) now Further came further is = from_itself now.history came.history (ap (λ (c : Came). c.history) is)

extends : (base : Base) (number : ℕ) (history : List Entry) (lines : List (List ℕ)) (came : Came) → Administers base number history lines came → GoesOnFrom history came.history
extends base number history [] came is = from_itself history came.history (ap (λ (c : Came). c.history) is)
extends base number history (line ∷ lines) came (now, turn, goes) =
    from_both history now.history came.history
    (turn_extends (is_passed_over line) base number history line now turn)
    (goes_extends now.ends now (Administers base (number + 1) now.history lines) came (extends base (number + 1) now.history lines) goes)

-- two lines' ends are alike, where an entry that each of them makes is kept in both or in neither
abbrev AreKeptAlike : List Entry → Turn → Turn → Type 0
AreKeptAlike history first second = (one other : Entry) → first.history ≡ history ++ one ∷ [] → second.history ≡ history ++ other ∷ [] → one.kept ≡ other.kept

same_entry : (one other : Entry) → one.seat ≡ other.seat → one.event ≡ other.event → one.kept ≡ other.kept → one ≡ other
same_entry one other seat event kept =
    ap (λ s. record { seat = s; event = one.event; kept = one.kept }) seat
    ∙ ap (λ (e : Event). record { seat = other.seat; event = e; kept = one.kept }) event
    ∙ ap (λ k. record { seat = other.seat; event = other.event; kept = k }) kept

apart : (b : Bool) → b ≡ true → b ≡ false → ⊥
apart b t f = cc

module _ (base : Base) (history : List Entry) (event : Event) (first second : Turn) where
  both_taken : IsTaken base history event first → IsTaken base history event second → AreKeptAlike history first second → first ≡ second
  both_taken (one, answer, seat, is, answers, first_is) (other, told, place, same, replies, second_is) alike =
      let kept : one.kept ≡ other.kept = alike one other (ap (λ (t : Turn). t.history) first_is) (ap (λ (t : Turn). t.history) second_is) in
      let entry : one ≡ other = same_entry one other (seat ∙ sym place) (is ∙ sym same) kept in
      let answered : answer ≡ told = answers.reply ∙ ap (λ (e : Entry). reply base.opening history e.event e.kept) entry ∙ sym replies.reply in
      first_is
      ∙ ap (λ (e : Entry). record { history = history ++ e ∷ []; text = reply_line answer; ends = None }) entry
      ∙ ap (λ (r : Reply). record { history = history ++ other ∷ []; text = reply_line r; ends = None }) answered
      ∙ sym second_is

  does_alike : IsTaken base history event first ⊎ IsFull base history event first → IsTaken base history event second ⊎ IsFull base history event second → AreKeptAlike history first second → first ≡ second
  does_alike (inl taken) (inl also) alike = both_taken taken also alike
  does_alike (inl (one, answer, seat, is, answers, first_is)) (inr (full, second_is)) alike =
      absurd (apart (is_full base.limits history event) full (ap (is_full base.limits history) (sym is) ∙ answers.room))
  does_alike (inr (full, first_is)) (inl (other, told, place, same, replies, second_is)) alike =
      absurd (apart (is_full base.limits history event) full (ap (is_full base.limits history) (sym same) ∙ replies.room))
  does_alike (inr (full, first_is)) (inr (also, second_is)) alike = first_is ∙ sym second_is

asked_alike : (asked : Asked) (base : Base) (number : ℕ) (history : List Entry) (first second : Turn) → DoesOrNot base number history asked first → DoesOrNot base number history asked second
    → AreKeptAlike history first second → first ≡ second
asked_alike (Ok order) base number history first second one other alike = does_alike base history _ first second one other alike
asked_alike (Err fault) base number history first second one other alike = one ∙ sym other

turns_alike : (passed : Bool) (base : Base) (number : ℕ) (history : List Entry) (line : List ℕ) (first second : Turn) → PassesOrDoes base number history line passed first → PassesOrDoes base number history line passed second
    → AreKeptAlike history first second → first ≡ second
turns_alike true base number history line first second one other alike = one ∙ sym other
turns_alike false base number history line first second one other alike = asked_alike (asked_in line) base number history first second one other alike

-- what follows a line is one thing, where what is carried out behind it is
goes_alike : (ends : Option End) (now : Turn) (Further : Came → Type 0) (first second : Came)
    → ((one other : Came) → Further one → Further other → one.history ≡ first.history → other.history ≡ second.history → one ≡ other)
    → GoesOn ends now Further first → GoesOn ends now Further second → first ≡ second
goes_alike None now Further first second further (one, is, first_is) (other, also, second_is) =
    first_is ∙ ap (before now.text) (further one other is also (sym (ap (λ (c : Came). c.history) first_is)) (sym (ap (λ (c : Came). c.history) second_is))) ∙ sym second_is
goes_alike (Some end) now Further first second further one other = one ∙ sym other

kept_so : (history : List Entry) (now then : Turn) (first second : Came) → GoesOnFrom now.history first.history → GoesOnFrom then.history second.history → lost_in first.history ≡ lost_in second.history
    → AreKeptAlike history now then
kept_so history now then first second (more, first_is) (rest, second_is) lost one other now_is then_is =
    kept_alike 0 history one other more rest
    (ap lost_in (sym (first_is ∙ ap (λ h. h ++ more) now_is ∙ append_assoc history (one ∷ []) more))
    ∙ lost
    ∙ ap lost_in (second_is ∙ ap (λ h. h ++ rest) then_is ∙ append_assoc history (other ∷ []) rest))

pub one_thing : LinesComeToOneThing
one_thing base number history [] first second one other lost = one ∙ sym other
one_thing base number history (line ∷ lines) first second (now, turn, goes) (then, also, follows) lost =
    let now_more = goes_extends now.ends now (Administers base (number + 1) now.history lines) first (extends base (number + 1) now.history lines) goes in
    let then_more = goes_extends then.ends then (Administers base (number + 1) then.history lines) second (extends base (number + 1) then.history lines) follows in
    let same : now ≡ then = turns_alike (is_passed_over line) base number history line now then turn also (kept_so history now then first second now_more then_more lost) in
    goes_alike now.ends now (Administers base (number + 1) now.history lines) first second
    (λ a b is_a is_b from_a from_b. one_thing base (number + 1) now.history lines a b is_a is_b (ap lost_in from_a ∙ lost ∙ ap lost_in (sym from_b)))
    goes
    (subst (λ (t : Turn). GoesOn t.ends t (Administers base (number + 1) t.history lines) second) (sym same) follows)
