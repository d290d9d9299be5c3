-- What is asked for, the input and the files come to one outcome, and what is written where the program is cut short is a front of it.
use Rattle.std.proofs.Common.{◌≡◌, ◌<◌, ◌⊎◌, inl, inr, arith, ℕ, ◌+◌, ◌==◌, get_or, Bool, true, false, List, [], ◌∷◌, ◌++◌, codes, Option, Some, None, IsSome, Result, Ok, Err, refl, sym, ap, ◌∙◌, subst, append_assoc}
use Rattle.backend_core.specs.declared.outcome.Outcome.{Outcome as Exchanged}
use Rattle.backend_core.specs.declared.outcome.Outcome.TheVariants as exchanged
use Rattle.book_rules.specs.declared.events.Entry.{Entry}
use Rattle.book_rules.specs.History.{Base}
use Rattle.call_facts.specs.declared.request.WireReply.{WireReply}
use Rattle.http_edge.proofs.ReplyUnique.{reply_unique}
use Rattle.http_edge.specs.Replies.{IsReply}
use Rattle.http_framing.specs.declared.fault.EdgeFault.{EdgeFault}
use Rattle.gate_walk.specs.Told.{ComesToOneThing}
use Rattle.play_script.specs.Calls.{HasStatus, IsWhole, IsOther, IsNoWhole, IsNoReply, IsOutcome, IsNoOutcome, AreOutcomes, BreaksOutcomes}
use Rattle.script_records.specs.Coding.{is_passed_over}
use Rattle.command_words.specs.declared.commands.Command.TheVariants.{Play, Load}
use Rattle.gateway_cli.specs.Commands.{Outcome, OutcomeFront, HasOneOutcome, FrontsAreOfTheOutcome}
use Rattle.load_command.specs.Loading.{Behind, GoesOn as LoadGoesOn, LoadedFront, LoadedWithin, Loads, load_lines, told_by}
use Rattle.play_script.specs.Play.{Turn, Output, before, talked, IsTalk, Does, DoesOrNot, PassesOrDoes, IsTurn, GoesOn, Plays, IsFront, GoesOnInFront, PlaysFront, PlayedBy, Played, OpenedFrontBy, PlayedFrontBy, PlayedFront, opening_of, session_limits}
use Rattle.play_session.specs.Sessions.{base_of}
use Rattle.script_records.specs.Records.{record_in}
use Rattle.script_records.specs.declared.records.LineFault.{LineFault}
use Rattle.script_records.specs.declared.records.Record.{Record}
use Rattle.script_records.specs.declared.records.Record.TheVariants.{PutText, PutDocument, Ask, Post, Call}
use Rattle.play_script.specs.declared.turns.End.{End}

-- outcomes

abbrev read_as : WireReply → Result WireReply EdgeFault
read_as reply = Ok reply

one_reply : {x y : WireReply} → read_as x ≡ read_as y → x ≡ y
one_reply e = cc

whole_once : (field : List ℕ) (a b : WireReply) → IsWhole field a → IsWhole field b → a ≡ b
whole_once field a b x y = one_reply (reply_unique false (Ok a) (Ok b) field [] [] x.0 y.0).0

whole_or_not : (field : List ℕ) (reply : WireReply) → IsReply false field (Ok reply) [] → IsNoWhole field → ⊥
whole_or_not field reply is (read, rest, also, other) =
    let one = reply_unique false (Ok reply) read field [] rest is also in
    subst (λ (p : Result WireReply EdgeFault × List ℕ). IsOther p.0 p.1) (ap (λ r. (r, rest)) (sym one.0) ∙ ap (λ x. (Ok reply, x)) (sym one.1)) other refl

strange_or_not : (reply : WireReply) → HasStatus reply → (reply.status < 200) ⊎ (999 < reply.status) → ⊥
strange_or_not reply (low, high) (inl below) = omega (arith, low, below)
strange_or_not reply (low, high) (inr above) = omega (arith, high, above)

reply_or_not : (field : List ℕ) (reply : WireReply) → IsWhole field reply → IsNoReply field → ⊥
reply_or_not field reply (is, status) (inl none) = whole_or_not field reply is none
reply_or_not field reply (is, status) (inr (other, also, strange)) =
    strange_or_not other (subst HasStatus (one_reply (reply_unique false (Ok reply) (Ok other) field [] [] is also).0) status) strange

outcome_or_not : (field : List ℕ) (told : Exchanged) → IsOutcome field told → IsNoOutcome field → ⊥
outcome_or_not field (exchanged.Reply reply) (unfailed, unlapsed, whole) other = reply_or_not field reply whole other.2
outcome_or_not field exchanged.Failed failed other = other.0 failed
outcome_or_not field exchanged.TimedOut lapsed other = other.1 lapsed
outcome_or_not field exchanged.Memory none other = none

failed_or_lapsed : codes "!failed" ≡ codes "!lapsed" → ⊥
failed_or_lapsed e = let no : true ≡ false = ap (λ (l : List ℕ). get_or l 1 0 == 102) e in absurd cc

outcome_once : (field : List ℕ) (a b : Exchanged) → IsOutcome field a → IsOutcome field b → a ≡ b
outcome_once field (exchanged.Reply p) (exchanged.Reply q) (unfailed, unlapsed, x) (also, too, y) = ap exchanged.Reply (whole_once field p q x y)
outcome_once field (exchanged.Reply p) exchanged.Failed x y = absurd (x.0 y)
outcome_once field (exchanged.Reply p) exchanged.TimedOut x y = absurd (x.1 y)
outcome_once field (exchanged.Reply p) exchanged.Memory x y = absurd y
outcome_once field exchanged.Failed (exchanged.Reply q) x y = absurd (y.0 x)
outcome_once field exchanged.Failed exchanged.Failed x y = refl
outcome_once field exchanged.Failed exchanged.TimedOut x y = absurd (failed_or_lapsed (sym x ∙ y))
outcome_once field exchanged.Failed exchanged.Memory x y = absurd y
outcome_once field exchanged.TimedOut (exchanged.Reply q) x y = absurd (y.1 x)
outcome_once field exchanged.TimedOut exchanged.Failed x y = absurd (failed_or_lapsed (sym y ∙ x))
outcome_once field exchanged.TimedOut exchanged.TimedOut x y = refl
outcome_once field exchanged.TimedOut exchanged.Memory x y = absurd y
outcome_once field exchanged.Memory b x y = absurd x

all_once : (fields : List (List ℕ)) (a b : List Exchanged) → AreOutcomes fields a → AreOutcomes fields b → a ≡ b
all_once [] a b x y = x ∙ sym y
all_once (field ∷ fields) [] b x y = absurd x
all_once (field ∷ fields) (p ∷ a) [] x y = absurd y
all_once (field ∷ fields) (p ∷ a) (q ∷ b) x y = ap (λ t. t ∷ a) (outcome_once field p q x.0 y.0) ∙ ap (λ l. q ∷ l) (all_once fields a b x.1 y.1)

all_or_not : (fields : List (List ℕ)) (script : List Exchanged) → AreOutcomes fields script → BreaksOutcomes fields → ⊥
all_or_not [] script are breaks = breaks
all_or_not (field ∷ fields) [] are breaks = are
all_or_not (field ∷ fields) (told ∷ script) are (inl other) = outcome_or_not field told are.0 other
all_or_not (field ∷ fields) (told ∷ script) are (inr breaks) = all_or_not fields script are.1 breaks.1

-- what follows a line

goes_once : (ends : Option End) (text : List ℕ) (further : Output → Type 0) (once : (p q : Output) → further p → further q → p ≡ q) (a b : Output)
    → GoesOn ends text further a → GoesOn ends text further b → a ≡ b
goes_once None text further once a b (rest, plays, is) (other, also, told) = is ∙ ap (before text) (once rest other plays also) ∙ sym told
goes_once (Some end) text further once a b x y = x ∙ sym y

load_goes_once : (ends : Option End) (now : Turn) (further : Behind → Type 0) (once : (p q : Behind) → further p → further q → p ≡ q) (a b : Behind)
    → LoadGoesOn ends now further a → LoadGoesOn ends now further b → a ≡ b
load_goes_once None now further once a b x y = once a b x y
load_goes_once (Some end) now further once a b x y = x ∙ sym y

-- fronts

front_of_more : (front text more : List ℕ) → IsFront front text → IsFront front (text ++ more)
front_of_more front text more (rest, is) = (rest ++ more, sym (append_assoc front rest more) ∙ ap (λ t. t ++ more) is)

goes_in_front : (ends : Option End) (text : List ℕ) (further : Output → Type 0) (front : List ℕ) (a : Output) → GoesOn ends text further a → IsFront front text → IsFront front a.text
goes_in_front None text further front a (rest, plays, is) f = subst (λ (o : Output). IsFront front o.text) (sym is) (front_of_more front text rest.text f)
goes_in_front (Some end) text further front a is f = subst (λ (o : Output). IsFront front o.text) (sym is) f

behind_front : (ends : Option End) (text : List ℕ) (further : Output → Type 0) (fronts : List ℕ → Type 0) (front : List ℕ) (a : Output)
    → ((more : List ℕ) (rest : Output) → fronts more → further rest → IsFront more rest.text)
    → GoesOn ends text further a → GoesOnInFront ends text fronts front → IsFront front a.text
behind_front None text further fronts front a each (rest, plays, is) (more, holds, told) =
    let inner = each more rest holds plays in
    subst (λ (o : Output). IsFront front o.text) (sym is)
    (inner.0, ap (λ f. f ++ inner.0) told ∙ append_assoc text more inner.0 ∙ ap (λ t. text ++ t) inner.1)
behind_front (Some end) text further fronts front a each is none = absurd none

module _ (law : ComesToOneThing) (base : Base) (told : IsSome base.start.planned) where
  -- lines

  talk_once : (history : List Entry) (moment word : ℕ) (bytes : List ℕ) (script : List Exchanged) (a b : Turn)
      → IsTalk base history moment word bytes script a → IsTalk base history moment word bytes script b → a ≡ b
  talk_once history moment word bytes script a b (said, connects, is) (other, also, is_too) =
      is ∙ ap talked (law base 0 moment word history bytes script said other told connects also) ∙ sym is_too

  does_once : (number : ℕ) (history : List Entry) (found : Record) (a b : Turn) → Does base number history found a → Does base number history found b → a ≡ b
  does_once number history (PutText moment api template) a b x y = x ∙ sym y
  does_once number history (PutDocument moment api source) a b x y = x ∙ sym y
  does_once number history (Ask moment asked) a b x y = x ∙ sym y
  does_once number history (Post moment word api stage body) a b x y = talk_once history moment word _ [] a b x y
  does_once number history (Call moment word bytes fields) a b (inl x) (inl y) =
      talk_once history moment word bytes y.0 a b (subst (λ script. IsTalk base history moment word bytes script a) (all_once fields x.0 y.0 x.1 y.1) x.2) y.2
  does_once number history (Call moment word bytes fields) a b (inl x) (inr y) = absurd (all_or_not fields x.0 x.1 y.0)
  does_once number history (Call moment word bytes fields) a b (inr x) (inl y) = absurd (all_or_not fields y.0 y.1 x.0)
  does_once number history (Call moment word bytes fields) a b (inr x) (inr y) = x.1 ∙ sym y.1

  found_once : (number : ℕ) (history : List Entry) (found : Result Record LineFault) (a b : Turn) → DoesOrNot base number history found a → DoesOrNot base number history found b → a ≡ b
  found_once number history (Ok found) a b x y = does_once number history found a b x y
  found_once number history (Err fault) a b x y = x ∙ sym y

  passed_once : (number : ℕ) (history : List Entry) (line : List ℕ) (passed : Bool) (a b : Turn) → PassesOrDoes base number history line passed a → PassesOrDoes base number history line passed b → a ≡ b
  passed_once number history line true a b x y = x ∙ sym y
  passed_once number history line false a b x y = found_once number history (record_in line) a b x y

  turn_once : (number : ℕ) (history : List Entry) (line : List ℕ) (a b : Turn) → IsTurn base number history line a → IsTurn base number history line b → a ≡ b
  turn_once number history line a b x y = passed_once number history line (is_passed_over line) a b x y

  -- plays

  plays_once : (number : ℕ) (history : List Entry) (lines : List (List ℕ)) (a b : Output) → Plays base number history lines a → Plays base number history lines b → a ≡ b
  plays_once number history [] a b x y = x ∙ sym y
  plays_once number history (line ∷ lines) a b (now, turn, goes) (then_, also, went) =
      let same = turn_once number history line then_ now also turn in
      goes_once now.ends now.text (Plays base (number + 1) now.history lines) (λ p q. plays_once (number + 1) now.history lines p q) a b goes
      (subst (λ (t : Turn). GoesOn t.ends t.text (Plays base (number + 1) t.history lines) b) same went)

  plays_front_once : (number : ℕ) (history : List Entry) (lines : List (List ℕ)) (front : List ℕ) (a : Output)
      → PlaysFront base number history lines front → Plays base number history lines a → IsFront front a.text
  plays_front_once number history [] front a none is = (a.text, ap (λ f. f ++ a.text) none)
  plays_front_once number history (line ∷ lines) front a (inl none) plays = (a.text, ap (λ f. f ++ a.text) none)
  plays_front_once number history (line ∷ lines) front a (inr (now, turn, inl is)) (then_, also, went) =
      let same = turn_once number history line then_ now also turn in
      goes_in_front now.ends now.text (Plays base (number + 1) now.history lines) front a
      (subst (λ (t : Turn). GoesOn t.ends t.text (Plays base (number + 1) t.history lines) a) same went) is
  plays_front_once number history (line ∷ lines) front a (inr (now, turn, inr behind)) (then_, also, went) =
      let same = turn_once number history line then_ now also turn in
      behind_front now.ends now.text (Plays base (number + 1) now.history lines) (PlaysFront base (number + 1) now.history lines) front a
      (λ more rest holds plays. plays_front_once (number + 1) now.history lines more rest holds plays)
      (subst (λ (t : Turn). GoesOn t.ends t.text (Plays base (number + 1) t.history lines) a) same went) behind

  -- loads

  loads_once : (number : ℕ) (history : List Entry) (lines : List (List ℕ)) (a b : Behind) → Loads base number history lines a → Loads base number history lines b → a ≡ b
  loads_once number history [] a b x y = x ∙ sym y
  loads_once number history (line ∷ lines) a b (now, turn, goes) (then_, also, went) =
      let same = turn_once number history line then_ now also turn in
      load_goes_once now.ends now (Loads base (number + 1) now.history lines) (λ p q. loads_once (number + 1) now.history lines p q) a b goes
      (subst (λ (t : Turn). LoadGoesOn t.ends t (Loads base (number + 1) t.history lines) b) same went)

-- scripts and commands

loaded_once : ComesToOneThing → (seed calls : ℕ) (a b : Output) → LoadedWithin session_limits seed calls a → LoadedWithin session_limits seed calls b → a ≡ b
loaded_once law seed calls a b (behind, loads, is) (other, also, is_too) =
    is ∙ ap (λ (s : Behind). told_by calls s.history s.stopped) (loads_once law (base_of session_limits []) refl 1 [] (load_lines seed calls) behind other loads also) ∙ sym is_too

loaded_front_by : ComesToOneThing → (seed calls : ℕ) (front : List ℕ) (a : Output) → LoadedWithin session_limits seed calls a → LoadedFront session_limits seed calls front → IsFront front a.text
loaded_front_by law seed calls front a loads (inl none) = (a.text, ap (λ f. f ++ a.text) none)
loaded_front_by law seed calls front a loads (inr (output, also, is)) = subst (λ (o : Output). IsFront front o.text) (loaded_once law seed calls output a also loads) is

played_by_once : ComesToOneThing → (long : Bool) (script : List ℕ) (a b : Output) → PlayedBy long script a → PlayedBy long script b → a ≡ b
played_by_once law true script a b x y = x ∙ sym y
played_by_once law false script a b x y =
    let opening = opening_of script in
    plays_once law (base_of session_limits opening.fails) refl opening.number [] opening.lines a b x.1 y.1

played_front_by : ComesToOneThing → (long : Bool) (script front : List ℕ) (a : Output) → PlayedBy long script a → PlayedFrontBy long script front → IsFront front a.text
played_front_by law true script front a is f = subst (λ (o : Output). IsFront front o.text) (sym is) f
played_front_by law false script front a plays f =
    let opening = opening_of script in
    plays_front_once law (base_of session_limits opening.fails) refl opening.number [] opening.lines front a
    (subst (λ named. OpenedFrontBy named session_limits opening front) plays.0 f) plays.1

pub one_outcome : ComesToOneThing → HasOneOutcome
unfolding Outcome Played
one_outcome law (Some Play) input files a b x y = played_by_once law _ input a b x y
one_outcome law (Some (Load seed calls)) input files a b x y = loaded_once law seed calls a b x y
one_outcome law other input files a b x y = x ∙ sym y

pub fronts_of_the_outcome : ComesToOneThing → FrontsAreOfTheOutcome
unfolding Outcome OutcomeFront Played PlayedFront
fronts_of_the_outcome law (Some Play) input files a front x f = played_front_by law _ input front a x f
fronts_of_the_outcome law (Some (Load seed calls)) input files a front x f = loaded_front_by law seed calls front a x f
fronts_of_the_outcome law other input files a front x f = subst (λ (o : Output). IsFront front o.text) (sym x) f
