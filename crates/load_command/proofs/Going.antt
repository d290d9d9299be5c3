-- How a load goes on, line by line.
use Rattle.std.proofs.Common.{◌≡◌, inr, ℕ, ◌+◌, Result, Ok, Err, IfOk, List, [], ◌∷◌, ◌++◌, length, Option, Some, None, refl, ap, sym, ◌∙◌, subst, arith}
use Rattle.std.specs.Borrow.{Bor}
use Rattle.book_rules.specs.History.{Base}
use Rattle.book_rules.specs.declared.events.Entry.{Entry}
use Rattle.book_rules.specs.declared.events.Limits.{Limits}
use Rattle.gw_base.specs.Whole.{AppendsFront}
use Rattle.script_records.specs.Coding.{lines_left, lines_of}
use Rattle.play_script.specs.Play.{IsTurn, Output, SaysFront, Turn}
use Rattle.play_script.specs.declared.turns.End.{End}
use Rattle.play_script.proofs.Playing.{says_front}
use Rattle.load_command.specs.Lines.{call_lines, first_lines}
use Rattle.load_command.specs.Loading.{Behind, GoesOn, LoadedFront, LoadedWithin, Loads, load_lines}

-- What the lines that are left come to is what all lines come to.
pub record Going (base : Base) (begin : ℕ) (first : List Entry) (all : List (List ℕ)) (number : ℕ) (history : List Entry) (lines : List (List ℕ)) : Type 0 where
  pub goes : (behind : Behind) → Loads base number history lines behind → Loads base begin first all behind
  pub counted : number + length lines ≡ begin + length all

pub begins : (base : Base) (begin : ℕ) (first : List Entry) (all : List (List ℕ)) → Going base begin first all begin first all
begins base begin first all = record { goes = λ behind loads. loads; counted = refl }

-- where the session tells the base, and the lines are those of what is left
module _ (base told : Base) (same : told ≡ base) (begin : ℕ) (first : List Entry) (all : List (List ℕ)) (number : ℕ) (history : List Entry) (line : List ℕ)
    (left lines : List (List ℕ)) (parted : left ≡ line ∷ lines) (p : Going base begin first all number history left) where
  at_line : Going base begin first all number history (line ∷ lines)
  at_line = subst (Going base begin first all number history) parted p

  turned : (now : Turn) → IsTurn told number history line now → IsTurn base number history line now
  turned now turn = subst (λ (b : Base). IsTurn b number history line now) same turn

  -- a line was played, and the next is reached
  pub said_at : (text : List ℕ) (after : List Entry) (ends : Option End) → ends ≡ None → IsTurn told number history line (record { history = after; text = text; ends = ends })
      → Going base begin first all (number + 1) after lines
  said_at text after ends is turn =
      let now : Turn = record { history = after; text = text; ends = None } in
      record {
        goes = λ behind loads. at_line.goes behind (now, turned now (subst (λ o. IsTurn told number history line (record { history = after; text = text; ends = o })) is turn), loads);
        counted = omega (arith, at_line.counted);
      }

  -- a line was played, and it ended the load
  pub stopped_at : (text : List ℕ) (after : List Entry) (ends : Option End) (end : End) → ends ≡ Some end
      → IsTurn told number history line (record { history = after; text = text; ends = ends })
      → Loads base begin first all (record { history = after; stopped = Some (text, end) })
  stopped_at text after ends end is turn =
      let now : Turn = record { history = after; text = text; ends = Some end } in
      at_line.goes (record { history = after; stopped = Some (text, end) })
      (now, turned now (subst (λ o. IsTurn told number history line (record { history = after; text = text; ends = o })) is turn), refl)

-- no line is left
pub finished : (base : Base) (begin : ℕ) (first : List Entry) (all : List (List ℕ)) (number : ℕ) (history : List Entry) → Going base begin first all number history []
    → Loads base begin first all (record { history = history; stopped = None })
finished base begin first all number history p = p.goes (record { history = history; stopped = None }) refl

pub counted_all : (base : Base) (begin : ℕ) (first : List Entry) (all : List (List ℕ)) (number : ℕ) (history : List Entry) → Going base begin first all number history []
    → number ≡ begin + length all
counted_all base begin first all number history p = omega (arith, p.counted)

-- the lines of what is left, where it is known what is left
pub then_left : (left : List (List ℕ)) (line : List ℕ) (more known : Option (Bor (List ℕ))) → left ≡ line ∷ lines_left more → more ≡ known → left ≡ line ∷ lines_left known
then_left left line more known parted is = parted ∙ ap (λ o. line ∷ lines_left o) is

none_is_some : {R : Type 0} {x : R} → None ≡ Some x → ⊥
none_is_some same = cc

-- a line that did not end the load is followed by more
goes_on : (ends : Option End) (now : Turn) (Few Many : Behind → Type 0) (middle : List Entry) (behind : Behind)
    → GoesOn ends now Few (record { history = middle; stopped = None }) → (Few (record { history = middle; stopped = None }) → Many behind) → GoesOn ends now Many behind
goes_on None now Few Many middle behind goes more = more goes
goes_on (Some end) now Few Many middle behind goes more = absurd (none_is_some (ap (λ (b : Behind). b.stopped) goes))

-- what ended the load does so whatever follows
ends_there : (ends : Option End) (now : Turn) (Few Many : Behind → Type 0) (behind : Behind) → GoesOn ends now Few behind → (Few behind → Many behind) → GoesOn ends now Many behind
ends_there None now Few Many behind goes more = more goes
ends_there (Some end) now Few Many behind goes more = goes

-- lines behind others that were all played
pub followed : (base : Base) (number : ℕ) (history : List Entry) (lines more : List (List ℕ)) (middle : List Entry) (behind : Behind)
    → Loads base number history lines (record { history = middle; stopped = None }) → Loads base (number + length lines) middle more behind → Loads base number history (lines ++ more) behind
followed base number history [] more middle behind is then =
    subst (λ n. Loads base n history more behind) (omega arith) (subst (λ h. Loads base (number + 0) h more behind) (ap (λ (b : Behind). b.history) is) then)
followed base number history (line ∷ lines) more middle behind (now, turn, goes) then = (
  now,
  turn,
  goes_on now.ends now (Loads base (number + 1) now.history lines) (Loads base (number + 1) now.history (lines ++ more)) middle behind goes
      (λ loads. followed base (number + 1) now.history lines more middle behind loads (subst (λ n. Loads base n middle more behind) (omega arith) then)),
)

-- lines behind others of which one ended the load
pub not_reached : (base : Base) (number : ℕ) (history : List Entry) (lines more : List (List ℕ)) (middle : List Entry) (stopped : List ℕ × End)
    → Loads base number history lines (record { history = middle; stopped = Some stopped }) → Loads base number history (lines ++ more) (record { history = middle; stopped = Some stopped })
not_reached base number history [] more middle stopped is = absurd (none_is_some (sym (ap (λ (b : Behind). b.stopped) is)))
not_reached base number history (line ∷ lines) more middle stopped (now, turn, goes) = (
  now,
  turn,
  ends_there now.ends now (Loads base (number + 1) now.history lines) (Loads base (number + 1) now.history (lines ++ more)) (record { history = middle; stopped = Some stopped })
      goes (λ loads. not_reached base (number + 1) now.history lines more middle stopped loads),
)

-- the first lines, and the calls behind them
pub all_stopped : (base : Base) (history : List Entry) (first : List ℕ) (seed calls : ℕ) (middle : List Entry) (told : Option (List ℕ × End)) (stopped : List ℕ × End)
    → first ≡ first_lines → told ≡ Some stopped → Loads base 1 history (lines_of first) (record { history = middle; stopped = told })
    → Loads base 1 history (load_lines seed calls) (record { history = middle; stopped = Some stopped })
all_stopped base history first seed calls middle told stopped same is loads =
    not_reached base 1 history (lines_of first_lines) (call_lines seed 0 calls) middle stopped
    (subst (λ f. Loads base 1 history (lines_of f) (record { history = middle; stopped = Some stopped })) same
    (subst (λ o. Loads base 1 history (lines_of first) (record { history = middle; stopped = o })) is loads))

pub all_played : (base told : Base) (history : List Entry) (first : List ℕ) (seed calls : ℕ) (middle : List Entry) (stopped : Option (List ℕ × End)) (next : ℕ) (behind : Behind)
    → told ≡ base → first ≡ first_lines → stopped ≡ None → next ≡ 1 + length (lines_of first) → Loads base 1 history (lines_of first) (record { history = middle; stopped = stopped })
    → Loads told next middle (call_lines seed 0 calls) behind → Loads base 1 history (load_lines seed calls) behind
all_played base told history first seed calls middle stopped next behind of_base same none reached loads then =
    followed base 1 history (lines_of first_lines) (call_lines seed 0 calls) middle behind
    (subst (λ f. Loads base 1 history (lines_of f) (record { history = middle; stopped = None })) same
    (subst (λ o. Loads base 1 history (lines_of first) (record { history = middle; stopped = o })) none loads))
    (subst (λ n. Loads base n middle (call_lines seed 0 calls) behind) (reached ∙ ap (λ f. 1 + length (lines_of f)) same)
    (subst (λ (b : Base). Loads b next middle (call_lines seed 0 calls) behind) of_base then))

-- what an answer has, each has that follows from it
pub if_ok_map : {A E : Type 0} (r : Result A E) (P Q : A → Type 0) → ((x : A) → P x → Q x) → IfOk r P → IfOk r Q
if_ok_map (Ok x) P Q f h = f x h
if_ok_map (Err e) P Q f h = tt

-- a front of what is printed was written
pub cut_short : (limits : Limits) (seed calls : ℕ) (a b : Option (List ℕ)) (text bytes : List ℕ) (status : ℕ) → bytes ≡ text
    → LoadedWithin limits seed calls (record { text = text; status = status }) → AppendsFront a b bytes → SaysFront a b (LoadedFront limits seed calls)
cut_short limits seed calls a b text bytes status same loads wrote =
    let front = says_front a b text (subst (AppendsFront a b) same wrote) in
    let output : Output = record { text = text; status = status } in
    (front.0, inr (output, loads, front.1), front.2)
