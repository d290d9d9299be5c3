-- A load's calls, one behind another.
use Rattle.std.proofs.Common.{◌≡◌, ℕ, suc, ◌+◌, ◌-◌, ◌<◌, List, ◌∷◌, Option, Some, None, refl, ap, sym, subst, arith}
use Rattle.book_rules.specs.History.{Base}
use Rattle.book_rules.specs.declared.events.Entry.{Entry}
use Rattle.gw_base.specs.Random.{next_state, word_of}
use Rattle.play_script.specs.Play.{IsTurn, Turn}
use Rattle.play_script.specs.declared.turns.End.{End}
use Rattle.load_command.specs.Lines.{call_line, call_lines}
use Rattle.load_command.specs.Loading.{Behind, Loads}

-- What the calls from this number on come to is what all calls come to.
abbrev pub Calling : Base → ℕ → List Entry → ℕ → ℕ → ℕ → ℕ → List Entry → Type 0
Calling base begin first seed calls number state history =
    (behind : Behind) → Loads base (begin + number) history (call_lines state number (calls - number)) behind → Loads base begin first (call_lines seed 0 calls) behind

pub begins : (base : Base) (begin : ℕ) (first : List Entry) (seed calls : ℕ) → Calling base begin first seed calls 0 seed first
begins base begin first seed calls behind loads =
    let number : begin + 0 ≡ begin = omega arith in
    let left : calls - 0 ≡ calls = omega arith in
    subst (λ n. Loads base n first (call_lines seed 0 calls) behind) number (subst (λ k. Loads base (begin + 0) first (call_lines seed 0 k) behind) left loads)

-- a call is left, and what is left behind it
one_more : (calls number state : ℕ) → number < calls
    → call_lines state number (calls - number) ≡ call_line number (word_of (next_state state)) ∷ call_lines (next_state state) (number + 1) (calls - (number + 1))
one_more calls number state more =
    let left : calls - number ≡ suc (calls - (number + 1)) = omega (arith, more) in
    ap (call_lines state number) left

none_more : (calls number : ℕ) → (number < calls → ⊥) → calls - number ≡ 0
none_more calls number none = omega (arith, none)

module _ (base told : Base) (same : told ≡ base) (begin : ℕ) (first : List Entry) (seed calls number state : ℕ) (history : List Entry)
    (p : Calling base begin first seed calls number state history) (more : number < calls) (line : List ℕ) (spelled : line ≡ call_line number (word_of (next_state state))) where
  turned : (now : Turn) → IsTurn told (begin + number) history line now → IsTurn base (begin + number) history (call_line number (word_of (next_state state))) now
  turned now turn = subst (λ (b : Base). IsTurn b (begin + number) history (call_line number (word_of (next_state state))) now) same (subst (λ l. IsTurn told (begin + number) history l now) spelled turn)

  at_call : (behind : Behind)
      → Loads base (begin + number) history (call_line number (word_of (next_state state)) ∷ call_lines (next_state state) (number + 1) (calls - (number + 1))) behind
      → Loads base begin first (call_lines seed 0 calls) behind
  at_call behind loads = p behind (subst (λ lines. Loads base (begin + number) history lines behind) (sym (one_more calls number state more)) loads)

  -- a call was played, and the next is reached
  pub called : (text : List ℕ) (after : List Entry) (ends : Option End) (next : ℕ) → ends ≡ None → next ≡ next_state state
      → IsTurn told (begin + number) history line (record { history = after; text = text; ends = ends })
      → Calling base begin first seed calls (number + 1) next after
  called text after ends next is reached turn behind loads =
      let now : Turn = record { history = after; text = text; ends = None } in
      let by_state = subst (λ s. Loads base (begin + (number + 1)) after (call_lines s (number + 1) (calls - (number + 1))) behind) reached loads in
      let by_number : begin + (number + 1) ≡ begin + number + 1 = omega arith in
      at_call behind (
        now,
        turned now (subst (λ o. IsTurn told (begin + number) history line (record { history = after; text = text; ends = o })) is turn),
        subst (λ n. Loads base n after (call_lines (next_state state) (number + 1) (calls - (number + 1))) behind) by_number by_state,
      )

  -- a call was played, and it ended the load
  pub ended : (text : List ℕ) (after : List Entry) (ends : Option End) (end : End) → ends ≡ Some end
      → IsTurn told (begin + number) history line (record { history = after; text = text; ends = ends })
      → Loads base begin first (call_lines seed 0 calls) (record { history = after; stopped = Some (text, end) })
  ended text after ends end is turn =
      let now : Turn = record { history = after; text = text; ends = Some end } in
      at_call (record { history = after; stopped = Some (text, end) })
      (now, turned now (subst (λ o. IsTurn told (begin + number) history line (record { history = after; text = text; ends = o })) is turn), refl)

-- no call is left
pub finished : (base : Base) (begin : ℕ) (first : List Entry) (seed calls number state : ℕ) (history : List Entry) → Calling base begin first seed calls number state history
    → calls - number ≡ 0 → Loads base begin first (call_lines seed 0 calls) (record { history = history; stopped = None })
finished base begin first seed calls number state history p none =
    p (record { history = history; stopped = None })
    (subst (λ left. Loads base (begin + number) history (call_lines state number left) (record { history = history; stopped = None })) (sym none) refl)
