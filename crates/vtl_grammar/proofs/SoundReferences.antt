-- The steps of references and the parts of strings that are read are of the grammar.
use Rattle.std.proofs.Common.{◌≡◌, arith, ℕ, zero, suc, ◌+◌, List, [], ◌∷◌, length, refl, Bool, true, false}
use Rattle.std.specs.Prelude.{Option, Some, None, Ok, ◌==◌, ◌&&◌}
use Rattle.vtl_grammar.specs.declared.fault.Fault.{Fault}
use Rattle.vtl_grammar.specs.Tree.{Steps, step, call, index, Parts, part}
use Rattle.vtl_grammar.specs.Bytes.{white}
use Rattle.vtl_grammar.specs.Faults.{◌>>=◌}
use Rattle.vtl_grammar.specs.Levels.{Reader}
use Rattle.vtl_grammar.specs.Loops.{more, first}
use Rattle.vtl_grammar.specs.Methods.{arity}
use Rattle.vtl_grammar.specs.References.{arguments, index_in, Dots, free, strict, ranged, StepFront, a_name, a_call, an_index, a_dot, no_step, step_front, range_or, at_dot, step_on, step_turn, steps_from, steps_at, Begun, a_reference, nameless, dots_out}
use Rattle.vtl_grammar.specs.Strings.{escapes, Piece, piece_end, piece_byte, piece_reference, piece_bad, piece_dollar, piece_of, run_on, run_len, piece_on, part_on, part_turn, parts_of}
use Rattle.vtl_grammar.specs.Words.{is_directive}
use Rattle.vtl_grammar.specs.Grammar.{Referred, referred_bare, referred_braced, Stepped, stepped_end, stepped_free, stepped_range, stepped_name, stepped_call, stepped_index, Pieces, pieces_end, pieces_text, pieces_reference}
use Rattle.vtl_grammar.proofs.Held.{Held, ok, err, next, held_map, held_within, held_if, Turned, gathered, taken_true, expected}
use Rattle.vtl_grammar.proofs.SoundLevels.{Inner, bottom, one_down, called_sound, closed_up}

-- what a piece says of the text at whose front it stands
abbrev NotEnd : Piece → Type 0
NotEnd piece_end = ⊥
NotEnd piece_byte = Unit {0}
NotEnd (piece_reference quiet braced x rest) = Unit {0}
NotEnd (piece_bad f) = Unit {0}

not_end_dollar : (g : Begun) → NotEnd (piece_dollar g)
not_end_dollar (nameless missing) = tt
not_end_dollar (a_reference quiet braced x rest) = tt

not_end_bad : (c : Bool) (f : Fault) (p : Piece) → NotEnd p → NotEnd (elim c [ true ↦ piece_bad f | false ↦ p ])
not_end_bad true f p h = tt
not_end_bad false f p h = h

not_end_or : (c : Bool) (g : Begun) (p : Piece) → NotEnd p → NotEnd (elim c [ true ↦ piece_dollar g | false ↦ p ])
not_end_or true g p h = not_end_dollar g
not_end_or false g p h = h

not_end : (names : List (List ℕ)) (b : ℕ) (bs : List ℕ) → NotEnd (piece_of names (b ∷ bs))
not_end names b bs = not_end_or (b == 36) _ _ (not_end_bad ((b == 92) && escapes bs) _ _ (not_end_bad ((b == 35) && is_directive names bs) _ _ tt))

module _ (names : List (List ℕ)) where
  abbrev pub SteppedOf : ℕ → Dots → List ℕ → Steps × List ℕ → Type 0
  SteppedOf d dots bs p = Stepped names d dots bs p.0 p.1

  range_dots : (d : ℕ) (bs tail : List ℕ) → step_front bs ≡ a_dot tail → Held (Turned (first step) (SteppedOf d ranged) bs) (range_or bs tail)
  range_dots d bs [] e = err
  range_dots d bs (b ∷ tail) e = held_if (b == 46) _ _ (λ k. ok (stepped_range e (taken_true 46 b tail k))) (λ k. err)

  dot_sound : (d : ℕ) (dots : Dots) (bs tail : List ℕ) → step_front bs ≡ a_dot tail → Held (Turned (first step) (SteppedOf d dots) bs) (at_dot dots bs tail)
  dot_sound d free bs tail e = ok (stepped_free e)
  dot_sound d strict bs [] e = err
  dot_sound d strict bs (b ∷ tail) e = err
  dot_sound d ranged bs tail e = range_dots d bs tail e

  call_sound : {d : ℕ} {inner : Option Reader} (w : Inner names d inner) (dots : Dots) (at : ℕ) (bs x rest : List ℕ) (o : Option (ℕ × ℕ)) → step_front bs ≡ a_call x rest → arity x ≡ o → Held (Turned (first step) (SteppedOf d dots) bs) (arguments inner at o rest >>= λ es. Ok (more (call x es.0) es.1))
  call_sound w dots at bs x rest None e k = err
  call_sound bottom dots at bs x rest (Some p) e k = err
  call_sound (one_down {d = d} {r = r} s) dots at bs x rest (Some p) e k = next _ (held_within _ (called_sound names d r s at p.0 p.1 (white rest))) (λ es h. ok (λ q g. stepped_call e k h g))

  index_sound : {d : ℕ} {inner : Option Reader} (w : Inner names d inner) (dots : Dots) (bs rest : List ℕ) → step_front bs ≡ an_index rest → Held (Turned (first step) (SteppedOf d dots) bs) (index_in inner rest >>= λ e. Ok (more (index e.0) e.1))
  index_sound bottom dots bs rest e = err
  index_sound (one_down {d = d} {r = r} s) dots bs rest e = next _ (held_within _ (closed_up names d r s 93 rest)) (λ x h. ok (λ q g. stepped_index e h.1 h.2 g))

  step_met : {d : ℕ} {inner : Option Reader} (w : Inner names d inner) (dots : Dots) (bs : List ℕ) (f : StepFront) → step_front bs ≡ f → Held (Turned (first step) (SteppedOf d dots) bs) (step_on inner dots bs f)
  step_met w dots bs (a_name x rest) e = ok (λ q g. stepped_name e g)
  step_met w dots bs (a_call x rest) e = call_sound w dots _ bs x rest (arity x) e refl
  step_met w dots bs (an_index rest) e = index_sound w dots bs rest e
  step_met {d = d} w dots bs (a_dot rest) e = dot_sound d dots bs rest e
  step_met w dots bs no_step e = ok (stepped_end e)

  steps_sound : {d : ℕ} {inner : Option Reader} (w : Inner names d inner) (dots : Dots) (bs : List ℕ) → Held (SteppedOf d dots bs) (steps_from inner dots bs)
  steps_sound {d = d} {inner = inner} w dots bs = gathered (first step) (step_turn inner dots) (SteppedOf d dots) (λ cs. step_met w dots cs (step_front cs) refl) (length bs + 1) bs

  pub referred_sound : {d : ℕ} {inner : Option Reader} (w : Inner names d inner) (dots : Dots) (braced : Bool) (at : ℕ) (bs : List ℕ) → Held (λ p. Referred names d dots braced bs p.0 p.1) (steps_at inner dots braced at bs)
  referred_sound w dots false at bs = held_map (steps_sound w dots bs) (λ p h. referred_bare h)
  referred_sound w dots true at bs = held_within at (next _ (steps_sound w dots bs) (λ p h. next _ (expected 125 p.1) (λ rest k. ok (referred_braced h k))))

  -- the parts of a string
  abbrev pub PiecesOf : ℕ → List ℕ → Parts × List ℕ → Type 0
  PiecesOf d bs p = Pieces names d bs p.0

  piece_met : {d : ℕ} {inner : Option Reader} (w : Inner names d inner) (b : ℕ) (bs : List ℕ) (p : Piece) → NotEnd p → piece_of names (b ∷ bs) ≡ p → run_len names (b ∷ bs) ≡ 0 → run_on (run_len names bs) p ≡ 0 → Held (Turned (first part) (PiecesOf d) (b ∷ bs)) (piece_on inner (b ∷ bs) p)
  piece_met w b bs piece_end n e z k = absurd n
  piece_met w b bs piece_byte n e z k = absurd (omega (arith, k))
  piece_met w b bs (piece_bad f) n e z k = err
  piece_met w b bs (piece_reference quiet braced x rest) n e z k = next _ (referred_sound w (dots_out braced) braced _ rest) (λ ss h. ok (λ q g. pieces_reference z e h g))

  part_met : {d : ℕ} {inner : Option Reader} (w : Inner names d inner) (bs : List ℕ) (n : ℕ) → run_len names bs ≡ n → Held (Turned (first part) (PiecesOf d) bs) (part_on names inner n bs)
  part_met w [] zero e = ok pieces_end
  part_met w (b ∷ bs) zero e = piece_met w b bs (piece_of names (b ∷ bs)) (not_end names b bs) refl e e
  part_met w bs (suc n) e = ok (λ q g. pieces_text e g)

  pub parts_sound : {d : ℕ} {inner : Option Reader} (w : Inner names d inner) (bs : List ℕ) → Held (PiecesOf d bs) (parts_of names inner bs)
  parts_sound {d = d} {inner = inner} w bs = gathered (first part) (part_turn names inner) (PiecesOf d) (λ cs. part_met w cs (run_len names cs) refl) (length bs + 1) bs
