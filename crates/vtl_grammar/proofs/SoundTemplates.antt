-- A text that is read is a template.
use Rattle.std.proofs.Common.{◌≡◌, ◌≤◌, ℕ, List, length, refl, subst, Bool, true, false}
use Rattle.std.specs.Prelude.{nat_lt, Option, Some, None, Result, Ok, Err}
use Rattle.std.proofs.lemmas.Bool.{ltb-false}
use Rattle.vtl_grammar.specs.declared.fault.Fault.{Fault}
use Rattle.vtl_grammar.specs.declared.fault.TemplateFault.{TemplateFault}
use Rattle.vtl_grammar.specs.declared.fault.TemplateFault.TheVariants as told
use Rattle.vtl_grammar.specs.Tree.{Item, Items}
use Rattle.vtl_grammar.specs.Faults.{◌>>=◌}
use Rattle.vtl_grammar.specs.Lines.{Spot}
use Rattle.vtl_grammar.specs.Macros.{macro_names}
use Rattle.vtl_grammar.specs.Calls.{macros_in, wrong_calls}
use Rattle.vtl_grammar.specs.Items.{Where, at_top, in_branch, in_body, Around, Stop, Finish, items, below}
use Rattle.vtl_grammar.specs.Templates.{limit, outermost, from_front, unless_wrong, tested, read_all, read_of}
use Rattle.vtl_grammar.specs.Grammar.{Run, run_end, run_item, Ending, ending_finish, ending_else, ending_elseif, ending_branch, ending_body, Reads, reads_output, reads_line_comment, reads_comment, reads_break, reads_stop, reads_set, reads_if, reads_foreach, reads_macro, reads_call, IsTemplate}
use Rattle.vtl_grammar.proofs.Held.{Held, ok}
use Rattle.vtl_grammar.proofs.SoundItems.{run_sound}

abbrev IsTop : Where → Type 0
IsTop (at_top xs) = Unit {0}
IsTop in_branch = ⊥
IsTop in_body = ⊥

not_top : {A : Type 0} {p q : Where} → p ≡ q → IsTop p → (IsTop q → ⊥) → A
not_top e h k = absurd (k (subst IsTop e h))

module _ (names : List (List ℕ)) where
  -- what stands around the items behind an item is the whole text, where it is before
  still_top : {d : ℕ} {a b : Around} {t u : Spot} {x y : List ℕ} {i : Item} → Reads names d a x t y i b u → IsTop a.place → IsTop b.place
  still_top (reads_output e r) h = h
  still_top (reads_line_comment e) h = h
  still_top (reads_comment e) h = h
  still_top (reads_break e l k) h = h
  still_top (reads_stop e k) h = h
  still_top (reads_set e f g j k m n) h = h
  still_top (reads_if e f g j k) h = h
  still_top (reads_foreach e f g j k m n o) h = h
  still_top (reads_macro e f g j k m) h = tt
  still_top (reads_call e f g) h = h

  ends_top : {d : ℕ} {a : Around} {t : Spot} {x y : List ℕ} {e : Stop} → Ending names d a x t y e → IsTop a.place → e ≡ Finish
  ends_top (ending_finish f p) h = refl
  ends_top (ending_else f p l) h = not_top p h (λ z. z)
  ends_top (ending_elseif f p b c l) h = not_top p h (λ z. z)
  ends_top (ending_branch f p l) h = not_top p h (λ z. z)
  ends_top (ending_body f p l) h = not_top p h (λ z. z)

  -- the whole text ends where the text does
  finishes : {d : ℕ} {a : Around} {s : Spot} {is : Items} {e : Stop} → Run names d a s is e → IsTop a.place → e ≡ Finish
  finishes (run_end x k) h = ends_top k h
  finishes (run_item x r q) h = finishes q (still_top r h)

-- the text is a template of the tree that is read
abbrev Templated : List ℕ → Result Items TemplateFault → Type 0
Templated bs (Ok is) = IsTemplate bs is
Templated bs (Err f) = Unit {0}

finished : (bs : List ℕ) (p : Items × Stop) → Run (macro_names bs) 64 outermost (Some 0, bs) p.0 p.1 → Run (macro_names bs) 64 outermost (Some 0, bs) p.0 Finish
finished bs p r = let P : Stop → Type 0 = λ z. Run (macro_names bs) 64 outermost (Some 0, bs) p.0 z in subst P (finishes (macro_names bs) r tt) r

calls_templated : (bs : List ℕ) (is : Items) (wrong : Option ℕ) → length bs ≤ limit → Run (macro_names bs) 64 outermost (Some 0, bs) is Finish → wrong_calls (macros_in is) is ≡ wrong → Templated bs (from_front (length bs) (unless_wrong is wrong))
calls_templated bs is None l r e = record { small = l; run = r; calls = e }
calls_templated bs is (Some at) l r e = tt

whole_templated : (bs : List ℕ) (r : Result (Items × Stop) Fault) → length bs ≤ limit → Held (λ p. Run (macro_names bs) 64 outermost (Some 0, bs) p.0 p.1) r → Templated bs (from_front (length bs) ((r >>= λ p. Ok p.0) >>= tested))
whole_templated bs (Ok p) l (ok h) = calls_templated bs p.0 (wrong_calls (macros_in p.0) p.0) l (finished bs p h) refl
whole_templated bs (Err f) l h = tt

size_templated : (bs : List ℕ) (c : Bool) → nat_lt limit (length bs) ≡ c → Templated bs (elim c [ true ↦ Err told.TooLong | false ↦ from_front (length bs) (read_all bs) ])
size_templated bs true e = tt
size_templated bs false e = whole_templated bs (items (below (macro_names bs) 64) outermost (Some 0, bs)) (ltb-false limit (length bs) e) (run_sound (macro_names bs) 64 outermost (Some 0, bs))

read_templated : (bs : List ℕ) → Templated bs (read_of bs)
unfolding read_of
read_templated bs = size_templated bs (nat_lt limit (length bs)) refl

pub template_read : (bs : List ℕ) (is : Items) → read_of bs ≡ Ok is → IsTemplate bs is
template_read bs is e = let P : Result Items TemplateFault → Type 0 = λ r. Templated bs r in subst P e (read_templated bs)
