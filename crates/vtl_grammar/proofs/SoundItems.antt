-- The items that are read are of the grammar.
use Rattle.std.proofs.Common.{◌≡◌, ℕ, zero, suc, ◌+◌, List, [], length, refl, Bool}
use Rattle.std.specs.Prelude.{Option, Some, None, Ok}
use Rattle.vtl_grammar.specs.Tree.{Expr, Item, Items, Branches, macro_call, no_items}
use Rattle.vtl_grammar.specs.Faults.{◌>>=◌}
use Rattle.vtl_grammar.specs.Levels.{Reader}
use Rattle.vtl_grammar.specs.Loops.{last, first}
use Rattle.vtl_grammar.specs.Words as word
use Rattle.vtl_grammar.specs.Words.{Word}
use Rattle.vtl_grammar.specs.References.{dots_out}
use Rattle.vtl_grammar.specs.Lines.{Spot, lines}
use Rattle.vtl_grammar.specs.Directives.{call_at}
use Rattle.vtl_grammar.specs.Fronts.{Front, finish, plain, raw, unclosed, bad_escape, line_comment, long_comment, directive, front_at, text_run}
use Rattle.vtl_grammar.specs.Fronts as front
use Rattle.vtl_grammar.specs.Expressions.{reader, inside}
use Rattle.vtl_grammar.specs.Items.{Where, at_top, in_branch, in_body, Around, Stop, Finish, Else, ElseIf, End, Block, ItemTurn, Below, with_items, text_item, placed, at_finish, at_end, at_else, at_elseif, at_break, closed, body, branch_around, else_around, loop_around, macro_around, branch_end, branch_turn, with_branch, branches, if_inside, foreach_inside, macro_inside, at_macro, set_turn, directive_turn, reference_turn, item_at, behind_text, item_turn, items, blocks, below}
use Rattle.vtl_grammar.specs.Grammar.{Texts, Run, run_end, run_item, Ending, ending_finish, ending_else, ending_elseif, ending_branch, ending_body, Reads, reads_output, reads_line_comment, reads_comment, reads_break, reads_stop, reads_set, reads_if, reads_foreach, reads_macro, reads_call, Branched, branched_end, branched_else, branched_more}
use Rattle.vtl_grammar.proofs.Held.{Held, ok, err, next, held_within, either, Turned, gathered}
use Rattle.vtl_grammar.proofs.SoundLevels.{Inner, bottom, one_down}
use Rattle.vtl_grammar.proofs.SoundReferences.{referred_sound}
use Rattle.vtl_grammar.proofs.SoundExpressions.{ranked_sound, inside_sound}
use Rattle.vtl_grammar.proofs.SoundDirectives.{condition_sound, set_sound, foreach_sound, macro_sound, given_sound, no_call}

module _ (names : List (List ℕ)) where
  abbrev pub SoundBlock : ℕ → Block → Type 0
  SoundBlock d b = (a : Around) (s : Spot) → Held (λ p. Run names d a s p.0 p.1) (b a s)

  -- a level, with what reads the blocks inside where one is left
  pub data Blocked : ℕ → Option Block → Type 0 where
    no_block : Blocked zero None
    block_down : {d : ℕ} {b : Block} → SoundBlock d b → Blocked (suc d) (Some b)

  abbrev pub RunOf : ℕ → Around × Spot → Items × Stop → Type 0
  RunOf d z p = Run names d z.0 z.1 p.0 p.1

  -- what a turn at this place may give
  abbrev pub Turns : ℕ → Around → Spot → ItemTurn → Type 0
  Turns d a s r = Held (Turned (first with_items) (RunOf d) (a, s)) r

  placed_held : {d : ℕ} {a b : Around} {s t u : Spot} {x y : List ℕ} {i : Item} → Texts names s x t → Reads names d a x t y i b u → Turns d a s (Ok (placed b i (y, u)))
  placed_held h r = ok (λ q g. run_item h r g)

  ended_held : {d : ℕ} {a : Around} {s t : Spot} {x y : List ℕ} {e : Stop} → Texts names s x t → Ending names d a x t y e → Turns d a s (Ok (last (with_items (text_item y) no_items, e)))
  ended_held h k = ok (run_end h k)

  -- blocks

  module _ (d : ℕ) (b : Block) (sound : SoundBlock d b) where
    closed_sound : (a : Around) (s : Spot) (p : Items × Stop) → Run names d a s p.0 p.1 → Held (λ o. Run names d a s o.0 (End o.1)) (closed p)
    closed_sound a s (is, End u) h = ok h
    closed_sound a s (is, Finish) h = err
    closed_sound a s (is, Else u) h = err
    closed_sound a s (is, ElseIf e u) h = err

    pub body_sound : (a : Around) (s : Spot) → Held (λ o. Run names d a s o.0 (End o.1)) (body b a s)
    body_sound a s = next _ (sound a s) (λ p h. closed_sound a s p h)

    abbrev pub BranchedOf : Around → Expr × Spot → Branches × Spot → Type 0
    BranchedOf a c p = Branched names d a c.0 c.1 p.0 p.1

    branch_met : (a : Around) (c : Expr × Spot) (p : Items × Stop) → Run names d a c.1 p.0 p.1 → Held (Turned (first with_branch) (BranchedOf a) c) (branch_end b a c.0 p)
    branch_met a c (is, End u) h = ok (branched_end h)
    branch_met a c (is, Finish) h = err
    branch_met a c (is, Else u) h = next _ (body_sound (else_around a) u) (λ o k. ok (branched_else h k))
    branch_met a c (is, ElseIf e u) h = ok (λ q g. branched_more h g)

    pub branches_sound : (a : Around) (n : ℕ) (c : Expr × Spot) → Held (BranchedOf a c) (branches b a n c)
    branches_sound a n c = gathered (first with_branch) (branch_turn b a) (BranchedOf a) (λ z. next _ (sound a z.1) (λ p h. branch_met a z p h)) n c

  -- one turn, behind a text
  module _ (inner : Option Reader) (bl : Option Block) where
    abbrev pub around_here : Below
    around_here = record { names = names; inner = inner; blocks = bl }

    finish_sound : (d : ℕ) (a : Around) (s t : Spot) (x : List ℕ) (p : Where) → Texts names s x t → front_at names t.1 ≡ finish → a.place ≡ p → Turns d a s (at_finish p x)
    finish_sound d a s t x (at_top xs) h f e = ended_held h (ending_finish f e)
    finish_sound d a s t x in_branch h f e = err
    finish_sound d a s t x in_body h f e = err

    end_sound : (d at : ℕ) (a : Around) (s t : Spot) (x rest : List ℕ) (p : Where) → Texts names s x t → front_at names t.1 ≡ directive word.End rest → a.place ≡ p → Turns d a s (at_end p at (lines t.0 x rest))
    end_sound d at a s t x rest (at_top xs) h f e = err
    end_sound d at a s t x rest in_branch h f e = ended_held h (ending_branch f e refl)
    end_sound d at a s t x rest in_body h f e = ended_held h (ending_body f e refl)

    else_sound : (d at : ℕ) (a : Around) (s t : Spot) (x rest : List ℕ) (p : Where) → Texts names s x t → front_at names t.1 ≡ directive word.Else rest → a.place ≡ p → Turns d a s (at_else p at (lines t.0 x rest))
    else_sound d at a s t x rest (at_top xs) h f e = err
    else_sound d at a s t x rest in_branch h f e = ended_held h (ending_else f e refl)
    else_sound d at a s t x rest in_body h f e = err

    elseif_sound : (d : ℕ) (v : Inner names d inner) (a : Around) (s t : Spot) (x rest : List ℕ) (p : Where) → Texts names s x t → front_at names t.1 ≡ directive word.ElseIf rest → a.place ≡ p → Turns d a s (at_elseif around_here p (length t.1) t.0 x rest)
    elseif_sound d v a s t x rest (at_top xs) h f e = err
    elseif_sound d v a s t x rest in_branch h f e = next _ (condition_sound names d (reader names inner) (ranked_sound names d inner v) (length t.1) rest) (λ c k. ended_held h (ending_elseif f e k.1 k.2 refl))
    elseif_sound d v a s t x rest in_body h f e = err

    break_sound : (d at : ℕ) (a : Around) (s t : Spot) (x rest : List ℕ) → Texts names s x t → front_at names t.1 ≡ directive word.Break rest → Turns d a s (at_break a at (lines t.0 x rest))
    break_sound d at a s t x rest h f = either (a.loop) _ _ (λ e. placed_held h (reads_break f e refl)) (λ e. err)

    set_met : (d : ℕ) (v : Inner names d inner) (a : Around) (s t : Spot) (x rest : List ℕ) → Texts names s x t → front_at names t.1 ≡ directive word.Set rest → Turns d a s (set_turn around_here a (length t.1) t.0 x rest)
    set_met d v a s t x rest h f = next _ (set_sound names d (reader names inner) (ranked_sound names d inner v) (length t.1) a.params rest) (λ p k. placed_held h (reads_set f k.4 k.5 k.6 k.7 k.8 refl))

    reference_sound : (d : ℕ) (v : Inner names d inner) (a : Around) (s t : Spot) (x name rest : List ℕ) (quiet braced : Bool) → Texts names s x t → front_at names t.1 ≡ front.reference quiet braced name rest → Turns d a s (reference_turn around_here a x t.1 quiet braced name rest)
    reference_sound d v a s t x name rest quiet braced h f = next _ (referred_sound names v (dots_out braced) braced (length t.1) rest) (λ ss k. placed_held h (reads_output f k))

  if_sound : (d : ℕ) (inner : Option Reader) (bl : Option Block) (v : Inner names d inner) (u : Blocked d bl) (a : Around) (s t : Spot) (x rest : List ℕ) → Texts names s x t → front_at names t.1 ≡ directive word.If rest → Turns d a s (if_inside (around_here inner bl) a (length t.1) t.0 x rest)
  if_sound _ inner _ v no_block a s t x rest h f = next _ (condition_sound names zero (reader names inner) (ranked_sound names zero inner v) (length t.1) rest) (λ c k. err)
  if_sound _ inner _ v (block_down {d = d} {b = b} w) a s t x rest h f = next _ (condition_sound names (suc d) (reader names inner) (ranked_sound names (suc d) inner v) (length t.1) rest) (λ c k. next _ (branches_sound d b w (branch_around a) (length rest + 1) (c.0, (lines t.0 x c.1).1)) (λ r g. placed_held h (reads_if f k.1 k.2 refl g)))

  foreach_met : (d : ℕ) (inner : Option Reader) (bl : Option Block) (v : Inner names d inner) (u : Blocked d bl) (a : Around) (s t : Spot) (x rest : List ℕ) → Texts names s x t → front_at names t.1 ≡ directive word.ForEach rest → Turns d a s (foreach_inside (around_here inner bl) a (length t.1) t.0 x rest)
  foreach_met _ inner _ v no_block a s t x rest h f = next _ (foreach_sound names zero (reader names inner) (ranked_sound names zero inner v) (length t.1) a.params rest) (λ c k. err)
  foreach_met _ inner _ v (block_down {d = d} {b = b} w) a s t x rest h f = next _ (foreach_sound names (suc d) (reader names inner) (ranked_sound names (suc d) inner v) (length t.1) a.params rest) (λ c k. next _ (body_sound d b w (loop_around a) (lines t.0 x c.1).1) (λ o g. placed_held h (reads_foreach f k.4 k.5 k.6 k.7 k.8 refl g)))

  macro_inner : (d : ℕ) (inner : Option Reader) (bl : Option Block) (u : Blocked d bl) (a : Around) (s t : Spot) (x rest : List ℕ) (xs : List (List ℕ)) → Texts names s x t → front_at names t.1 ≡ directive word.Define rest → a.place ≡ at_top xs → Turns d a s (macro_inside (around_here inner bl) xs a (length t.1) t.0 x rest)
  macro_inner _ inner _ no_block a s t x rest xs h f e = next _ (macro_sound (length t.1) xs rest) (λ c k. err)
  macro_inner _ inner _ (block_down {d = d} {b = b} w) a s t x rest xs h f e = next _ (macro_sound (length t.1) xs rest) (λ c k. next _ (body_sound d b w (macro_around (c.0).1) (lines t.0 x c.1).1) (λ o g. placed_held h (reads_macro f e k.1 k.2 refl g)))

  macro_met : (d : ℕ) (inner : Option Reader) (bl : Option Block) (u : Blocked d bl) (a : Around) (s t : Spot) (x rest : List ℕ) (p : Where) → Texts names s x t → front_at names t.1 ≡ directive word.Define rest → a.place ≡ p → Turns d a s (at_macro (around_here inner bl) p a (length t.1) t.0 x rest)
  macro_met d inner bl u a s t x rest (at_top xs) h f e = held_within _ (macro_inner d inner bl u a s t x rest xs h f e)
  macro_met d inner bl u a s t x rest in_branch h f e = err
  macro_met d inner bl u a s t x rest in_body h f e = err

  call_met : (d : ℕ) (inner : Option Reader) (v : Inner names d inner) (a : Around) (s t : Spot) (x m rest : List ℕ) → Texts names s x t → front_at names t.1 ≡ directive (word.Macro m) rest → Turns d a s (call_at inner (length t.1) rest >>= λ es. Ok (placed a (macro_call (length t.1) m es.0) (x, (None, es.1))))
  call_met _ _ bottom a s t x m rest h f = next (λ es. Ok (placed a (macro_call (length t.1) m es.0) (x, (None, es.1)))) (no_call {P = λ p. ⊥} (length t.1) rest) (λ es k. absurd k)
  call_met _ _ (one_down {d = d} {r = r} w) a s t x m rest h f = next _ (given_sound names d r w (length t.1) rest) (λ es k. placed_held h (reads_call f k.1 k.2))

  module _ (d : ℕ) (inner : Option Reader) (bl : Option Block) (v : Inner names d inner) (u : Blocked d bl) where
    directive_sound : (a : Around) (s t : Spot) (x rest : List ℕ) (k : Word) → Texts names s x t → front_at names t.1 ≡ directive k rest → Turns d a s (directive_turn (around_here inner bl) a x t.0 (length t.1) k rest)
    directive_sound a s t x rest word.Refused h f = err
    directive_sound a s t x rest word.Else h f = else_sound inner bl d _ a s t x rest a.place h f refl
    directive_sound a s t x rest word.End h f = end_sound inner bl d _ a s t x rest a.place h f refl
    directive_sound a s t x rest word.ElseIf h f = elseif_sound inner bl d v a s t x rest a.place h f refl
    directive_sound a s t x rest word.Break h f = break_sound inner bl d _ a s t x rest h f
    directive_sound a s t x rest word.Stop h f = placed_held h (reads_stop f refl)
    directive_sound a s t x rest word.Set h f = set_met inner bl d v a s t x rest h f
    directive_sound a s t x rest word.If h f = held_within _ (if_sound d inner bl v u a s t x rest h f)
    directive_sound a s t x rest word.ForEach h f = held_within _ (foreach_met d inner bl v u a s t x rest h f)
    directive_sound a s t x rest word.Define h f = macro_met d inner bl u a s t x rest a.place h f refl
    directive_sound a s t x rest (word.Macro m) h f = call_met d inner v a s t x m rest h f

    item_sound : (a : Around) (s t : Spot) (x : List ℕ) (f : Front) → Texts names s x t → front_at names t.1 ≡ f → Turns d a s (item_at (around_here inner bl) a x t.0 t.1 f)
    item_sound a s t x finish h f = finish_sound inner bl d a s t x a.place h f refl
    item_sound a s t x (plain b rest) h f = err
    item_sound a s t x (raw y rest) h f = err
    item_sound a s t x unclosed h f = err
    item_sound a s t x bad_escape h f = err
    item_sound a s t x (front.reference quiet braced name rest) h f = reference_sound inner bl d v a s t x name rest quiet braced h f
    item_sound a s t x (line_comment rest) h f = placed_held h (reads_line_comment f)
    item_sound a s t x (long_comment rest) h f = placed_held h (reads_comment f)
    item_sound a s t x (directive k rest) h f = directive_sound a s t x rest k h f

    behind_sound : (a : Around) (s : Spot) (p : List ℕ × Spot) → text_run names (length s.1 + 1) [] s.0 s.1 ≡ p → Turns d a s (behind_text (around_here inner bl) a p)
    behind_sound a s p h = item_sound a s p.1 p.0 (front_at names (p.1).1) h refl

    pub items_sound : (a : Around) (s : Spot) → Held (λ p. Run names d a s p.0 p.1) (items (around_here inner bl) a s)
    items_sound a s = gathered (first with_items) (item_turn (around_here inner bl)) (RunOf d) (λ z. behind_sound z.0 z.1 (text_run names (length (z.1).1 + 1) [] (z.1).0 (z.1).1) refl) (length s.1 + 1) (a, s)

  pub blocks_sound : (d : ℕ) → Blocked d (blocks names d)
  unfolding blocks
  blocks_sound zero = no_block
  blocks_sound (suc d) = block_down (items_sound d (inside names d) (blocks names d) (inside_sound names d) (blocks_sound d))

  -- what is read as items is a run
  pub run_sound : (d : ℕ) (a : Around) (s : Spot) → Held (λ p. Run names d a s p.0 p.1) (items (below names d) a s)
  run_sound d = items_sound d (inside names d) (blocks names d) (inside_sound names d) (blocks_sound d)
