-- Each run of items of the grammar is read.
use Rattle.std.proofs.Common.{◌≡◌, ℕ, suc, ◌+◌, ◌-◌, ◌<◌, List, [], ◌∷◌, ◌++◌, length, ap, ◌∙◌, arith, true, false, None, Ok, Err}
use Rattle.vtl_grammar.specs.declared.fault.Fault.TheVariants as fault
use Rattle.vtl_grammar.specs.Tree.{Expr, named, Item, Items, Branches, output, set, choose, foreach, break_, stop, define, macro_call, no_items, otherwise, branch}
use Rattle.vtl_grammar.specs.Faults.{◌>>=◌, within}
use Rattle.vtl_grammar.specs.Loops.{first, last, more, gather}
use Rattle.vtl_grammar.specs.References.{source}
use Rattle.vtl_grammar.specs.Expressions.{reader, inside}
use Rattle.vtl_grammar.specs.Lines.{Spot, lines}
use Rattle.vtl_grammar.specs.Fronts.{front_at}
use Rattle.vtl_grammar.specs.Items.{Around, Stop, Else, ElseIf, End, Block, ItemTurn, with_items, text_item, placed, ended, at_finish, at_end, at_else, at_elseif, block_at, blocks, below, closed, body, branch_around, loop_around, macro_around, with_macro, branch_end, branch_turn, with_branch, branches, item_at, behind_text, item_turn, items, at_macro}
use Rattle.vtl_grammar.specs.Grammar.{Run, run_end, run_item, Ending, ending_finish, ending_else, ending_elseif, ending_branch, ending_body, Reads, reads_output, reads_line_comment, reads_comment, reads_break, reads_stop, reads_set, reads_if, reads_foreach, reads_macro, reads_call, Branched, branched_end, branched_else, branched_more}
use Rattle.vtl_grammar.proofs.LexicalFronts.{texts_less, lines_less}
use Rattle.vtl_grammar.proofs.LexicalDirectives.{bracket_less}
use Rattle.vtl_grammar.proofs.ShorterItems.{enclosed_less, run_less, reads_less}
use Rattle.vtl_grammar.proofs.Gathered.{gather_last, gather_more}
use Rattle.vtl_grammar.proofs.Expressions.{referred_read}
use Rattle.vtl_grammar.proofs.Heads.{block_some, enclosed_read, condition_read, set_read, foreach_read, macro_read, call_read}

-- what ends a run is read
ending_read : {names : List (List ℕ)} {d : ℕ} {a : Around} {x : List ℕ} {t : Spot} {y : List ℕ} {e : Stop} → Ending names d a x t y e → item_at (below names d) a x t.0 t.1 (front_at names t.1) ≡ Ok (last (with_items (text_item y) no_items, e))
ending_read {names = names} (ending_finish {d = d} {a = a} {x = x} {t = t} f p) =
    ap (item_at (below names d) a x t.0 t.1) f
    ∙ ap (λ z. at_finish z x) p
ending_read {names = names} (ending_else {d = d} {a = a} {x = x} {rest = rest} {t = t} f p l) =
    ap (item_at (below names d) a x t.0 t.1) f
    ∙ ap (λ z. at_else z (length t.1) (lines t.0 x rest)) p
    ∙ ap (λ z. Ok (ended Else z)) l
ending_read {names = names} (ending_elseif {d = d} {a = a} {x = x} {rest = rest} {inner = inner} {behind = behind} {t = t} {e = e} f p b q l) =
    ap (item_at (below names d) a x t.0 t.1) f
    ∙ ap (λ z. at_elseif (below names d) z (length t.1) t.0 x rest) p
    ∙ ap (λ z. z >>= λ c. Ok (ended (ElseIf c.0) (lines t.0 x c.1))) (condition_read (reader names (inside names d)) (length t.1) rest inner (e, behind) b (enclosed_read q))
    ∙ ap (λ z. Ok (ended (ElseIf e) z)) l
ending_read {names = names} (ending_branch {d = d} {a = a} {x = x} {rest = rest} {t = t} f p l) =
    ap (item_at (below names d) a x t.0 t.1) f
    ∙ ap (λ z. at_end z (length t.1) (lines t.0 x rest)) p
    ∙ ap (λ z. Ok (ended End z)) l
ending_read {names = names} (ending_body {d = d} {a = a} {x = x} {rest = rest} {t = t} f p l) =
    ap (item_at (below names d) a x t.0 t.1) f
    ∙ ap (λ z. at_end z (length t.1) (lines t.0 x rest)) p
    ∙ ap (λ z. Ok (ended End z)) l

mutual
  pub run_read : {names : List (List ℕ)} {d : ℕ} {a : Around} {s : Spot} {is : Items} {e : Stop} → Run names d a s is e → (n : ℕ) → length s.1 < n → gather (first with_items) (item_turn (below names d)) n (a, s) ≡ Ok (is, e)
  run_read {names = names} (run_end {d = d} {a = a} {s = s} {t = t} {x = x} {y = y} {e = e} q r) n h =
      gather_last (first with_items) (item_turn (below names d)) n (a, s) (with_items (text_item y) no_items, e)
      (ap (behind_text (below names d) a) q ∙ ending_read r)
      (omega (arith, h))
  run_read {names = names} (run_item {d = d} {a = a} {b = b} {s = s} {t = t} {u = u} {x = x} {y = y} {i = i} {is = is} {e = e} q r o) n h =
      gather_more (first with_items) (item_turn (below names d)) n (a, s) (text_item y ++ i ∷ []) (b, u) (is, e)
      (ap (behind_text (below names d) a) q ∙ reads_read r)
      (run_read o (n - 1) (omega (arith, h, texts_less names s x t q, reads_less r)))
      (omega (arith, h))

  pub reads_read : {names : List (List ℕ)} {d : ℕ} {a : Around} {x : List ℕ} {t : Spot} {y : List ℕ} {i : Item} {b : Around} {u : Spot} → Reads names d a x t y i b u → item_at (below names d) a x t.0 t.1 (front_at names t.1) ≡ Ok (more (text_item y ++ i ∷ []) (b, u))
  reads_read {names = names} (reads_output {d = d} {a = a} {x = x} {name = name} {t = t} {quiet = quiet} f r) =
      ap (item_at (below names d) a x t.0 t.1) f
      ∙ ap (λ z. z >>= λ ss. Ok (placed a (output (source quiet t.1 ss.1) (named name) ss.0) (x, (None, ss.1)))) (referred_read r (length t.1))
  reads_read {names = names} (reads_line_comment {d = d} {a = a} {x = x} {t = t} f) = ap (item_at (below names d) a x t.0 t.1) f
  reads_read {names = names} (reads_comment {d = d} {a = a} {x = x} {t = t} f) = ap (item_at (below names d) a x t.0 t.1) f
  reads_read {names = names} (reads_break {d = d} {a = a} {x = x} {rest = rest} {t = t} f p l) =
      ap (item_at (below names d) a x t.0 t.1) f
      ∙ ap (λ z. elim z as (λ _. ItemTurn) [ true ↦ Ok (placed a break_ (lines t.0 x rest)) | false ↦ Err (fault.BadDirective (length t.1)) ]) p
      ∙ ap (λ z. Ok (placed a break_ z)) l
  reads_read {names = names} (reads_stop {d = d} {a = a} {x = x} {t = t} f l) =
      ap (item_at (below names d) a x t.0 t.1) f
      ∙ ap (λ z. Ok (placed a stop z)) l
  reads_read {names = names} (reads_set {d = d} {a = a} {x = x} {rest = rest} {inner = inner} {left = left} {behind = behind} {value = value} {far = far} {t = t} {w = w} {e = e} f b m g v q l) =
      ap (item_at (below names d) a x t.0 t.1) f
      ∙ ap (λ z. z >>= λ s. Ok (placed a (set (s.0).0 (s.0).1) (lines t.0 x s.1))) (set_read (reader names (inside names d)) (length t.1) a.params rest inner left w behind value e far b m g v (enclosed_read q))
      ∙ ap (λ z. Ok (placed a (set w e) z)) l
  reads_read {names = names} (reads_if {d = d} {a = a} {x = x} {y = y} {rest = rest} {inner = inner} {far = far} {t = t} {s = s} {e = e} f b q l r) =
      let at : ℕ = length t.1 in
      let go : Block → List ℕ × Spot → ItemTurn = λ k z. branches k (branch_around a) (length rest + 1) (e, z.1) >>= λ r. Ok (placed a (choose r.0) (z.0, r.1)) in
      ap (item_at (below names (suc d)) a x t.0 t.1) f
      ∙ ap (λ z. within at (z >>= λ c. block_at at (blocks names (suc d)) (λ k. branches k (branch_around a) (length rest + 1) (c.0, (lines t.0 x c.1).1) >>= λ r. Ok (placed a (choose r.0) ((lines t.0 x c.1).0, r.1)))))
      (condition_read (reader names (inside names (suc d))) at rest inner (e, far) b (enclosed_read q))
      ∙ ap (within at) (block_some _ names d at (λ k. go k (lines t.0 x far)))
      ∙ ap (λ z. within at (go (items (below names d)) z)) l
      ∙ ap (λ z. within at (z >>= λ r. Ok (placed a (choose r.0) (y, r.1))))
      (branched_read r (length rest + 1) (omega (arith, bracket_less at rest inner b, enclosed_less q, lines_less t.0 x far y s l)))
  reads_read {names = names} (reads_foreach {d = d} {a = a} {x = x} {y = y} {rest = rest} {inner = inner} {left = left} {v = v} {behind = behind} {list = list} {far = far} {t = t} {s = s} {e = e} f b m n g q l r) =
      let at : ℕ = length t.1 in
      let go : Block → List ℕ × Spot → ItemTurn = λ k z. body k (loop_around a) z.1 >>= λ o. Ok (placed a (foreach v e o.0) (z.0, o.1)) in
      ap (item_at (below names (suc d)) a x t.0 t.1) f
      ∙ ap (λ z. within at (z >>= λ h. block_at at (blocks names (suc d)) (λ k. body k (loop_around a) (lines t.0 x h.1).1 >>= λ o. Ok (placed a (foreach (h.0).0 (h.0).1 o.0) ((lines t.0 x h.1).0, o.1)))))
      (foreach_read (reader names (inside names (suc d))) at a.params rest inner left v behind list e far b m n g (enclosed_read q))
      ∙ ap (within at) (block_some _ names d at (λ k. go k (lines t.0 x far)))
      ∙ ap (λ z. within at (go (items (below names d)) z)) l
      ∙ ap (λ z. within at ((z >>= closed) >>= λ o. Ok (placed a (foreach v e o.0) (y, o.1)))) (run_read r (length s.1 + 1) (omega arith))
  reads_read {names = names} (reads_macro {d = d} {a = a} {x = x} {y = y} {rest = rest} {inner = inner} {m = m} {far = far} {xs = xs} {ps = ps} {t = t} {s = s} f p b g l r) =
      let at : ℕ = length t.1 in
      let go : Block → List ℕ × Spot → ItemTurn = λ k z. body k (macro_around ps) z.1 >>= λ o. Ok (placed (with_macro xs m a) (define m ps o.0) (z.0, o.1)) in
      ap (item_at (below names (suc d)) a x t.0 t.1) f
      ∙ ap (λ z. at_macro (below names (suc d)) z a at t.0 x rest) p
      ∙ ap (λ z. within at (z >>= λ h. block_at at (blocks names (suc d)) (λ k. body k (macro_around (h.0).1) (lines t.0 x h.1).1 >>= λ o. Ok (placed (with_macro xs (h.0).0 a) (define (h.0).0 (h.0).1 o.0) ((lines t.0 x h.1).0, o.1)))))
      (macro_read at xs rest inner ((m, ps), far) b g)
      ∙ ap (within at) (block_some _ names d at (λ k. go k (lines t.0 x far)))
      ∙ ap (λ z. within at (go (items (below names d)) z)) l
      ∙ ap (λ z. within at ((z >>= closed) >>= λ o. Ok (placed (with_macro xs m a) (define m ps o.0) (y, o.1)))) (run_read r (length s.1 + 1) (omega arith))
  reads_read {names = names} (reads_call {d = d} {a = a} {x = x} {m = m} {rest = rest} {inner = inner} {t = t} f b q) =
      ap (item_at (below names (suc d)) a x t.0 t.1) f
      ∙ ap (λ z. z >>= λ es. Ok (placed a (macro_call (length t.1) m es.0) (x, (None, es.1)))) (call_read (length t.1) rest inner b q)

  pub branched_read : {names : List (List ℕ)} {d : ℕ} {a : Around} {e : Expr} {s : Spot} {bs : Branches} {u : Spot} → Branched names d a e s bs u → (n : ℕ) → length s.1 < n → gather (first with_branch) (branch_turn (items (below names d)) a) n (e, s) ≡ Ok (bs, u)
  branched_read {names = names} (branched_end {d = d} {a = a} {e = e} {s = s} {u = u} {is = is} r) n h =
      let k : Block = items (below names d) in
      gather_last (first with_branch) (branch_turn k a) n (e, s) (branch e is (otherwise no_items), u)
      (ap (λ z. z >>= branch_end k a e) (run_read r (length s.1 + 1) (omega arith)))
      (omega (arith, h))
  branched_read {names = names} (branched_else {d = d} {a = a} {e = e} {s = s} {t = t} {u = u} {is = is} {os = os} r q) n h =
      let k : Block = items (below names d) in
      gather_last (first with_branch) (branch_turn k a) n (e, s) (branch e is (otherwise os), u)
      (ap (λ z. z >>= branch_end k a e) (run_read r (length s.1 + 1) (omega arith))
      ∙ ap (λ z. (z >>= closed) >>= λ o. Ok (last (branch e is (otherwise o.0), o.1))) (run_read q (length t.1 + 1) (omega arith)))
      (omega (arith, h))
  branched_read {names = names} (branched_more {d = d} {a = a} {e = e} {f = f} {s = s} {t = t} {u = u} {is = is} {bs = bs} r q) n h =
      let k : Block = items (below names d) in
      gather_more (first with_branch) (branch_turn k a) n (e, s) (e, is) (f, t) (bs, u)
      (ap (λ z. z >>= branch_end k a e) (run_read r (length s.1 + 1) (omega arith)))
      (branched_read q (n - 1) (omega (arith, h, run_less r)))
      (omega (arith, h))
