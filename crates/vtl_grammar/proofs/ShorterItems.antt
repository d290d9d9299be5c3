-- What follows an item is shorter.
use Rattle.std.proofs.Common.{ℕ, ◌+◌, ◌<◌, ◌≤◌, List, length, arith}
use Rattle.vtl_grammar.specs.Tree.{Expr, Exprs, Item, Items, Branches}
use Rattle.vtl_grammar.specs.Bytes.{white}
use Rattle.vtl_grammar.specs.Words as word
use Rattle.vtl_grammar.specs.Lines.{Spot}
use Rattle.vtl_grammar.specs.Fronts.{line_comment, long_comment, directive}
use Rattle.vtl_grammar.specs.Fronts as front
use Rattle.vtl_grammar.specs.Directives.{a_close, a_comma, is_apart}
use Rattle.vtl_grammar.specs.Items.{Around, Stop, Finish, Else, ElseIf, End}
use Rattle.vtl_grammar.specs.Grammar.{Enclosed, Further, further_end, further_comma, further_space, CallGiven, given_none, given_some, Run, run_end, run_item, Ending, ending_finish, ending_else, ending_elseif, ending_branch, ending_body, Reads, reads_output, reads_line_comment, reads_comment, reads_break, reads_stop, reads_set, reads_if, reads_foreach, reads_macro, reads_call, Branched, branched_end, branched_else, branched_more}
use Rattle.vtl_grammar.proofs.Lexical.{white_le, taken_less, taken_same}
use Rattle.vtl_grammar.proofs.LexicalFronts.{front_less, texts_less, lines_less}
use Rattle.vtl_grammar.proofs.LexicalDirectives.{bracket_less, form_less, form_name_less, target_less, loop_less, macro_less, between_less}
use Rattle.vtl_grammar.proofs.Shorter.{closes_less, ranked_less, referred_less}

pub enclosed_less : {names : List (List ℕ)} {d : ℕ} {bs : List ℕ} {e : Expr} {rest : List ℕ} → Enclosed names d bs e rest → length rest < length bs
enclosed_less q = omega (arith, ranked_less q.ranked, closes_less 41 q.behind q.closes)

pub further_less : {names : List (List ℕ)} {d : ℕ} {bs : List ℕ} {es : Exprs} {rest : List ℕ} → Further names d bs es rest → length rest < length bs
further_less (further_end {bs = bs} {rest = rest} e) = omega (arith, between_less (is_apart bs) (white bs) (a_close rest) e, white_le bs)
further_less (further_comma {bs = bs} {more = far} e t r q) = omega (arith, between_less (is_apart bs) (white bs) (a_comma far) e, white_le bs, white_le far, ranked_less r, further_less q)
further_less (further_space {bs = bs} e r q) = omega (arith, white_le bs, ranked_less r, further_less q)

pub given_less : {names : List (List ℕ)} {d : ℕ} {bs : List ℕ} {es : Exprs} {rest : List ℕ} → CallGiven names d bs es rest → length rest < length bs
given_less (given_none {bs = bs} t) = taken_less 41 bs t
given_less (given_some {bs = bs} t r q) = omega (arith, taken_same 41 bs t, ranked_less r, further_less q)

-- how many bytes stand from the last one of the directive on that ends a run
abbrev pub stop_left : Stop → ℕ
stop_left Finish = 0
stop_left (Else s) = length s.1 + 1
stop_left (ElseIf e s) = length s.1 + 1
stop_left (End s) = length s.1 + 1

mutual
  pub run_less : {names : List (List ℕ)} {d : ℕ} {a : Around} {s : Spot} {is : Items} {e : Stop} → Run names d a s is e → stop_left e ≤ length s.1
  run_less {names = names} (run_end {s = s} {t = t} {x = x} q r) = omega (arith, texts_less names s x t q, ending_less r)
  run_less {names = names} (run_item {s = s} {t = t} {x = x} q r more) = omega (arith, texts_less names s x t q, reads_less r, run_less more)

  pub ending_less : {names : List (List ℕ)} {d : ℕ} {a : Around} {x : List ℕ} {t : Spot} {y : List ℕ} {e : Stop} → Ending names d a x t y e → stop_left e ≤ length t.1
  ending_less (ending_finish f p) = omega arith
  ending_less {names = names} (ending_else {x = x} {y = y} {rest = rest} {t = t} {u = u} f p l) = omega (arith, front_less names t.1 (directive word.Else rest) f, lines_less t.0 x rest y u l)
  ending_less {names = names} (ending_elseif {x = x} {y = y} {rest = rest} {inner = inner} {behind = behind} {t = t} {u = u} f p b q l) = omega (arith, front_less names t.1 (directive word.ElseIf rest) f, bracket_less (length t.1) rest inner b, enclosed_less q, lines_less t.0 x behind y u l)
  ending_less {names = names} (ending_branch {x = x} {y = y} {rest = rest} {t = t} {u = u} f p l) = omega (arith, front_less names t.1 (directive word.End rest) f, lines_less t.0 x rest y u l)
  ending_less {names = names} (ending_body {x = x} {y = y} {rest = rest} {t = t} {u = u} f p l) = omega (arith, front_less names t.1 (directive word.End rest) f, lines_less t.0 x rest y u l)

  pub reads_less : {names : List (List ℕ)} {d : ℕ} {a : Around} {x : List ℕ} {t : Spot} {y : List ℕ} {i : Item} {b : Around} {u : Spot} → Reads names d a x t y i b u → length u.1 < length t.1
  reads_less {names = names} (reads_output {name = name} {behind = behind} {t = t} {quiet = quiet} {braced = braced} f r) = omega (arith, front_less names t.1 (front.reference quiet braced name behind) f, referred_less r)
  reads_less {names = names} (reads_line_comment {rest = rest} {t = t} f) = omega (arith, front_less names t.1 (line_comment rest) f)
  reads_less {names = names} (reads_comment {rest = rest} {t = t} f) = omega (arith, front_less names t.1 (long_comment rest) f)
  reads_less {names = names} (reads_break {x = x} {y = y} {rest = rest} {t = t} {u = u} f p l) = omega (arith, front_less names t.1 (directive word.Break rest) f, lines_less t.0 x rest y u l)
  reads_less {names = names} (reads_stop {x = x} {y = y} {rest = rest} {t = t} {u = u} f l) = omega (arith, front_less names t.1 (directive word.Stop rest) f, lines_less t.0 x rest y u l)
  reads_less {names = names} (reads_set {a = a} {x = x} {y = y} {rest = rest} {inner = inner} {left = left} {behind = behind} {value = value} {far = far} {t = t} {u = u} {w = w} f b m g v q l) =
      omega (arith, front_less names t.1 (directive word.Set rest) f, bracket_less (length t.1) rest inner b, white_le inner, form_less (length t.1) 36 (white inner) left m, target_less (length t.1) a.params left w behind g, white_le behind, form_less (length t.1) 61 (white behind) value v, enclosed_less q, lines_less t.0 x far y u l)
  reads_less {names = names} (reads_if {x = x} {y = y} {rest = rest} {inner = inner} {far = far} {t = t} {s = s} f b q l r) =
      omega (arith, front_less names t.1 (directive word.If rest) f, bracket_less (length t.1) rest inner b, enclosed_less q, lines_less t.0 x far y s l, branched_less r)
  reads_less {names = names} (reads_foreach {a = a} {x = x} {y = y} {rest = rest} {inner = inner} {left = left} {v = v} {behind = behind} {list = list} {far = far} {t = t} {s = s} f b m n g q l r) =
      omega (arith, front_less names t.1 (directive word.ForEach rest) f, bracket_less (length t.1) rest inner b, white_le inner, form_less (length t.1) 36 (white inner) left m, form_name_less (length t.1) left v behind n, loop_less (length t.1) a.params v behind list g, enclosed_less q, lines_less t.0 x far y s l, run_less r)
  reads_less {names = names} (reads_macro {x = x} {y = y} {rest = rest} {inner = inner} {m = m} {far = far} {xs = xs} {ps = ps} {t = t} {s = s} f p b g l r) =
      omega (arith, front_less names t.1 (directive word.Define rest) f, bracket_less (length t.1) rest inner b, macro_less (length t.1) xs inner (m, ps) far g, lines_less t.0 x far y s l, run_less r)
  reads_less {names = names} (reads_call {m = m} {rest = rest} {inner = inner} {t = t} f b q) =
      omega (arith, front_less names t.1 (directive (word.Macro m) rest) f, bracket_less (length t.1) rest inner b, white_le inner, given_less q)

  pub branched_less : {names : List (List ℕ)} {d : ℕ} {a : Around} {e : Expr} {s : Spot} {bs : Branches} {u : Spot} → Branched names d a e s bs u → length u.1 < length s.1
  branched_less (branched_end r) = omega (arith, run_less r)
  branched_less (branched_else r q) = omega (arith, run_less r, run_less q)
  branched_less (branched_more r q) = omega (arith, run_less r, branched_less q)
