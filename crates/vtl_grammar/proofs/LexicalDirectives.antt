-- What the heads of directives take from the front of a text.
use Rattle.std.proofs.Common.{◌≡◌, ℕ, zero, suc, ◌+◌, ◌≤◌, List, [], ◌∷◌, length, ap, arith, Bool, true, false, Option, Some, None, Result, Ok, Err, if◌then◌else◌, ◌==◌, bytes_eq, codes}
use Rattle.vtl_grammar.specs.declared.fault.Fault.{Fault}
use Rattle.vtl_grammar.specs.declared.fault.Fault.TheVariants as fault
use Rattle.vtl_grammar.specs.Tree.{Target}
use Rattle.vtl_grammar.specs.Bytes.{is_white, white, blanks, name_at, taken, is_one_of}
use Rattle.vtl_grammar.specs.Faults.{◌>>=◌, Read}
use Rattle.vtl_grammar.specs.Loops.{first, last, more, gather, gather_on}
use Rattle.vtl_grammar.specs.Directives.{bad_form, form, form_name_or, form_name, bracket_or, bracket, goes_on, NameTurn, with_name, path_on, path_turn, path, context_of, Left, parameter, context_path, refused, free_name, left_of, target_of, more_behind, target_closed, target, begins_in, in_or, loop_variable, is_apart, param_on, param_turn, params, macro_named, macro_in, Between, a_close, a_comma, a_space, nothing, between_of}
use Rattle.vtl_grammar.proofs.Lexical.{pick_le, if_le, sized, read_size, list_left, name_le, taken_le, white_le, blanks_le}

bracket_or_le : (at : ℕ) (c : Bool × List ℕ) → list_left (bracket_or at c) ≤ length c.1
bracket_or_le at (true, rest) = omega arith
bracket_or_le at (false, rest) = omega arith

pub bracket_less : (at : ℕ) (bs inner : List ℕ) → bracket at bs ≡ Ok inner → length inner ≤ length bs
bracket_less at bs inner e =
    let h : list_left (bracket at bs) ≡ list_left (Ok inner) = ap (λ z. list_left z) e in
    omega (arith, h, bracket_or_le at (taken 40 (blanks bs)), taken_le 40 (blanks bs), blanks_le bs)

form_le : (at c : ℕ) (bs : List ℕ) → list_left (form at c bs) ≤ length bs
form_le at c [] = omega arith
form_le at c (b ∷ bs) = if_le {A = Result (List ℕ) Fault} (λ z. list_left z) (b == c) (Ok bs) (Err (fault.BadDirective at)) (length (b ∷ bs)) (omega arith) (omega arith)

pub form_less : (at c : ℕ) (bs rest : List ℕ) → form at c bs ≡ Ok rest → length rest ≤ length bs
form_less at c bs rest e =
    let h : list_left (form at c bs) ≡ list_left (Ok rest) = ap (λ z. list_left z) e in
    omega (arith, h, form_le at c bs)

bad_form_le : (A : Type 0) (at : ℕ) (bs : List ℕ) (n : ℕ) → read_size {A = A} (bad_form at bs) ≤ n
bad_form_le A at [] n = omega arith
bad_form_le A at (b ∷ bs) n = omega arith

form_name_or_le : (at : ℕ) (bs : List ℕ) (o : Option (List ℕ × List ℕ)) → read_size (form_name_or at bs o) ≤ sized o
form_name_or_le at bs None = bad_form_le (List ℕ) at bs 0
form_name_or_le at bs (Some p) = omega arith

form_name_le : (at : ℕ) (bs : List ℕ) → read_size (form_name at bs) ≤ length bs + 1
form_name_le at bs = omega (arith, form_name_or_le at bs (name_at bs), name_le bs)

pub form_name_less : (at : ℕ) (bs x rest : List ℕ) → form_name at bs ≡ Ok (x, rest) → length rest ≤ length bs
form_name_less at bs x rest e =
    let h : read_size (form_name at bs) ≡ read_size {A = List ℕ} (Ok (x, rest)) = ap (λ z. read_size z) e in
    omega (arith, h, form_name_le at bs)

-- one thing read behind another
bind_le : {A B : Type 0} (r : Read A) (f : A × List ℕ → Read B) (n : ℕ) → read_size r ≤ n + 1 → ((p : A × List ℕ) → read_size (f p) ≤ length p.1 + 1) → read_size (r >>= f) ≤ n + 1
bind_le (Ok p) f n h k = omega (arith, h, k p)
bind_le (Err e) f n h k = omega arith

then_le : {A : Type 0} (x : A) (r : Result (List ℕ) Fault) → read_size {A = A} (r >>= λ rest. Ok (x, rest)) ≤ list_left r + 1
then_le x (Ok rest) = omega arith
then_le x (Err f) = omega arith

abbrev turn_left : NameTurn → ℕ
turn_left (Ok (last b)) = length b.1
turn_left (Ok (more x s)) = length s
turn_left (Err f) = 0

turn_le : (next : List ℕ → Read (List (List ℕ))) (t : NameTurn) (n : ℕ) → ((s : List ℕ) → read_size (next s) ≤ length s + 1) → turn_left t ≤ n → read_size (t >>= gather_on (first with_name) next) ≤ n + 1
turn_le next (Ok (last b)) n h k = omega (arith, k)
turn_le next (Ok (more x s)) n h k = bind_le (next s) (λ b. Ok (first with_name x b)) n (omega (arith, h s, k)) (λ p. omega arith)
turn_le next (Err f) n h k = omega arith

gather_le : (one : List ℕ → NameTurn) → ((s : List ℕ) → turn_left (one s) ≤ length s) → (n : ℕ) (s : List ℕ) → read_size (gather (first with_name) one n s) ≤ length s + 1
unfolding gather
gather_le one h zero s = omega arith
gather_le one h (suc n) s = turn_le (gather (first with_name) one n) (one s) (length s) (λ u. gather_le one h n u) (h s)

name_turn_le : (r : Read (List ℕ)) (n : ℕ) → read_size r ≤ n + 1 → turn_left (r >>= λ x. Ok (more x.0 x.1)) ≤ n
name_turn_le (Ok p) n h = omega (arith, h)
name_turn_le (Err f) n h = omega arith

path_on_le : (at : ℕ) (c : Bool × List ℕ) → turn_left (path_on at c) ≤ length c.1
path_on_le at (false, rest) = omega arith
path_on_le at (true, rest) = name_turn_le (form_name at rest) (length rest) (form_name_le at rest)

path_turn_le : (at : ℕ) (bs : List ℕ) → turn_left (path_turn at bs) ≤ length bs
path_turn_le at bs = omega (arith, path_on_le at (taken 46 bs), taken_le 46 bs)

context_of_le : (at : ℕ) (p : List (List ℕ) × List ℕ) → read_size (context_of at p) ≤ length p.1 + 1
context_of_le at ([], rest) = omega arith
context_of_le at (x ∷ xs, rest) = omega arith

target_of_le : (at : ℕ) (l : Left) (x rest : List ℕ) → read_size (target_of at l x rest) ≤ length rest + 1
target_of_le at parameter x rest = pick_le {A = Read Target} (λ z. read_size z) (goes_on rest) (Err (fault.BadDirective at)) (Err (fault.ParamAssigned (length x + length rest))) (length rest + 1) (omega arith) (omega arith)
target_of_le at context_path x rest = bind_le (path at rest) (context_of at) (length rest) (gather_le (path_turn at) (path_turn_le at) (length rest + 1) rest) (context_of_le at)
target_of_le at refused x rest = omega arith
target_of_le at free_name x rest = omega arith

behind_le : (A : Type 0) (bs : List ℕ) (r : Read A) (n : ℕ) → read_size r ≤ n → read_size (more_behind bs r) ≤ n
behind_le A [] r n h = omega arith
behind_le A (b ∷ bs) r n h = h

target_closed_le : (at : ℕ) (t : Bool) (r : Read Target) (n : ℕ) → read_size r ≤ n + 1 → read_size (target_closed at t r) ≤ n + 1
target_closed_le at false r n h = h
target_closed_le at true r n h = bind_le r (λ t. (form at 125 t.1 >>= λ rest. Ok (t.0, rest))) n h (λ p. omega (arith, then_le p.0 (form at 125 p.1), form_le at 125 p.1))

target_le : (at : ℕ) (ps : List (List ℕ)) (c : Bool × List ℕ) → read_size (target at ps c) ≤ length c.1 + 1
target_le at ps c =
    bind_le (form_name at c.1) (λ p. more_behind p.1 (target_closed at c.0 (target_of at (left_of ps p.0) p.0 p.1))) (length c.1) (form_name_le at c.1)
    (λ p. behind_le Target p.1 (target_closed at c.0 (target_of at (left_of ps p.0) p.0 p.1)) (length p.1 + 1) (target_closed_le at c.0 (target_of at (left_of ps p.0) p.0 p.1) (length p.1) (target_of_le at (left_of ps p.0) p.0 p.1)))

pub target_less : (at : ℕ) (ps : List (List ℕ)) (bs : List ℕ) (w : Target) (rest : List ℕ) → target at ps (taken 123 bs) ≡ Ok (w, rest) → length rest ≤ length bs
target_less at ps bs w rest e =
    let h : read_size (target at ps (taken 123 bs)) ≡ read_size {A = Target} (Ok (w, rest)) = ap (λ z. read_size z) e in
    omega (arith, h, target_le at ps (taken 123 bs), taken_le 123 bs)

bad_in_le : (at : ℕ) (bs : List ℕ) (n : ℕ) → list_left (bad_form at bs) ≤ n
bad_in_le at [] n = omega arith
bad_in_le at (b ∷ bs) n = omega arith

in_le : (at : ℕ) (bs : List ℕ) (o : Option (List ℕ × List ℕ)) → list_left (in_or at bs o) ≤ sized o
in_le at bs None = bad_in_le at bs 0
in_le at bs (Some p) =
    let other : Result (List ℕ) Fault = elim (begins_in bs) [ true ↦ Err (fault.Unclosed 0) | false ↦ Err (fault.BadDirective at) ] in
    pick_le {A = Result (List ℕ) Fault} (λ z. list_left z) (bytes_eq p.0 (codes "in")) (Ok p.1) other (length p.1 + 1) (omega arith)
    (pick_le {A = Result (List ℕ) Fault} (λ z. list_left z) (begins_in bs) (Err (fault.Unclosed 0)) (Err (fault.BadDirective at)) (length p.1 + 1) (omega arith) (omega arith))

loop_le : (at : ℕ) (ps : List (List ℕ)) (x bs : List ℕ) → list_left (loop_variable at ps x bs) ≤ length bs
loop_le at ps x [] = omega arith
loop_le at ps x (b ∷ bs) =
    let inner : Result (List ℕ) Fault = elim (is_one_of ps x) [ true ↦ Err (fault.ParamAssigned (length x + length bs + 1)) | false ↦ in_or at (white bs) (name_at (white bs)) ] in
    pick_le {A = Result (List ℕ) Fault} (λ z. list_left z) (is_white b) inner (Err (fault.BadDirective at)) (length (b ∷ bs))
    (pick_le {A = Result (List ℕ) Fault} (λ z. list_left z) (is_one_of ps x) (Err (fault.ParamAssigned (length x + length bs + 1))) (in_or at (white bs) (name_at (white bs))) (length (b ∷ bs)) (omega arith) (omega (arith, in_le at (white bs) (name_at (white bs)), name_le (white bs), white_le bs)))
    (omega arith)

pub loop_less : (at : ℕ) (ps : List (List ℕ)) (x bs rest : List ℕ) → loop_variable at ps x bs ≡ Ok rest → length rest ≤ length bs
loop_less at ps x bs rest e =
    let h : list_left (loop_variable at ps x bs) ≡ list_left (Ok rest) = ap (λ z. list_left z) e in
    omega (arith, h, loop_le at ps x bs)

bad_turn_le : (at : ℕ) (bs : List ℕ) (n : ℕ) → turn_left (bad_form at bs) ≤ n
bad_turn_le at [] n = omega arith
bad_turn_le at (b ∷ bs) n = omega arith

param_form_le : (at : ℕ) (r : Result (List ℕ) Fault) (n : ℕ) → list_left r ≤ n → turn_left (r >>= λ a. (form_name at a >>= λ x. Ok (more x.0 x.1))) ≤ n
param_form_le at (Ok a) n h = name_turn_le (form_name at a) n (omega (arith, h, form_name_le at a))
param_form_le at (Err f) n h = omega arith

param_on_le : (at : ℕ) (apart : Bool) (c : Bool × List ℕ) → turn_left (param_on at apart c) ≤ length c.1
param_on_le at true (true, rest) = omega arith
param_on_le at false (true, rest) = omega arith
param_on_le at false (false, rest) = bad_turn_le at rest (length rest)
param_on_le at true (false, rest) = param_form_le at (form at 36 rest) (length rest) (form_le at 36 rest)

param_turn_le : (at : ℕ) (bs : List ℕ) → turn_left (param_turn at bs) ≤ length bs
param_turn_le at bs = omega (arith, param_on_le at (is_apart bs) (taken 41 (white bs)), taken_le 41 (white bs), white_le bs)

macro_named_le : (at : ℕ) (xs : List (List ℕ)) (x rest : List ℕ) → read_size (macro_named at xs x rest) ≤ length rest + 1
macro_named_le at xs x rest =
    pick_le {A = Read (List ℕ × List (List ℕ))} (λ z. read_size z) (is_one_of xs x) (Err (fault.BadDirective at)) (params at rest >>= λ ps. Ok ((x, ps.0), ps.1)) (length rest + 1) (omega arith)
    (bind_le (params at rest) (λ ps. Ok ((x, ps.0), ps.1)) (length rest) (gather_le (param_turn at) (param_turn_le at) (length rest + 1) rest) (λ p. omega arith))

macro_le : (at : ℕ) (xs : List (List ℕ)) (bs : List ℕ) → read_size (macro_in at xs bs) ≤ length (white bs) + 1
macro_le at xs bs =
    bind_le (form_name at (white bs)) (λ p. more_behind p.1 (macro_named at xs p.0 p.1)) (length (white bs)) (form_name_le at (white bs))
    (λ p. behind_le (List ℕ × List (List ℕ)) p.1 (macro_named at xs p.0 p.1) (length p.1 + 1) (macro_named_le at xs p.0 p.1))

pub macro_less : (at : ℕ) (xs : List (List ℕ)) (bs : List ℕ) (m : List ℕ × List (List ℕ)) (rest : List ℕ) → macro_in at xs bs ≡ Ok (m, rest) → length rest ≤ length bs
macro_less at xs bs m rest e =
    let h : read_size (macro_in at xs bs) ≡ read_size {A = List ℕ × List (List ℕ)} (Ok (m, rest)) = ap (λ z. read_size z) e in
    omega (arith, h, macro_le at xs bs, white_le bs)

abbrev pub between_left : Between → ℕ
between_left (a_close rest) = length rest + 1
between_left (a_comma rest) = length rest + 1
between_left a_space = 0
between_left nothing = 0

between_le : (apart : Bool) (bs : List ℕ) → between_left (between_of apart bs) ≤ length bs
between_le apart [] = omega arith
between_le apart (b ∷ bs) =
    if_le {A = Between} (λ z. between_left z) (b == 41) (a_close bs) (if b == 44 then a_comma bs else if apart then a_space else nothing) (length (b ∷ bs)) (omega arith)
    (if_le {A = Between} (λ z. between_left z) (b == 44) (a_comma bs) (if apart then a_space else nothing) (length (b ∷ bs)) (omega arith)
    (if_le {A = Between} (λ z. between_left z) apart a_space nothing (length (b ∷ bs)) (omega arith) (omega arith)))

pub between_less : (apart : Bool) (bs : List ℕ) (b : Between) → between_of apart bs ≡ b → between_left b ≤ length bs
between_less apart bs b e = let h : between_left (between_of apart bs) ≡ between_left b = ap (λ z. between_left z) e in omega (arith, h, between_le apart bs)
