-- The words in the table are those that ask for a command, but for the numbers.
use Rattle.std.proofs.Common.{◌≡◌, ℕ, ◌==◌, nat_le, nat_lt, ◌^◌, Bool, true, false, cond, not, ◌&&◌, ◌||◌, length, List, [], ◌∷◌, codes, bytes_eq, Option, Some, None, refl, ap, sym, subst, ◌∙◌}
use Rattle.std.specs.List.{list_all}
use Rattle.std.specs.Option.{option_and_then, option_map, option_or, option_zip}
use Rattle.std.proofs.lemmas.Bool.{and_parts, eqb-true}
use Rattle.std.proofs.lemmas.Slice.Eq.{bytes_eq-Decides}
use Rattle.clap.specs.Words.{Text, subcommand_of, takes}
use Rattle.record_fields.specs.Numbers.{is_decimal, number_of, read_on}
use Rattle.command_words.specs.Commands.{asked_of, other_of, in_range, is_argument, load_of, number_to, render_of, serve_of}
use Rattle.command_words.specs.Grammar.{gateway}
use Rattle.command_words.specs.Reading.{read_in}
use Rattle.command_words.specs.Table.{is_row}
use Rattle.command_words.specs.declared.commands.Command.{Command}
use Rattle.command_words.specs.declared.commands.Command.TheVariants.{Check, Admin}
use Rattle.command_words.proofs.Rows.{admin_read, admin_taken, check_read, check_taken, load_read, load_taken, play_read, play_taken, render_read, render_taken, serve_read, serve_taken}

is : (x y : Text) → bytes_eq x y ≡ true → x ≡ y
is x y e = (bytes_eq-Decides x y).0 e

no_flag : (v : Bool) → not v ≡ true → v ≡ false
no_flag true e = absurd cc
no_flag false e = refl

-- what is read in such words
abbrev IsRead : List Text → Type 0
IsRead words = (takes gateway words ≡ true) × (read_in (subcommand_of gateway words) ≡ other_of words)

or_none : (o : Option Command) → option_or o None ≡ o
or_none None = refl
or_none (Some x) = refl

play_row : IsRead (codes "play" ∷ [])
unfolding other_of
play_row = (play_taken, play_read)

check_row : (only : Text) → is_argument only ≡ true → IsRead (codes "check" ∷ only ∷ [])
unfolding other_of
check_row [] h = absurd cc
check_row (x ∷ a) h =
    let e = no_flag (x == 45) h in
    (check_taken x a e, check_read x a e ∙ rw e refl)

admin_row : (only : Text) → is_argument only ≡ true → IsRead (codes "admin" ∷ only ∷ [])
unfolding other_of
admin_row [] h = absurd cc
admin_row (x ∷ a) h =
    let e = no_flag (x == 45) h in
    (admin_taken x a e, admin_read x a e ∙ rw e refl)

render_row : (first second : Text) → is_argument first ≡ true → is_argument second ≡ true → IsRead (codes "render" ∷ first ∷ second ∷ [])
unfolding other_of
render_row [] second h k = absurd cc
render_row (x ∷ a) [] h k = absurd cc
render_row (x ∷ a) (y ∷ b) h k =
    let e = no_flag (x == 45) h in
    let f = no_flag (y == 45) k in
    (render_taken x y a b e f, render_read x y a b e f ∙ rw (e, f) refl)

load_row : (first second : Text) → is_argument first ≡ true → is_argument second ≡ true → IsRead (codes "load" ∷ first ∷ second ∷ [])
unfolding other_of
load_row [] second h k = absurd cc
load_row (x ∷ a) [] h k = absurd cc
load_row (x ∷ a) (y ∷ b) h k =
    let e = no_flag (x == 45) h in
    let f = no_flag (y == 45) k in
    (load_taken x y a b e f, load_read x y a b e f)

serve_row : (first second third : Text) → is_argument first ≡ true → is_argument second ≡ true → is_argument third ≡ true → IsRead (codes "serve" ∷ first ∷ second ∷ third ∷ [])
unfolding other_of
serve_row [] second third h k l = absurd cc
serve_row (x ∷ a) [] third h k l = absurd cc
serve_row (x ∷ a) (y ∷ b) [] h k l = absurd cc
serve_row (x ∷ a) (y ∷ b) (z ∷ c) h k l =
    let e = no_flag (x == 45) h in
    let f = no_flag (y == 45) k in
    let g = no_flag (z == 45) l in
    (serve_taken x y z a b c e f g, serve_read x y z a b c e f g ∙ sym (rw e (or_none _)))

-- `clap` takes the words in the table, and reads what they ask for
pub rows_are_read : (words : List Text) → is_row words ≡ true → IsRead words
rows_are_read [] h = absurd cc
rows_are_read (name ∷ []) h = subst (λ n. IsRead (n ∷ [])) (sym (is name (codes "play") h)) play_row
rows_are_read (name ∷ only ∷ []) h =
    let parts = and_parts (bytes_eq name (codes "check") || bytes_eq name (codes "admin")) (is_argument only) h in
    by (bytes_eq name (codes "check")) refl parts.0 parts.1
  where
    by : (v : Bool) → bytes_eq name (codes "check") ≡ v → (v || bytes_eq name (codes "admin")) ≡ true → is_argument only ≡ true → IsRead (name ∷ only ∷ [])
    by true e either argument = subst (λ n. IsRead (n ∷ only ∷ [])) (sym (is name (codes "check") e)) (check_row only argument)
    by false e either argument = subst (λ n. IsRead (n ∷ only ∷ [])) (sym (is name (codes "admin") either)) (admin_row only argument)
rows_are_read (name ∷ first ∷ second ∷ []) h =
    let parts = and_parts ((bytes_eq name (codes "render") || bytes_eq name (codes "load")) && is_argument first) (is_argument second) h in
    let front = and_parts (bytes_eq name (codes "render") || bytes_eq name (codes "load")) (is_argument first) parts.0 in
    by (bytes_eq name (codes "render")) refl front.0 front.1 parts.1
  where
    by : (v : Bool) → bytes_eq name (codes "render") ≡ v → (v || bytes_eq name (codes "load")) ≡ true → is_argument first ≡ true → is_argument second ≡ true
        → IsRead (name ∷ first ∷ second ∷ [])
    by true e either h k = subst (λ n. IsRead (n ∷ first ∷ second ∷ [])) (sym (is name (codes "render") e)) (render_row first second h k)
    by false e either h k = subst (λ n. IsRead (n ∷ first ∷ second ∷ [])) (sym (is name (codes "load") either)) (load_row first second h k)
rows_are_read (name ∷ first ∷ second ∷ third ∷ []) h =
    let parts = and_parts (bytes_eq name (codes "serve") && is_argument first && is_argument second) (is_argument third) h in
    let front = and_parts (bytes_eq name (codes "serve") && is_argument first) (is_argument second) parts.0 in
    let head = and_parts (bytes_eq name (codes "serve")) (is_argument first) front.0 in
    subst (λ n. IsRead (n ∷ first ∷ second ∷ third ∷ [])) (sym (is name (codes "serve") head.0)) (serve_row first second third head.1 front.1 parts.1)
rows_are_read (name ∷ first ∷ second ∷ third ∷ more ∷ words) h = absurd cc

-- a word that is no argument is no number
no_digits : (rest : Text) → list_all is_decimal (45 ∷ rest) ≡ false
no_digits rest = refl

not_with : (a b c : Bool) (n : Option ℕ) → b ≡ false → cond (a && b && c) n None ≡ None
not_with true b c n e = rw e refl
not_with false b c n e = refl

no_number : (word : Text) → is_argument word ≡ false → number_of 64 word ≡ None
unfolding number_of
no_number [] h = refl
no_number (b ∷ rest) h =
    let is_flag : b ≡ 45 = eqb-true b 45 (flag (b == 45) h) in
    subst (λ x. number_of 64 (x ∷ rest) ≡ None) (sym is_flag)
    (not_with (not (length (45 ∷ rest) == 0) && nat_le (length (45 ∷ rest)) 20) (list_all is_decimal (45 ∷ rest)) (nat_lt (read_on 0 (45 ∷ rest)) (2 ^ 64)) (Some (read_on 0 (45 ∷ rest))) (no_digits rest))
  where
    flag : (v : Bool) → not v ≡ false → v ≡ true
    flag true e = refl
    flag false e = absurd cc

none_to : (most : ℕ) (word : Text) → is_argument word ≡ false → number_to most word ≡ None
none_to most word h = ap (option_and_then (in_range most)) (no_number word h)

asked_none : (store : Text) (port : Option ℕ) → asked_of store port None ≡ None
asked_none store None = refl
asked_none store (Some port) = refl

zip_none : {X : Type 0} (o : Option ℕ) → option_zip {U = X} o None ≡ None
zip_none None = refl
zip_none (Some n) = refl

-- words outside the table ask for nothing
pub others_ask_nothing : (words : List Text) → is_row words ≡ false → None ≡ other_of words
unfolding other_of
others_ask_nothing [] h = refl
others_ask_nothing (name ∷ []) h = rw h refl
others_ask_nothing (name ∷ only ∷ []) h = by (bytes_eq name (codes "check")) (bytes_eq name (codes "admin")) (is_argument only) h
  where
    by : (v w x : Bool) → ((v || w) && x) ≡ false
        → ◌≡◌ {A = Option Command} None (option_or (option_map Check (cond (v && x) (Some only) None)) (option_or (option_map Admin (cond (w && x) (Some only) None)) None))
    by true true true e = absurd cc
    by true false true e = absurd cc
    by false true true e = absurd cc
    by false false true e = refl
    by true true false e = refl
    by true false false e = refl
    by false true false e = refl
    by false false false e = refl
others_ask_nothing (name ∷ first ∷ second ∷ []) h =
    by (bytes_eq name (codes "render")) (bytes_eq name (codes "load")) (is_argument first) refl (is_argument second) refl h
  where
    no_load : (w : Bool) → is_argument first ≡ w → (x : Bool) → is_argument second ≡ x → (w && x) ≡ false
        → ◌≡◌ {A = Option Command} None (option_map load_of (option_zip (number_of 64 first) (number_to 300000 second)))
    no_load true e true f g = absurd cc
    no_load true e false f g = rw (none_to 300000 second f, zip_none {X = ℕ} (number_of 64 first)) refl
    no_load false e x f g = rw (no_number first e) refl

    by : (v u w : Bool) → is_argument first ≡ w → (x : Bool) → is_argument second ≡ x → ((v || u) && w && x) ≡ false
        → ◌≡◌ {A = Option Command} None
        (option_or (option_map render_of (cond (v && (w && x)) (Some (first, second)) None))
        (option_map load_of (cond u (option_zip (number_of 64 first) (number_to 300000 second)) None)))
    by true true w e x f g = let k : (w && x) ≡ false = g in rw k (no_load w e x f k)
    by true false w e x f g = let k : (w && x) ≡ false = g in rw k refl
    by false true w e x f g = no_load w e x f g
    by false false w e x f g = refl
others_ask_nothing (name ∷ first ∷ second ∷ third ∷ []) h =
    by (bytes_eq name (codes "serve")) (is_argument first) (is_argument second) refl (is_argument third) refl h
  where
    by : (v w x : Bool) → is_argument second ≡ x → (y : Bool) → is_argument third ≡ y → (v && w && x && y) ≡ false
        → ◌≡◌ {A = Option Command} None (option_or (option_map serve_of (cond (v && w) (asked_of first (number_to 65535 second) (number_to 8 third)) None)) None)
    by true true true e true f g = absurd cc
    by true true true e false f g = rw (none_to 8 third f, asked_none first (number_to 65535 second)) refl
    by true true false e y f g = rw (none_to 65535 second e) refl
    by true false x e y f g = refl
    by false w x e y f g = refl
others_ask_nothing (name ∷ first ∷ second ∷ third ∷ more ∷ words) h = refl
