-- A command has its words alone.
use Rattle.std.proofs.Common.{◌≡◌, ◌≤◌, ℕ, nat_le, Bool, true, false, cond, ◌&&◌, List, [], ◌∷◌, codes, bytes_eq, Option, Some, None, IfSome, refl, ap, subst, ◌∙◌, leb-true}
use Rattle.std.specs.Option.{option_and_then, option_map, option_or, option_zip}
use Rattle.std.proofs.lemmas.Bool.{and_parts}
use Rattle.std.proofs.lemmas.Slice.Eq.{bytes_eq-Decides}
use Rattle.record_fields.specs.Numbers.{number_of}
use Rattle.command_words.specs.Commands.{CommandsHaveTheirWords, IsAskedBy, IsWithin, admin_store, about_of, asked_of, check_name, command_of, other_of, in_range, is_argument, is_help, is_play, is_version, load_asked, load_of, number_to, if_asked, render_names, render_of, serve_asked, serve_of}
use Rattle.command_words.specs.declared.commands.Command.{Command}
use Rattle.command_words.specs.declared.commands.Command.TheVariants.{Help, Version, Play, Render, Check, Serve, Admin, Load}

some_same : {X : Type 0} {x y : X} → Some x ≡ Some y → x ≡ y
some_same e = cc

-- what the words of one row ask for
asked_serve : (words : List (List ℕ)) (command : Command) (o : Option (List ℕ × ℕ × ℕ)) → serve_asked words ≡ o
    → option_or (option_map serve_of o) None ≡ Some command → IsAskedBy words command
asked_serve words command None e f = absurd cc
asked_serve words command (Some (store, port, lanes)) e f = subst (IsAskedBy words) (some_same f) e

asked_load : (words : List (List ℕ)) (command : Command) (o : Option (ℕ × ℕ)) → load_asked words ≡ o
    → option_map load_of o ≡ Some command → IsAskedBy words command
asked_load words command None e f = absurd cc
asked_load words command (Some (seed, calls)) e f = subst (IsAskedBy words) (some_same f) e

asked : (words : List (List ℕ)) (command : Command) → other_of words ≡ Some command → IsAskedBy words command
unfolding other_of
asked [] command e = absurd cc
asked (name ∷ []) command e = by (bytes_eq name (codes "play")) refl e
  where
    by : (v : Bool) → bytes_eq name (codes "play") ≡ v → option_or (if_asked Play v) None ≡ Some command → IsAskedBy (name ∷ []) command
    by true is f = subst (IsAskedBy (name ∷ [])) (some_same f) is
    by false is f = absurd cc
asked (name ∷ only ∷ []) command e = by (bytes_eq name (codes "check")) refl (bytes_eq name (codes "admin")) refl (is_argument only) refl e
  where
    by : (v : Bool) → bytes_eq name (codes "check") ≡ v → (w : Bool) → bytes_eq name (codes "admin") ≡ w → (x : Bool) → is_argument only ≡ x
        → option_or (option_map Check (cond (v && x) (Some only) None)) (option_or (option_map Admin (cond (w && x) (Some only) None)) None) ≡ Some command
        → IsAskedBy (name ∷ only ∷ []) command
    by true a w b true d f = subst (IsAskedBy (name ∷ only ∷ [])) (some_same f) (rw (a, d) refl)
    by false a true b true d f = subst (IsAskedBy (name ∷ only ∷ [])) (some_same f) (rw (b, d) refl)
    by false a false b true d f = absurd cc
    by true a true b false d f = absurd cc
    by true a false b false d f = absurd cc
    by false a true b false d f = absurd cc
    by false a false b false d f = absurd cc
asked (name ∷ first ∷ second ∷ []) command e = by (bytes_eq name (codes "render") && (is_argument first && is_argument second)) refl e
  where
    by : (v : Bool) → (bytes_eq name (codes "render") && (is_argument first && is_argument second)) ≡ v
        → option_or (option_map render_of (cond v (Some (first, second)) None)) (option_map load_of (load_asked (name ∷ first ∷ second ∷ []))) ≡ Some command
        → IsAskedBy (name ∷ first ∷ second ∷ []) command
    by true is f = subst (IsAskedBy (name ∷ first ∷ second ∷ [])) (some_same f) (rw is refl)
    by false is f = asked_load (name ∷ first ∷ second ∷ []) command (load_asked (name ∷ first ∷ second ∷ [])) refl f
asked (name ∷ store ∷ port ∷ lanes ∷ []) command e =
    asked_serve (name ∷ store ∷ port ∷ lanes ∷ []) command (serve_asked (name ∷ store ∷ port ∷ lanes ∷ [])) refl e
asked (name ∷ store ∷ port ∷ lanes ∷ more ∷ words) command e = absurd cc

-- a name is one
apart : (name one other : List ℕ) → bytes_eq one other ≡ false → (bytes_eq name one && bytes_eq name other) ≡ false
apart name one other differ = by (bytes_eq name one) refl
  where
    by : (v : Bool) → bytes_eq name one ≡ v → (v && bytes_eq name other) ≡ false
    by true e = ap (λ n. bytes_eq n other) ((bytes_eq-Decides name one).0 e) ∙ differ
    by false e = refl

-- and are asked for by them
play_asks : (words : List (List ℕ)) → is_play words ≡ true → other_of words ≡ Some Play
unfolding other_of
play_asks [] e = absurd cc
play_asks (name ∷ []) e = rw e refl
play_asks (name ∷ other ∷ words) e = absurd cc

render_asks : (words : List (List ℕ)) (template body : List ℕ) → render_names words ≡ Some (template, body) → other_of words ≡ Some (Render template body)
unfolding other_of
render_asks [] template body e = absurd cc
render_asks (name ∷ []) template body e = absurd cc
render_asks (name ∷ a ∷ []) template body e = absurd cc
render_asks (name ∷ a ∷ b ∷ []) template body e = ap (λ o. option_or (option_map render_of o) (option_map load_of (load_asked (name ∷ a ∷ b ∷ [])))) e
render_asks (name ∷ a ∷ b ∷ other ∷ words) template body e = absurd cc

check_asks : (words : List (List ℕ)) (file : List ℕ) → check_name words ≡ Some file → other_of words ≡ Some (Check file)
unfolding other_of
check_asks [] file e = absurd cc
check_asks (name ∷ []) file e = absurd cc
check_asks (name ∷ a ∷ []) file e = ap (λ o. option_or (option_map Check o) (option_or (option_map Admin (admin_store (name ∷ a ∷ []))) None)) e
check_asks (name ∷ a ∷ other ∷ words) file e = absurd cc

serve_asks : (words : List (List ℕ)) (store : List ℕ) (port lanes : ℕ) → serve_asked words ≡ Some (store, port, lanes) → other_of words ≡ Some (Serve store port lanes)
unfolding other_of
serve_asks [] store port lanes e = absurd cc
serve_asks (name ∷ []) store port lanes e = absurd cc
serve_asks (name ∷ a ∷ []) store port lanes e = absurd cc
serve_asks (name ∷ a ∷ b ∷ []) store port lanes e = absurd cc
serve_asks (name ∷ a ∷ b ∷ c ∷ []) store port lanes e = ap (λ o. option_or (option_map serve_of o) None) e
serve_asks (name ∷ a ∷ b ∷ c ∷ other ∷ words) store port lanes e = absurd cc

admin_asks : (words : List (List ℕ)) (store : List ℕ) → admin_store words ≡ Some store → other_of words ≡ Some (Admin store)
unfolding other_of
admin_asks [] store e = absurd cc
admin_asks (name ∷ []) store e = absurd cc
admin_asks (name ∷ a ∷ []) store e = by (bytes_eq name (codes "check")) (bytes_eq name (codes "admin")) (is_argument a) (apart name (codes "check") (codes "admin") refl) e
  where
    by : (v w x : Bool) → (v && w) ≡ false → cond (w && x) (Some a) None ≡ Some store
        → option_or (option_map Check (cond (v && x) (Some a) None)) (option_or (option_map Admin (cond (w && x) (Some a) None)) None) ≡ Some (Admin store)
    by true true x n f = absurd cc
    by true false x n f = absurd cc
    by false w x n f = ap (λ o. option_or (option_map Admin o) None) f
admin_asks (name ∷ a ∷ other ∷ words) store e = absurd cc

load_asks : (words : List (List ℕ)) (seed calls : ℕ) → load_asked words ≡ Some (seed, calls) → other_of words ≡ Some (Load seed calls)
unfolding other_of
load_asks [] seed calls e = absurd cc
load_asks (name ∷ []) seed calls e = absurd cc
load_asks (name ∷ a ∷ []) seed calls e = absurd cc
load_asks (name ∷ a ∷ b ∷ []) seed calls e =
    by (bytes_eq name (codes "render")) (bytes_eq name (codes "load")) (apart name (codes "render") (codes "load") refl) e
  where
    by : (v w : Bool) → (v && w) ≡ false → cond w (option_zip (number_of 64 a) (number_to 300000 b)) None ≡ Some (seed, calls)
        → option_or (option_map render_of (cond (v && (is_argument a && is_argument b)) (Some (a, b)) None))
        (option_map load_of (cond w (option_zip (number_of 64 a) (number_to 300000 b)) None)) ≡ Some (Load seed calls)
    by true true n f = absurd cc
    by true false n f = absurd cc
    by false w n f = ap (option_map load_of) f
load_asks (name ∷ a ∷ b ∷ other ∷ words) seed calls e = absurd cc

-- such words ask neither for help nor for the version
behind_about : (words : List (List ℕ)) (command : Command) → other_of words ≡ Some command → command_of words ≡ Some command
unfolding command_of other_of
behind_about [] command e = absurd cc
behind_about (name ∷ []) command e =
    by (bytes_eq name (codes "play")) (bytes_eq name (codes "help")) (bytes_eq name (codes "version")) (apart name (codes "play") (codes "help") refl) (apart name (codes "play") (codes "version") refl) e
  where
    by : (v w x : Bool) → (v && w) ≡ false → (v && x) ≡ false → option_or (if_asked Play v) None ≡ Some command
        → option_or (option_or (if_asked Help w) (if_asked Version x)) (option_or (if_asked Play v) None) ≡ Some command
    by true true x n m f = absurd cc
    by true false true n m f = absurd cc
    by true false false n m f = f
    by false w x n m f = absurd cc
behind_about (name ∷ other ∷ words) command e = e

help_asks : (words : List (List ℕ)) → is_help words ≡ true → command_of words ≡ Some Help
unfolding command_of
help_asks [] e = absurd cc
help_asks (name ∷ []) e = rw e refl
help_asks (name ∷ other ∷ words) e = absurd cc

version_asks : (words : List (List ℕ)) → is_version words ≡ true → command_of words ≡ Some Version
unfolding command_of
version_asks [] e = absurd cc
version_asks (name ∷ []) e = by (bytes_eq name (codes "version")) (bytes_eq name (codes "help")) (apart name (codes "version") (codes "help") refl) e
  where
    by : (v w : Bool) → (v && w) ≡ false → v ≡ true → option_or (option_or (if_asked Help w) (if_asked Version v)) (other_of (name ∷ [])) ≡ Some Version
    by true true n f = absurd cc
    by true false n f = refl
    by false w n f = absurd cc
version_asks (name ∷ other ∷ words) e = absurd cc

asks : (words : List (List ℕ)) (command : Command) → IsAskedBy words command → command_of words ≡ Some command
asks words Help e = help_asks words e
asks words Version e = version_asks words e
asks words Play e = behind_about words Play (play_asks words e)
asks words (Render template body) e = behind_about words (Render template body) (render_asks words template body e)
asks words (Check name) e = behind_about words (Check name) (check_asks words name e)
asks words (Serve store port lanes) e = behind_about words (Serve store port lanes) (serve_asks words store port lanes e)
asks words (Admin store) e = behind_about words (Admin store) (admin_asks words store e)
asks words (Load seed calls) e = behind_about words (Load seed calls) (load_asks words seed calls e)

asked_for : (words : List (List ℕ)) (command : Command) → command_of words ≡ Some command → IsAskedBy words command
unfolding command_of
asked_for [] command e = asked [] command e
asked_for (name ∷ []) command e = by (bytes_eq name (codes "help")) refl (bytes_eq name (codes "version")) refl e
  where
    by : (v : Bool) → bytes_eq name (codes "help") ≡ v → (w : Bool) → bytes_eq name (codes "version") ≡ w
        → option_or (option_or (if_asked Help v) (if_asked Version w)) (other_of (name ∷ [])) ≡ Some command → IsAskedBy (name ∷ []) command
    by true a w b f = subst (IsAskedBy (name ∷ [])) (some_same f) a
    by false a true b f = subst (IsAskedBy (name ∷ [])) (some_same f) b
    by false a false b f = asked (name ∷ []) command f
asked_for (name ∷ other ∷ words) command e = asked (name ∷ other ∷ words) command e

pub commands_have_their_words : CommandsHaveTheirWords
commands_have_their_words words command = (asked_for words command, asks words command)

-- the numbers are within their bounds
number_within : (most : ℕ) (o : Option ℕ) (n : ℕ) → option_and_then (in_range most) o ≡ Some n → (1 ≤ n) × (n ≤ most)
number_within most None n e = absurd cc
number_within most (Some m) n e = by (nat_le 1 m && nat_le m most) refl e
  where
    by : (v : Bool) → (nat_le 1 m && nat_le m most) ≡ v → cond v (Some m) None ≡ Some n → (1 ≤ n) × (n ≤ most)
    by true is f =
        let parts = and_parts (nat_le 1 m) (nat_le m most) is in
        subst (λ k. (1 ≤ k) × (k ≤ most)) (some_same f) (leb-true 1 m parts.0, leb-true m most parts.1)
    by false is f = absurd cc

asked_within : (a : List ℕ) (p l : Option ℕ) (store : List ℕ) (port lanes : ℕ) → asked_of a p l ≡ Some (store, port, lanes) → (p ≡ Some port) × (l ≡ Some lanes)
asked_within a None l store port lanes e = absurd cc
asked_within a (Some p) None store port lanes e = absurd cc
asked_within a (Some p) (Some l) store port lanes e =
    let same : ◌≡◌ {A = List ℕ × ℕ × ℕ} (a, p, l) (store, port, lanes) = some_same e in
    (ap (λ (x : List ℕ × ℕ × ℕ). Some x.1) same, ap (λ (x : List ℕ × ℕ × ℕ). Some x.2) same)

serve_within : (words : List (List ℕ)) (store : List ℕ) (port lanes : ℕ) → serve_asked words ≡ Some (store, port, lanes) → (1 ≤ port) × (port ≤ 65535) × (1 ≤ lanes) × (lanes ≤ 8)
serve_within [] store port lanes e = absurd cc
serve_within (name ∷ []) store port lanes e = absurd cc
serve_within (name ∷ a ∷ []) store port lanes e = absurd cc
serve_within (name ∷ a ∷ b ∷ []) store port lanes e = absurd cc
serve_within (name ∷ a ∷ b ∷ c ∷ []) store port lanes e = by (bytes_eq name (codes "serve") && is_argument a) e
  where
    by : (v : Bool) → cond v (asked_of a (number_to 65535 b) (number_to 8 c)) None ≡ Some (store, port, lanes) → (1 ≤ port) × (port ≤ 65535) × (1 ≤ lanes) × (lanes ≤ 8)
    by true f =
        let both = asked_within a (number_to 65535 b) (number_to 8 c) store port lanes f in
        let first = number_within 65535 (number_of 64 b) port both.0 in
        let second = number_within 8 (number_of 64 c) lanes both.1 in
        (first.0, first.1, second.0, second.1)
    by false f = absurd cc
serve_within (name ∷ a ∷ b ∷ c ∷ other ∷ words) store port lanes e = absurd cc

zip_second : (p o : Option ℕ) (seed calls : ℕ) → option_zip p o ≡ Some (seed, calls) → o ≡ Some calls
zip_second None o seed calls e = absurd cc
zip_second (Some n) None seed calls e = absurd cc
zip_second (Some n) (Some m) seed calls e =
    let same : ◌≡◌ {A = ℕ × ℕ} (n, m) (seed, calls) = some_same e in
    ap (λ (x : ℕ × ℕ). Some x.1) same

load_within : (words : List (List ℕ)) (seed calls : ℕ) → load_asked words ≡ Some (seed, calls) → (1 ≤ calls) × (calls ≤ 300000)
load_within [] seed calls e = absurd cc
load_within (name ∷ []) seed calls e = absurd cc
load_within (name ∷ a ∷ []) seed calls e = absurd cc
load_within (name ∷ a ∷ b ∷ []) seed calls e = by (bytes_eq name (codes "load")) e
  where
    by : (v : Bool) → cond v (option_zip (number_of 64 a) (number_to 300000 b)) None ≡ Some (seed, calls) → (1 ≤ calls) × (calls ≤ 300000)
    by true f = number_within 300000 (number_of 64 b) calls (zip_second (number_of 64 a) (number_to 300000 b) seed calls f)
    by false f = absurd cc
load_within (name ∷ a ∷ b ∷ other ∷ words) seed calls e = absurd cc

one_within : (words : List (List ℕ)) (command : Command) → IsAskedBy words command → IsWithin command
one_within words Help e = tt
one_within words Version e = tt
one_within words Play e = tt
one_within words (Render template body) e = tt
one_within words (Check name) e = tt
one_within words (Serve store port lanes) e = serve_within words store port lanes e
one_within words (Admin store) e = tt
one_within words (Load seed calls) e = load_within words seed calls e

pub other_within : (words : List (List ℕ)) → IfSome (other_of words) IsWithin
other_within words = by (other_of words) refl
  where
    by : (o : Option Command) → other_of words ≡ o → IfSome o IsWithin
    by None e = tt
    by (Some command) e = one_within words command (asked words command e)
