-- What the words ask for.
use Rattle.std.specs.Prelude.{◌≡◌, ◌↔◌, ℕ, ◌==◌, ◌≤◌, nat_le, Bool, true, false, not, ◌&&◌, List, [], ◌∷◌, codes, Option, Some, None, if◌then◌else◌, ⊤}
use Rattle.std.specs.Option.{option_and_then, option_map, option_or, option_zip}
use Rattle.std.specs.Str.{bytes_eq}
use Rattle.record_fields.specs.Numbers.{number_of}
use Rattle.command_words.specs.declared.commands.Command.{Command}
use Rattle.command_words.specs.declared.commands.Command.TheVariants.{Help, Version, Play, Render, Check, Serve, Admin, Load}

-- the words are this one alone
abbrev pub is_alone : List ℕ → List (List ℕ) → Bool
is_alone name [] = false
is_alone name (word ∷ []) = bytes_eq word name
is_alone name (word ∷ other ∷ words) = false

-- the words are `help`, `version` or `play` alone
abbrev pub is_help : List (List ℕ) → Bool
is_help words = is_alone (codes "help") words

abbrev pub is_version : List (List ℕ) → Bool
is_version words = is_alone (codes "version") words

abbrev pub is_play : List (List ℕ) → Bool
is_play words = is_alone (codes "play") words

-- the word is neither empty nor a flag
abbrev pub is_argument : List ℕ → Bool
is_argument [] = false
is_argument (b ∷ rest) = not (b == 45)

-- the names of the files behind `render`: the template's and the body's
abbrev pub render_names : List (List ℕ) → Option (List ℕ × List ℕ)
render_names [] = None
render_names (word ∷ []) = None
render_names (word ∷ template ∷ []) = None
render_names (word ∷ template ∷ body ∷ []) =
    if bytes_eq word (codes "render") && (is_argument template && is_argument body) then Some (template, body) else None
render_names (word ∷ template ∷ body ∷ other ∷ words) = None

-- the name of the file behind `check`
abbrev pub check_name : List (List ℕ) → Option (List ℕ)
check_name [] = None
check_name (word ∷ []) = None
check_name (word ∷ name ∷ []) = if bytes_eq word (codes "check") && is_argument name then Some name else None
check_name (word ∷ name ∷ other ∷ words) = None

-- a number from 1 to the most
abbrev pub in_range : ℕ → ℕ → Option ℕ
in_range most n = if nat_le 1 n && nat_le n most then Some n else None

-- the number of a word, from 1 to the most
abbrev pub number_to : ℕ → List ℕ → Option ℕ
number_to most word = option_and_then (in_range most) (number_of 64 word)

-- a store with a port and a number of lanes, where both are numbers
abbrev pub asked_of : List ℕ → Option ℕ → Option ℕ → Option (List ℕ × ℕ × ℕ)
asked_of store None lanes = None
asked_of store (Some port) None = None
asked_of store (Some port) (Some lanes) = Some (store, port, lanes)

-- the store, the port and the number of lanes behind `serve`
abbrev pub serve_asked : List (List ℕ) → Option (List ℕ × ℕ × ℕ)
serve_asked [] = None
serve_asked (word ∷ []) = None
serve_asked (word ∷ store ∷ []) = None
serve_asked (word ∷ store ∷ port ∷ []) = None
serve_asked (word ∷ store ∷ port ∷ lanes ∷ []) =
    if bytes_eq word (codes "serve") && is_argument store then asked_of store (number_to 65535 port) (number_to 8 lanes) else None
serve_asked (word ∷ store ∷ port ∷ lanes ∷ other ∷ words) = None

-- the store behind `admin`
abbrev pub admin_store : List (List ℕ) → Option (List ℕ)
admin_store [] = None
admin_store (word ∷ []) = None
admin_store (word ∷ store ∷ []) = if bytes_eq word (codes "admin") && is_argument store then Some store else None
admin_store (word ∷ store ∷ other ∷ words) = None

-- the seed and the number of calls behind `load`
abbrev pub load_asked : List (List ℕ) → Option (ℕ × ℕ)
load_asked [] = None
load_asked (word ∷ []) = None
load_asked (word ∷ seed ∷ []) = None
load_asked (word ∷ seed ∷ calls ∷ []) = if bytes_eq word (codes "load") then option_zip (number_of 64 seed) (number_to 300000 calls) else None
load_asked (word ∷ seed ∷ calls ∷ other ∷ words) = None

-- this command, where it is asked for
abbrev pub if_asked : Command → Bool → Option Command
if_asked command asked = if asked then Some command else None

abbrev pub render_of : List ℕ × List ℕ → Command
render_of names = Render names.0 names.1

abbrev pub serve_of : List ℕ × ℕ × ℕ → Command
serve_of asked = Serve asked.0 asked.1 asked.2

abbrev pub load_of : ℕ × ℕ → Command
load_of asked = Load asked.0 asked.1

-- what the words ask for beyond `help` and `version`
unfoldable pub other_of : List (List ℕ) → Option Command
other_of words =
    option_or (if_asked Play (is_play words))
    (option_or (option_map render_of (render_names words))
    (option_or (option_map Check (check_name words))
    (option_or (option_map serve_of (serve_asked words))
    (option_or (option_map Admin (admin_store words)) (option_map load_of (load_asked words))))))

-- `help` or `version`, where one is asked for
abbrev pub about_of : List (List ℕ) → Option Command
about_of words = option_or (if_asked Help (is_help words)) (if_asked Version (is_version words))

-- what the words ask for
unfoldable pub command_of : List (List ℕ) → Option Command
command_of words = option_or (about_of words) (other_of words)

-- what a command's words are
abbrev pub IsAskedBy : List (List ℕ) → Command → Type 0
IsAskedBy words Help = is_help words ≡ true
IsAskedBy words Version = is_version words ≡ true
IsAskedBy words Play = is_play words ≡ true
IsAskedBy words (Render template body) = render_names words ≡ Some (template, body)
IsAskedBy words (Check name) = check_name words ≡ Some name
IsAskedBy words (Serve store port lanes) = serve_asked words ≡ Some (store, port, lanes)
IsAskedBy words (Admin store) = admin_store words ≡ Some store
IsAskedBy words (Load seed calls) = load_asked words ≡ Some (seed, calls)

-- The words ask for a command exactly where they are the words of it; so no words ask for two.
abbrev pub CommandsHaveTheirWords : Type 0
CommandsHaveTheirWords = (words : List (List ℕ)) (command : Command) → (command_of words ≡ Some command) ↔ IsAskedBy words command

-- the numbers of a command are within their bounds
abbrev pub IsWithin : Command → Type 0
IsWithin (Serve store port lanes) = (1 ≤ port) × (port ≤ 65535) × (1 ≤ lanes) × (lanes ≤ 8)
IsWithin (Load seed calls) = (1 ≤ calls) × (calls ≤ 300000)
IsWithin Help = ⊤
IsWithin Version = ⊤
IsWithin Play = ⊤
IsWithin (Render template body) = ⊤
IsWithin (Check name) = ⊤
IsWithin (Admin store) = ⊤
