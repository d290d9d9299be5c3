-- Values, as trees.
use Rattle.std.specs.Prelude.{ℕ, suc, max, ◌+◌, ℤ, Bool, List, [], ◌∷◌, length}

mutual
  pub data Val : Type 0 where
    null : Val
    boolean : Bool → Val
    whole : ℤ → Val
    number : List ℕ → Val
    text : List ℕ → Val
    list : Vals → Val
    range : ℤ → ℤ → Val
    map : Entries → Val

  pub data Vals : Type 0 where
    no_vals : Vals
    val : Val → Vals → Vals

  pub data Entries : Type 0 where
    no_entries : Entries
    entry : List ℕ → Val → Entries → Entries

abbrev pub vals_of : List Val → Vals
vals_of [] = no_vals
vals_of (v ∷ vs) = val v (vals_of vs)

abbrev pub vals_list : Vals → List Val
vals_list no_vals = []
vals_list (val v vs) = v ∷ vals_list vs

abbrev pub entries_of : List (List ℕ × Val) → Entries
entries_of [] = no_entries
entries_of (e ∷ es) = entry e.0 e.1 (entries_of es)

abbrev pub entries_list : Entries → List (List ℕ × Val)
entries_list no_entries = []
entries_list (entry k v es) = (k, v) ∷ entries_list es

-- how deep lists, ranges and maps nest
abbrev mutual
  pub depth : Val → ℕ
  depth null = 0
  depth (boolean b) = 0
  depth (whole n) = 0
  depth (number t) = 0
  depth (text t) = 0
  depth (list vs) = suc (vals_depth vs)
  depth (range a b) = 1
  depth (map es) = suc (entries_depth es)

  pub vals_depth : Vals → ℕ
  vals_depth no_vals = 0
  vals_depth (val v vs) = max (depth v) (vals_depth vs)

  pub entries_depth : Entries → ℕ
  entries_depth no_entries = 0
  entries_depth (entry k v es) = max (depth v) (entries_depth es)

-- the bytes of all strings in a value, keys among them, each as often as it stands there
abbrev mutual
  pub string_bytes : Val → ℕ
  string_bytes null = 0
  string_bytes (boolean b) = 0
  string_bytes (whole n) = 0
  string_bytes (number t) = 0
  string_bytes (text t) = length t
  string_bytes (list vs) = vals_bytes vs
  string_bytes (range a b) = 0
  string_bytes (map es) = entries_bytes es

  pub vals_bytes : Vals → ℕ
  vals_bytes no_vals = 0
  vals_bytes (val v vs) = string_bytes v + vals_bytes vs

  pub entries_bytes : Entries → ℕ
  entries_bytes no_entries = 0
  entries_bytes (entry k v es) = length k + string_bytes v + entries_bytes es
