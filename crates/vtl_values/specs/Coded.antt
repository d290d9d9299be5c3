-- A code for values: each as a tree of numbers that gives it back.
use Rattle.std.specs.Prelude.{◌≡◌, ℕ, zero, suc, ℤ, pos, negsuc, Bool, true, false, List, [], ◌∷◌, refl}
use Rattle.std.proofs.Common.{ap, ◌∙◌}
use base.Stored.{Gv, gnil, gnum, gcons, Coded}
use Rattle.std.specs.Coded.{code_by}
use Rattle.vtl_values.specs.Val.{Val, Vals, Entries, null, boolean, whole, number, text, list, range, map, no_vals, val, no_entries, entry}

abbrev pub coded_tree : Coded Gv
coded_tree = record { code = λ g. g; inj = λ x y p. p }

abbrev pub to_bool : Bool → Gv
to_bool false = gnil
to_bool true = gnum 0

abbrev pub to_int : ℤ → Gv
to_int (pos n) = gcons gnil (gnum n)
to_int (negsuc n) = gcons (gnum 0) (gnum n)

abbrev pub to_bytes : List ℕ → Gv
to_bytes [] = gnil
to_bytes (n ∷ ns) = gcons (gnum n) (to_bytes ns)

abbrev mutual
  pub to_tree : Val → Gv
  to_tree null = gnil
  to_tree (boolean b) = gcons (gnum 0) (to_bool b)
  to_tree (whole n) = gcons (gnum 1) (to_int n)
  to_tree (number t) = gcons (gnum 2) (to_bytes t)
  to_tree (text t) = gcons (gnum 3) (to_bytes t)
  to_tree (list vs) = gcons (gnum 4) (to_vals vs)
  to_tree (range a b) = gcons (gnum 5) (gcons (to_int a) (to_int b))
  to_tree (map es) = gcons (gnum 6) (to_entries es)

  pub to_vals : Vals → Gv
  to_vals no_vals = gnil
  to_vals (val v vs) = gcons (to_tree v) (to_vals vs)

  pub to_entries : Entries → Gv
  to_entries no_entries = gnil
  to_entries (entry k v es) = gcons (gcons (to_bytes k) (to_tree v)) (to_entries es)

abbrev pub from_bool : Gv → Bool
from_bool gnil = false
from_bool (gnum n) = true
from_bool (gcons a b) = true

abbrev pub from_num : Gv → ℕ
from_num gnil = 0
from_num (gnum n) = n
from_num (gcons a b) = 0

abbrev pub signed : Gv → ℕ → ℤ
signed gnil n = pos n
signed (gnum k) n = negsuc n
signed (gcons a b) n = negsuc n

abbrev pub from_int : Gv → ℤ
from_int gnil = pos 0
from_int (gnum n) = pos 0
from_int (gcons a b) = signed a (from_num b)

abbrev pub from_bytes : Gv → List ℕ
from_bytes gnil = []
from_bytes (gnum n) = []
from_bytes (gcons a b) = from_num a ∷ from_bytes b

abbrev pub first : Gv → Gv
first gnil = gnil
first (gnum n) = gnil
first (gcons a b) = a

abbrev pub second : Gv → Gv
second gnil = gnil
second (gnum n) = gnil
second (gcons a b) = b

-- the value of the kind with this number, of these parts
abbrev pub kind : ℕ → Gv → Vals → Entries → Val
kind zero g vs es = boolean (from_bool g)
kind (suc zero) g vs es = whole (from_int g)
kind (suc (suc zero)) g vs es = number (from_bytes g)
kind (suc (suc (suc zero))) g vs es = text (from_bytes g)
kind (suc (suc (suc (suc zero)))) g vs es = list vs
kind (suc (suc (suc (suc (suc zero))))) g vs es = range (from_int (first g)) (from_int (second g))
kind (suc (suc (suc (suc (suc (suc n)))))) g vs es = map es

abbrev mutual
  pub from_tree : Gv → Val
  from_tree gnil = null
  from_tree (gnum n) = null
  from_tree (gcons a b) = kind (from_num a) b (from_vals b) (from_entries b)

  pub from_vals : Gv → Vals
  from_vals gnil = no_vals
  from_vals (gnum n) = no_vals
  from_vals (gcons a b) = val (from_tree a) (from_vals b)

  pub from_entries : Gv → Entries
  from_entries gnil = no_entries
  from_entries (gnum n) = no_entries
  from_entries (gcons gnil b) = no_entries
  from_entries (gcons (gnum n) b) = no_entries
  from_entries (gcons (gcons k v) b) = entry (from_bytes k) (from_tree v) (from_entries b)

pub from_to_bool : (b : Bool) → from_bool (to_bool b) ≡ b
from_to_bool false = refl
from_to_bool true = refl

pub from_to_int : (n : ℤ) → from_int (to_int n) ≡ n
from_to_int (pos n) = refl
from_to_int (negsuc n) = refl

pub from_to_bytes : (t : List ℕ) → from_bytes (to_bytes t) ≡ t
from_to_bytes [] = refl
from_to_bytes (n ∷ t) = ap (λ z. n ∷ z) (from_to_bytes t)

mutual
  pub from_to_tree : (v : Val) → from_tree (to_tree v) ≡ v
  from_to_tree null = refl
  from_to_tree (boolean b) = ap boolean (from_to_bool b)
  from_to_tree (whole n) = ap whole (from_to_int n)
  from_to_tree (number t) = ap number (from_to_bytes t)
  from_to_tree (text t) = ap text (from_to_bytes t)
  from_to_tree (list vs) = ap list (from_to_vals vs)
  from_to_tree (range a b) = ap (λ z. range z (from_int (to_int b))) (from_to_int a) ∙ ap (range a) (from_to_int b)
  from_to_tree (map es) = ap map (from_to_entries es)

  pub from_to_vals : (vs : Vals) → from_vals (to_vals vs) ≡ vs
  from_to_vals no_vals = refl
  from_to_vals (val v vs) = ap (λ z. val z (from_vals (to_vals vs))) (from_to_tree v) ∙ ap (val v) (from_to_vals vs)

  pub from_to_entries : (es : Entries) → from_entries (to_entries es) ≡ es
  from_to_entries no_entries = refl
  from_to_entries (entry k v es) =
      ap (λ z. entry z (from_tree (to_tree v)) (from_entries (to_entries es))) (from_to_bytes k)
      ∙ ap (λ z. entry k z (from_entries (to_entries es))) (from_to_tree v)
      ∙ ap (entry k v) (from_to_entries es)

abbrev pub val_code : Coded Val
val_code = code_by Gv coded_tree to_tree from_tree from_to_tree
