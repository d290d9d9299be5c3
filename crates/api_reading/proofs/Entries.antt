-- The members of an object, by their names.
use Rattle.std.proofs.Common.{◌≡◌, ℕ, Bool, true, false, List, [], ◌∷◌, ◌++◌, Option, Some, None, Result, Ok, refl, sym, ap, ◌∙◌, subst}
use Rattle.std.specs.Prelude.{if◌then◌else◌}
use Rattle.std.specs.List.{All}
use Rattle.std.specs.Str.{bytes_eq}
use Rattle.std.proofs.lemmas.List.Elements.{All-nil, All-cons, All-head, All-tail}
use Rattle.std.proofs.lemmas.Slice.Eq.{bytes_eq-Decides}
use Rattle.json_subset.specs.Documents.{decoded, first_named, form, member_named}
use Rattle.json_subset.specs.Grammar.{AreDistinctMembers, HasNewNames, IsDistinct, IsDistinctForm}
use Rattle.json_subset.specs.Reading.{named}
use Rattle.json_subset.specs.Tree.{Tree, node, Form, null, bool, number, text, list, object, Members, no_members, member}
use Rattle.json_subset.specs.declared.doc.Kind.{Kind}
use Rattle.json_subset.specs.declared.doc.Kind.TheVariants as kinds
use Rattle.json_subset.proofs.Names.{named_push}
use Rattle.json_values.specs.Parts.{entries_of, members_in}
use Rattle.resource_tree.specs.Parameters.{value_at}
use Rattle.api_parts.specs.Reading.{Text, Read, bad}
use Rattle.api_reading.specs.Values.{object_by, object_in, text_by, text_in}

-- what is read as an object are its members
by_kind : (name : Text) (ms out : List (Text × Tree)) (k : Kind) → object_by name ms k ≡ Ok out → out ≡ ms
by_kind name ms out kinds.Null e = absurd cc
by_kind name ms out (kinds.Bool b) e = absurd cc
by_kind name ms out (kinds.Whole z) e = absurd cc
by_kind name ms out kinds.Decimal e = absurd cc
by_kind name ms out kinds.Wide e = absurd cc
by_kind name ms out kinds.Text e = absurd cc
by_kind name ms out (kinds.List n) e = absurd cc
by_kind name ms out (kinds.Object n) e = cc

pub object_is : (name : Text) (t : Tree) (ms : List (Text × Tree)) → object_in name t ≡ Ok ms → ms ≡ entries_of (form t)
object_is name t ms e = by_kind name (entries_of (form t)) ms _ e

-- and as a text what it decodes to
by_text : (name out : Text) (o : Option Text) → text_by name o ≡ Ok out → o ≡ Some out
by_text name out None e = absurd cc
by_text name out (Some s) e = cc

pub text_is : (name : Text) (t : Tree) (s : Text) → text_in name t ≡ Ok s → decoded (form t) ≡ Some s
text_is name t s e = by_text name s (decoded (form t)) e

same_bytes : (xs : List ℕ) → bytes_eq xs xs ≡ true
same_bytes xs = (bytes_eq-Decides xs xs).1 refl

pub bytes_same : (xs ys : List ℕ) → bytes_eq xs ys ≡ true → xs ≡ ys
bytes_same xs ys e = (bytes_eq-Decides xs ys).0 e

-- a member by its name
first_is : (ms : Members) (q : Text) → first_named ms q ≡ value_at (members_in ms) q
first_is no_members q = refl
first_is (member x t ms) q = ap (λ o. if bytes_eq x q then Some t else o) (first_is ms q)

pub member_is : (f : Form) (q : Text) → member_named f q ≡ value_at (entries_of f) q
member_is null q = refl
member_is (bool b) q = refl
member_is (number k s) q = refl
member_is (text t) q = refl
member_is (list ts) q = refl
member_is (object ms) q = first_is ms q

-- the last that has the name
abbrev later : {A : Type 0} → Option A → Option A → Option A
later (Some y) o = Some y
later None o = o

abbrev pub last_at : {A : Type 0} → List (Text × A) → Text → Option A
last_at [] q = None
last_at (m ∷ ms) q = later (last_at ms q) (if bytes_eq m.0 q then Some m.1 else None)

later_if : {A : Type 0} (b : Bool) (v : A) (o here : Option A) → later (if b then Some v else o) here ≡ (if b then Some v else later o here)
later_if true v o here = refl
later_if false v o here = refl

pub last_push : {A : Type 0} (ms : List (Text × A)) (x : Text) (v : A) (q : Text) → last_at (ms ++ (x, v) ∷ []) q ≡ (if bytes_eq x q then Some v else last_at ms q)
last_push [] x v q = refl
last_push (m ∷ ms) x v q = ap (λ o. later o (if bytes_eq m.0 q then Some m.1 else None)) (last_push ms x v q) ∙ later_if (bytes_eq x q) v (last_at ms q) (if bytes_eq m.0 q then Some m.1 else None)

-- where no name comes again, it is the first
abbrev pub AreApart : {A : Type 0} → List (Text × A) → Type 0
AreApart [] = Unit {0}
AreApart (m ∷ ms) = (value_at ms m.0 ≡ None) × AreApart ms

some_none : {A : Type 0} (x : A) → Some x ≡ None → ⊥
some_none x e = cc

last_none : {A : Type 0} (ms : List (Text × A)) (q : Text) → value_at ms q ≡ None → last_at ms q ≡ None
last_none [] q e = refl
last_none (m ∷ ms) q e = by_test (bytes_eq m.0 q) e (last_none ms q)
  where
    by_test : (b : Bool) → (if b then Some m.1 else value_at ms q) ≡ None → (value_at ms q ≡ None → last_at ms q ≡ None) → later (last_at ms q) (if b then Some m.1 else None) ≡ None
    by_test true e more = absurd (some_none m.1 e)
    by_test false e more = ap (λ o. later o None) (more e)

later_none : {A : Type 0} (o : Option A) → later o None ≡ o
later_none None = refl
later_none (Some x) = refl

pub last_first : {A : Type 0} (ms : List (Text × A)) (q : Text) → AreApart ms → last_at ms q ≡ value_at ms q
last_first [] q apart = refl
last_first (m ∷ ms) q apart = by_test (bytes_eq m.0 q) refl (last_first ms q apart.1)
  where
    by_test : (b : Bool) → bytes_eq m.0 q ≡ b → last_at ms q ≡ value_at ms q → later (last_at ms q) (if b then Some m.1 else None) ≡ (if b then Some m.1 else value_at ms q)
    by_test true is more = ap (λ o. later o (Some m.1)) (last_none ms q (subst (λ x. value_at ms x ≡ None) (bytes_same m.0 q is) apart.0))
    by_test false is more = later_none (last_at ms q) ∙ more

-- in a document no name comes again
named_stays : (names : List Text) (x q : Text) → named names q ≡ true → named (names ++ x ∷ []) q ≡ true
named_stays names x q h = named_push names x q ∙ by_test (bytes_eq x q)
  where
    by_test : (b : Bool) → (if b then true else named names q) ≡ true
    by_test true = refl
    by_test false = h

new_none : (names : List Text) (ms : Members) (q : Text) → HasNewNames names ms → named names q ≡ true → value_at (members_in ms) q ≡ None
new_none names no_members q h is = refl
new_none names (member x t ms) q h is = by_test (bytes_eq x q) refl (new_none (names ++ x ∷ []) ms q h.1 (named_stays names x q is))
  where
    by_test : (b : Bool) → bytes_eq x q ≡ b → value_at (members_in ms) q ≡ None → (if b then Some t else value_at (members_in ms) q) ≡ None
    by_test true same more =
        let e : named names x ≡ true = subst (λ y. named names y ≡ true) (sym (bytes_same x q same)) is in
        let f : named names x ≡ false = h.0 in
        absurd cc
    by_test false same more = more

named_last : (names : List Text) (x : Text) → named (names ++ x ∷ []) x ≡ true
named_last names x = named_push names x x ∙ ap (λ b. if b then true else named names x) (same_bytes x)

members_apart : (names : List Text) (ms : Members) → HasNewNames names ms → AreApart (members_in ms)
members_apart names no_members h = tt
members_apart names (member x t ms) h = (new_none (names ++ x ∷ []) ms x h.1 (named_last names x), members_apart (names ++ x ∷ []) ms h.1)

form_apart : (f : Form) → IsDistinctForm f → AreApart (entries_of f)
form_apart null h = tt
form_apart (bool b) h = tt
form_apart (number k s) h = tt
form_apart (text t) h = tt
form_apart (list ts) h = tt
form_apart (object ms) h = members_apart [] ms h.0

pub tree_apart : (t : Tree) → IsDistinct t → AreApart (entries_of (form t))
tree_apart (node first past f) h = form_apart f h

-- so a member that is read last is the one of its name
pub last_named : (t : Tree) (q : Text) → IsDistinct t → last_at (entries_of (form t)) q ≡ member_named (form t) q
last_named t q h = last_first (entries_of (form t)) q (tree_apart t h) ∙ sym (member_is (form t) q)

-- nor does it in the members' values
abbrev pub AreDistinctValues : List (Text × Tree) → Type 0
AreDistinctValues ms = All (λ (m : Text × Tree). IsDistinct m.1) ms

members_distinct : (ms : Members) → AreDistinctMembers ms → AreDistinctValues (members_in ms)
members_distinct no_members h = All-nil _
members_distinct (member x t ms) h = All-cons (λ (m : Text × Tree). IsDistinct m.1) (x, t) (members_in ms) h.0 (members_distinct ms h.1)

form_distinct : (f : Form) → IsDistinctForm f → AreDistinctValues (entries_of f)
form_distinct null h = All-nil _
form_distinct (bool b) h = All-nil _
form_distinct (number k s) h = All-nil _
form_distinct (text t) h = All-nil _
form_distinct (list ts) h = All-nil _
form_distinct (object ms) h = members_distinct ms h.1

pub values_distinct : (t : Tree) → IsDistinct t → AreDistinctValues (entries_of (form t))
values_distinct (node first past f) h = form_distinct f h

value_distinct : (ms : List (Text × Tree)) (q : Text) (u : Tree) → AreDistinctValues ms → value_at ms q ≡ Some u → IsDistinct u
value_distinct [] q u h e = absurd cc
value_distinct (m ∷ ms) q u h e = by_test (bytes_eq m.0 q) e (value_distinct ms q u (All-tail (λ (m : Text × Tree). IsDistinct m.1) m ms h))
  where
    by_test : (b : Bool) → (if b then Some m.1 else value_at ms q) ≡ Some u → (value_at ms q ≡ Some u → IsDistinct u) → IsDistinct u
    by_test true e more =
        let same : m.1 ≡ u = cc in
        subst IsDistinct same (All-head (λ (m : Text × Tree). IsDistinct m.1) m ms h)
    by_test false e more = more e

pub member_distinct : (t : Tree) (q : Text) (u : Tree) → IsDistinct t → member_named (form t) q ≡ Some u → IsDistinct u
member_distinct t q u h e = value_distinct (entries_of (form t)) q u (values_distinct t h) (sym (member_is (form t) q) ∙ e)
