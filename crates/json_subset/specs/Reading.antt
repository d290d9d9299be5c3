-- Reading a document of n bytes from left to right, with the first fault that is met.
use Rattle.std.specs.Prelude.{ℕ, zero, suc, ◌+◌, ◌-◌, Bool, true, false, List, [], ◌∷◌, ◌++◌, length, map, take, Option, Some, None, Result, Ok, Err, ◌==◌, if◌then◌else◌}
use Rattle.std.specs.Str.{bytes_eq, is_utf8}
use Rattle.std.specs.Str.Lossy.{utf8_valid_len}
use Rattle.json_subset.specs.declared.fault.JsonFault.{JsonFault}
use Rattle.json_subset.specs.declared.fault.JsonFault.TheVariants.{Syntax, Depth, Repeated, NotUtf8}
use Rattle.json_subset.specs.Tree.{Tree, node, Form, null, bool, number, text, list, object, trees_of, members_of}
use Rattle.json_subset.specs.Numbers.{number_of}
use Rattle.json_subset.specs.Scan.{◌>>=◌, Read, place, after_white, behind, word, after_number, Next, done, more, next, colon}
use Rattle.json_subset.specs.Strings.{string}

-- what opens a list or an object
pub data Bracket : Type 0 where
  square : Bracket
  curly : Bracket

-- this form, behind its word
abbrev pub word_form : Form → Result (List ℕ) JsonFault → Read Form
word_form f (Ok rest) = Ok (f, rest)
word_form f (Err e) = Err e

-- a number, from its first byte on
abbrev pub number_form : List ℕ → Result (List ℕ) JsonFault → Read Form
number_form bs (Ok rest) = Ok (number (number_of (take (length bs - length rest) bs)) (take (length bs - length rest) bs), rest)
number_form bs (Err e) = Err e

abbrev pub text_form : Read (List ℕ) → Read Form
text_form (Ok r) = Ok (text r.0, r.1)
text_form (Err e) = Err e

-- a form that is neither a list nor an object
abbrev pub scalar : ℕ → List ℕ → Read Form
scalar n [] = Err (Syntax n)
scalar n (b ∷ bs) =
    if b == 34 then text_form (string n bs)
    else if b == 110 then word_form null (word n (117 ∷ 108 ∷ 108 ∷ []) bs)
    else if b == 116 then word_form (bool true) (word n (114 ∷ 117 ∷ 101 ∷ []) bs)
    else if b == 102 then word_form (bool false) (word n (97 ∷ 108 ∷ 115 ∷ 101 ∷ []) bs)
    else number_form (b ∷ bs) (after_number n (b ∷ bs))

-- the form that begins here, where brackets says what one opens
abbrev pub form_at : ℕ → (Bracket → List ℕ → Read Form) → List ℕ → Read Form
form_at n brackets [] = Err (Syntax n)
form_at n brackets (b ∷ bs) =
    if b == 91 then brackets square bs
    else if b == 123 then brackets curly bs
    else scalar n (b ∷ bs)

-- the value of a form that begins at this place
abbrev pub spanned : ℕ → ℕ → Read Form → Read Tree
spanned n at (Ok r) = Ok (node at (place n r.1) r.0, r.1)
spanned n at (Err e) = Err e

-- one more part of a list or an object, and then the others
abbrev pub with_part : {A : Type 0} → (List A → List ℕ → Read (List A)) → List A → A × Next → Read (List A)
with_part others before (x, done rest) = Ok (before ++ x ∷ [], rest)
with_part others before (x, more rest) = others (before ++ x ∷ []) rest

-- parts up to the closing bracket behind the parts before, each read by a step that knows those; at most so many
unfoldable pub parts : {A : Type 0} → ℕ → (List A → List ℕ → Result (A × Next) JsonFault) → List A → ℕ → List ℕ → Read (List A)
parts n step before zero bs = Err (Syntax (place n bs))
parts n step before (suc f) bs = do
  s ← step before bs
  with_part (λ xs rest. parts n step xs f rest) before s

abbrev pub with_next : {A : Type 0} → A → Result Next JsonFault → Result (A × Next) JsonFault
with_next x (Ok s) = Ok (x, s)
with_next x (Err e) = Err e

-- an item, and whether another follows (RFC 8259, section 5)
abbrev pub item : ℕ → Read Tree → Result (Tree × Next) JsonFault
item n r = do
  v ← r
  with_next v.0 (next n 93 v.1)

-- a list of more than n items does not fit into n bytes
abbrev pub items : ℕ → (List ℕ → Read Tree) → List ℕ → Read (List Tree)
items n inner bs = parts n (λ before rest. item n (inner rest)) [] (n + 1) bs

abbrev pub list_form : Read (List Tree) → Read Form
list_form (Ok r) = Ok (list (trees_of r.0), r.1)
list_form (Err e) = Err e

abbrev pub list_from : ℕ → (List ℕ → Read Tree) → List ℕ → Option (List ℕ) → Read Form
list_from n inner bs (Some rest) = Ok (list (trees_of []), rest)
list_from n inner bs None = list_form (items n inner bs)

-- whether one of these names is x
abbrev pub named : List (List ℕ) → List ℕ → Bool
named [] x = false
named (y ∷ ys) x = if bytes_eq y x then true else named ys x

-- a name whose opening quote stands at this place, and which is not taken (section 4)
abbrev pub unlike : ℕ → (List ℕ → Bool) → List ℕ → Result (List ℕ) JsonFault
unlike at taken x = if taken x then Err (Repeated at) else Ok x

abbrev pub quoted_name : ℕ → ℕ → (List ℕ → Bool) → List ℕ → Read (List ℕ)
quoted_name n at taken bs = do
  r ← string n bs
  x ← unlike at taken r.0
  Ok (x, r.1)

abbrev pub name : ℕ → (List ℕ → Bool) → List ℕ → Read (List ℕ)
name n taken [] = Err (Syntax n)
name n taken (b ∷ bs) = if b == 34 then quoted_name n (place n (b ∷ bs)) taken bs else Err (Syntax (place n (b ∷ bs)))

-- a member's name and the colon, before its value
abbrev pub label : ℕ → (List ℕ → Bool) → List ℕ → Read (List ℕ)
label n taken bs = do
  x ← name n taken bs
  c ← colon n x.1
  Ok (x.0, c)

-- a member behind its label, and whether another follows
abbrev pub labelled : ℕ → List ℕ → Read Tree → Result ((List ℕ × Tree) × Next) JsonFault
labelled n x r = do
  v ← r
  with_next (x, v.0) (next n 125 v.1)

-- a member, and whether another follows
abbrev pub pair : ℕ → (List ℕ → Read Tree) → (List ℕ → Bool) → List ℕ → Result ((List ℕ × Tree) × Next) JsonFault
pair n inner taken bs = do
  x ← label n taken bs
  labelled n x.0 (inner x.1)

abbrev pub names_of : List (List ℕ × Tree) → List (List ℕ)
names_of ms = map (λ m. m.0) ms

abbrev pub pairs : ℕ → (List ℕ → Read Tree) → List ℕ → Read (List (List ℕ × Tree))
pairs n inner bs = parts n (λ before rest. pair n inner (named (names_of before)) rest) [] (n + 1) bs

abbrev pub object_form : Read (List (List ℕ × Tree)) → Read Form
object_form (Ok r) = Ok (object (members_of r.0), r.1)
object_form (Err e) = Err e

abbrev pub object_from : ℕ → (List ℕ → Read Tree) → List ℕ → Option (List ℕ) → Read Form
object_from n inner bs (Some rest) = Ok (object (members_of []), rest)
object_from n inner bs None = object_form (pairs n inner bs)

-- what stands behind an opening bracket
abbrev pub inside : ℕ → (List ℕ → Read Tree) → Bracket → List ℕ → Read Form
inside n inner square bs = list_from n inner (after_white bs) (behind 93 (after_white bs))
inside n inner curly bs = object_from n inner (after_white bs) (behind 125 (after_white bs))

abbrev pub value_in : ℕ → (ℕ → Bracket → List ℕ → Read Form) → List ℕ → Read Tree
value_in n brackets bs = spanned n (place n bs) (form_at n (brackets (place n bs)) bs)

-- what the bracket at this place opens, where so many levels may open
unfoldable pub opened : ℕ → ℕ → ℕ → Bracket → List ℕ → Read Form
opened n zero at b bs = Err (Depth at)
opened n (suc d) at b bs = inside n (value_in n (opened n d)) b bs

-- the value that begins here, in which so many levels may open
abbrev pub value : ℕ → ℕ → List ℕ → Read Tree
value n levels bs = value_in n (opened n levels) bs

-- nothing but white space follows the value
abbrev pub end_at : ℕ → Tree → List ℕ → Result Tree JsonFault
end_at n t [] = Ok t
end_at n t (b ∷ bs) = Err (Syntax (place n (b ∷ bs)))

-- the tree of a document that is UTF-8, or its first fault
abbrev pub document : List ℕ → Result Tree JsonFault
document bs = do
  r ← value (length bs) 64 (after_white bs)
  end_at (length bs) r.0 (after_white r.1)

-- the tree of a document, or its first fault
abbrev pub json : List ℕ → Result Tree JsonFault
json bs = if is_utf8 bs then document bs else Err (NotUtf8 (utf8_valid_len bs))
