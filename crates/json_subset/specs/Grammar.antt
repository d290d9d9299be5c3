-- Which bytes spell which tree (RFC 8259). Each relation says what stands at the front of some bytes, and what follows it.
use Rattle.std.specs.Prelude.{◌≡◌, ◌≢◌, ◌≤◌, ℕ, ◌+◌, ◌-◌, max, Bool, true, false, ◌||◌, List, [], ◌∷◌, ◌++◌, length, take, Some, ◌==◌}
use Rattle.std.specs.Char.{encode_utf8}
use Rattle.std.specs.Str.{IsUtf8}
use Rattle.json_subset.specs.Tree.{Tree, node, Form, null, bool, number, text, list, object, Trees, no_trees, tree, Members, no_members, member}
use Rattle.json_subset.specs.Numbers.{number_of}
use Rattle.json_subset.specs.Scan.{after_white, is_digit}
use Rattle.json_subset.specs.Strings.{is_plain, hex, short, four, pair_char}
use Rattle.json_subset.specs.Reading.{named}

-- whether the bytes begin with a byte of this kind
abbrev pub begins : (ℕ → Bool) → List ℕ → Bool
begins p [] = false
begins p (b ∷ bs) = p b

-- numbers (section 6), each part as long as it can be
-- one digit or more: 1*DIGIT
pub data Digits : List ℕ → List ℕ → Type 0 where
  last_digit : (b : ℕ) (rest : List ℕ) → is_digit b ≡ true → begins is_digit rest ≡ false → Digits (b ∷ rest) rest
  one_digit : (b : ℕ) (bs rest : List ℕ) → is_digit b ≡ true → Digits bs rest → Digits (b ∷ bs) rest

-- int = zero / ( digit1-9 *DIGIT )
pub data Whole : List ℕ → List ℕ → Type 0 where
  zero_alone : (rest : List ℕ) → Whole (48 ∷ rest) rest
  not_from_zero : (b : ℕ) (bs rest : List ℕ) → b ≢ 48 → Digits (b ∷ bs) rest → Whole (b ∷ bs) rest

abbrev pub is_point : ℕ → Bool
is_point b = b == 46

-- [ frac ], frac = decimal-point 1*DIGIT
pub data Fraction : List ℕ → List ℕ → Type 0 where
  no_fraction : (bs : List ℕ) → begins is_point bs ≡ false → Fraction bs bs
  fraction : (bs rest : List ℕ) → Digits bs rest → Fraction (46 ∷ bs) rest

-- e = %x65 / %x45
abbrev pub is_e : ℕ → Bool
is_e b = (b == 101) || (b == 69)

-- minus / plus
abbrev pub is_sign : ℕ → Bool
is_sign b = (b == 43) || (b == 45)

-- [ exp ], exp = e [ minus / plus ] 1*DIGIT
pub data Exponent : List ℕ → List ℕ → Type 0 where
  no_exponent : (bs : List ℕ) → begins is_e bs ≡ false → Exponent bs bs
  exponent : (e : ℕ) (bs rest : List ℕ) → is_e e ≡ true → Digits bs rest → Exponent (e ∷ bs) rest
  signed_exponent : (e s : ℕ) (bs rest : List ℕ) → is_e e ≡ true → is_sign s ≡ true → Digits bs rest → Exponent (e ∷ s ∷ bs) rest

-- number = [ minus ] int [ frac ] [ exp ]
pub data Numeral : List ℕ → List ℕ → Type 0 where
  positive : (bs whole part rest : List ℕ) → Whole bs whole → Fraction whole part → Exponent part rest → Numeral bs rest
  negative : (bs whole part rest : List ℕ) → Whole bs whole → Fraction whole part → Exponent part rest → Numeral (45 ∷ bs) rest

-- strings (section 7)
-- 4HEXDIG, and their number
pub data Unit16 : List ℕ → ℕ → List ℕ → Type 0 where
  four_digits : (a b c d w x y z : ℕ) (rest : List ℕ) → hex a ≡ Some w → hex b ≡ Some x → hex c ≡ Some y → hex d ≡ Some z → Unit16 (a ∷ b ∷ c ∷ d ∷ rest) (four w x y z) rest

-- a unit of UTF-16 that is half of a pair
abbrev pub IsSurrogate : ℕ → Type 0
IsSurrogate u = (55296 ≤ u) × (u ≤ 57343)

abbrev pub IsHigh : ℕ → Type 0
IsHigh u = (55296 ≤ u) × (u ≤ 56319)

abbrev pub IsLow : ℕ → Type 0
IsLow u = (56320 ≤ u) × (u ≤ 57343)

-- the decoded text up to the closing quote; surrogates stand in pairs alone
pub data Text : List ℕ → List ℕ → List ℕ → Type 0 where
  text_end : (rest : List ℕ) → Text (34 ∷ rest) [] rest
  text_plain : (b : ℕ) (bs t rest : List ℕ) → is_plain b ≡ true → Text bs t rest → Text (b ∷ bs) (b ∷ t) rest
  text_short : (b c : ℕ) (bs t rest : List ℕ) → short b ≡ Some c → Text bs t rest → Text (92 ∷ b ∷ bs) (c ∷ t) rest
  text_unit : (u : ℕ) (bs behind t rest : List ℕ) → Unit16 bs u behind → (IsSurrogate u → ⊥) → Text behind t rest → Text (92 ∷ 117 ∷ bs) (encode_utf8 u ++ t) rest
  text_pair : (u v : ℕ) (bs more behind t rest : List ℕ) → Unit16 bs u (92 ∷ 117 ∷ more) → IsHigh u → Unit16 more v behind → IsLow v → Text behind t rest → Text (92 ∷ 117 ∷ bs) (encode_utf8 (pair_char u v) ++ t) rest

mutual
  -- the value at the front of these bytes of a document of n bytes
  pub data Value : ℕ → List ℕ → Tree → List ℕ → Type 0 where
    a_value : {n : ℕ} (bs rest : List ℕ) (f : Form) → Shape n bs f rest → Value n bs (node (n - length bs) (n - length rest) f) rest

  -- value = false / null / true / object / array / number / string (section 3)
  pub data Shape : ℕ → List ℕ → Form → List ℕ → Type 0 where
    the_null : {n : ℕ} (rest : List ℕ) → Shape n (110 ∷ 117 ∷ 108 ∷ 108 ∷ rest) null rest
    the_true : {n : ℕ} (rest : List ℕ) → Shape n (116 ∷ 114 ∷ 117 ∷ 101 ∷ rest) (bool true) rest
    the_false : {n : ℕ} (rest : List ℕ) → Shape n (102 ∷ 97 ∷ 108 ∷ 115 ∷ 101 ∷ rest) (bool false) rest
    some_number : {n : ℕ} (bs rest : List ℕ) → Numeral bs rest → Shape n bs (number (number_of (take (length bs - length rest) bs)) (take (length bs - length rest) bs)) rest
    some_text : {n : ℕ} (bs t rest : List ℕ) → Text bs t rest → Shape n (34 ∷ bs) (text t) rest
    empty_list : {n : ℕ} (bs rest : List ℕ) → after_white bs ≡ 93 ∷ rest → Shape n (91 ∷ bs) (list no_trees) rest
    some_list : {n : ℕ} (bs rest : List ℕ) (ts : Trees) → Items n (after_white bs) ts rest → Shape n (91 ∷ bs) (list ts) rest
    empty_object : {n : ℕ} (bs rest : List ℕ) → after_white bs ≡ 125 ∷ rest → Shape n (123 ∷ bs) (object no_members) rest
    some_object : {n : ℕ} (bs rest : List ℕ) (ms : Members) → Pairs n (after_white bs) ms rest → Shape n (123 ∷ bs) (object ms) rest

  -- values with commas between them, and the closing bracket (section 5)
  pub data Items : ℕ → List ℕ → Trees → List ℕ → Type 0 where
    last_item : {n : ℕ} (bs behind rest : List ℕ) (t : Tree) → Value n bs t behind → after_white behind ≡ 93 ∷ rest → Items n bs (tree t no_trees) rest
    one_item : {n : ℕ} (bs behind more rest : List ℕ) (t : Tree) (ts : Trees) → Value n bs t behind → after_white behind ≡ 44 ∷ more → Items n (after_white more) ts rest → Items n bs (tree t ts) rest

  -- members with commas between them, and the closing bracket (section 4)
  pub data Pairs : ℕ → List ℕ → Members → List ℕ → Type 0 where
    last_pair : {n : ℕ} (bs x colon start behind rest : List ℕ) (t : Tree) → Text bs x colon → after_white colon ≡ 58 ∷ start → Value n (after_white start) t behind → after_white behind ≡ 125 ∷ rest → Pairs n (34 ∷ bs) (member x t no_members) rest
    one_pair : {n : ℕ} (bs x colon start behind more rest : List ℕ) (t : Tree) (ms : Members) → Text bs x colon → after_white colon ≡ 58 ∷ start → Value n (after_white start) t behind → after_white behind ≡ 44 ∷ more → Pairs n (after_white more) ms rest → Pairs n (34 ∷ bs) (member x t ms) rest

-- how many lists and objects stand in one another
abbrev mutual
  pub depth : Tree → ℕ
  depth (node first past f) = form_depth f

  pub form_depth : Form → ℕ
  form_depth null = 0
  form_depth (bool b) = 0
  form_depth (number k s) = 0
  form_depth (text t) = 0
  form_depth (list ts) = trees_depth ts + 1
  form_depth (object ms) = members_depth ms + 1

  pub trees_depth : Trees → ℕ
  trees_depth no_trees = 0
  trees_depth (tree t ts) = max (depth t) (trees_depth ts)

  pub members_depth : Members → ℕ
  members_depth no_members = 0
  members_depth (member x t ms) = max (depth t) (members_depth ms)

-- no member has one of these names, or the name of a member before it
abbrev pub HasNewNames : List (List ℕ) → Members → Type 0
HasNewNames names no_members = Unit {0}
HasNewNames names (member x t ms) = (named names x ≡ false) × HasNewNames (names ++ x ∷ []) ms

-- no object repeats a name
abbrev mutual
  pub IsDistinct : Tree → Type 0
  IsDistinct (node first past f) = IsDistinctForm f

  pub IsDistinctForm : Form → Type 0
  IsDistinctForm null = Unit {0}
  IsDistinctForm (bool b) = Unit {0}
  IsDistinctForm (number k s) = Unit {0}
  IsDistinctForm (text t) = Unit {0}
  IsDistinctForm (list ts) = AreDistinct ts
  IsDistinctForm (object ms) = HasNewNames [] ms × AreDistinctMembers ms

  pub AreDistinct : Trees → Type 0
  AreDistinct no_trees = Unit {0}
  AreDistinct (tree t ts) = IsDistinct t × AreDistinct ts

  pub AreDistinctMembers : Members → Type 0
  AreDistinctMembers no_members = Unit {0}
  AreDistinctMembers (member x t ms) = IsDistinct t × AreDistinctMembers ms

-- JSON-text = ws value ws (section 2), whatever its depth and its names
pub record IsText (bs : List ℕ) (t : Tree) : Type 0 where
  pub behind : List ℕ
  pub value : Value (length bs) (after_white bs) t behind
  pub ended : after_white behind ≡ []

-- these bytes are a document of this tree: text in UTF-8 (section 8.1) of at most 64 levels (section 9) that repeats no name
pub record Spells (bs : List ℕ) (t : Tree) : Type 0 where
  pub utf8 : IsUtf8 bs
  pub text : IsText bs t
  pub shallow : depth t ≤ 64
  pub distinct : IsDistinct t
