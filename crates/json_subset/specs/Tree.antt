-- The tree of a document (RFC 8259, section 3).
use Rattle.std.specs.Prelude.{ℕ, ℤ, Bool, List, [], ◌∷◌}

-- what a number is (section 6)
pub data Number : Type 0 where
  -- neither fraction nor exponent, and in the range of 64 signed bits
  whole : ℤ → Number
  -- a fraction, no exponent, and at most 18 digits before the point
  decimal : Number
  wide : Number

mutual
  -- a value, with the places of its first byte and of the byte behind its last
  pub data Tree : Type 0 where
    node : ℕ → ℕ → Form → Tree

  pub data Form : Type 0 where
    null : Form
    bool : Bool → Form
    -- a number's kind, and its source text
    number : Number → List ℕ → Form
    -- a string's decoded text
    text : List ℕ → Form
    list : Trees → Form
    -- the members in their order, each a decoded name and a value
    object : Members → Form

  pub data Trees : Type 0 where
    no_trees : Trees
    tree : Tree → Trees → Trees

  pub data Members : Type 0 where
    no_members : Members
    member : List ℕ → Tree → Members → Members

abbrev pub trees_of : List Tree → Trees
trees_of [] = no_trees
trees_of (t ∷ ts) = tree t (trees_of ts)

abbrev pub members_of : List (List ℕ × Tree) → Members
members_of [] = no_members
members_of (m ∷ ms) = member m.0 m.1 (members_of ms)
