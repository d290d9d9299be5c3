-- The tree of a template: plain data, in the final shape of the whole language.
use Rattle.std.specs.Prelude.{ℕ, ℤ, Bool, List}

pub data Operator : Type 0 where
  or_ : Operator
  and_ : Operator
  equal : Operator
  unequal : Operator
  less : Operator
  greater : Operator
  at_most : Operator
  at_least : Operator
  plus : Operator
  minus : Operator
  times : Operator
  divided : Operator
  remainder : Operator

mutual
  pub data Expr : Type 0 where
    reference : Base → Steps → Expr
    whole : ℤ → Expr
    string : List ℕ → Expr
    -- a double-quoted string
    joined : Parts → Expr
    boolean : Bool → Expr
    listed : Exprs → Expr
    range : Expr → Expr → Expr
    mapped : Pairs → Expr
    binary : Operator → Expr → Expr → Expr
    negated : Expr → Expr

  -- what a reference begins with: a name, or the argument that stands for a macro's parameter
  pub data Base : Type 0 where
    named : List ℕ → Base
    given : Expr → Base

  -- `.name`, `.name(arguments)` and `[index]`
  pub data Step : Type 0 where
    member : List ℕ → Step
    call : List ℕ → Exprs → Step
    index : Expr → Step

  pub data Steps : Type 0 where
    no_steps : Steps
    step : Step → Steps → Steps

  pub data Exprs : Type 0 where
    no_exprs : Exprs
    expr : Expr → Exprs → Exprs

  pub data Pairs : Type 0 where
    no_pairs : Pairs
    pair : Expr → Expr → Pairs → Pairs

  -- the parts of a double-quoted string; a reference has its source text, which is empty where it is quiet
  pub data Part : Type 0 where
    bytes : List ℕ → Part
    printed : List ℕ → Base → Steps → Part

  pub data Parts : Type 0 where
    no_parts : Parts
    part : Part → Parts → Parts

-- what a `#set` writes: a variable, or a path of names below `$context`
pub data Target : Type 0 where
  variable : List ℕ → Target
  context : List (List ℕ) → Target

mutual
  pub data Item : Type 0 where
    text : List ℕ → Item
    comment : Item
    -- a reference in text, with its source text, which is empty where it is quiet
    output : List ℕ → Base → Steps → Item
    set : Target → Expr → Item
    choose : Branches → Item
    foreach : List ℕ → Expr → Items → Item
    break_ : Item
    stop : Item
    -- a macro's name, its parameters and its body
    define : List ℕ → List (List ℕ) → Items → Item
    -- how many bytes stand from a call's `#` to the end of the text; the macro's name; the arguments
    macro_call : ℕ → List ℕ → Exprs → Item
    -- a call inside too many others
    deep : Item

  pub data Items : Type 0 where
    no_items : Items
    item : Item → Items → Items

  -- the branches of an `#if`, and what stands behind its `#else`
  pub data Branches : Type 0 where
    otherwise : Items → Branches
    branch : Expr → Items → Branches → Branches
