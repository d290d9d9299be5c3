-- Reading a value by turns, with the brackets that stand open and what was read in each.
use Rattle.std.specs.Prelude.{ℕ, ◌-◌, List, [], ◌∷◌, ◌++◌, length, Option, Some, None, Result, Ok, Err, ◌==◌, if◌then◌else◌}
use Rattle.json_subset.specs.declared.fault.JsonFault.{JsonFault}
use Rattle.json_subset.specs.declared.fault.JsonFault.TheVariants.{Syntax, Depth}
use Rattle.json_subset.specs.Tree.{Tree, node, Form, list, object, trees_of, members_of}
use Rattle.json_subset.specs.Scan.{◌>>=◌, Read, place, after_white, behind, Next, done, more, next}
use Rattle.json_subset.specs.Reading.{Bracket, square, curly, scalar, spanned, with_part, parts, item, list_form, named, label, labelled, pair, names_of, object_form, value}

-- what was read inside an open bracket: the items, or the members and the name of the next
pub data Inside : Type 0 where
  in_list : List Tree → Inside
  in_object : List (List ℕ × Tree) → List ℕ → Inside

-- a bracket opened at this place, whose next part begins here; or a whole value, and what follows it
pub data Turn : Type 0 where
  goes : ℕ → Inside → List ℕ → Turn
  whole : Tree → List ℕ → Turn

-- the value of the bracket, where r reads the part that comes next and d levels may open in that
abbrev pub filled : ℕ → ℕ → ℕ → Inside → Read Tree → Read Tree
filled n d at (in_list ts) r = spanned n at (list_form (item n r >>= with_part (λ xs rest. parts n (λ before cs. item n (value n d cs)) xs (n - length ts) rest) ts))
filled n d at (in_object ms x) r = spanned n at (object_form (labelled n x r >>= with_part (λ xs rest. parts n (λ before cs. pair n (value n d) (named (names_of before)) cs) xs (n - length ms) rest) ms))

-- what a turn leads to
abbrev pub settled : ℕ → ℕ → Result Turn JsonFault → Read Tree
settled n d (Ok (goes at i rest)) = filled n d at i (value n d rest)
settled n d (Ok (whole t rest)) = Ok (t, rest)
settled n d (Err e) = Err e

-- the value of the outermost of these brackets, where r reads the part that comes next in the innermost
abbrev pub all_filled : ℕ → ℕ → List (ℕ × Inside) → Read Tree → Read Tree
all_filled n d [] r = r
all_filled n d (x ∷ xs) r = filled n (d - 1) x.0 x.1 (all_filled n (d - 1) xs r)

abbrev pub leaf : ℕ → ℕ → Read Form → Result Turn JsonFault
leaf n at (Ok r) = Ok (whole (node at (place n r.1) r.0) r.1)
leaf n at (Err e) = Err e

abbrev pub first_item : ℕ → ℕ → List ℕ → Option (List ℕ) → Result Turn JsonFault
first_item n at bs (Some rest) = Ok (whole (node at (place n rest) (list (trees_of []))) rest)
first_item n at bs None = Ok (goes at (in_list []) bs)

abbrev pub with_label : ℕ → List (List ℕ × Tree) → Read (List ℕ) → Result Turn JsonFault
with_label at ms (Ok x) = Ok (goes at (in_object ms x.0) x.1)
with_label at ms (Err e) = Err e

abbrev pub first_member : ℕ → ℕ → List ℕ → Option (List ℕ) → Result Turn JsonFault
first_member n at bs (Some rest) = Ok (whole (node at (place n rest) (object (members_of []))) rest)
first_member n at bs None = with_label at [] (label n (named (names_of [])) bs)

-- a bracket opens at this place
abbrev pub opens : ℕ → ℕ → ℕ → Bracket → List ℕ → Result Turn JsonFault
opens n levels at square bs = if levels == 0 then Err (Depth at) else first_item n at (after_white bs) (behind 93 (after_white bs))
opens n levels at curly bs = if levels == 0 then Err (Depth at) else first_member n at (after_white bs) (behind 125 (after_white bs))

-- a value begins here
abbrev pub begun : ℕ → ℕ → List ℕ → Result Turn JsonFault
begun n levels [] = Err (Syntax n)
begun n levels (b ∷ bs) =
    if b == 91 then opens n levels (place n (b ∷ bs)) square bs
    else if b == 123 then opens n levels (place n (b ∷ bs)) curly bs
    else leaf n (place n (b ∷ bs)) (scalar n (b ∷ bs))

abbrev pub next_item : ℕ → ℕ → List Tree → Result Next JsonFault → Result Turn JsonFault
next_item n at ts (Ok (done rest)) = Ok (whole (node at (place n rest) (list (trees_of ts))) rest)
next_item n at ts (Ok (more rest)) = Ok (goes at (in_list ts) rest)
next_item n at ts (Err e) = Err e

abbrev pub next_member : ℕ → ℕ → List (List ℕ × Tree) → Result Next JsonFault → Result Turn JsonFault
next_member n at ms (Ok (done rest)) = Ok (whole (node at (place n rest) (object (members_of ms))) rest)
next_member n at ms (Ok (more rest)) = with_label at ms (label n (named (names_of ms)) rest)
next_member n at ms (Err e) = Err e

-- the part t was read in this bracket
abbrev pub onward : ℕ → ℕ → Inside → Tree → List ℕ → Result Turn JsonFault
onward n at (in_list ts) t rest = next_item n at (ts ++ t ∷ []) (next n 93 rest)
onward n at (in_object ms x) t rest = next_member n at (ms ++ (x, t) ∷ []) (next n 125 rest)
