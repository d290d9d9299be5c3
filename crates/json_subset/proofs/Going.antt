-- What is known between two turns of the reader.
use Rattle.std.proofs.Common.{◌≡◌, ℕ, suc, ◌-◌, ◌<◌, ◌≤◌, List, [], ◌∷◌, ◌++◌, length, map, refl, sym, ◌∙◌, ap, arith, length-append}
use Rattle.std.specs.Prelude.{Ok}
use Rattle.std.specs.String.{string_bytes}
use Rattle.json_subset.specs.declared.fault.JsonFault.{JsonFault}
use Rattle.json_subset.specs.declared.node.Node.{Node}
use Rattle.json_subset.specs.declared.turn.Open.{Open}
use Rattle.json_subset.specs.declared.turn.Parts.{Parts}
use Rattle.json_subset.specs.declared.turn.Parts.TheVariants as parts
use Rattle.json_subset.specs.declared.turn.Turn.{Turn}
use Rattle.json_subset.specs.declared.turn.Turn.TheVariants as code
use Rattle.json_subset.specs.Tree.{Tree}
use Rattle.json_subset.specs.Scan.{Read}
use Rattle.json_subset.specs.Reading.{value}
use Rattle.json_subset.specs.Turns.{in_list, in_object, filled, settled, all_filled, begun, onward}
use Rattle.json_subset.specs.Nodes.{member_at, AreSound, Keeps, tree_of}
use Rattle.json_subset.specs.Opened.{inside_of, opened_of, turn_of, ArePartsBelow, IsOpen, AllOpen, IsTurn, rest_of}
use Rattle.json_subset.specs.Places.{IsRest}
use Rattle.json_subset.specs.Views.{Fails}
use Rattle.json_subset.proofs.Fronts.{Behind, TurnBehind, begun_behind, onward_behind}
use Rattle.json_subset.proofs.Nodes.{map_alike, members_alike, below_more, values_more}
use Rattle.json_subset.proofs.Places.{rest_le}
use Rattle.json_subset.proofs.Rests.{rest_more}
use Rattle.json_subset.proofs.Spans.{known}
use Rattle.json_subset.proofs.Texts.{fails_along}
use Rattle.json_subset.proofs.Turns.{begun_reads, filled_push, onward_fills, count, turn_fails}

pub record Going (s start : List ℕ) (ns : List Node) (stack : List Open) (t : Turn) : Type 0 where
  pub sound : AreSound s ns
  pub opened : AllOpen s (rest_of t) (length ns) stack
  pub turn : IsTurn s (length ns) t
  pub rest : IsRest s (rest_of t)
  pub so_far : all_filled (length s) 64 (map (opened_of (length s) (tree_of s ns)) stack) (settled (length s) (64 - length stack - 1) (Ok (turn_of (length s) (tree_of s ns) t))) ≡ value (length s) 64 start

parts_later : (k j room more : ℕ) (p : Parts) → k ≤ j → room ≤ more → ArePartsBelow k room p → ArePartsBelow j more p
parts_later k j room more (parts.Items ids) h i q = let less = q.1 in (below_more k j ids.items h q.0, omega (arith, less, i))
parts_later k j room more (parts.Members m) h i q = let less = q.1 in (values_more k j m.before.items h q.0, omega (arith, less, i), q.2)

inside_kept : (s : List ℕ) (old new : List Node) (room : ℕ) (p : Parts) → Keeps s old new → ArePartsBelow (length old) room p → inside_of (tree_of s new) p ≡ inside_of (tree_of s old) p
inside_kept s old new room (parts.Items ids) k q = ap in_list (map_alike (tree_of s new) (tree_of s old) (length old) ids.items k.same q.0)
inside_kept s old new room (parts.Members m) k q = ap (λ z. in_object z (string_bytes m.name)) (members_alike (tree_of s new) (tree_of s old) (length old) m.before.items k.same q.0)

opened_kept : (s rest : List ℕ) (old new : List Node) (os : List Open) → Keeps s old new → AllOpen s rest (length old) os → map (opened_of (length s) (tree_of s new)) os ≡ map (opened_of (length s) (tree_of s old)) os
opened_kept s rest old new [] k q = refl
opened_kept s rest old new (o ∷ os) k q =
    ap (λ z. (length s - length o.from.now, z) ∷ map (opened_of (length s) (tree_of s new)) os) (inside_kept s old new _ o.parts k q.0.parts)
    ∙ ap (λ z. opened_of (length s) (tree_of s old) o ∷ z) (opened_kept s rest old new os k q.1)

open_later : (s rest more : List ℕ) (k j : ℕ) (o : Open) → k ≤ j → IsRest rest more → IsOpen s rest k o → IsOpen s more j o
open_later s rest more k j o h p q =
    record {
      front = q.front;
      inside = rest_more q.inside p;
      parts = parts_later k j (length s - length rest) (length s - length more) o.parts h (let le = rest_le p in omega (arith, le)) q.parts;
    }

all_later : (s rest more : List ℕ) (k j : ℕ) (os : List Open) → k ≤ j → IsRest rest more → AllOpen s rest k os → AllOpen s more j os
all_later s rest more k j [] h p q = tt
all_later s rest more k j (o ∷ os) h p q = (open_later s rest more k j o h p q.0, all_later s rest more k j os h p q.1)

all_push : (s rest : List ℕ) (k : ℕ) (os : List Open) (o : Open) → AllOpen s rest k os → IsOpen s rest k o → AllOpen s rest k (os ++ o ∷ [])
all_push s rest k [] o q h = (h, tt)
all_push s rest k (x ∷ os) o q h = (q.0, all_push s rest k os o q.1 h)

all_front : (s rest : List ℕ) (k : ℕ) (os : List Open) (o : Open) → AllOpen s rest k (os ++ o ∷ []) → AllOpen s rest k os
all_front s rest k [] o q = tt
all_front s rest k (x ∷ os) o q = (q.0, all_front s rest k os o q.1)

all_last : (s rest : List ℕ) (k : ℕ) (os : List Open) (o : Open) → AllOpen s rest k (os ++ o ∷ []) → IsOpen s rest k o
all_last s rest k [] o q = q.0
all_last s rest k (x ∷ os) o q = all_last s rest k os o q.1

map_push : {A B : Type 0} (f : A → B) (xs : List A) (x : A) → map f (xs ++ x ∷ []) ≡ map f xs ++ f x ∷ []
map_push f [] x = refl
map_push f (y ∷ xs) x = ap (λ z. f y ∷ z) (map_push f xs x)

map_length : {A B : Type 0} (f : A → B) (xs : List A) → length (map f xs) ≡ length xs
map_length f [] = refl
map_length f (x ∷ xs) = ap suc (map_length f xs)

-- what follows the turn
turn_behind : (n : ℕ) (f : ℕ → Tree) (bs : List ℕ) (t : Turn) → TurnBehind bs (turn_of n f t) → Behind bs (rest_of t)
turn_behind n f bs (code.Goes o rest) h = h
turn_behind n f bs (code.Whole k rest) h = h

module _ (s start : List ℕ) (ns : List Node) where
  f : ℕ → Tree
  f = tree_of s ns

  -- the brackets, with one more
  one_more : (xs : List Open) (o : Open) (r : Read Tree) → all_filled (length s) 64 (map (opened_of (length s) f) (xs ++ o ∷ [])) r ≡ all_filled (length s) 64 (map (opened_of (length s) f) xs) (filled (length s) (64 - length xs - 1) (length s - length o.from.now) (inside_of f o.parts) r)
  one_more xs o r =
      ap (λ z. all_filled (length s) 64 z r) (map_push (opened_of (length s) f) xs o)
      ∙ filled_push (length s) 64 (map (opened_of (length s) f) xs) (opened_of (length s) f o) r
      ∙ ap (λ k. all_filled (length s) 64 (map (opened_of (length s) f) xs) (filled (length s) (64 - k - 1) (length s - length o.from.now) (inside_of f o.parts) r)) (map_length (opened_of (length s) f) xs)

  module _ (xs : List Open) (o : Open) (rest : List ℕ) (levels : ℕ) (same : levels ≡ 64 - length (xs ++ o ∷ [])) (r : Read Tree) (so_far : all_filled (length s) 64 (map (opened_of (length s) f) xs) (filled (length s) (64 - length xs - 1) (length s - length o.from.now) (inside_of f o.parts) (value (length s) (64 - length xs - 1) rest)) ≡ r) where
    -- the first turn of a part
    part_begins : all_filled (length s) 64 (map (opened_of (length s) f) (xs ++ o ∷ [])) (settled (length s) (64 - length (xs ++ o ∷ []) - 1) (begun (length s) levels rest)) ≡ r
    part_begins =
        let e : 64 - length xs - 1 ≡ levels = (let l = length-append xs (o ∷ []) in omega (arith, l, same)) in
        let i : levels - 1 ≡ 64 - length (xs ++ o ∷ []) - 1 = omega (arith, same) in
        ap (λ k. all_filled (length s) 64 (map (opened_of (length s) f) (xs ++ o ∷ [])) (settled (length s) k (begun (length s) levels rest))) (sym i)
        ∙ ap (all_filled (length s) 64 (map (opened_of (length s) f) (xs ++ o ∷ []))) (sym (begun_reads (length s) levels rest))
        ∙ one_more xs o (value (length s) levels rest)
        ∙ ap (λ k. all_filled (length s) 64 (map (opened_of (length s) f) xs) (filled (length s) (64 - length xs - 1) (length s - length o.from.now) (inside_of f o.parts) (value (length s) k rest))) (sym e)
        ∙ so_far

parts_fewer : (s : List ℕ) (k room d at : ℕ) (g : ℕ → Tree) (p : Parts) → room ≤ length s → ArePartsBelow k room p → count (length s) d at (inside_of g p) < length s
parts_fewer s k room d at g (parts.Items ids) h q = let e = map_length g ids.items in let less = q.1 in omega (arith, e, less, h)
parts_fewer s k room d at g (parts.Members m) h q = let e = map_length (member_at g) m.before.items in let less = q.1 in omega (arith, e, less, h)

-- a part begins in the bracket of this turn
module _ (s start : List ℕ) (ns : List Node) (xs : List Open) (o : Open) (rest : List ℕ) (levels : ℕ) (same : levels ≡ 64 - length (xs ++ o ∷ [])) where
  pub begins_fails : (e : JsonFault) → all_filled (length s) 64 (map (opened_of (length s) (tree_of s ns)) xs) (filled (length s) (64 - length xs - 1) (length s - length o.from.now) (inside_of (tree_of s ns) o.parts) (value (length s) (64 - length xs - 1) rest)) ≡ value (length s) 64 start → Fails e (begun (length s) levels rest) → Fails e (value (length s) 64 start)
  unfolding f
  begins_fails e so_far h = fails_along e _ _ (part_begins s start ns xs o rest levels same (value (length s) 64 start) so_far) (turn_fails (length s) 64 (64 - length (xs ++ o ∷ []) - 1) (map (opened_of (length s) (tree_of s ns)) (xs ++ o ∷ [])) (begun (length s) levels rest) e h)

  module _ (new : List Node) (t : Turn) (opened : AllOpen s rest (length ns) xs) (open_one : IsOpen s rest (length ns) o) (front : IsRest s rest) (kept : Keeps s ns new) (turn : IsTurn s (length new) t) (gives : begun (length s) levels rest ≡ Ok (turn_of (length s) (tree_of s new) t)) where
    pub begins_behind : Behind rest (rest_of t)
    begins_behind = turn_behind (length s) (tree_of s new) rest t (known _ _ _ (begun_behind (length s) levels rest front.utf8) gives)

    pub begins_going : all_filled (length s) 64 (map (opened_of (length s) (tree_of s ns)) xs) (filled (length s) (64 - length xs - 1) (length s - length o.from.now) (inside_of (tree_of s ns) o.parts) (value (length s) (64 - length xs - 1) rest)) ≡ value (length s) 64 start → Going s start new (xs ++ o ∷ []) t
    unfolding f
    begins_going so_far = record {
      sound = kept.sound;
      opened = all_later s rest (rest_of t) (length ns) (length new) (xs ++ o ∷ []) kept.longer begins_behind.rest (all_push s rest (length ns) xs o opened open_one);
      turn = turn;
      rest = rest_more front begins_behind.rest;
      so_far =
          ap (λ z. all_filled (length s) 64 z (settled (length s) (64 - length (xs ++ o ∷ []) - 1) (Ok (turn_of (length s) (tree_of s new) t)))) (opened_kept s rest ns new (xs ++ o ∷ []) kept (all_push s rest (length ns) xs o opened open_one))
          ∙ ap (λ z. all_filled (length s) 64 (map (opened_of (length s) (tree_of s ns)) (xs ++ o ∷ [])) (settled (length s) (64 - length (xs ++ o ∷ []) - 1) z)) (sym gives)
          ∙ part_begins s start ns xs o rest levels same (value (length s) 64 start) so_far;
    }

-- a part was read in the innermost bracket
module _ (s start : List ℕ) (ns : List Node) (xs : List Open) (o : Open) (k : ℕ) (rest : List ℕ) (opened : AllOpen s rest (length ns) (xs ++ o ∷ [])) (front : IsRest s rest) (so_far : all_filled (length s) 64 (map (opened_of (length s) (tree_of s ns)) (xs ++ o ∷ [])) (Ok (tree_of s ns k, rest)) ≡ value (length s) 64 start) where
  pub innermost : IsOpen s rest (length ns) o
  innermost = all_last s rest (length ns) xs o opened

  goes_on : all_filled (length s) 64 (map (opened_of (length s) (tree_of s ns)) xs) (settled (length s) (64 - length xs - 1) (onward (length s) (length s - length o.from.now) (inside_of (tree_of s ns) o.parts) (tree_of s ns k) rest)) ≡ value (length s) 64 start
  unfolding f
  goes_on =
      ap (all_filled (length s) 64 (map (opened_of (length s) (tree_of s ns)) xs))
      (sym (onward_fills (length s) (64 - length xs - 1) (length s - length o.from.now) (inside_of (tree_of s ns) o.parts) (tree_of s ns k) rest
      (parts_fewer s (length ns) (length s - length rest) (64 - length xs - 1) (length s - length o.from.now) (tree_of s ns) o.parts (omega arith) innermost.parts)))
      ∙ sym (one_more s start ns xs o (Ok (tree_of s ns k, rest)))
      ∙ so_far

  pub onward_fails : (e : JsonFault) → Fails e (onward (length s) (length s - length o.from.now) (inside_of (tree_of s ns) o.parts) (tree_of s ns k) rest) → Fails e (value (length s) 64 start)
  onward_fails e h = fails_along e _ _ goes_on (turn_fails (length s) 64 (64 - length xs - 1) (map (opened_of (length s) (tree_of s ns)) xs) _ e h)

  module _ (new : List Node) (t : Turn) (kept : Keeps s ns new) (turn : IsTurn s (length new) t) (gives : onward (length s) (length s - length o.from.now) (inside_of (tree_of s ns) o.parts) (tree_of s ns k) rest ≡ Ok (turn_of (length s) (tree_of s new) t)) where
    pub onward_later : Behind rest (rest_of t)
    onward_later = turn_behind (length s) (tree_of s new) rest t (known _ _ _ (onward_behind (length s) (length s - length o.from.now) (inside_of (tree_of s ns) o.parts) (tree_of s ns k) rest front.utf8) gives)

    pub onward_going : Going s start new xs t
    onward_going = record {
      sound = kept.sound;
      opened = all_later s rest (rest_of t) (length ns) (length new) xs kept.longer onward_later.rest (all_front s rest (length ns) xs o opened);
      turn = turn;
      rest = rest_more front onward_later.rest;
      so_far =
          ap (λ z. all_filled (length s) 64 z (settled (length s) (64 - length xs - 1) (Ok (turn_of (length s) (tree_of s new) t)))) (opened_kept s rest ns new xs kept (all_front s rest (length ns) xs o opened))
          ∙ ap (λ z. all_filled (length s) 64 (map (opened_of (length s) (tree_of s ns)) xs) (settled (length s) (64 - length xs - 1) z)) (sym gives)
          ∙ goes_on;
    }

-- the first turn
pub first_going : (s start : List ℕ) (ns : List Node) (t : Turn) → AreSound s ns → IsRest s start → IsTurn s (length ns) t → begun (length s) 64 start ≡ Ok (turn_of (length s) (tree_of s ns) t) → Going s start ns [] t
first_going s start ns t sound front turn gives =
    record {
      sound = sound;
      opened = tt;
      turn = turn;
      rest = rest_more front (turn_behind (length s) (tree_of s ns) start t (known _ _ _ (begun_behind (length s) 64 start front.utf8) gives)).rest;
      so_far = ap (settled (length s) 63) (sym gives) ∙ sym (begun_reads (length s) 64 start);
    }

pub first_fails : (s start : List ℕ) (e : JsonFault) → Fails e (begun (length s) 64 start) → Fails e (value (length s) 64 start)
first_fails s start e h = fails_along e _ _ (sym (begun_reads (length s) 64 start)) (turn_fails (length s) 64 63 [] (begun (length s) 64 start) e h)
