-- Each turn keeps what the whole reads.
use Rattle.std.proofs.Common.{◌≡◌, ℕ, zero, suc, ◌+◌, ◌-◌, ◌<◌, List, [], ◌∷◌, ◌++◌, length, refl, sym, ap, ◌∙◌, arith, Bool, true, false, Option, Some, None, length-append}
use Rattle.std.specs.Prelude.{Ok, Err, Result, if◌then◌else◌, ◌==◌}
use Rattle.json_subset.specs.declared.fault.JsonFault.{JsonFault}
use Rattle.json_subset.specs.declared.fault.JsonFault.TheVariants.{Syntax, Depth, Repeated, NotUtf8, Memory}
use Rattle.json_subset.specs.Tree.{Tree, Form}
use Rattle.json_subset.specs.Scan.{◌>>=◌, Read, place, after_white, behind, Next, done, more, next}
use Rattle.json_subset.specs.Reading.{Bracket, square, curly, scalar, spanned, with_next, with_part, parts, item, items, list_form, list_from, named, label, labelled, pair, pairs, names_of, object_form, object_from, opened, value}
use Rattle.json_subset.specs.Turns.{Inside, in_list, in_object, Turn, filled, settled, all_filled, leaf, first_item, with_label, first_member, opens, begun, next_item, next_member, onward}
use Rattle.json_subset.specs.Views.{Fails}
use Rattle.json_subset.proofs.Choices.{is_byte}

then_then : {A B C : Type 0} (r : Result A JsonFault) (f : A → Result B JsonFault) (g : B → Result C JsonFault) → ((r >>= f) >>= g) ≡ (r >>= λ x. f x >>= g)
then_then (Ok x) f g = refl
then_then (Err e) f g = refl

parts_once : {A : Type 0} (n : ℕ) (step : List A → List ℕ → Result (A × Next) JsonFault) (xs : List A) (f g : ℕ) (bs : List ℕ) → f ≡ suc g → parts n step xs f bs ≡ (step xs bs >>= with_part (λ ys rest. parts n step ys g rest) xs)
unfolding parts
parts_once n step xs f g bs e = ap (λ k. parts n step xs k bs) e

module _ (n d at : ℕ) where
  item_step : List Tree → List ℕ → Result (Tree × Next) JsonFault
  item_step before cs = item n (value n d cs)

  pub first_items : (bs : List ℕ) → spanned n at (list_form (items n (value n d) bs)) ≡ filled n d at (in_list []) (value n d bs)
  unfolding item_step
  first_items bs = ap (λ r. spanned n at (list_form r)) (parts_once n item_step [] (n + 1) (n - 0) bs (omega arith))

  next_items : (ts : List Tree) (t : Tree) (r : Result Next JsonFault) → length ts < n → spanned n at (list_form (with_next t r >>= with_part (λ xs rest. parts n item_step xs (n - length ts) rest) ts)) ≡ settled n d (next_item n at (ts ++ t ∷ []) r)
  unfolding item_step
  next_items ts t (Ok (done rest)) h = refl
  next_items ts t (Ok (more rest)) h =
      let e = length-append ts (t ∷ []) in
      ap (λ r. spanned n at (list_form r)) (parts_once n item_step (ts ++ t ∷ []) (n - length ts) (n - length (ts ++ t ∷ [])) rest (omega (arith, h, e)))
  next_items ts t (Err e) h = refl

  pair_step : List (List ℕ × Tree) → List ℕ → Result ((List ℕ × Tree) × Next) JsonFault
  pair_step before cs = pair n (value n d) (named (names_of before)) cs

  labels : (ms : List (List ℕ × Tree)) (k : ℕ) (r : Read (List ℕ)) → k ≡ n - length ms → spanned n at (object_form ((r >>= λ x. labelled n x.0 (value n d x.1)) >>= with_part (λ xs rest. parts n pair_step xs k rest) ms)) ≡ settled n d (with_label at ms r)
  unfolding pair_step
  labels ms k (Ok x) e = ap (λ j. spanned n at (object_form (labelled n x.0 (value n d x.1) >>= with_part (λ xs rest. parts n pair_step xs j rest) ms))) e
  labels ms k (Err f) e = refl

  pub first_pairs : (bs : List ℕ) → spanned n at (object_form (pairs n (value n d) bs)) ≡ settled n d (with_label at [] (label n (named (names_of [])) bs))
  unfolding pair_step
  first_pairs bs =
      ap (λ r. spanned n at (object_form r)) (parts_once n pair_step [] (n + 1) n bs (omega arith))
      ∙ labels [] n (label n (named (names_of [])) bs) (omega arith)

  next_pairs : (ms : List (List ℕ × Tree)) (m : List ℕ × Tree) (r : Result Next JsonFault) → length ms < n → spanned n at (object_form (with_next m r >>= with_part (λ xs rest. parts n pair_step xs (n - length ms) rest) ms)) ≡ settled n d (next_member n at (ms ++ m ∷ []) r)
  unfolding pair_step
  next_pairs ms m (Ok (done rest)) h = refl
  next_pairs ms m (Ok (more rest)) h =
      let e = length-append ms (m ∷ []) in
      ap (λ r. spanned n at (object_form r)) (parts_once n pair_step (ms ++ m ∷ []) (n - length ms) (n - length (ms ++ m ∷ [])) rest (omega (arith, h, e)))
      ∙ labels (ms ++ m ∷ []) (n - length (ms ++ m ∷ [])) (label n (named (names_of (ms ++ m ∷ []))) rest) refl
  next_pairs ms m (Err e) h = refl

  abbrev pub count : Inside → ℕ
  count (in_list ts) = length ts
  count (in_object ms x) = length ms

  -- behind a part
  pub onward_fills : (i : Inside) (t : Tree) (rest : List ℕ) → count i < n → filled n d at i (Ok (t, rest)) ≡ settled n d (onward n at i t rest)
  unfolding item_step pair_step
  onward_fills (in_list ts) t rest h = next_items ts t (next n 93 rest) h
  onward_fills (in_object ms x) t rest h = next_pairs ms (x, t) (next n 125 rest) h

-- at the front of a value
leaf_reads : (n at : ℕ) (r : Read Form) (d : ℕ) → spanned n at r ≡ settled n d (leaf n at r)
leaf_reads n at (Ok r) d = refl
leaf_reads n at (Err e) d = refl

list_reads : (n d at : ℕ) (bs : List ℕ) (o : Option (List ℕ)) → spanned n at (list_from n (value n d) bs o) ≡ settled n d (first_item n at bs o)
list_reads n d at bs (Some rest) = refl
list_reads n d at bs None = first_items n d at bs

object_reads : (n d at : ℕ) (bs : List ℕ) (o : Option (List ℕ)) → spanned n at (object_from n (value n d) bs o) ≡ settled n d (first_member n at bs o)
object_reads n d at bs (Some rest) = refl
object_reads n d at bs None = first_pairs n d at bs

not_none : (d : ℕ) → (suc d == 0) ≡ false
not_none d = is_byte (suc d) 0 (λ e. absurd (omega (arith, e)))

opens_reads : (n levels at : ℕ) (b : Bracket) (bs : List ℕ) → spanned n at (opened n levels at b bs) ≡ settled n (levels - 1) (opens n levels at b bs)
unfolding opened
opens_reads n zero at square bs = refl
opens_reads n zero at curly bs = refl
opens_reads n (suc d) at square bs =
    list_reads n d at (after_white bs) (behind 93 (after_white bs))
    ∙ ap (λ k. settled n k (first_item n at (after_white bs) (behind 93 (after_white bs)))) (let e : d ≡ suc d - 1 = omega arith in e)
    ∙ ap (λ v. settled n (suc d - 1) (if v then Err (Depth at) else first_item n at (after_white bs) (behind 93 (after_white bs)))) (sym (not_none d))
opens_reads n (suc d) at curly bs =
    object_reads n d at (after_white bs) (behind 125 (after_white bs))
    ∙ ap (λ k. settled n k (first_member n at (after_white bs) (behind 125 (after_white bs)))) (let e : d ≡ suc d - 1 = omega arith in e)
    ∙ ap (λ v. settled n (suc d - 1) (if v then Err (Depth at) else first_member n at (after_white bs) (behind 125 (after_white bs)))) (sym (not_none d))

pub begun_reads : (n levels : ℕ) (bs : List ℕ) → value n levels bs ≡ settled n (levels - 1) (begun n levels bs)
begun_reads n levels [] = refl
begun_reads n levels (b ∷ bs) = go (b == 91) (b == 123)
  where
    go : (u v : Bool) → spanned n (place n (b ∷ bs)) (if u then opened n levels (place n (b ∷ bs)) square bs else if v then opened n levels (place n (b ∷ bs)) curly bs else scalar n (b ∷ bs)) ≡ settled n (levels - 1) (if u then opens n levels (place n (b ∷ bs)) square bs else if v then opens n levels (place n (b ∷ bs)) curly bs else leaf n (place n (b ∷ bs)) (scalar n (b ∷ bs)))
    go true v = opens_reads n levels (place n (b ∷ bs)) square bs
    go false true = opens_reads n levels (place n (b ∷ bs)) curly bs
    go false false = leaf_reads n (place n (b ∷ bs)) (scalar n (b ∷ bs)) (levels - 1)

-- one more open bracket
pub filled_push : (n d : ℕ) (xs : List (ℕ × Inside)) (x : ℕ × Inside) (r : Read Tree) → all_filled n d (xs ++ x ∷ []) r ≡ all_filled n d xs (filled n (d - length xs - 1) x.0 x.1 r)
filled_push n d [] x r = ap (λ k. filled n (k - 1) x.0 x.1 r) (let e : d ≡ d - 0 = omega arith in e)
filled_push n d (y ∷ xs) x r =
    let e : d - 1 - length xs - 1 ≡ d - suc (length xs) - 1 = omega arith in
    ap (filled n (d - 1) y.0 y.1) (filled_push n (d - 1) xs x r ∙ ap (λ k. all_filled n (d - 1) xs (filled n k x.0 x.1 r)) e)

filled_fault : (n d at : ℕ) (i : Inside) (e : JsonFault) → filled n d at i (Err e) ≡ Err e
filled_fault n d at (in_list ts) e = refl
filled_fault n d at (in_object ms x) e = refl

pub all_fault : (n d : ℕ) (xs : List (ℕ × Inside)) (e : JsonFault) → all_filled n d xs (Err e) ≡ Err e
all_fault n d [] e = refl
all_fault n d (x ∷ xs) e = ap (filled n (d - 1) x.0 x.1) (all_fault n (d - 1) xs e) ∙ filled_fault n (d - 1) x.0 x.1 e

-- a turn that fails
turn_fault : (n d l : ℕ) (xs : List (ℕ × Inside)) (r : Result Turn JsonFault) (e : JsonFault) → r ≡ Err e → all_filled n d xs (settled n l r) ≡ Err e
turn_fault n d l xs r e h = ap (λ z. all_filled n d xs (settled n l z)) h ∙ all_fault n d xs e

pub turn_fails : (n d l : ℕ) (xs : List (ℕ × Inside)) (r : Result Turn JsonFault) (e : JsonFault) → Fails e r → Fails e (all_filled n d xs (settled n l r))
turn_fails n d l xs r Memory h = tt
turn_fails n d l xs r (Syntax k) h = turn_fault n d l xs r (Syntax k) h
turn_fails n d l xs r (Depth k) h = turn_fault n d l xs r (Depth k) h
turn_fails n d l xs r (Repeated k) h = turn_fault n d l xs r (Repeated k) h
turn_fails n d l xs r (NotUtf8 k) h = turn_fault n d l xs r (NotUtf8 k) h

pub fails_label : (at : ℕ) (ms : List (List ℕ × Tree)) (r : Read (List ℕ)) (e : JsonFault) → Fails e r → Fails e (with_label at ms r)
fails_label at ms r Memory h = tt
fails_label at ms r (Syntax k) h = ap (with_label at ms) h
fails_label at ms r (Depth k) h = ap (with_label at ms) h
fails_label at ms r (Repeated k) h = ap (with_label at ms) h
fails_label at ms r (NotUtf8 k) h = ap (with_label at ms) h
