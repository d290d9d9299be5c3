-- The bytes of all texts made.
use Rattle.std.proofs.Common.{◌≡◌, ℕ, ◌+◌, ◌-◌, ◌^◌, ◌≤◌, ◌<◌, min, sym, ◌∙◌, ap, arith, List, ◌++◌, ◌∷◌, length, inl, inr}
use Rattle.std.proofs.lemmas.Int.{clamps}
use Rattle.std.proofs.lemmas.Bool.{lt-leb, cases_lt}
use Rattle.std.proofs.lemmas.List.{length-append}
use Rattle.std.specs.Prelude.{if◌then◌else◌, Ok, Err}
use Rattle.vtl_values.specs.Val.{Val}
use Rattle.vtl_values.specs.Printed.{printed}
use Rattle.vtl_eval.specs.World.{Scene, make, most_made}
use Rattle.vtl_eval.specs.Evaluated.{all_printed}
use Rattle.vtl_eval.specs.declared.stop.Limit.TheVariants.{Bytes}

-- more texts than there is room
pub no_room : (n : ℕ) (s : Scene) → most_made < s.made + n → make n s ≡ Err Bytes
no_room n s h = ap (λ b. if b then Ok (record s { made = s.made + n }) else Err Bytes) (lt-leb (s.made + n) most_made h)

too_many : (n : ℕ) (s : Scene) → 2 ^ 64 - 1 ≤ n → most_made < s.made + n
unfolding most_made
too_many n s h = omega (arith, h)

-- a number of bytes that is cut at 2^64 - 1 is as much too many
pub make_least : (n : ℕ) (s : Scene) → make (min n (2 ^ 64 - 1)) s ≡ make n s
make_least n s = elim (cases_lt n (2 ^ 64 - 1)) [
  | inl h ↦ ap (λ k. make k s) (omega (arith, clamps, h))
  | inr h ↦ no_room (min n (2 ^ 64 - 1)) s (too_many (min n (2 ^ 64 - 1)) s (omega (arith, clamps, h))) ∙ sym (no_room n s (too_many n s h))
]

-- a text that does not fit with the next value does not fit with all
pub no_room_for_all : (t : List ℕ) (v : Val) (vs all : List Val) (s : Scene) → t ++ all_printed (v ∷ vs) ≡ all_printed all → most_made - s.made < length t + length (printed v) → make (length (all_printed all)) s ≡ Err Bytes
no_room_for_all t v vs all s e h =
    let n : length (all_printed all) ≡ length t + (length (printed v) + length (all_printed vs)) = ap length (sym e) ∙ length-append t _ ∙ ap (λ k. length t + k) (length-append (printed v) _) in
    no_room (length (all_printed all)) s (omega (arith, h, n))
