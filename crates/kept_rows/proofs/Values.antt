-- Values that equal a key, and values that a column takes as they are.
use Rattle.std.proofs.Common.{◌≡◌, ℕ, ℤ, Bool, true, false, ◌||◌, cond, List, Some, refl, sym, ap, ◌∙◌, true≢false, arith, Ordering, Less, Equal, Greater, is_eq, int_cmp}
use Rattle.std.specs.Ordering.{is_ne}
use Rattle.std.proofs.lemmas.Int.{ints}
use Rattle.std.proofs.lemmas.Cmp.{tied_itself}
use Rattle.sqlite_value.specs.declared.value.Value.{Value}
use Rattle.sqlite_value.specs.declared.value.Value.TheVariants.{Null, Int, Real, Text, Blob}
use Rattle.sqlite_value.specs.declared.keys.Collation.TheVariants.{Binary}
use Rattle.sqlite_value.specs.Order.{value_cmp}
use Rattle.sqlite_value.proofs.OrderLemmas.{value_cmp-Int, value_cmp-Text, value_cmp-apart, value_cmp_total}
use Rattle.sqlite_sql.specs.Ops.{unary, binary, is_true, is_null, from_truth}
use Rattle.sqlite_schema.specs.declared.schema.Kind.TheVariants as kind
use Rattle.sqlite_schema.specs.Rules.{equal, differ}
use Rattle.sqlite_rules.specs.Cast.{cast}
use Rattle.sqlite_typed.proofs.TestLemmas.{same_bytes}

untruth : (b : Bool) → is_true (from_truth (Some b)) ≡ b
untruth true = refl
untruth false = refl

tied : (o : Ordering) → is_eq o ≡ true → o ≡ Equal
tied Less h = absurd (true≢false (sym h))
tied Equal h = refl
tied Greater h = absurd (true≢false (sym h))

untied : (o : Ordering) → is_ne o ≡ false → o ≡ Equal
untied Less h = absurd (true≢false h)
untied Equal h = refl
untied Greater h = absurd (true≢false h)

compared : (null b : Bool) → is_true (cond null Null (from_truth (Some b))) ≡ true → b ≡ true
compared true b h = absurd (true≢false (sym h))
compared false b h = sym (untruth b) ∙ h

pub equal_is : (a b : Value) → equal Binary a b ≡ true → value_cmp a b ≡ Equal
unfolding binary
equal_is a b h = tied _ (compared (is_null a || is_null b) _ h)

pub self : (v : Value) → value_cmp v v ≡ Equal
self v = tied_itself value_cmp_total v

pub equal_self : (v : Value) → is_null v ≡ false → equal Binary v v ≡ true
unfolding binary
equal_self v h = rw (h, self v) refl

same_ints : (m n : ℤ) → int_cmp m n ≡ Equal → m ≡ n
same_ints m n h = grind (arith, ints)

pub int_same : (m n : ℤ) → value_cmp (Int m) (Int n) ≡ Equal → m ≡ n
int_same m n h = same_ints m n (sym (value_cmp-Int m n) ∙ h)

pub undiffer : (m n : ℤ) → differ (Int m) (Int n) ≡ false → m ≡ n
unfolding binary
undiffer m n h = int_same m n (untied _ (sym (untruth _) ∙ h))

pub text_is : (v : Value) (t : List ℕ) → value_cmp v (Text t) ≡ Equal → v ≡ Text t
text_is Null t h = absurd (let e = sym (value_cmp-apart Null (Text t) (λ s. omega (arith, s))) ∙ h in cc)
text_is (Int n) t h = absurd (let e = sym (value_cmp-apart (Int n) (Text t) (λ s. omega (arith, s))) ∙ h in cc)
text_is (Real x) t h = absurd (let e = sym (value_cmp-apart (Real x) (Text t) (λ s. omega (arith, s))) ∙ h in cc)
text_is (Text s) t h = ap Text (same_bytes s t (ap is_eq (sym (value_cmp-Text s t) ∙ h)))
text_is (Blob b) t h = absurd (let e = sym (value_cmp-apart (Blob b) (Text t) (λ s. omega (arith, s))) ∙ h in cc)

either : (b : Bool) (v : Value) → cond b v v ≡ v
either true v = refl
either false v = refl

pub cast_int : (n : ℤ) → cast kind.Integer (Int n) ≡ Int n
unfolding unary
cast_int n = either _ (Int n)

pub cast_null : cast kind.Integer Null ≡ Null
unfolding unary
cast_null = either _ Null
