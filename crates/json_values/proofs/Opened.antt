-- The tree of a value, by those of its parts.
use Rattle.std.proofs.Common.{◌≡◌, ℕ, zero, suc, ◌<◌, List, Option, Some, None, refl, ◌∙◌, ap, arith}
use Rattle.std.specs.Prelude.{slice_get}
use Rattle.json_subset.specs.Tree.{Tree, node, list, object, trees_of, members_of}
use Rattle.json_subset.proofs.Nodes.{map_alike, members_alike}
use Rattle.json_values.specs.Values.{form_of, IsBelow, AreSound, there, plain_within, plain_of}
use Rattle.json_values.specs.declared.value.Value.{Value}
use Rattle.json_values.specs.declared.value.Form.{Form as CodeForm}
use Rattle.json_values.specs.declared.value.Form.TheVariants as code

pub form_alike : (f g : ℕ → Tree) (k : ℕ) (x : CodeForm) → ((j : ℕ) → j < k → f j ≡ g j) → IsBelow k x → form_of f x ≡ form_of g x
form_alike f g k code.Null same below = refl
form_alike f g k (code.Bool b) same below = refl
form_alike f g k (code.Number x s) same below = refl
form_alike f g k (code.Text t) same below = refl
form_alike f g k (code.List ids) same below = ap (λ z. list (trees_of z)) (map_alike f g k ids.items same below)
form_alike f g k (code.Object ms) same below = ap (λ z. object (members_of z)) (members_alike f g k ms.list.items same below)

there_alike : (f g : ℕ → Tree) (k : ℕ) (o : Option Value) → ((j : ℕ) → j < k → f j ≡ g j) → ((x : Value) → o ≡ Some x → IsBelow k x.form) → there f o ≡ there g o
there_alike f g k None same below = refl
there_alike f g k (Some x) same below = ap (node 0 0) (form_alike f g k x.form same (below x refl))

pub alike : (vs : List Value) (c d k : ℕ) → AreSound vs → k < c → k < d → plain_within c vs k ≡ plain_within d vs k
unfolding plain_within
alike vs zero d k sound h i = absurd (omega (arith, h))
alike vs (suc c) zero k sound h i = absurd (omega (arith, i))
alike vs (suc c) (suc d) k sound h i =
    there_alike (plain_within c vs) (plain_within d vs) k (slice_get vs k) (λ j below. alike vs c d j sound (omega (arith, h, below)) (omega (arith, i, below))) (λ x at. (sound k x at).below)

pub opened_value : (vs : List Value) (k : ℕ) (x : Value) → AreSound vs → slice_get vs k ≡ Some x → plain_of vs k ≡ node 0 0 (form_of (plain_of vs) x.form)
unfolding plain_within
opened_value vs k x sound at =
    ap (there (plain_within k vs)) at
    ∙ ap (node 0 0) (form_alike (plain_within k vs) (plain_of vs) k x.form (λ j h. alike vs k (suc j) j sound h (omega arith)) (sound k x at).below)
