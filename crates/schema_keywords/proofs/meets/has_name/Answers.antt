use Rattle.std.proofs.Common.{◌≡◌, ℕ, Option, Some, None, option_map, is_some, refl, sym, ap, ◌∙◌}
use Rattle.json_subset.specs.Tree.{Tree}
use Rattle.json_values.specs.Values.{plain_of}
use Rattle.json_values.proofs.Lookups.{found_member}
use Rattle.schema_keywords.proofs.meets.has_name.Goals as goal

some_map : (f : ℕ → Tree) (o : Option ℕ) → is_some o ≡ is_some (option_map f o)
some_map f None = refl
some_map f (Some k) = refl

pub returns : goal.returns
returns c =
    c.is_some.ensures
    ∙ ap is_some c.named.ensures.value
    ∙ some_map (plain_of c.args.values.now) _
    ∙ ap is_some (sym (found_member (plain_of c.args.values.now) c.args.members.now.list.items c.args.name.now))
