-- The tree of a definition's resources has the parts of their paths.
use Rattle.std.proofs.Common.{◌≡◌, List, [], ◌∷◌, map, refl, ap, Option}
use Rattle.std.specs.Option.{unwrap_or}
use Rattle.resource_tree.specs.Reading.{parts_of}
use Rattle.resource_tree.specs.declared.part.Part.{Part}
use Rattle.api_parts.specs.declared.parts.Resource.{Resource}
use Rattle.api_resources.specs.Paths.{IsTree}
use Rattle.api_resources.specs.Resources.{path_of}

heads : {x y : Option (List Part)} {xs ys : List (Option (List Part))} → x ∷ xs ≡ y ∷ ys → x ≡ y
heads e = cc

tails : {x y : Option (List Part)} {xs ys : List (Option (List Part))} → x ∷ xs ≡ y ∷ ys → xs ≡ ys
tails e = cc

joined : {x y : List Part} {xs ys : List (List Part)} → x ≡ y → xs ≡ ys → x ∷ xs ≡ y ∷ ys
joined e f = cc

pub tree_is : (tree : List (List Part)) (resources : List Resource) → IsTree (map path_of resources) tree → tree ≡ map (λ (r : Resource). unwrap_or (parts_of r.path) []) resources
tree_is [] [] e = refl
tree_is [] (r ∷ resources) e = absurd (cc)
tree_is (parts ∷ tree) [] e = absurd (cc)
tree_is (parts ∷ tree) (r ∷ resources) e = joined (ap (λ (o : Option (List Part)). unwrap_or o []) (heads e)) (tree_is tree resources (tails e))
