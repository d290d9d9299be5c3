-- The references of a template.
use Rattle.std.proofs.Common.{◌≡◌, ℕ, refl}
use Rattle.vtl_grammar.specs.Tree.{Expr, Item}
use Rattle.vtl_reader.specs.declared.nodes.ItemNode.{ItemNode}
use Rattle.vtl_reader.specs.declared.nodes.ItemNode.TheVariants as i
use Rattle.vtl_reader.specs.Nodes.{item_made}
use Rattle.api_members.specs.Nodes.{is_output_node}
use Rattle.api_members.specs.Small.{is_output}

pub output_made : (e : ℕ → Expr) (f : ℕ → Item) (x : ItemNode) → is_output (item_made e f x) ≡ is_output_node x
output_made e f (i.Text t) = refl
output_made e f i.Comment = refl
output_made e f (i.Output source x ss) = refl
output_made e f (i.Set target k) = refl
output_made e f (i.If bs is) = refl
output_made e f (i.ForEach x k is) = refl
output_made e f i.Break = refl
output_made e f i.Stop = refl
output_made e f (i.Define x ps is) = refl
output_made e f (i.MacroCall at x es) = refl
