-- The nodes of a template.
use Rattle.std.specs.Prelude.{Bool, true, false}
use Rattle.vtl_reader.specs.declared.nodes.ItemNode.{ItemNode}
use Rattle.vtl_reader.specs.declared.nodes.ItemNode.TheVariants as i

-- the node is a reference that is written out
abbrev pub is_output_node : ItemNode → Bool
is_output_node (i.Output source x ss) = true
is_output_node other = false
