use Rattle.std.proofs.Common.{◌≡◌, ℕ, List, drop}
use Rattle.vtl_grammar.specs.Calls.{first_of, macros_in}
use Rattle.vtl_reader.specs.Nodes.{item_of, items_made}
use Rattle.vtl_reader.specs.Macros.{macros_by, AreListed}
use Rattle.vtl_reader.proofs.macros.macros_of.Given as goal

abbrev pub invariant-loop-k : goal.invariant-loop-k
invariant-loop-k l = record {
  so_far : (x : List ℕ) → first_of (macros_by l.arena (record { names = l.names; ids = l.ids.items }) x) (macros_in (items_made (item_of l.arena) (drop l.k-index l.items)) x) ≡ macros_in (items_made (item_of l.arena) l.items) x;
  listed : AreListed l.arena l.names l.ids.items;
}
