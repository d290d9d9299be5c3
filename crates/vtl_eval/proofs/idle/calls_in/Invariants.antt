use Rattle.std.proofs.Common.{◌≡◌, ℕ, Bool, drop}
use Rattle.std.specs.Prelude.{◌&&◌}
use Rattle.std.specs.List.{list_all}
use Rattle.vtl_reader.specs.Nodes.{item_of, items_made}
use Rattle.vtl_eval.specs.Idle.{do_nothing, by_place}
use Rattle.vtl_eval.proofs.idle.calls_in.Given as goal

abbrev pub invariant-loop-k : goal.invariant-loop-k
invariant-loop-k l = (p : ℕ → Bool) → (list_all p l.calls.items && do_nothing (by_place p l.macros.names) (items_made (item_of l.arena) (drop l.k-index l.items))) ≡ do_nothing (by_place p l.macros.names) (items_made (item_of l.arena) l.items)
