use Rattle.std.proofs.Common.{rules, ◌≡◌, ◌<◌, List, length, sym, subst, arith, refl}
use Rattle.std.proofs.lemmas.List.Elements.{All-push}
use Rattle.std.proofs.lemmas.List.Sorted.{All-permutation, Contains-permutation, answers_always}
use Rattle.std.specs.List.{All}
use Rattle.resource_tree.specs.declared.part.Part.{Part}
use Rattle.resource_tree.specs.declared.order.Entry.{Entry}
use Rattle.resource_tree.specs.Matching.{path_at}
use Rattle.resource_tree.specs.Order.{HasPath}
use Rattle.resource_tree.proofs.Ordered.{is_earlier, earlier_orders, tried_in_order, has_more}
use Rattle.resource_tree.proofs.Sought.{read_at}
use Rattle.resource_tree.proofs.order.in_order.Goals as goal

abbrev IsEntryOf : List (List Part) → Entry → Type 0
IsEntryOf paths entry = (entry.path < length paths) × (entry.parts.now ≡ path_at paths entry.path)

pub loop-path-preserved : goal.loop-path-preserved
loop-path-preserved c =
    let entry : Entry = record { path = c.loop-path.path; parts = c.as_slice.result } in
    let here : IsEntryOf c.args.paths.now entry = (omega arith, read_at c.args.paths.now c.loop-path.path c.index-paths-path.result c.as_slice.result.now (omega arith) c.index-paths-path.is c.as_slice.ensures) in
    record {
      each = subst (All (IsEntryOf c.args.paths.now)) (sym c.in_ok-push.ensures.items) (All-push (IsEntryOf c.args.paths.now) c.loop-path.entries.items entry c.loop-path.invariant.each here);
      all = λ k less. subst (λ entries. HasPath entries k) (sym c.in_ok-push.ensures.items) (has_more c.loop-path.entries.items entry c.loop-path.path c.loop-path.invariant.all refl k less);
    }

pub returns-clause-each : goal.returns-clause-each
returns-clause-each c = All-permutation (IsEntryOf c.args.paths.now) c.loop-path.entries.items c.sort_unstable_by.new.self.items c.sort_unstable_by.ensures.permutation c.loop-path.invariant.each

pub returns-clause-all : goal.returns-clause-all
returns-clause-all c = λ path less.
    let h = c.loop-path.invariant.all path (omega (arith, less)) in
    (h.0, Contains-permutation c.loop-path.entries.items c.sort_unstable_by.new.self.items h.0 c.sort_unstable_by.ensures.permutation h.1, h.2)

pub returns-clause-ordered : goal.returns-clause-ordered
returns-clause-ordered c = tried_in_order c.sort_unstable_by.new.self.items (c.sort_unstable_by.ensures.sorted is_earlier earlier_orders (answers_always _ _ _ (λ f a r g h. search rules)))
