use Rattle.std.proofs.Common.{◌≡◌, ◌∷◌, ◌++◌, [], All, rules, subst}
use Rattle.std.specs.Vec.Iter.{into_iter_items}
use Rattle.std.proofs.lemmas.List.Elements.{All-push}
use Rattle.gateway_outside.specs.Stands.{IsFresh}
use Rattle.gateway_machine.specs.Stands.{IsUnusedLane}
use Rattle.gateway_machine.proofs.Rest.{of_rest}
use Rattle.gateway_machine.proofs.machine.lanes_over.Goals as goal

pub loop-port-preserved : goal.loop-port-preserved
loop-port-preserved g c =
    let before : into_iter_items c.loop-port.port-iterator ≡ c.in-Some.port ∷ into_iter_items c.next.new.self = search rules in
    let items : c.push.new.self.items ≡ c.loop-port.lanes.items ++ c.lane_of.result ∷ [] = c.in_ok-push.ensures.items in
    record {
      number = search (rules, before);
      len = search (rules, before);
      fresh = of_rest IsFresh _ _ (subst (λ ports. All IsFresh ports) before c.loop-port.invariant.fresh);
      unused = rw items (All-push IsUnusedLane _ _ c.loop-port.invariant.unused c.lane_of.ensures);
    }
