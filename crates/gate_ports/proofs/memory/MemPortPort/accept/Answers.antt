use Rattle.std.proofs.Common.{◌≡◌, ◌-◌, ◌<◌, ◌∷◌, All, take, drop, ap, sym, ◌∙◌, subst, rules, arith}
use Rattle.gate_ports.specs.Docks.{IsUnwritten}
use Rattle.gate_ports.proofs.Docked.{front_less_first, back_stays, of_first, of_rest}
use Rattle.gate_ports.proofs.memory.MemPortPort.accept.Goals as goal

pub invariant_of-self-2 : goal.invariant_of-self-2
invariant_of-self-2 c =
    let some : 0 < c.self.inside.coming = omega arith in
    let front : take c.self.inside.coming c.self.inside.conns.items ≡ c.remove.result ∷ take (c.self.inside.coming - 1) c.remove.new.self.items
    = front_less_first _ _ _ _ some (omega arith) c.remove.ensures.value c.remove.ensures.items in (
      omega (arith, c.remove.ensures.len),
      λ _. omega (arith, c.remove.ensures.len, c.remove.ensures.capacity),
      of_rest IsUnwritten _ _ (subst (λ conns. All IsUnwritten conns) front c.self.invariant.2),
    )

pub returns-clause-look : goal.returns-clause-look
returns-clause-look c =
    let some : 0 < c.self.inside.coming = omega arith in
    let front : take c.self.inside.coming c.self.inside.conns.items ≡ c.remove.result ∷ take (c.self.inside.coming - 1) c.remove.new.self.items
    = front_less_first _ _ _ _ some (omega arith) c.remove.ensures.value c.remove.ensures.items in
    let back : drop c.self.inside.coming c.self.inside.conns.items ≡ drop (c.self.inside.coming - 1) c.remove.new.self.items
    = back_stays _ _ _ some (omega arith) c.remove.ensures.items in
    (sym (ap (λ port. port.coming) c.self.view_is) ∙ front, search (rules, back))

pub returns-clause-unwritten : goal.returns-clause-unwritten
returns-clause-unwritten c =
    let some : 0 < c.self.inside.coming = omega arith in
    let front : take c.self.inside.coming c.self.inside.conns.items ≡ c.remove.result ∷ take (c.self.inside.coming - 1) c.remove.new.self.items
    = front_less_first _ _ _ _ some (omega arith) c.remove.ensures.value c.remove.ensures.items in
    of_first IsUnwritten _ _ (subst (λ conns. All IsUnwritten conns) front c.self.invariant.2)
