use Rattle.std.proofs.Common.{◌≡◌, ◌-◌, ◌<◌, ◌++◌, ◌∷◌, [], List, sym, subst, rules, length}
use Rattle.std.proofs.lemmas.Result.{err_from_is_err_and}
use Rattle.json_subset.specs.declared.turn.Open.{Open}
use Rattle.json_subset.specs.declared.turn.Turn.{Turn}
use Rattle.json_subset.specs.Opened.{rest_of}
use Rattle.json_subset.proofs.Going.{Going, first_going, first_fails, begins_fails, begins_behind, begins_going, innermost, onward_fails, onward_later, onward_going}
use Rattle.json_subset.proofs.reader.read_value.Goals as goal

pub returns-in_err-turn-clause-gives : goal.returns-in_err-turn-clause-gives
returns-in_err-turn-clause-gives c =
    let p = err_from_is_err_and c.from_residual.result c.from_residual.ensures.1 in
    rw (p.1, p.2) (first_fails c.args.text.now c.args.start.now _ c.in_err-turn.ensures.gives)

pub turns-init : goal.turns-init
turns-init c =
    rw c.new-stack.ensures.items
    (first_going c.args.text.now c.args.start.now c.begin.new.nodes.items c.in_ok-turn.turn c.in_ok-turn.ensures.kept.sound c.requires.front c.in_ok-turn.ensures.turn c.in_ok-turn.ensures.gives)

pub returns-in_err-turn-in-Goes-clause-gives : goal.returns-in_err-turn-in-Goes-clause-gives
returns-in_err-turn-in-Goes-clause-gives c =
    let p = err_from_is_err_and c.from_residual-in_err-turn-in-Goes.result c.from_residual-in_err-turn-in-Goes.ensures.1 in
    let P : Turn → Type 0 = λ t. Going c.args.text.now c.args.start.now c.turns.nodes.items c.turns.stack.items t in
    let g = subst P c.in-Goes.is c.turns.invariant in
    let same : c.saturating_sub-levels.result ≡ 64 - length (c.turns.stack.items ++ c.in-Goes.bracket ∷ []) = search rules in
    rw (p.1, p.2) (begins_fails c.args.text.now c.args.start.now c.turns.nodes.items c.turns.stack.items c.in-Goes.bracket c.in-Goes.rest.now _ same _ g.so_far c.in_err-turn-in-Goes.ensures.gives)

pub turns-smaller-in-Goes : goal.turns-smaller-in-Goes
turns-smaller-in-Goes c =
    let P : Turn → Type 0 = λ t. Going c.args.text.now c.args.start.now c.turns.nodes.items c.turns.stack.items t in
    let Q : Turn → Type 0 = λ t. length (rest_of c.in_ok-turn-in-Goes.turn) < length (rest_of t) in
    let g = subst P c.in-Goes.is c.turns.invariant in
    let same : c.saturating_sub-levels.result ≡ 64 - length (c.turns.stack.items ++ c.in-Goes.bracket ∷ []) = search rules in
    subst Q (sym c.in-Goes.is) (begins_behind c.args.text.now c.args.start.now c.turns.nodes.items c.turns.stack.items c.in-Goes.bracket c.in-Goes.rest.now _ same c.begin-in-Goes.new.nodes.items c.in_ok-turn-in-Goes.turn g.opened g.turn g.rest c.in_ok-turn-in-Goes.ensures.kept c.in_ok-turn-in-Goes.ensures.turn c.in_ok-turn-in-Goes.ensures.gives).less

pub turns-preserved-in-Goes : goal.turns-preserved-in-Goes
turns-preserved-in-Goes c =
    let P : Turn → Type 0 = λ t. Going c.args.text.now c.args.start.now c.turns.nodes.items c.turns.stack.items t in
    let g = subst P c.in-Goes.is c.turns.invariant in
    let same : c.saturating_sub-levels.result ≡ 64 - length (c.turns.stack.items ++ c.in-Goes.bracket ∷ []) = search rules in
    rw c.in_ok-push-in-Goes.ensures.items
    (begins_going c.args.text.now c.args.start.now c.turns.nodes.items c.turns.stack.items c.in-Goes.bracket c.in-Goes.rest.now _ same c.begin-in-Goes.new.nodes.items c.in_ok-turn-in-Goes.turn g.opened g.turn g.rest c.in_ok-turn-in-Goes.ensures.kept c.in_ok-turn-in-Goes.ensures.turn c.in_ok-turn-in-Goes.ensures.gives g.so_far)

pub go_on-requires-clause-bracket : goal.go_on-requires-clause-bracket
go_on-requires-clause-bracket c =
    let P : Turn → Type 0 = λ t. Going c.args.text.now c.args.start.now c.turns.nodes.items (c.pop.new.self.items ++ c.in-Some.bracket ∷ []) t in
    let S : List Open → Type 0 = λ z. Going c.args.text.now c.args.start.now c.turns.nodes.items z c.turns.turn in
    let g = subst P c.in-Whole.is (subst S c.in-Some.ensures.items c.turns.invariant) in
    innermost c.args.text.now c.args.start.now c.turns.nodes.items c.pop.new.self.items c.in-Some.bracket c.in-Whole.k c.in-Whole.rest.now g.opened g.rest g.so_far

pub returns-in_err-turn-in-Some-clause-gives : goal.returns-in_err-turn-in-Some-clause-gives
returns-in_err-turn-in-Some-clause-gives c =
    let p = err_from_is_err_and c.from_residual-in_err-turn-in-Some.result c.from_residual-in_err-turn-in-Some.ensures.1 in
    let P : Turn → Type 0 = λ t. Going c.args.text.now c.args.start.now c.turns.nodes.items (c.pop.new.self.items ++ c.in-Some.bracket ∷ []) t in
    let S : List Open → Type 0 = λ z. Going c.args.text.now c.args.start.now c.turns.nodes.items z c.turns.turn in
    let g = subst P c.in-Whole.is (subst S c.in-Some.ensures.items c.turns.invariant) in
    rw (p.1, p.2) (onward_fails c.args.text.now c.args.start.now c.turns.nodes.items c.pop.new.self.items c.in-Some.bracket c.in-Whole.k c.in-Whole.rest.now g.opened g.rest g.so_far _ c.in_err-turn-in-Some.ensures.gives)

pub turns-smaller : goal.turns-smaller
turns-smaller c =
    let P : Turn → Type 0 = λ t. Going c.args.text.now c.args.start.now c.turns.nodes.items (c.pop.new.self.items ++ c.in-Some.bracket ∷ []) t in
    let Q : Turn → Type 0 = λ t. length (rest_of c.in_ok-turn-in-Some.turn) < length (rest_of t) in
    let S : List Open → Type 0 = λ z. Going c.args.text.now c.args.start.now c.turns.nodes.items z c.turns.turn in
    let g = subst P c.in-Whole.is (subst S c.in-Some.ensures.items c.turns.invariant) in
    subst Q (sym c.in-Whole.is) (onward_later c.args.text.now c.args.start.now c.turns.nodes.items c.pop.new.self.items c.in-Some.bracket c.in-Whole.k c.in-Whole.rest.now g.opened g.rest g.so_far c.go_on.new.nodes.items c.in_ok-turn-in-Some.turn c.in_ok-turn-in-Some.ensures.kept c.in_ok-turn-in-Some.ensures.turn c.in_ok-turn-in-Some.ensures.gives).less

pub turns-preserved : goal.turns-preserved
turns-preserved c =
    let P : Turn → Type 0 = λ t. Going c.args.text.now c.args.start.now c.turns.nodes.items (c.pop.new.self.items ++ c.in-Some.bracket ∷ []) t in
    let S : List Open → Type 0 = λ z. Going c.args.text.now c.args.start.now c.turns.nodes.items z c.turns.turn in
    let g = subst P c.in-Whole.is (subst S c.in-Some.ensures.items c.turns.invariant) in
    onward_going c.args.text.now c.args.start.now c.turns.nodes.items c.pop.new.self.items c.in-Some.bracket c.in-Whole.k c.in-Whole.rest.now g.opened g.rest g.so_far c.go_on.new.nodes.items c.in_ok-turn-in-Some.turn c.in_ok-turn-in-Some.ensures.kept c.in_ok-turn-in-Some.ensures.turn c.in_ok-turn-in-Some.ensures.gives
