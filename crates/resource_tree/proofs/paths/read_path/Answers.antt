use Rattle.std.proofs.Common.{◌≡◌, ◌∙◌, ap, sym, Some, true, false}
use Rattle.std.specs.List.{list_any}
use Rattle.std.specs.Option.{option_map}
use Rattle.resource_tree.specs.Faults.{fault_behind}
use Rattle.resource_tree.specs.Reading.{parts_of}
use Rattle.resource_tree.specs.Sharing.{clashes, greedy_last}
use Rattle.resource_tree.proofs.FaultLemmas.{no_fault, clash_fault}
use Rattle.resource_tree.proofs.paths.read_path.Goals as goal

pub returns-then-clashes_with_one-clause-fault : goal.returns-then-clashes_with_one-clause-fault
returns-then-clashes_with_one-clause-fault c = λ _.
    let parts = c.in-Some.parts.items in
    let read : parts_of c.args.path.now ≡ Some parts = sym c.in_ok-parts.ensures ∙ ap (option_map (λ v. v.items)) c.in-Some.is in
    let last : greedy_last parts ≡ true = ap greedy_last (sym c.as_slice.ensures.value) ∙ sym c.is_greedy_last.ensures ∙ c.if-not-is_greedy_last.false in
    let clash : list_any (λ other. clashes other parts) c.args.earlier.now ≡ true = ap (λ p. list_any (λ other. clashes other p) c.args.earlier.now) (sym c.as_slice-2.ensures.value) ∙ sym c.clashes_with_one.ensures ∙ c.if-clashes_with_one.true in
    ap (fault_behind c.args.earlier.now c.args.at) read ∙ clash_fault c.args.earlier.now c.args.at parts last clash

pub returns-clause-sound : goal.returns-clause-sound
returns-clause-sound c =
    let parts = c.in-Some.parts.items in
    let read : parts_of c.args.path.now ≡ Some parts = sym c.in_ok-parts.ensures ∙ ap (option_map (λ v. v.items)) c.in-Some.is in
    let last : greedy_last parts ≡ true = ap greedy_last (sym c.as_slice.ensures.value) ∙ sym c.is_greedy_last.ensures ∙ c.if-not-is_greedy_last.false in
    let apart : list_any (λ other. clashes other parts) c.args.earlier.now ≡ false = ap (λ p. list_any (λ other. clashes other p) c.args.earlier.now) (sym c.as_slice-2.ensures.value) ∙ sym c.clashes_with_one.ensures ∙ c.if-clashes_with_one.false in
    ap (fault_behind c.args.earlier.now c.args.at) read ∙ no_fault c.args.earlier.now c.args.at parts last apart
