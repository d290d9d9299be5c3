use Rattle.std.proofs.Common.{◌≡◌, ◌<◌, ◌∙◌, [], length, sym, ap, arith, below_more, Some, None, ◌^◌, map, subst}
use Rattle.std.proofs.lemmas.List.{get_or_read}
use Rattle.resource_tree.specs.Faults.{fault_behind}
use Rattle.resource_tree.specs.Matching.{IsTable}
use Rattle.resource_tree.specs.Reading.{parts_of}
use Rattle.resource_tree.proofs.FaultLemmas.{count_read, fault_there, first_fault, read_more, table_push}
use Rattle.resource_tree.proofs.paths.read_paths.Goals as goal

pub returns-in_err-parts-clause-fault : goal.returns-in_err-parts-clause-fault
returns-in_err-parts-clause-fault c =
    let paths = c.args.paths.now in
    let within : c.loop-i.i < length paths = omega arith in
    let is = c.as_str.ensures ∙ get_or_read paths c.loop-i.i c.index-paths-i.result within c.index-paths-i.is [] in
    let at : c.in-Ok.at ≡ c.loop-i.i = omega (arith, c.in-Ok.ensures) in
    let same = fault_there paths c.loop-i.read.items c.loop-i.i c.in-Ok.at c.as_str.result.now c.loop-i.invariant.parts at is in
    first_fault paths c.loop-i.i c.from_residual.result c.in_err-parts.field-0.0 c.from_residual.ensures.1 within c.loop-i.invariant.sound
    (λ other. sym same ∙ ap (λ t. fault_behind t c.in-Ok.at (parts_of c.as_str.result.now)) (sym c.as_slice.ensures.value) ∙ c.in_err-parts.ensures.fault other)

pub loop-i-preserved : goal.loop-i-preserved
loop-i-preserved c =
    let paths = c.args.paths.now in
    let read = c.loop-i.read.items in
    let within : c.loop-i.i < length paths = omega arith in
    let is = c.as_str.ensures ∙ get_or_read paths c.loop-i.i c.index-paths-i.result within c.index-paths-i.is [] in
    let at : c.in-Ok.at ≡ c.loop-i.i = omega (arith, c.in-Ok.ensures) in
    let small : c.in-Ok.at < 2 ^ 32 = omega (arith, c.in-Ok.ensures) in
    let same = fault_there paths read c.loop-i.i c.in-Ok.at c.as_str.result.now c.loop-i.invariant.parts at is in
    let none : fault_behind read c.in-Ok.at (parts_of c.as_str.result.now) ≡ None = ap (λ t. fault_behind t c.in-Ok.at (parts_of c.as_str.result.now)) (sym c.as_slice.ensures.value) ∙ c.in_ok-parts.ensures.sound in
    record {
      parts = ap (map (λ parts. Some parts)) c.in_ok-push.ensures.items ∙ read_more paths read c.loop-i.i c.as_str.result.now c.in_ok-parts.parts c.loop-i.invariant.parts within is c.in_ok-parts.ensures.parts;
      sound = below_more _ _ c.loop-i.invariant.sound (sym same ∙ none);
      table = subst IsTable (sym c.in_ok-push.ensures.items)
          (table_push read c.in_ok-parts.parts c.in-Ok.at c.loop-i.invariant.table (count_read paths read c.loop-i.i c.loop-i.invariant.parts within ∙ sym at) small (ap (fault_behind read c.in-Ok.at) (sym c.in_ok-parts.ensures.parts) ∙ none));
    }
