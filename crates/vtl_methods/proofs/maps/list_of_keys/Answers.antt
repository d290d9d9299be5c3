use Rattle.std.proofs.Common.{◌≡◌, List, map, ap, sym, ◌∙◌, arith}
use Rattle.std.proofs.lemmas.List.{take_all}
use Rattle.std.specs.Rc.{rc_str_bytes}
use Rattle.std.specs.declared.rc.RcStr.{RcStr}
use Rattle.std.specs.declared.alloc.Global.{Global}
use Rattle.vtl_values.specs.Val.{Val, text}
use Rattle.vtl_values.specs.Vals.{rows_of}
use Rattle.vtl_values.specs.Parts.{entry_keys}
use Rattle.vtl_methods.proofs.Entries.{texts_are}
use Rattle.vtl_methods.proofs.maps.list_of_keys.Goals as goal

pub returns : goal.returns
returns c =
    let es = c.args.entries.now in
    let all = take_all c.loop-entry.entry-index es (omega arith) in
    let e : c.loop-entry.made ≡ map text (entry_keys (rows_of es)) =
    c.loop-entry.invariant ∙ ap (λ (xs : List (RcStr Global × Val)). map (λ e. text (rc_str_bytes e.0)) xs) all ∙ sym (texts_are es) in
    rw (← e) c.close.ensures
