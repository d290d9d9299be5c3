use Rattle.std.proofs.Common.{◌∙◌, ap, Bool}
use Rattle.std.specs.List.{list_any}
use Rattle.std.specs.Str.{bytes_eq}
use Rattle.vtl_values.specs.Val.{Val, boolean}
use Rattle.vtl_values.specs.Parts.{map_keys}
use Rattle.vtl_methods.specs.Methods.{map_method}
use Rattle.vtl_methods.proofs.maps.contains_key.Goals as goal

pub returns-in-Some : goal.returns-in-Some
unfolding map_method
returns-in-Some c =
    let of_whole = ap (λ (v : Val). list_any (λ k. bytes_eq k c.as_str.result.now) (map_keys v)) c.requires in
    rw (← c.in-Some.ensures, ← c.as_str.ensures.value) (c.boolean.ensures ∙ ap (λ (b : Bool). boolean b) (c.has_key.ensures ∙ of_whole))
