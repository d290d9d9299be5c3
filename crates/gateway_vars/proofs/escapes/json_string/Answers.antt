use Rattle.std.proofs.Common.{◌≡◌, ◌∷◌, ◌++◌, [], flat_map, sym, ap, ◌∙◌, map-id, lit<, string_bytes}
use Rattle.std.specs.Str.{chars}
use Rattle.std.proofs.lemmas.Iterator.{YieldsList-from_chars}
use Rattle.std.proofs.lemmas.Iterator.Consumers.{YieldsList-end}
use Rattle.gateway_vars.specs.Escapes.{json_char, json_string}
use Rattle.gateway_vars.proofs.escapes.json_string.Goals as goal

pub returns : goal.returns
unfolding json_string
returns c =
    let end = YieldsList-end (YieldsList-from_chars c.args.text.now c.utf8.text cc) c.loop-c.yielded _ c.loop-c.yielded_by _ _ c.in-None.is c.next.ensures.steps in
    let all : string_bytes c.loop-c.made ≡ 34 ∷ flat_map json_char (chars c.args.text.now) = c.loop-c.invariant ∙ ap (λ t. 34 ∷ flat_map json_char t) (sym (map-id c.loop-c.yielded) ∙ end.0) in
    c.in_ok-push.ensures.bytes ∙ ap (λ t. string_bytes c.loop-c.made ++ t) (c.in_ok-push.ensures.ascii (lit< tt)) ∙ ap (λ t. t ++ 34 ∷ []) all
