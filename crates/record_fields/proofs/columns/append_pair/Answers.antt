use Rattle.std.proofs.Common.{◌≡◌, ◌++◌, ◌∷◌, [], ◌∙◌, ap, lit<}
use Rattle.std.specs.String.{string_bytes}
use Rattle.record_fields.specs.Writing.{coded}
use Rattle.record_fields.proofs.Joined.{pair_written}
use Rattle.record_fields.proofs.columns.append_pair.Goals as goal

pub returns : goal.returns
returns c =
    let name : string_bytes c.append_to.new.out ≡ string_bytes c.args.text.now ++ coded c.args.name.now =
    c.in_ok-append_to.ensures.ok ∙ ap (λ t. string_bytes c.args.text.now ++ t) (c.percent_encode.ensures.text ∙ ap coded c.as_bytes.ensures.value) in
    let equals : string_bytes c.push.new.self ≡ string_bytes c.append_to.new.out ++ 61 ∷ [] =
    c.in_ok-push.ensures.bytes ∙ ap (λ t. string_bytes c.append_to.new.out ++ t) (c.in_ok-push.ensures.ascii (lit< tt)) in
    let value : string_bytes c.append_to-2.new.out ≡ string_bytes c.push.new.self ++ coded c.args.value.now =
    c.in_ok-append_to-2.ensures.ok ∙ ap (λ t. string_bytes c.push.new.self ++ t) (c.percent_encode-2.ensures.text ∙ ap coded c.as_bytes-2.ensures.value) in
    pair_written (string_bytes c.args.text.now) c.args.name.now c.args.value.now (string_bytes c.append_to.new.out) (string_bytes c.push.new.self) (string_bytes c.append_to-2.new.out) name equals value
