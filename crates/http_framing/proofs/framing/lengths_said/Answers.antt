use Rattle.std.proofs.Common.{◌≡◌, [], List, ◌∙◌, sym, ap, map, drop}
use Rattle.std.proofs.lemmas.List.{drop_all}
use Rattle.httparse.specs.Spans.{header_bytes}
use Rattle.httparse.specs.declared.spans.HeaderSpan.{HeaderSpan}
use Rattle.http_framing.proofs.Lengths.{lengths_from, lengths_are}
use Rattle.http_framing.proofs.framing.lengths_said.Goals as goal

pub returns : goal.returns
returns c =
    let fields = c.args.fields.now in
    let none : drop c.loop-field.field-index fields ≡ [] = drop_all c.loop-field.field-index fields c.loop-field-test.false in
    ap (λ (l : List HeaderSpan). lengths_from c.args.http10 c.loop-field.said (map (header_bytes c.args.buf.now) l)) (sym none)
    ∙ c.loop-field.invariant ∙ lengths_are c.args.http10 (map (header_bytes c.args.buf.now) fields)
