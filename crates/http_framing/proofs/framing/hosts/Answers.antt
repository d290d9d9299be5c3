use Rattle.std.proofs.Common.{arith, ◌≡◌, ◌+◌, [], List, ◌∙◌, sym, ap, map, drop}
use Rattle.std.proofs.lemmas.List.{drop_all}
use Rattle.httparse.specs.Spans.{header_bytes}
use Rattle.httparse.specs.declared.spans.HeaderSpan.{HeaderSpan}
use Rattle.http_framing.specs.Framings.{hosts}
use Rattle.http_framing.proofs.Lengths.{hosts_from, hosts_are}
use Rattle.http_framing.proofs.framing.hosts.Goals as goal

pub returns : goal.returns
returns c =
    let fields = c.args.fields.now in
    let none : drop c.loop-field.field-index fields ≡ [] = drop_all c.loop-field.field-index fields c.loop-field-test.false in
    let all : 0 + hosts (map (header_bytes c.args.buf.now) fields) ≡ hosts (map (header_bytes c.args.buf.now) fields) = omega arith in
    ap (λ (l : List HeaderSpan). hosts_from c.loop-field.n (map (header_bytes c.args.buf.now) l)) (sym none)
    ∙ c.loop-field.invariant.rest ∙ hosts_are 0 (map (header_bytes c.args.buf.now) fields) ∙ all
