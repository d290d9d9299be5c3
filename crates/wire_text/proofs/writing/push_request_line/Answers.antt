use Rattle.wire_text.proofs.Lines.{four}
use Rattle.wire_text.proofs.writing.push_request_line.Goals as goal

pub returns : goal.returns
returns c =
    rw (
      c.in_ok-extend_from_slice-4.ensures.items,
      c.in_ok-extend_from_slice-3.ensures.items,
      c.in_ok-extend_from_slice-2.ensures.items,
      c.in_ok-extend_from_slice.ensures.items,
      c.as_bytes-2.ensures.value,
      c.as_bytes.ensures.value,
    )
    (four c.args.made.now.items c.args.method.now _ c.args.target.now _)
