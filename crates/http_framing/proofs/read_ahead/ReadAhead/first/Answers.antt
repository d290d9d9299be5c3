use Rattle.std.proofs.Common.{arith, sym, ◌∙◌}
use Rattle.std.proofs.lemmas.List.{take_all}
use Rattle.http_framing.proofs.read_ahead.ReadAhead.first.Goals as goal

pub returns-then-bytes-limit : goal.returns-then-bytes-limit
returns-then-bytes-limit c = c.as_slice-bytes.ensures ∙ sym (take_all c.args.limit c.args.self.now (rw (← c.as_slice-bytes.ensures) (omega arith)))
