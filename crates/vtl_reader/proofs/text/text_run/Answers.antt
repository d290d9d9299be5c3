use Rattle.std.proofs.Common.{ap, arith, rules, length, ◌+◌}
use Rattle.vtl_grammar.specs.Fronts.{text_run}
use Rattle.vtl_reader.proofs.Running.{at_plain, at_raw, at_end, at_other, start_line, small_line, next_line}
use Rattle.vtl_reader.proofs.text.text_run.Goals as goal

pub loop-fuel-init : goal.loop-fuel-init
loop-fuel-init c = record {
  so_far = ap (λ t. text_run c.args.names.now (length c.args.bs.now + 1) t c.args.start c.args.bs.now) c.requires.text;
  small = start_line c.args.start _ c.requires.line;
}

pub line_after-line-requires : goal.line_after-line-requires
line_after-line-requires c = record { small = small_line c.loop-fuel.line (length c.loop-fuel.text.items) (search rules) c.loop-fuel.invariant.small }

pub loop-fuel-preserved-in-Plain : goal.loop-fuel-preserved-in-Plain
loop-fuel-preserved-in-Plain c = record {
  so_far = rw (c.in_ok-push-in-Plain.ensures.items, c.line_after-line.ensures) (at_plain _ _ _ _ _ _ c.loop-fuel.invariant.so_far c.in-Plain.b c.in-Plain.more.now c.loop-fuel-test.true c.in-Plain.ensures);
  small = rw c.line_after-line.ensures (next_line c.loop-fuel.line c.in-Plain.b (length c.loop-fuel.text.items) _ (search rules) c.loop-fuel.invariant.small);
}

pub loop-fuel-preserved : goal.loop-fuel-preserved
loop-fuel-preserved c = record {
  so_far = rw c.in_ok-extend_from_slice-in-Raw.ensures.items (at_raw _ _ _ _ _ _ c.loop-fuel.invariant.so_far c.in-Raw.raw.now c.in-Raw.more.now c.loop-fuel-test.true c.in-Raw.ensures);
  small = tt;
}

pub returns-in_default : goal.returns-in_default
returns-in_default c = record {
  run = at_other _ _ _ _ _ _ c.loop-fuel.invariant.so_far c.front_at.result c.loop-fuel-test.true c.front_at.ensures c.in_default.not-Plain c.in_default.not-Raw;
  front = c.front_at.ensures;
  err = tt;
}

pub returns-clause-run : goal.returns-clause-run
returns-clause-run c = at_end _ _ _ _ _ _ c.loop-fuel.invariant.so_far (omega (arith, c.loop-fuel-test.false))
