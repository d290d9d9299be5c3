use Rattle.std.proofs.Common.{◌≡◌, List, ℕ, ◌+◌, drop, map, true, false, sym, ap, ◌∙◌, subst}
use Rattle.std.specs.Prelude.{String}
use Rattle.std.specs.String.{string_bytes}
use Rattle.std.specs.declared.alloc.Global.{Global}
use Rattle.json_subset.specs.Nodes.{AllValuesBelow}
use Rattle.json_subset.specs.Reading.{named}
use Rattle.schema_rules.specs.Cases.{member_in, seen}
use Rattle.schema_rules.specs.Verdict.{each_unnamed}
use Rattle.schema_rules.specs.Views.{names_of, others_of}
use Rattle.schema_rules.proofs.Judged.{next_member, passed_over, valid_over}
use Rattle.schema_rules.proofs.judge.+verdicts.Goals.{judge_unnamed-then-not-is_named+in_ok-verdict+in_default, judge_unnamed-else-not-is_named}
use Rattle.schema_rules.proofs.judge.+verdicts.Goals as goal

pub judge_unnamed-loop-member-preserved : goal.judge_unnamed-loop-member-preserved
judge_unnamed-loop-member-preserved t c =
    let case = c.args.case.now in
    let names = names_of c.args.names.now in
    let others = others_of c.args.others in
    let m = c.member-item.result in
    let rest = drop (c.loop-member.member-index + 1) c.args.members.now in
    let next = next_member c.args.members.now c.loop-member.member-index m c.loop-member-test.true c.member-item.is in
    let says : List (String Global × ℕ) → Type 0 = λ z. each_unnamed names others (map (member_in case) z) ≡ each_unnamed names others (map (member_in case) c.args.members.now) in
    let all = subst says next c.loop-member.invariant.so_far in
    let P : List (String Global × ℕ) → Type 0 = AllValuesBelow c.args.value in
    let below = (subst P next c.loop-member.invariant.below).1 in
    elim c.if-not-is_named.branch [
      | judge_unnamed-then-not-is_named+in_ok-verdict+in_default w ↦
          let other : named names (string_bytes m.0) ≡ false = ap (named names) (sym c.as_str.ensures.value) ∙ sym w.if-not-is_named.ensures in
          let met = sym w.in_ok-verdict.ensures.says ∙ ap (seen case) w.in_default.is in
          record {
            known = rw w.memo-is w.in_ok-verdict.ensures.known;
            below = below;
            so_far = sym (valid_over case names others m rest other met) ∙ all;
          }
      | judge_unnamed-else-not-is_named w ↦
          let same : named names (string_bytes m.0) ≡ true = ap (named names) (sym c.as_str.ensures.value) ∙ sym w.if-not-is_named.ensures in
          record {
            known = rw w.memo-is c.loop-member.invariant.known;
            below = below;
            so_far = sym (passed_over case names others m rest same) ∙ all;
          }
    ]
