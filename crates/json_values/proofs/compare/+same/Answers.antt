use Rattle.std.proofs.Common.{ap, sym, ◌∙◌}
use Rattle.json_values.specs.Same.{if_found, same}
use Rattle.json_values.specs.Values.{plain_of}
use Rattle.json_values.proofs.Lookups.{member_found}
use Rattle.json_values.proofs.compare.+same.Goals as goal

pub same_member-returns-in-Some : goal.same_member-returns-in-Some
same_member-returns-in-Some t c = c.same_value.ensures ∙ sym (ap (if_found (same (plain_of c.args.a.now c.args.x.now.1))) (member_found (plain_of c.args.b.now) _ _ _ _ (sym c.in-Some.is ∙ c.named.ensures.value) c.as_str.ensures.value))

pub same_member-returns-in-None : goal.same_member-returns-in-None
same_member-returns-in-None t c = sym (ap (if_found (same (plain_of c.args.a.now c.args.x.now.1))) (member_found (plain_of c.args.b.now) _ _ _ _ (sym c.in-None.is ∙ c.named.ensures.value) c.as_str.ensures.value))
