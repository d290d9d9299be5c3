use Rattle.std.proofs.Common.{ap, ◌∙◌, sym, arith}
use Rattle.json_subset.specs.Documents.{root_tree}
use Rattle.policy_core.specs.Reading.{limit}
use Rattle.policy_core.specs.Replies.{policy_of, reply_fault}
use Rattle.policy_core.proofs.Formed.{reply_is}
use Rattle.policy_core.proofs.Stated.{no_fault, one_policy}
use Rattle.policy_core.proofs.reply.AuthReply.read.Goals as goal

pub returns-in-Some-clause-only : goal.returns-in-Some-clause-only
returns-in-Some-clause-only c = λ policy states.
    absurd (no_fault states.reply (root_tree c.in-Ok.doc) c.in-Some.at (c.in-Ok.ensures.only states.reply states.spelled) states.form (c.in-Some.ensures ∙ ap reply_fault c.root.ensures.root))

pub returns-in-Ok-policy_of-clause-stated : goal.returns-in-Ok-policy_of-clause-stated
unfolding limit
returns-in-Ok-policy_of-clause-stated c =
    let root = root_tree c.in-Ok.doc in
    record {
      reply = root;
      spelled = c.in-Ok.ensures.spelled;
      form = reply_is root (sym (c.in_default.ensures ∙ ap reply_fault c.root.ensures.root));
      within = omega (arith, c.if-bytes-gt-LIMIT.false);
      says = c.in-Ok-policy_of.ensures ∙ ap (policy_of c.in-Ok.doc.text) c.root-2.ensures.root ∙ ap (λ source. policy_of source (root_tree c.in-Ok.doc)) c.in-Ok.ensures.text;
    }

pub returns-in-Ok-policy_of-clause-only : goal.returns-in-Ok-policy_of-clause-only
returns-in-Ok-policy_of-clause-only c = λ policy states.
    one_policy c.args.bytes.now states.reply (root_tree c.in-Ok.doc) c.in-Ok-policy_of.policy policy (c.in-Ok.ensures.only states.reply states.spelled) (c.in-Ok-policy_of.ensures ∙ ap (policy_of c.in-Ok.doc.text) c.root-2.ensures.root ∙ ap (λ source. policy_of source (root_tree c.in-Ok.doc)) c.in-Ok.ensures.text) states.says
