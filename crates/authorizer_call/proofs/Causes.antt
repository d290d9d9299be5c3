-- What an exchange comes to, by its causes.
use Rattle.std.proofs.Common.{◌≡◌, ℕ, ◌==◌, ◌≤◌, nat_lt, Bool, true, false, List, length, Option, Some, None, Result, Ok, Err, refl, sym, ap, ◌∙◌, subst, arith, eqb-true}
use borrow.Author.Tests.{eqb-false, ltb-false}
use Rattle.std.proofs.lemmas.Bool.Decides.{nat_tests}
use Rattle.std.specs.Prelude.{if◌then◌else◌}
use Rattle.backend_core.specs.declared.outcome.Outcome.TheVariants.{Reply, Failed, TimedOut, Memory}
use Rattle.call_facts.specs.declared.request.WireReply.{WireReply}
use Rattle.json_subset.specs.Reading.{json}
use Rattle.json_subset.specs.Tree.{Tree}
use Rattle.json_subset.specs.declared.fault.JsonFault.{JsonFault}
use Rattle.json_subset.proofs.Spelled.{read_is_spelled, spelled_is_read}
use Rattle.policy_core.specs.Decisions.{Decides, decision}
use Rattle.policy_core.specs.Forms.{States}
use Rattle.policy_core.specs.Reading.{judged, limit, read_by, reply_of}
use Rattle.policy_core.specs.Replies as replies
use Rattle.policy_core.specs.declared.fault.PolicyFault.{PolicyFault}
use Rattle.policy_core.specs.declared.fault.PolicyFault.TheVariants.{Malformed}
use Rattle.policy_core.specs.declared.policy.Decision.{Decision}
use Rattle.policy_core.specs.declared.policy.Decision.TheVariants.{Allow, Deny, NoAllow}
use Rattle.policy_core.specs.declared.policy.Policy.{Policy}
use Rattle.policy_core.proofs.Decided.{decided, decides}
use Rattle.policy_core.proofs.Formed.{reply_has_none, reply_is}
use Rattle.authorizer_call.specs.Laws.{AllowsByDecision, AlwaysToldByCause, IsToldByCause}
use Rattle.authorizer_call.specs.Outcomes.{Allows, allows, if_taken, read_of, told}
use Rattle.authorizer_call.specs.declared.fault.AuthorizerFault.TheVariants as fault

abbrev Read : Type 0
Read = Result Policy PolicyFault

abbrev as_read : Policy → Read
as_read p = Ok p

abbrev by_length : List ℕ → Bool → Read
by_length bytes long = if long then Err (Malformed limit) else read_by bytes (json bytes)

-- what is read of bytes is what they state
policy_read : (bytes : List ℕ) (p : Policy) → reply_of bytes ≡ Ok p → States bytes p
unfolding reply_of
policy_read bytes p e = by_test (nat_lt limit (length bytes)) refl e
  where
    by_fault : (t : Tree) → json bytes ≡ Ok t → (f : Option ℕ) → replies.reply_fault t ≡ f → judged bytes t f ≡ Ok p → length bytes ≤ limit → States bytes p
    by_fault t is None none e short =
        let same : p ≡ replies.policy_of bytes t = cc in
        record { reply = t; spelled = read_is_spelled bytes t is; form = reply_is t none; within = short; says = same }
    by_fault t is (Some at) fault e short = cc

    by_tree : (r : Result Tree JsonFault) → json bytes ≡ r → read_by bytes r ≡ Ok p → length bytes ≤ limit → States bytes p
    by_tree (Ok t) is e short = by_fault t is (replies.reply_fault t) refl e short
    by_tree (Err why) is e short = cc

    by_test : (long : Bool) → nat_lt limit (length bytes) ≡ long → by_length bytes long ≡ Ok p → States bytes p
    by_test true is e = cc
    by_test false is e = by_tree (json bytes) refl e (ltb-false limit (length bytes) is)

-- and what bytes state is read
policy_stated : (bytes : List ℕ) (p : Policy) → States bytes p → reply_of bytes ≡ Ok p
unfolding reply_of
policy_stated bytes p s =
    let within = s.within in
    let short : nat_lt limit (length bytes) ≡ false = grind (arith, nat_tests) in
    ap (by_length bytes) short
    ∙ ap (read_by bytes) (spelled_is_read bytes s.reply s.spelled)
    ∙ ap (judged bytes s.reply) (reply_has_none s.reply s.form)
    ∙ ap as_read (sym s.says)

-- the same of a body

body_read : (body : List ℕ) (p : Policy) → read_of body ≡ Ok p → States body p
unfolding read_of
body_read body p e = by_read (reply_of body) refl e
  where
    by_read : (r : Read) → reply_of body ≡ r → told r ≡ Ok p → States body p
    by_read (Ok q) is e =
        let same : q ≡ p = cc in
        policy_read body p (is ∙ ap as_read same)
    by_read (Err why) is e = cc

body_stated : (body : List ℕ) (p : Policy) → States body p → read_of body ≡ Ok p
unfolding read_of
body_stated body p s = ap told (policy_stated body p s)

none_read : (body : List ℕ) → read_of body ≡ Err fault.Configuration → (p : Policy) → States body p → ⊥
none_read body e p s =
    let policy = body_stated body p s in
    cc

none_stated : (body : List ℕ) → ((p : Policy) → States body p → ⊥) → read_of body ≡ Err fault.Configuration
unfolding read_of
none_stated body none = by_read (reply_of body) refl
  where
    by_read : (r : Read) → reply_of body ≡ r → told r ≡ Err fault.Configuration
    by_read (Ok q) is = absurd (none q (policy_read body q is))
    by_read (Err why) is = refl

no_failure : (body : List ℕ) → read_of body ≡ Err fault.Failure → ⊥
unfolding read_of
no_failure body e = by_read (reply_of body) e
  where
    by_read : (r : Read) → told r ≡ Err fault.Failure → ⊥
    by_read (Ok q) e = cc
    by_read (Err why) e = cc

-- by the status of a reply
by_status : (r : WireReply) (taken : Bool) → (r.status == 200) ≡ taken → IsToldByCause (Reply r)
by_status r true is =
    let same = ap (λ b. if_taken b r.body) is in
    record {
      policy = λ p. (λ e. (eqb-true r.status 200 is, body_read r.body p (sym same ∙ e)), λ h. same ∙ body_stated r.body p h.1);
      failure = (λ e. absurd (no_failure r.body (sym same ∙ e)), λ h. absurd (h (eqb-true r.status 200 is)));
      configuration = (λ e. (eqb-true r.status 200 is, none_read r.body (sym same ∙ e)), λ h. same ∙ none_stated r.body h.1);
    }
by_status r false is =
    let same = ap (λ b. if_taken b r.body) is in
    record {
      policy = λ p. (λ e. let no = sym same ∙ e in cc, λ h. absurd (eqb-false r.status 200 is h.0));
      failure = (λ e. eqb-false r.status 200 is, λ h. same);
      configuration = (λ e. let no = sym same ∙ e in cc, λ h. absurd (eqb-false r.status 200 is h.0));
    }

pub told_by_cause : AlwaysToldByCause
told_by_cause (Reply r) = by_status r (r.status == 200) refl
told_by_cause Failed = record { policy = λ p. (λ e. cc, λ h. absurd h); failure = (λ e. tt, λ h. refl); configuration = (λ e. cc, λ h. absurd h) }
told_by_cause TimedOut = record { policy = λ p. (λ e. cc, λ h. absurd h); failure = (λ e. tt, λ h. refl); configuration = (λ e. cc, λ h. absurd h) }
told_by_cause Memory = record { policy = λ p. (λ e. cc, λ h. absurd h); failure = (λ e. cc, λ h. absurd h); configuration = (λ e. cc, λ h. absurd h) }

-- an Allow that decides
pub allowed : AllowsByDecision
allowed policy arn = (by_decision (decision policy arn) refl, λ h. ap allows (decided policy arn (Allow h.0) h.1))
  where
    by_decision : (d : Decision) → decision policy arn ≡ d → allows d ≡ true → Allows policy arn
    by_decision (Allow at) is e = (at, subst (Decides policy arn) is (decides policy arn))
    by_decision (Deny at) is e = cc
    by_decision NoAllow is e = cc
