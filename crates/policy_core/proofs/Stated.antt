-- What reading answers, and what bytes state.
use Rattle.std.proofs.Common.{◌≡◌, ℕ, List, Some, None, Result, Ok, ap, ◌∙◌, sym}
use Rattle.json_subset.specs.Tree.{Tree}
use Rattle.json_subset.specs.declared.fault.JsonFault.{JsonFault}
use Rattle.policy_core.specs.declared.policy.Policy.{Policy}
use Rattle.policy_core.specs.Forms.{IsReply}
use Rattle.policy_core.specs.Replies.{policy_of, reply_fault}
use Rattle.policy_core.proofs.Formed.{reply_has_none}

abbrev pub Read : Tree → Result Tree JsonFault
Read t = Ok t

same_tree : (t root : Tree) → Read t ≡ Read root → t ≡ root
same_tree t root e = cc

-- a reply of its form has no fault
pub no_fault : (t root : Tree) (at : ℕ) → Read t ≡ Read root → IsReply t → Some at ≡ reply_fault root → ⊥
no_fault t root at e form fault =
    let none : reply_fault root ≡ None = ap reply_fault (sym (same_tree t root e)) ∙ reply_has_none t form in
    cc

-- what bytes state is one policy
pub one_policy : (bytes : List ℕ) (t root : Tree) (first second : Policy) → Read t ≡ Read root → first ≡ policy_of bytes root → second ≡ policy_of bytes t → first ≡ second
one_policy bytes t root first second e f g = f ∙ ap (policy_of bytes) (sym (same_tree t root e)) ∙ sym g
