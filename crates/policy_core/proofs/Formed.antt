-- Replies without a fault.
use Rattle.std.proofs.Common.{◌≡◌, ℕ, Bool, true, false, ◌||◌, inl, inr, if◌then◌else◌, List, [], ◌∷◌, Option, Some, None, is_some, codes, refl, ap, ◌∙◌, sym, subst}
use Rattle.std.specs.List.{AllByRecursion}
use Rattle.std.specs.Str.{bytes_eq}
use Rattle.std.proofs.lemmas.Slice.Eq.{bytes_eq-Decides}
use Rattle.json_subset.specs.Tree.{Tree, Form, null, bool, number, text, list, object, whole, decimal, wide}
use Rattle.json_subset.specs.Documents.{form, kind, place, decoded, member_named}
use Rattle.policy_core.specs.Forms.{IsText, IsObject, HasMember, AreTexts, IsEffect, IsStatementMember, IsStatement, AreStatements, IsDocumentMember, IsPolicyDocument, IsKept, kept_text, kept_bool, kept_number, IsKeptMember, IsContext, IsReplyMember, IsReply}
use Rattle.policy_core.specs.Replies.{items, items_of, entries, or_else, first_of, lacking, text_fault, texts_by, texts_fault, is_effect, effect_fault, is_refused, statement_member_fault, statement_lacks, is_object, object_fault, statement_fault, statements_by, statements_fault, document_member_fault, document_fault, is_kept, kept_fault, context_fault, reply_member_fault, reply_lacks, reply_fault}

-- no fault of two, and no fault of many
none_either : (a b : Option ℕ) → or_else a b ≡ None → (a ≡ None) × (b ≡ None)
none_either None b e = (refl, e)
none_either (Some at) b e = absurd (cc)

none_both : (a b : Option ℕ) → a ≡ None → b ≡ None → or_else a b ≡ None
none_both a b e f = ap (λ o. or_else o b) e ∙ f

each_has : {A : Type 0} (fault : A → Option ℕ) (P : A → Type 0) → ((x : A) → fault x ≡ None → P x) → (xs : List A) → first_of fault xs ≡ None → AllByRecursion P xs
each_has fault P from [] e = tt
each_has fault P from (x ∷ xs) e = let both = none_either (fault x) (first_of fault xs) e in (from x both.0, each_has fault P from xs both.1)

none_of : {A : Type 0} (fault : A → Option ℕ) (P : A → Type 0) → ((x : A) → P x → fault x ≡ None) → (xs : List A) → AllByRecursion P xs → first_of fault xs ≡ None
none_of fault P from [] h = refl
none_of fault P from (x ∷ xs) h = none_both (fault x) (first_of fault xs) (from x h.0) (none_of fault P from xs h.1)

-- tests of names
name_is : (x y : List ℕ) → bytes_eq x y ≡ true → x ≡ y
name_is x y e = (bytes_eq-Decides x y).0 e

is_itself : (x y : List ℕ) → x ≡ y → bytes_eq x y ≡ true
is_itself x y e = (bytes_eq-Decides x y).1 e

-- an object, and its members
has_member : (t : Tree) (name : List ℕ) → lacking t name ≡ None → HasMember t name
has_member t name e = by_member (member_named (form t) name) refl e
  where
    by_member : (o : Option Tree) → member_named (form t) name ≡ o → (if is_some o then None else Some (place t)) ≡ None → HasMember t name
    by_member (Some v) f e = (v, f)
    by_member None f e = absurd (cc)

lacks_none : (t : Tree) (name : List ℕ) → HasMember t name → lacking t name ≡ None
lacks_none t name h = ap (λ o. if is_some o then None else Some (place t)) h.1

object_is : (t : Tree) (fault : Option ℕ) → object_fault t fault ≡ None → IsObject t × (fault ≡ None)
object_is t fault e = by_form (form t) refl e
  where
    by_form : (f : Form) → form t ≡ f → (if is_object (kind f) then fault else Some (place t)) ≡ None → IsObject t × (fault ≡ None)
    by_form (object ms) g e = ((ms, g), e)
    by_form null g e = absurd (cc)
    by_form (bool b) g e = absurd (cc)
    by_form (number (whole z) s) g e = absurd (cc)
    by_form (number decimal s) g e = absurd (cc)
    by_form (number wide s) g e = absurd (cc)
    by_form (text x) g e = absurd (cc)
    by_form (list ts) g e = absurd (cc)

object_has_none : (t : Tree) (fault : Option ℕ) → IsObject t → fault ≡ None → object_fault t fault ≡ None
object_has_none t fault h e = ap (λ f. if is_object (kind f) then fault else Some (place t)) h.1 ∙ e

-- texts
text_is : (t : Tree) → text_fault t ≡ None → IsText t
text_is t e = by_form (form t) refl e
  where
    by_form : (f : Form) → form t ≡ f → (if is_some (decoded f) then None else Some (place t)) ≡ None → IsText t
    by_form (text x) g e = (x, g)
    by_form null g e = absurd (cc)
    by_form (bool b) g e = absurd (cc)
    by_form (number k s) g e = absurd (cc)
    by_form (list ts) g e = absurd (cc)
    by_form (object ms) g e = absurd (cc)

text_has_none : (t : Tree) → IsText t → text_fault t ≡ None
text_has_none t h = ap (λ f. if is_some (decoded f) then None else Some (place t)) h.1

texts_are : (t : Tree) → texts_fault t ≡ None → AreTexts t
texts_are t e = by_form (form t) refl e
  where
    by_form : (f : Form) → form t ≡ f → texts_by (kind f) t ≡ None → AreTexts t
    by_form (text x) g e = inl (x, g)
    by_form (list ts) g e = inr (ts, g, each_has text_fault IsText text_is (items_of ts) (ap (λ f. first_of text_fault (items f)) (sym g) ∙ e))
    by_form null g e = absurd (cc)
    by_form (bool b) g e = absurd (cc)
    by_form (number (whole z) s) g e = absurd (cc)
    by_form (number decimal s) g e = absurd (cc)
    by_form (number wide s) g e = absurd (cc)
    by_form (object ms) g e = absurd (cc)

texts_have_none : (t : Tree) → AreTexts t → texts_fault t ≡ None
texts_have_none t h = elim h [
  | inl x ↦ ap (λ f. texts_by (kind f) t) x.1
  | inr ts ↦ ap (λ f. texts_by (kind f) t) ts.1 ∙ ap (λ f. first_of text_fault (items f)) ts.1 ∙ none_of text_fault IsText text_has_none (items_of ts.0) ts.2
]

effect_of : (t : Tree) → effect_fault t ≡ None → IsEffect t
effect_of t e = by_form (form t) refl e
  where
    by_deny : (x : List ℕ) (d : Bool) → bytes_eq x (codes "Deny") ≡ d → form t ≡ text x → (if d then None else Some (place t)) ≡ None → IsEffect t
    by_deny x true h g e = inr (g ∙ ap (λ y. text y) (name_is x (codes "Deny") h))
    by_deny x false h g e = absurd (cc)

    by_allow : (x : List ℕ) (a : Bool) → bytes_eq x (codes "Allow") ≡ a → form t ≡ text x → (if a || bytes_eq x (codes "Deny") then None else Some (place t)) ≡ None → IsEffect t
    by_allow x true h g e = inl (g ∙ ap (λ y. text y) (name_is x (codes "Allow") h))
    by_allow x false h g e = by_deny x (bytes_eq x (codes "Deny")) refl g e

    by_form : (f : Form) → form t ≡ f → (if is_effect (decoded f) then None else Some (place t)) ≡ None → IsEffect t
    by_form (text x) g e = by_allow x (bytes_eq x (codes "Allow")) refl g e
    by_form null g e = absurd (cc)
    by_form (bool b) g e = absurd (cc)
    by_form (number k s) g e = absurd (cc)
    by_form (list ts) g e = absurd (cc)
    by_form (object ms) g e = absurd (cc)

effect_has_none : (t : Tree) → IsEffect t → effect_fault t ≡ None
effect_has_none t h = elim h [
  | inl e ↦ ap (λ f. if is_effect (decoded f) then None else Some (place t)) e
  | inr e ↦ ap (λ f. if is_effect (decoded f) then None else Some (place t)) e
]

-- statements
statement_member_is : (at : ℕ) (m : List ℕ × Tree) → statement_member_fault at m ≡ None → IsStatementMember m
statement_member_is at m e = record {
  effect = λ h. effect_of m.1 (ap (λ x. statement_member_fault at (x, m.1)) (sym h) ∙ e);
  action = λ h. texts_are m.1 (ap (λ x. statement_member_fault at (x, m.1)) (sym h) ∙ e);
  resource = λ h. texts_are m.1 (ap (λ x. statement_member_fault at (x, m.1)) (sym h) ∙ e);
  no_condition = λ h. refused (ap (λ x. statement_member_fault at (x, m.1)) (sym h) ∙ e);
  no_not_action = λ h. refused (ap (λ x. statement_member_fault at (x, m.1)) (sym h) ∙ e);
  no_not_resource = λ h. refused (ap (λ x. statement_member_fault at (x, m.1)) (sym h) ∙ e);
}
  where
    refused : Some at ≡ None → ⊥
    refused f = cc

statement_member_has_none : (at : ℕ) (m : List ℕ × Tree) → IsStatementMember m → statement_member_fault at m ≡ None
statement_member_has_none at m h = by_effect (bytes_eq m.0 (codes "Effect")) refl
  where
    by_last : (r : Bool) → bytes_eq m.0 (codes "NotResource") ≡ r → (if r then Some at else None) ≡ None
    by_last false e = refl
    by_last true e = absurd (h.no_not_resource (name_is m.0 (codes "NotResource") e))

    by_not_action : (a : Bool) → bytes_eq m.0 (codes "NotAction") ≡ a → (if a || bytes_eq m.0 (codes "NotResource") then Some at else None) ≡ None
    by_not_action false e = by_last (bytes_eq m.0 (codes "NotResource")) refl
    by_not_action true e = absurd (h.no_not_action (name_is m.0 (codes "NotAction") e))

    by_condition : (c : Bool) → bytes_eq m.0 (codes "Condition") ≡ c → (if c || bytes_eq m.0 (codes "NotAction") || bytes_eq m.0 (codes "NotResource") then Some at else None) ≡ None
    by_condition false e = by_not_action (bytes_eq m.0 (codes "NotAction")) refl
    by_condition true e = absurd (h.no_condition (name_is m.0 (codes "Condition") e))

    by_resource : (r : Bool) → bytes_eq m.0 (codes "Resource") ≡ r → (if r then texts_fault m.1 else if is_refused m.0 then Some at else None) ≡ None
    by_resource true e = texts_have_none m.1 (h.resource (name_is m.0 (codes "Resource") e))
    by_resource false e = by_condition (bytes_eq m.0 (codes "Condition")) refl

    by_action : (a : Bool) → bytes_eq m.0 (codes "Action") ≡ a → (if a then texts_fault m.1 else if bytes_eq m.0 (codes "Resource") then texts_fault m.1 else if is_refused m.0 then Some at else None) ≡ None
    by_action true e = texts_have_none m.1 (h.action (name_is m.0 (codes "Action") e))
    by_action false e = by_resource (bytes_eq m.0 (codes "Resource")) refl

    by_effect : (b : Bool) → bytes_eq m.0 (codes "Effect") ≡ b → (if b then effect_fault m.1 else if bytes_eq m.0 (codes "Action") then texts_fault m.1 else if bytes_eq m.0 (codes "Resource") then texts_fault m.1 else if is_refused m.0 then Some at else None) ≡ None
    by_effect true e = effect_has_none m.1 (h.effect (name_is m.0 (codes "Effect") e))
    by_effect false e = by_action (bytes_eq m.0 (codes "Action")) refl

statement_is : (t : Tree) → statement_fault t ≡ None → IsStatement t
unfolding statement_fault
statement_is t e =
    let o = object_is t _ e in
    let parts = none_either (first_of (statement_member_fault (place t)) (entries (form t))) (statement_lacks t) o.1 in
    let first = none_either (lacking t (codes "Effect")) _ parts.1 in
    let second = none_either (lacking t (codes "Action")) (lacking t (codes "Resource")) first.1 in
    record {
      object = o.0;
      members = each_has (statement_member_fault (place t)) IsStatementMember (statement_member_is (place t)) (entries (form t)) parts.0;
      effect = has_member t (codes "Effect") first.0;
      action = has_member t (codes "Action") second.0;
      resource = has_member t (codes "Resource") second.1;
    }

statement_has_none : (t : Tree) → IsStatement t → statement_fault t ≡ None
unfolding statement_fault
statement_has_none t h = object_has_none t _ h.object
    (none_both _ _ (none_of (statement_member_fault (place t)) IsStatementMember (statement_member_has_none (place t)) (entries (form t)) h.members)
    (none_both _ _ (lacks_none t (codes "Effect") h.effect) (none_both _ _ (lacks_none t (codes "Action") h.action) (lacks_none t (codes "Resource") h.resource))))

statements_are : (t : Tree) → statements_fault t ≡ None → AreStatements t
unfolding statements_fault
statements_are t e = by_form (form t) refl e
  where
    by_form : (f : Form) → form t ≡ f → statements_by (kind f) t ≡ None → AreStatements t
    by_form (object ms) g e = inl (statement_is t e)
    by_form (list ts) g e = inr (ts, g, each_has statement_fault IsStatement statement_is (items_of ts) (ap (λ f. first_of statement_fault (items f)) (sym g) ∙ e))
    by_form (text x) g e = absurd (cc)
    by_form null g e = absurd (cc)
    by_form (bool b) g e = absurd (cc)
    by_form (number (whole z) s) g e = absurd (cc)
    by_form (number decimal s) g e = absurd (cc)
    by_form (number wide s) g e = absurd (cc)

statements_have_none : (t : Tree) → AreStatements t → statements_fault t ≡ None
unfolding statements_fault
statements_have_none t h = elim h [
  | inl s ↦ ap (λ f. statements_by (kind f) t) s.object.1 ∙ statement_has_none t s
  | inr ts ↦ ap (λ f. statements_by (kind f) t) ts.1 ∙ ap (λ f. first_of statement_fault (items f)) ts.1 ∙ none_of statement_fault IsStatement statement_has_none (items_of ts.0) ts.2
]

-- a policy document
document_member_is : (m : List ℕ × Tree) → document_member_fault m ≡ None → IsDocumentMember m
document_member_is m e = λ h. statements_are m.1 (ap (λ x. document_member_fault (x, m.1)) (sym h) ∙ e)

document_member_has_none : (m : List ℕ × Tree) → IsDocumentMember m → document_member_fault m ≡ None
document_member_has_none m h = by_name (bytes_eq m.0 (codes "Statement")) refl
  where
    by_name : (b : Bool) → bytes_eq m.0 (codes "Statement") ≡ b → (if b then statements_fault m.1 else None) ≡ None
    by_name true e = statements_have_none m.1 (h (name_is m.0 (codes "Statement") e))
    by_name false e = refl

document_is : (t : Tree) → document_fault t ≡ None → IsPolicyDocument t
unfolding document_fault
document_is t e =
    let o = object_is t _ e in
    let parts = none_either (first_of document_member_fault (entries (form t))) (lacking t (codes "Statement")) o.1 in
    record {
      object = o.0;
      members = each_has document_member_fault IsDocumentMember document_member_is (entries (form t)) parts.0;
      statement = has_member t (codes "Statement") parts.1;
    }

document_has_none : (t : Tree) → IsPolicyDocument t → document_fault t ≡ None
unfolding document_fault
document_has_none t h = object_has_none t _ h.object (none_both _ _ (none_of document_member_fault IsDocumentMember document_member_has_none (entries (form t)) h.members) (lacks_none t (codes "Statement") h.statement))

-- a context
kept_is : (m : List ℕ × Tree) → kept_fault m ≡ None → IsKeptMember m
kept_is m e = by_form (form m.1) refl e
  where
    by_form : (f : Form) → form m.1 ≡ f → (if is_kept (kind f) then None else Some (place m.1)) ≡ None → IsKept (form m.1)
    by_form (text x) g e = subst IsKept (sym g) (kept_text x)
    by_form (bool b) g e = subst IsKept (sym g) (kept_bool b)
    by_form (number k s) g e = subst IsKept (sym g) (kept_number k s)
    by_form null g e = absurd (cc)
    by_form (list ts) g e = absurd (cc)
    by_form (object ms) g e = absurd (cc)

kept_form : (f : Form) → IsKept f → is_kept (kind f) ≡ true
kept_form f (kept_text x) = refl
kept_form f (kept_bool b) = refl
kept_form f (kept_number (whole z) s) = refl
kept_form f (kept_number decimal s) = refl
kept_form f (kept_number wide s) = refl

kept_has_none : (m : List ℕ × Tree) → IsKeptMember m → kept_fault m ≡ None
kept_has_none m h = ap (λ b. if b then None else Some (place m.1)) (kept_form (form m.1) h)

context_is : (t : Tree) → context_fault t ≡ None → IsContext t
unfolding context_fault
context_is t e =
    let o = object_is t _ e in
    record { object = o.0; members = each_has kept_fault IsKeptMember kept_is (entries (form t)) o.1 }

context_has_none : (t : Tree) → IsContext t → context_fault t ≡ None
unfolding context_fault
context_has_none t h = object_has_none t _ h.object (none_of kept_fault IsKeptMember kept_has_none (entries (form t)) h.members)

-- a reply
reply_member_is : (m : List ℕ × Tree) → reply_member_fault m ≡ None → IsReplyMember m
reply_member_is m e = record {
  principal = λ h. text_is m.1 (ap (λ x. reply_member_fault (x, m.1)) (sym h) ∙ e);
  document = λ h. document_is m.1 (ap (λ x. reply_member_fault (x, m.1)) (sym h) ∙ e);
  context = λ h. context_is m.1 (ap (λ x. reply_member_fault (x, m.1)) (sym h) ∙ e);
}

reply_member_has_none : (m : List ℕ × Tree) → IsReplyMember m → reply_member_fault m ≡ None
reply_member_has_none m h = by_principal (bytes_eq m.0 (codes "principalId")) refl
  where
    by_context : (b : Bool) → bytes_eq m.0 (codes "context") ≡ b → (if b then context_fault m.1 else None) ≡ None
    by_context true e = context_has_none m.1 (h.context (name_is m.0 (codes "context") e))
    by_context false e = refl

    by_document : (b : Bool) → bytes_eq m.0 (codes "policyDocument") ≡ b → (if b then document_fault m.1 else if bytes_eq m.0 (codes "context") then context_fault m.1 else None) ≡ None
    by_document true e = document_has_none m.1 (h.document (name_is m.0 (codes "policyDocument") e))
    by_document false e = by_context (bytes_eq m.0 (codes "context")) refl

    by_principal : (b : Bool) → bytes_eq m.0 (codes "principalId") ≡ b → (if b then text_fault m.1 else if bytes_eq m.0 (codes "policyDocument") then document_fault m.1 else if bytes_eq m.0 (codes "context") then context_fault m.1 else None) ≡ None
    by_principal true e = text_has_none m.1 (h.principal (name_is m.0 (codes "principalId") e))
    by_principal false e = by_document (bytes_eq m.0 (codes "policyDocument")) refl

pub reply_is : (t : Tree) → reply_fault t ≡ None → IsReply t
unfolding reply_fault
reply_is t e =
    let o = object_is t _ e in
    let parts = none_either (first_of reply_member_fault (entries (form t))) (reply_lacks t) o.1 in
    let both = none_either (lacking t (codes "principalId")) (lacking t (codes "policyDocument")) parts.1 in
    record {
      object = o.0;
      members = each_has reply_member_fault IsReplyMember reply_member_is (entries (form t)) parts.0;
      principal = has_member t (codes "principalId") both.0;
      document = has_member t (codes "policyDocument") both.1;
    }

pub reply_has_none : (t : Tree) → IsReply t → reply_fault t ≡ None
unfolding reply_fault
reply_has_none t h = object_has_none t _ h.object
    (none_both _ _ (none_of reply_member_fault IsReplyMember reply_member_has_none (entries (form t)) h.members)
    (none_both _ _ (lacks_none t (codes "principalId") h.principal) (lacks_none t (codes "policyDocument") h.document)))
