-- Verbs lead to methods.
use Rattle.std.proofs.Common.{◌≡◌, ℕ, ◌<◌, ◌≤◌, ◌+◌, Bool, true, false, nat_le, cond, List, [], ◌∷◌, ◌++◌, length, length-append, codes, bytes_eq, Option, Some, None, IfSome, slice_get, Result, Ok, Err, refl, sym, subst, arith}
use Rattle.std.specs.List.{All}
use Rattle.std.specs.Option.{option_map}
use Rattle.std.proofs.lemmas.List.Elements.{All-nil, All-head, All-tail, All-push, All-weaker}
use Rattle.std.proofs.lemmas.Option.{slice_get_within, get_or_from_slice_get}
use Rattle.json_subset.specs.Reading.{json}
use Rattle.json_subset.specs.Tree.{Tree}
use Rattle.json_subset.specs.declared.fault.JsonFault.{JsonFault}
use Rattle.resource_tree.specs.declared.fault.TreeFault.{TreeFault}
use Rattle.resource_tree.specs.Faults.{fault_at}
use Rattle.api_parts.specs.Reading.{Text, Read, ◌>>=◌, each, under, unknown, bad, Waiting}
use Rattle.api_parts.specs.declared.parts.Method.{Method}
use Rattle.api_parts.specs.declared.parts.Resource.{Resource}
use Rattle.api_members.specs.Authorizers.{authorizers_in}
use Rattle.api_members.specs.Gateway.{gateways_in}
use Rattle.api_members.specs.Models.{models_in}
use Rattle.api_reading.specs.Texts.{template_of}
use Rattle.api_members.specs.Validators.{validators_in}
use Rattle.api_reading.specs.Values.{number_in, object_in}
use Rattle.api_resources.specs.Methods.{method_in}
use Rattle.api_resources.specs.Resources.{is_entry, with_method, verbs_member, verbs_in, with_resource, resources_member, paths_of, no_resources, resources_from, resources_in}
use Rattle.api_resources.specs.declared.resources.VerbsRead.{VerbsRead}
use Rattle.api_resources.specs.declared.resources.ResourcesRead.{ResourcesRead}
use Rattle.api_model.specs.Definition.{Definition, document_parts, parts_in, parts_of, read_by, stated, stated_as, text_parts}
use Rattle.api_model.specs.Document.{Parts, Top, document_member, no_parts, nothing_read, settled, stands, stated_by, parts_of as told_by}
use Rattle.resource_tree.specs.Parameters.{value_at}
use Rattle.api_model.specs.Getters.{entry_of, or_second}
use Rattle.api_model.specs.Ranges.{LeadToMethods, AlwaysLeadToMethods}

-- what follows a value was read of it
bind_ok : {A B : Type 0} (r : Read A) (f : A → Read B) (y : B) → (r >>= f) ≡ Ok y → (x : A) × (r ≡ Ok x) × (f x ≡ Ok y)
bind_ok (Ok x) f y e = (x, refl, e)
bind_ok (Err fault) f y e = absurd cc

-- what each member keeps, all keep
module _ {G V : Type 0} (add : G → Text → V → Read G) (P : G → Type 0) (keeps : (g : G) (x : Text) (v : V) (h : G) → P g → add g x v ≡ Ok h → P h) where
  one_keeps : (m : Text × V) (ms : List (Text × V)) (g h : G) → P g → ((more : G) → P more → each add more ms ≡ Ok h → P h)
      → (r : Read G) → add g m.0 m.1 ≡ r → (under m.0 r >>= λ more. each add more ms) ≡ Ok h → P h
  one_keeps m ms g h p rest (Ok more) is e = rest more (keeps g m.0 m.1 more p is) e
  one_keeps m ms g h p rest (Err fault) is e = absurd cc

  each_keeps : (ms : List (Text × V)) (g h : G) → P g → each add g ms ≡ Ok h → P h
  each_keeps [] g h p e =
      let same : g ≡ h = cc in
      subst P same p
  each_keeps (m ∷ ms) g h p e = one_keeps m ms g h p (λ more q f. each_keeps ms more h q f) (add g m.0 m.1) refl e

ok_same : {A : Type 0} (x y : A) → ◌≡◌ {A = Read A} (Ok x) (Ok y) → x ≡ y
ok_same x y e = cc

-- a choice, by its sides
either : {A : Type 0} (P : Type 0) (b : Bool) (r s : Read A) (y : A) → (r ≡ Ok y → P) → (s ≡ Ok y → P) → cond b r s ≡ Ok y → P
either P true r s y f g e = f e
either P false r s y f g e = g e

abbrev AreBelow : ℕ → List (Text × ℕ) → Type 0
AreBelow n verbs = All (λ v. v.1 < n) verbs

below_more : (n m : ℕ) (verbs : List (Text × ℕ)) → n ≤ m → AreBelow n verbs → AreBelow m verbs
below_more n m verbs h is = All-weaker (λ (v : Text × ℕ). v.1 < n) (λ v. v.1 < m) (λ v k. omega (arith, k, h)) verbs is

-- the verbs of one resource, behind the methods of those before it

module _ (document : Tree) (path : Text) (before : List Method) where
  abbrev Leads : VerbsRead → Type 0
  Leads r = (length before ≤ length r.methods) × AreBelow (length r.methods) r.verbs

  with_one : (r : VerbsRead) (x : Text) (m : Method × Waiting) → Leads r → Leads (with_method r x m)
  with_one r x m (longer, below) =
      let count : length (r.methods ++ m.0 ∷ []) ≡ length r.methods + 1 = length-append r.methods (m.0 ∷ []) in (
        omega (arith, longer, count),
        All-push (λ (v : Text × ℕ). v.1 < length (r.methods ++ m.0 ∷ [])) r.verbs (x, length r.methods) (below_more _ _ r.verbs (omega (arith, count)) below) (omega (arith, count)),
      )

  verb_keeps : (r : VerbsRead) (x : Text) (t : Tree) (h : VerbsRead) → Leads r → verbs_member document path r x t ≡ Ok h → Leads h
  verb_keeps r x t h leads e =
      either (Leads h) (is_entry x) (method_in document path x t >>= λ m. Ok (with_method r x m)) (unknown x) h
      (λ e. let (m, is, last) = bind_ok (method_in document path x t) (λ m. Ok (with_method r x m)) h e in
      let same : with_method r x m ≡ h = cc in
      subst Leads same (with_one r x m leads))
      (λ e. absurd cc) e

  verbs_lead : (t : Tree) (r : VerbsRead) → verbs_in document before path t ≡ Ok r → Leads r
  verbs_lead t r e =
      let start : VerbsRead = record { verbs = []; methods = before; waiting = None } in
      let (ms, is, last) = bind_ok (object_in path t) (each (verbs_member document path) start) r e in
      each_keeps (verbs_member document path) Leads verb_keeps ms start r (omega arith, All-nil _) last

-- the resources so far

abbrev AllLead : ResourcesRead → Type 0
AllLead all = All (λ (r : Resource). AreBelow (length all.methods) r.verbs) all.list

with_resource_leads : (document : Tree) (all : ResourcesRead) (x : Text) (fault : Option TreeFault) (r : VerbsRead) → AllLead all → Leads document x all.methods r → AllLead (with_resource all x fault r)
with_resource_leads document all x fault r lead (longer, below) =
    All-push (λ (it : Resource). AreBelow (length r.methods) it.verbs) all.list (record { path = x; verbs = r.verbs })
    (All-weaker (λ (it : Resource). AreBelow (length all.methods) it.verbs) (λ it. AreBelow (length r.methods) it.verbs) (λ it is. below_more _ _ it.verbs longer is) all.list lead)
    below

module _ (document : Tree) (paths : List Text) where
  resource_keeps : (all : ResourcesRead) (x : Text) (t : Tree) (h : ResourcesRead) → AllLead all → resources_member document paths all x t ≡ Ok h → AllLead h
  resource_keeps all x t h lead e =
      let fault : Option TreeFault = fault_at paths (length all.list) in
      let (r, is, last) = bind_ok (verbs_in document all.methods x t) (λ r. Ok (with_resource all x fault r)) h e in
      let same : with_resource all x fault r ≡ h = cc in
      subst AllLead same (with_resource_leads document all x fault r lead (verbs_lead document x all.methods t r is))

resources_lead : (document : Tree) (x : Text) (t : Tree) (rs : ResourcesRead) → resources_in document x t ≡ Ok rs → AllLead rs
resources_lead document x t rs e =
    let (ms, is, last) = bind_ok (object_in x t) (resources_from document x) rs e in
    either (AllLead rs) (nat_le (length ms) 300) (each (resources_member document (paths_of ms)) no_resources ms) (bad x) rs
    (each_keeps (resources_member document (paths_of ms)) AllLead (resource_keeps document (paths_of ms)) ms no_resources rs (All-nil _))
    (λ e. absurd cc) last

-- the members of a document

abbrev TopLeads : Top → Type 0
TopLeads d = LeadToMethods d.parts

-- what is added, where it leaves resources and methods as they are
added : {A : Type 0} (d : Top) (r : Read A) (f : A → Top) (h : Top) → ((x : A) → TopLeads (f x)) → (r >>= λ x. Ok (f x)) ≡ Ok h → TopLeads h
added d r f h leads e =
    let (x, is, last) = bind_ok r (λ x. Ok (f x)) h e in
    let same : f x ≡ h = cc in
    subst TopLeads same (leads x)

module _ (document : Tree) where
  member_keeps : (d : Top) (x : Text) (t : Tree) (h : Top) → TopLeads d → document_member document d x t ≡ Ok h → TopLeads h
  member_keeps d x t h leads e =
      either (TopLeads h) (bytes_eq x (codes "version")) _ _ h (added d (number_in 1 1 x t) _ h (λ n. leads))
      (either (TopLeads h) (bytes_eq x (codes "models")) _ _ h (added d (models_in x t) _ h (λ ms. leads))
      (either (TopLeads h) (bytes_eq x (codes "validators")) _ _ h (added d (validators_in x t) _ h (λ vs. leads))
      (either (TopLeads h) (bytes_eq x (codes "authorizers")) _ _ h (added d (authorizers_in x t) _ h (λ xs. leads))
      (either (TopLeads h) (bytes_eq x (codes "resources")) _ _ h
      (λ e. let (rs, is, last) = bind_ok (resources_in document x t) _ h e in
      let lead : AllLead rs = resources_lead document x t rs is in
      subst TopLeads (ok_same _ h last) lead)
      (either (TopLeads h) (bytes_eq x (codes "gatewayResponses")) _ _ h (added d (gateways_in x t) _ h (λ gs. leads))
      (λ e. absurd cc)))))) e

  told_leads : (d : Top) (p : Parts) → TopLeads d → told_by d ≡ Ok p → LeadToMethods p
  told_leads d p leads e =
      let (u, one, more) = bind_ok (stands (codes "version") d.version) (λ u. stands (codes "resources") d.listed >>= λ v. settled d.waiting d.parts) p e in
      let (v, two, last) = bind_ok (stands (codes "resources") d.listed) (λ v. settled d.waiting d.parts) p more in
      settles d.waiting last
    where
      settles : (w : Waiting) → settled w d.parts ≡ Ok p → LeadToMethods p
      settles None is =
          let same : d.parts ≡ p = cc in
          subst LeadToMethods same leads
      settles (Some fault) is = absurd cc

stated_by_leads : (t : Tree) (p : Parts) → stated_by t ≡ Ok p → LeadToMethods p
unfolding stated_by
stated_by_leads t p e =
    let (ms, is, more) = bind_ok (object_in [] t) (λ ms. each (document_member t) nothing_read ms >>= told_by) p e in
    let (d, read, last) = bind_ok (each (document_member t) nothing_read ms) told_by p more in
    told_leads t d p (each_keeps (document_member t) TopLeads (member_keeps t) ms nothing_read d (All-nil _) read) last

read_by_leads : (r : Result Tree JsonFault) (p : Parts) → read_by r ≡ Ok p → LeadToMethods p
read_by_leads (Ok t) p e = stated_by_leads t p e
read_by_leads (Err fault) p e = absurd cc

document_leads : (bytes : List ℕ) (p : Parts) → document_parts bytes ≡ Ok p → LeadToMethods p
unfolding document_parts
document_leads bytes p e = either (LeadToMethods p) (nat_le (length bytes) 1048576) _ _ p (read_by_leads (json bytes) p) (λ e. absurd cc) e

text_leads : (template : List ℕ) (p : Parts) → text_parts template ≡ Ok p → LeadToMethods p
unfolding text_parts
text_leads template p e =
    let (s, is, last) = bind_ok (under (codes "text") (template_of template)) (λ s. Ok no_parts) p e in
    let same : no_parts ≡ p = cc in
    subst LeadToMethods same (All-nil _)

stated_leads : (is_text : Bool) (source : List ℕ) (p : Parts) → stated_as is_text source ≡ Ok p → LeadToMethods p
stated_leads true source p e = text_leads source p e
stated_leads false source p e = document_leads source p e

pub always_lead : AlwaysLeadToMethods
unfolding parts_of
always_lead d = parts (stated d) refl
  where
    parts : (r : Read Parts) → stated d ≡ r → LeadToMethods (parts_in r)
    parts (Ok p) is = stated_leads d.is_text d.source p is
    parts (Err fault) is = All-nil _

-- what is found under a verb

chosen : (n : ℕ) (b : Bool) (m : ℕ) (other : Option ℕ) → m < n → IfSome other (λ m. m < n) → IfSome (cond b (Some m) other) (λ m. m < n)
chosen n true m other one two = one
chosen n false m other one two = two

value_below : (n : ℕ) (verbs : List (Text × ℕ)) (x : Text) → AreBelow n verbs → IfSome (value_at verbs x) (λ m. m < n)
value_below n [] x below = tt
value_below n (v ∷ verbs) x below =
    chosen n (bytes_eq v.0 x) v.1 (value_at verbs x) (All-head (λ (v : Text × ℕ). v.1 < n) v verbs below)
    (value_below n verbs x (All-tail (λ (v : Text × ℕ). v.1 < n) v verbs below))

first_below : (n : ℕ) (first second : Option ℕ) → IfSome first (λ m. m < n) → IfSome second (λ m. m < n) → IfSome (or_second first second) (λ m. m < n)
first_below n (Some m) second one two = one
first_below n None second one two = two

-- the entry of a resource is a method
entry_leads : (d : Definition) (resource : ℕ) (r : Resource) (verb : Text) → slice_get (parts_of d).resources resource ≡ Some r
    → IfSome (entry_of r.verbs verb) (λ m. m < length (parts_of d).methods)
entry_leads d resource r verb at =
    let methods : ℕ = length (parts_of d).methods in
    let rs : List Resource = (parts_of d).resources in
    let below : AreBelow methods r.verbs = subst (λ (it : Resource). AreBelow methods it.verbs) (get_or_from_slice_get rs resource r r at) (always_lead d resource r (slice_get_within rs resource r at)) in
    first_below methods (value_at r.verbs verb) (value_at r.verbs (codes "ANY")) (value_below methods r.verbs verb below) (value_below methods r.verbs (codes "ANY") below)

pub entry_below : (d : Definition) (resource : ℕ) (verb : Text) (result : Option ℕ) → option_map (λ (r : Resource). entry_of r.verbs verb) (slice_get (parts_of d).resources resource) ≡ Some result
    → IfSome result (λ m. m < length (parts_of d).methods)
entry_below d resource verb result e = found (slice_get (parts_of d).resources resource) refl e
  where
    found : (at : Option Resource) → slice_get (parts_of d).resources resource ≡ at → option_map (λ (r : Resource). entry_of r.verbs verb) at ≡ Some result → IfSome result (λ m. m < length (parts_of d).methods)
    found (Some r) at e =
        let same : entry_of r.verbs verb ≡ result = cc in
        subst (λ o. IfSome o (λ m. m < length (parts_of d).methods)) same (entry_leads d resource r verb at)
    found None at e = absurd cc
