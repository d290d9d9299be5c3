-- What holds of the parts that definitions state.
use Rattle.std.proofs.Common.{◌≡◌, ◌≢◌, ◌⊎◌, inl, inr, ℕ, zero, suc, ◌+◌, ◌<◌, ◌≤◌, Bool, true, false, cond, List, [], ◌∷◌, ◌++◌, length, map, Option, Some, None, Result, Ok, Err, refl, sym, ap, ◌∙◌, subst, codes, arith}
use Rattle.std.specs.Prelude.{IsSome, IsSomeAnd, MatchOption, if◌then◌else◌, nat_le, slice_get}
use Rattle.std.specs.List.{All}
use Rattle.std.specs.Option.{option_and_then, option_map}
use Rattle.std.proofs.lemmas.List.Elements.{All-nil, All-head, All-tail, All-cons, All-weaker}
use Rattle.std.proofs.lemmas.Option.{get_or_from_slice_get, slice_get-get_or, slice_get-map, slice_get_within}
use denote.Ref.{Bor}
use Rattle.pattern_core.specs.Search.{anchored}
use Rattle.schema_rules.specs.Rules.{Schemas}
use Rattle.json_subset.specs.Grammar.{IsDistinct}
use Rattle.json_subset.specs.Reading.{json}
use Rattle.json_subset.specs.Tree.{Tree}
use Rattle.json_subset.specs.declared.fault.JsonFault.{JsonFault}
use Rattle.json_subset.proofs.Spelled.{read_is_spelled}
use Rattle.resource_tree.specs.Faults.{HasNoFault}
use Rattle.resource_tree.specs.Matching.{IsBest, params, path_at}
use Rattle.resource_tree.specs.Parameters as named
use Rattle.resource_tree.specs.Parameters.{value_at}
use Rattle.resource_tree.specs.Reading.{parts_of as parts_of_path}
use Rattle.resource_tree.specs.declared.part.Part.{Part}
use Rattle.resource_tree.proofs.Apart.{no_fault_at, read_there}
use Rattle.resource_tree.proofs.Values.{gives_each}
use Rattle.api_parts.specs.Reading.{Text, Read, ◌>>=◌, under}
use Rattle.api_parts.specs.declared.parts.Authorizer.{Authorizer}
use Rattle.api_parts.specs.declared.parts.Integration.{Integration}
use Rattle.api_parts.specs.declared.parts.Mapping.{Mapping}
use Rattle.api_parts.specs.declared.parts.Method.{Method}
use Rattle.api_parts.specs.declared.parts.Origin.TheVariants as origin
use Rattle.api_parts.specs.declared.parts.Parameter.{Parameter}
use Rattle.api_parts.specs.declared.parts.ParameterPlace.TheVariants.{Path}
use Rattle.api_parts.specs.declared.parts.Resource.{Resource}
use Rattle.api_parts.specs.declared.parts.TokenAuthorizer.{TokenAuthorizer}
use Rattle.api_parts.specs.declared.parts.Validator.{Validator}
use Rattle.api_parts.proofs.Each.{bind_ok, either, ok_same}
use Rattle.api_reading.specs.Texts.{template_of}
use Rattle.api_mappings.specs.Mappings.{among_parts, has_parameter}
use Rattle.api_members.specs.Authorizers.{IsCompiled, authorizer_name}
use Rattle.api_resources.specs.Named.{methods_in, model_under, name_under}
use Rattle.api_resources.specs.Paths.{IsTree}
use Rattle.api_resources.specs.Resources.{path_of}
use Rattle.api_resources.specs.Taken.{ComesFromPath, IsOfPath, KeepsToPath, ReadsUri}
use Rattle.api_resources.proofs.Followed.{AreMethods, LeadsTo}
use Rattle.api_resources.proofs.Kept.{method_kept}
use Rattle.api_model.specs.Definition.{Definition, document_parts, parts_in, parts_of, read_by, stated, stated_as, text_parts}
use Rattle.api_model.specs.Document.{Parts, no_parts, stated_by}
use Rattle.api_model.specs.Getters.{authorizer_of, model_of, numbered, of_method, validator_of, whole_of}
use Rattle.api_model.specs.Named.{AlwaysCompiled, AlwaysFindsNamed, FindsNamed, IsNamed, authorizer_under, document_of, method_at, method_value, model_named, tree_of, validator_under}
use Rattle.api_model.specs.Taken.{AlwaysHaveValues, AlwaysKeepToPaths, AlwaysReadUris, HasValues, IsHit, LeadsToKept, LeadsToValues}
use Rattle.api_model.proofs.Named.{FoundAt, FoundFor, StatedOf, found_at, stated_holds}

-- the tree of a definition that is a document, and what its parts have to do with it
pub record IsStated (d : Definition) (p : Parts) : Type 0 where
  pub tree : Tree
  pub document : document_of d ≡ Some tree
  pub apart : IsDistinct tree
  pub holds : StatedOf tree p

by_json : (bytes : List ℕ) (r : Result Tree JsonFault) (p : Parts) → json bytes ≡ r → read_by r ≡ Ok p → IsStated (record { is_text = false; source = bytes }) p
by_json bytes (Ok t) p is e =
    let spelled = read_is_spelled bytes t is in
    record { tree = t; document = ap tree_of is; apart = spelled.distinct; holds = stated_holds t p spelled.distinct e }
by_json bytes (Err fault) p is e = absurd cc

by_bytes : (bytes : List ℕ) (p : Parts) → document_parts bytes ≡ Ok p → IsStated (record { is_text = false; source = bytes }) p
unfolding document_parts
by_bytes bytes p e = either (IsStated (record { is_text = false; source = bytes }) p) (nat_le (length bytes) 1048576) _ _ p (λ few. by_json bytes (json bytes) p refl) (λ many e. absurd cc) e

by_text : (template : List ℕ) (p : Parts) → text_parts template ≡ Ok p → p ≡ no_parts
unfolding text_parts
by_text template p e =
    let (s, is, last) = bind_ok (under (codes "text") (template_of template)) (λ s. Ok no_parts) p e in
    sym (ok_same no_parts p last)

by_form : (is_text : Bool) (source : List ℕ) (p : Parts) → stated_as is_text source ≡ Ok p → IsStated (record { is_text = is_text; source = source }) p ⊎ (p ≡ no_parts)
by_form true source p e = inr (by_text source p e)
by_form false source p e = inl (by_bytes source p e)

-- a definition has the parts of its document, or none
pub stated_or_none : (d : Definition) → IsStated d (parts_of d) ⊎ (parts_of d ≡ no_parts)
unfolding parts_of
stated_or_none d = parts (stated d) refl
  where
    parts : (r : Read Parts) → stated d ≡ r → IsStated d (parts_in r) ⊎ (parts_in r ≡ no_parts)
    parts (Ok p) is = by_form d.is_text d.source p is
    parts (Err fault) is = inr refl

-- what is found of a method of some parts

found_by : (d : Definition) (n : ℕ) (m : Method) → slice_get (parts_of d).methods n ≡ Some m → FindsNamed d n
unfolding method_value
found_by d n m at = by_case (stated_or_none d)
  where
    by_case : IsStated d (parts_of d) ⊎ (parts_of d ≡ no_parts) → FindsNamed d n
    by_case (inr none) =
        let no : None ≡ Some m = ap (λ (p : Parts). slice_get p.methods n) (sym none) ∙ at in
        absurd cc
    by_case (inl s) =
        let f = found_at s.tree (parts_of d) n m s.apart s.holds at in
        let value : method_value d n ≡ Some f.value = ap (option_and_then (method_at n)) s.document ∙ ap (option_map (λ (e : Text × Tree). e.1)) f.at in
        record {
          authorizer = rw (value, at) f.found.authorizer;
          validator = rw (value, at) f.found.validator;
          model = λ media. rw (value, at) (f.found.model media);
        }

pub finds_named : AlwaysFindsNamed
finds_named d n less =
    by_option (slice_get (parts_of d).methods n) refl
  where
    by_option : (o : Option Method) → slice_get (parts_of d).methods n ≡ o → FindsNamed d n
    by_option (Some m) at = found_by d n m at
    by_option None at = absurd (no_method (parts_of d).methods n less at)
      where
        no_method : (ms : List Method) (n : ℕ) → n < length ms → slice_get ms n ≡ None → ⊥
        no_method [] n less at = omega arith
        no_method (m ∷ ms) zero less at = cc
        no_method (m ∷ ms) (suc n) less at = no_method ms n (omega (arith, less)) at

-- what holds of the parts of documents, and of no parts, holds of all
of_parts : (P : Parts → Type 0) → P no_parts → ((t : Tree) (p : Parts) → StatedOf t p → P p) → (d : Definition) → P (parts_of d)
of_parts P none holds d = by_case (stated_or_none d)
  where
    by_case : IsStated d (parts_of d) ⊎ (parts_of d ≡ no_parts) → P (parts_of d)
    by_case (inl s) = holds s.tree (parts_of d) s.holds
    by_case (inr e) = subst P (sym e) none

pub always_compiled : AlwaysCompiled
always_compiled d = of_parts (λ p. All IsCompiled p.authorizers) (All-nil IsCompiled) (λ t p s. s.compiled) d

-- paths

kept_of : (t : Tree) (p : Parts) → StatedOf t p → All (λ (r : Resource). All (λ (v : Text × ℕ). LeadsToKept r.path p.methods v.1) r.verbs) p.resources
kept_of t p s =
    All-weaker (λ (r : Resource). All (LeadsTo t r.path p.methods) r.verbs) (λ (r : Resource). All (λ (v : Text × ℕ). LeadsToKept r.path p.methods v.1) r.verbs)
    (λ r all. All-weaker (LeadsTo t r.path p.methods) (λ (v : Text × ℕ). LeadsToKept r.path p.methods v.1)
    (λ v l. record { method = l.method; at = l.at; kept = (method_kept r.path t v.0 l.value l.method None l.is.read).0 }) r.verbs all)
    p.resources s.followed.verbs

pub keep_to_paths : AlwaysKeepToPaths
keep_to_paths d = of_parts (λ p. All (λ (r : Resource). All (λ (v : Text × ℕ). LeadsToKept r.path p.methods v.1) r.verbs) p.resources) (All-nil _) kept_of d

methods_read : (t : Tree) (ms : List Method) (es : List (Text × Tree)) → AreMethods t ms es → All (λ (m : Method). ReadsUri m.integration) ms
methods_read t [] es all = All-nil _
methods_read t (m ∷ ms) [] all = absurd all
methods_read t (m ∷ ms) (e ∷ es) all =
    All-cons (λ (m : Method). ReadsUri m.integration) m ms (method_kept all.0.0 t e.0 e.1 m None all.0.1.read).1 (methods_read t ms es all.1)

pub read_uris : AlwaysReadUris
read_uris d = of_parts (λ p. All (λ (m : Method). ReadsUri m.integration) p.methods) (All-nil _) (λ t p s. methods_read t p.methods _ s.followed.read) d

-- values

sound_of : (d : Definition) → HasNoFault (map path_of (parts_of d).resources)
sound_of d = of_parts (λ p. HasNoFault (map path_of p.resources)) (λ at less. absurd (omega (arith, less))) (λ t p s. s.sound) d

there : (path name : Text) (parts : List Part) → parts_of_path path ≡ Some parts → has_parameter path name ≡ true → named.has_parameter name parts ≡ true
unfolding has_parameter
there path name parts e h = ap (among_parts name) (sym e) ∙ h

values_of : (path : Text) (parts : List Part) (found : List (Text × Text)) (m : Method) → parts_of_path path ≡ Some parts → ((name : Text) → named.has_parameter name parts ≡ true → IsSome (value_at found name)) → KeepsToPath path m → HasValues m found
values_of path parts found m is gives kept = record {
  parameters = All-weaker (IsOfPath path) (λ (p : Parameter). p.place ≡ Path → IsSome (value_at found p.name)) (λ p of place. gives p.name (there path p.name parts is (of place))) m.parameters kept.parameters;
  mappings = All-weaker (ComesFromPath path) (λ (x : Mapping). (name : Text) → x.origin ≡ origin.Parameter Path name → IsSome (value_at found name)) (λ x of name from. gives name (there path name parts is (of name from))) m.integration.parameters kept.mappings;
}

pub have_values : AlwaysHaveValues
have_values d tree segments resource r hit =
    let texts = map path_of (parts_of d).resources in
    let rs = (parts_of d).resources in
    let last = no_fault_at texts tree (sound_of d) hit.tree_is resource hit.best.within in
    let path : slice_get texts resource ≡ Some r.path = slice_get-map path_of rs resource ∙ ap (option_map path_of) hit.at in
    let is : parts_of_path r.path ≡ Some (path_at tree resource) = ap parts_of_path (sym (get_or_from_slice_get texts resource r.path [] path)) ∙ read_there tree texts resource hit.tree_is hit.best.within in
    let kept : All (λ (v : Text × ℕ). LeadsToKept r.path (parts_of d).methods v.1) r.verbs =
    subst (λ (q : Resource). All (λ (v : Text × ℕ). LeadsToKept q.path (parts_of d).methods v.1) q.verbs) (get_or_from_slice_get rs resource r r hit.at) (keep_to_paths d resource r (slice_get_within rs resource r hit.at)) in
    All-weaker (λ (v : Text × ℕ). LeadsToKept r.path (parts_of d).methods v.1) (λ (v : Text × ℕ). LeadsToValues (parts_of d).methods (params (path_at tree resource) segments) v.1)
    (λ v l. record { method = l.method; at = l.at; values = values_of r.path (path_at tree resource) (params (path_at tree resource) segments) l.method is (λ name h. gives_each (path_at tree resource) segments name last.0 hit.best.matched h) l.kept })
    r.verbs kept

-- what the getters give

pub authorizer_found : (d : Definition) (n : ℕ) → n < length (parts_of d).methods → (r : Option (Bor Authorizer)) → option_map (λ a. a.now) r ≡ option_map (λ (a : TokenAuthorizer). a.authorizer) (authorizer_of d n)
    → IsNamed (λ (a : Bor Authorizer). a.now.name) (authorizer_under d n) r
authorizer_found d n less r e = by_cases (authorizer_under d n) (authorizer_of d n) r (finds_named d n less).authorizer e
  where
    by_cases : (o : Option Text) (found : Option TokenAuthorizer) (r : Option (Bor Authorizer)) → IsNamed authorizer_name o found → option_map (λ a. a.now) r ≡ option_map (λ (a : TokenAuthorizer). a.authorizer) found
        → IsNamed (λ (a : Bor Authorizer). a.now.name) o r
    by_cases None None None is e = refl
    by_cases None None (Some a) is e = absurd cc
    by_cases None (Some v) r is e = absurd cc
    by_cases (Some x) None r is e = absurd is
    by_cases (Some x) (Some v) None is e = absurd cc
    by_cases (Some x) (Some v) (Some a) is e =
        let same : a.now ≡ v.authorizer = cc in
        ap (λ (b : Authorizer). b.name) same ∙ is

pub validator_found : (d : Definition) (n : ℕ) → n < length (parts_of d).methods → IsNamed (λ (v : Text × Validator). v.0) (validator_under d n) (validator_of d n)
validator_found d n less = (finds_named d n less).validator

pub model_found : (d : Definition) (n : ℕ) (media : Text) → n < length (parts_of d).methods → IsNamed (λ (m : Text × (Schemas × ℕ)). m.0) (model_named d n media) (model_of d n media)
model_found d n media less = (finds_named d n less).model media

-- what is numbered is one of them
compiled_at : (xs : List TokenAuthorizer) (number : Option ℕ) → All IsCompiled xs → whole_of (numbered xs number) ≡ option_and_then (λ (a : TokenAuthorizer). option_map anchored a.authorizer.pattern) (numbered xs number)
compiled_at xs None all = refl
compiled_at xs (Some k) all = by_option (slice_get xs k) refl
  where
    by_option : (o : Option TokenAuthorizer) → slice_get xs k ≡ o → whole_of o ≡ option_and_then (λ (a : TokenAuthorizer). option_map anchored a.authorizer.pattern) o
    by_option None at = refl
    by_option (Some a) at = subst IsCompiled (get_or_from_slice_get xs k a a at) (all k a (slice_get_within xs k a at))

pub pattern_found : (d : Definition) (n : ℕ) → whole_of (authorizer_of d n) ≡ option_and_then (λ (a : TokenAuthorizer). option_map anchored a.authorizer.pattern) (authorizer_of d n)
pattern_found d n = by_method (slice_get (parts_of d).methods n)
  where
    by_method : (o : Option Method) → whole_of (of_method o (λ m. numbered (parts_of d).authorizers m.authorizer)) ≡ option_and_then (λ (a : TokenAuthorizer). option_map anchored a.authorizer.pattern) (of_method o (λ m. numbered (parts_of d).authorizers m.authorizer))
    by_method None = refl
    by_method (Some m) = compiled_at (parts_of d).authorizers m.authorizer (always_compiled d)

pub backend_found : (d : Definition) (n : ℕ) → n < length (parts_of d).methods → MatchOption (slice_get (parts_of d).methods n) ⊥ (λ (m : Method). ReadsUri m.integration)
backend_found d n less = by_option (slice_get (parts_of d).methods n) refl
  where
    no_method : (ms : List Method) (n : ℕ) → n < length ms → slice_get ms n ≡ None → ⊥
    no_method [] n less at = omega arith
    no_method (m ∷ ms) zero less at = cc
    no_method (m ∷ ms) (suc n) less at = no_method ms n (omega (arith, less)) at

    by_option : (o : Option Method) → slice_get (parts_of d).methods n ≡ o → MatchOption o ⊥ (λ (m : Method). ReadsUri m.integration)
    by_option None at = no_method (parts_of d).methods n less at
    by_option (Some m) at = subst (λ (k : Method). ReadsUri k.integration) (get_or_from_slice_get (parts_of d).methods n m m at) (read_uris d n m less)
