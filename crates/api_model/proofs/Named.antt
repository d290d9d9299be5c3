-- What a definition names is there.
use Rattle.std.proofs.Common.{◌≡◌, ◌≢◌, ℕ, zero, suc, ◌+◌, ◌<◌, ◌≤◌, Bool, true, false, cond, List, [], ◌∷◌, ◌++◌, length, map, Option, Some, None, Result, Ok, Err, refl, sym, ap, ◌∙◌, subst, codes, arith}
use Rattle.std.specs.Prelude.{IsSome, IsSomeAnd, bytes_eq, if◌then◌else◌, is_some, nat_le, slice_get}
use Rattle.std.specs.List.{All}
use Rattle.std.specs.Option.{option_and_then, option_map}
use Rattle.std.proofs.lemmas.List.Elements.{All-append, All-nil, All-head, All-tail}
use Rattle.std.proofs.lemmas.Option.{slice_get-map, slice_get-get_or}
use Rattle.json_subset.specs.Documents.{decoded, form, member_named}
use Rattle.json_subset.specs.Grammar.{IsDistinct}
use Rattle.json_subset.specs.Reading.{json}
use Rattle.json_subset.specs.Tree.{Tree}
use Rattle.json_subset.specs.declared.fault.JsonFault.{JsonFault}
use Rattle.json_values.specs.Parts.{entries_of}
use Rattle.resource_tree.specs.Parameters.{value_at}
use Rattle.api_parts.specs.Reading.{Text, Read, ◌>>=◌, each, under, unknown, Waiting, first_of, waiting_below}
use Rattle.api_parts.specs.declared.parts.Method.{Method}
use Rattle.api_parts.specs.declared.parts.TokenAuthorizer.{TokenAuthorizer}
use Rattle.api_parts.specs.declared.parts.Validator.{Validator}
use Rattle.api_parts.proofs.Each.{bind_ok, either, ok_same, each_gathers}
use Rattle.api_reading.specs.Texts.{template_of}
use Rattle.api_reading.specs.Values.{number_in, object_in}
use Rattle.api_reading.proofs.Entries.{last_at, last_named, last_push, bytes_same, member_distinct, member_is, object_is, values_distinct}
use Rattle.api_members.specs.Authorizers.{IsCompiled, authorizer_name, authorizers_in}
use Rattle.api_members.specs.Gateway.{gateways_in}
use Rattle.api_members.specs.Models.{Models, models_in}
use Rattle.api_members.specs.Validators.{validators_in}
use Rattle.api_members.proofs.Lists.{authorizers_named, models_named, names_of, validators_named}
use Rattle.api_resources.specs.Integrations.{text_of}
use Rattle.api_resources.specs.Methods.{members_of, number_among, number_from}
use Rattle.api_resources.specs.Named.{methods_in, methods_of, model_under, name_in, name_under}
use Rattle.api_resources.specs.Resources.{path_of, resources_in}
use Rattle.api_resources.proofs.Followed.{AllFollowed, Followed, IsMethod, ReadAt, followed_none, read_at, resources_followed}
use Rattle.api_resources.proofs.Given.{AreNumbered, Given, IsGiven, IsNumbered, ModelsGiven, below_none, first_none, method_given}
use Rattle.resource_tree.specs.Faults.{HasNoFault}
use Rattle.api_model.specs.Definition.{Definition, document_parts, parts_in, parts_of, read_by, stated, stated_as, text_parts}
use Rattle.api_model.specs.Document.{Parts, Top, authorizers_added, document_member, gateways_added, no_parts, nothing_read, resources_added, settled, stands, stated_by, parts_of as told_by}
use Rattle.api_model.specs.Getters.{authorizer_of, model_of, numbered, of_method, validator_of}
use Rattle.api_model.specs.Named.{AlwaysCompiled, AlwaysFindsNamed, FindsNamed, IsNamed, authorizer_under, document_of, method_at, method_value, model_named, tree_of, validator_under}

-- the names of the members of a value
abbrev pub names_in : Option Tree → List Text
names_in o = names_of (members_of o)

-- what the parts of a document have to do with it, by the values of its members
pub record Holds (document : Tree) (validators authorizers models resources : Option Tree) (p : Parts) : Type 0 where
  pub validators_are : map (λ v. v.0) p.validators ≡ names_in validators
  pub authorizers_are : map authorizer_name p.authorizers ≡ names_in authorizers
  pub models_are : map (λ m. m.0) p.models ≡ names_in models
  pub compiled : All IsCompiled p.authorizers
  pub followed : Followed document p.resources p.methods (members_of resources)
  pub sound : HasNoFault (map path_of p.resources)

holds_none : (document : Tree) → Holds document None None None None no_parts
holds_none document = record { validators_are = refl; authorizers_are = refl; models_are = refl; compiled = All-nil IsCompiled; followed = followed_none document; sound = λ at less. absurd (omega (arith, less)) }

module _ (document : Tree) where
  abbrev HoldsAt : List (Text × Tree) → Parts → Type 0
  HoldsAt seen p = Holds document (last_at seen (codes "validators")) (last_at seen (codes "authorizers")) (last_at seen (codes "models")) (last_at seen (codes "resources")) p

  abbrev Waits : Top → List (Text × Tree) → Type 0
  Waits d seen = d.waiting ≡ None → HoldsAt seen d.parts

  -- behind one more member
  moved : (seen : List (Text × Tree)) (x : Text) (t : Tree) (p : Parts) (v a m r : Option Tree) → (if bytes_eq x (codes "validators") then Some t else last_at seen (codes "validators")) ≡ v
      → (if bytes_eq x (codes "authorizers") then Some t else last_at seen (codes "authorizers")) ≡ a → (if bytes_eq x (codes "models") then Some t else last_at seen (codes "models")) ≡ m
      → (if bytes_eq x (codes "resources") then Some t else last_at seen (codes "resources")) ≡ r → Holds document v a m r p → HoldsAt (seen ++ (x, t) ∷ []) p
  moved seen x t p v a m r ev ea em er h = record {
    validators_are = h.validators_are ∙ ap names_in (sym (last_push seen x t (codes "validators") ∙ ev));
    authorizers_are = h.authorizers_are ∙ ap names_in (sym (last_push seen x t (codes "authorizers") ∙ ea));
    models_are = h.models_are ∙ ap names_in (sym (last_push seen x t (codes "models") ∙ em));
    compiled = h.compiled;
    followed = subst (λ o. Followed document p.resources p.methods (members_of o)) (sym (last_push seen x t (codes "resources") ∙ er)) h.followed;
    sound = h.sound;
  }

  -- by the name of the member
  by_name : (seen : List (Text × Tree)) (x y : Text) (t : Tree) (d : Top) → bytes_eq x y ≡ true → Waits d (seen ++ (y, t) ∷ []) → Waits d (seen ++ (x, t) ∷ [])
  by_name seen x y t d same w = subst (λ z. Waits d (seen ++ (z, t) ∷ [])) (sym (bytes_same x y same)) w

  member_step : (d : Top) (seen : List (Text × Tree)) (x : Text) (t : Tree) (h : Top) → Waits d seen → document_member document d x t ≡ Ok h → Waits h (seen ++ (x, t) ∷ [])
  member_step d seen x t h waits e =
      either (Waits h (seen ++ (x, t) ∷ [])) (bytes_eq x (codes "version")) _ _ h
      (λ same e. let (n, is, last) = bind_ok (number_in 1 1 x t) _ h e in
      by_name seen x (codes "version") t h same (subst (λ k. Waits k (seen ++ (codes "version", t) ∷ [])) (ok_same _ h last)
      (λ none. moved seen (codes "version") t d.parts _ _ _ _ refl refl refl refl (waits none))))
      (λ no. either (Waits h (seen ++ (x, t) ∷ [])) (bytes_eq x (codes "models")) _ _ h
      (λ same e. let (ms, is, last) = bind_ok (models_in x t) _ h e in
      by_name seen x (codes "models") t h same (subst (λ k. Waits k (seen ++ (codes "models", t) ∷ [])) (ok_same _ h last)
      (λ none. let w = waits none in
      moved seen (codes "models") t (record d.parts { models = ms }) _ _ _ _ refl refl refl refl
      (record { validators_are = w.validators_are; authorizers_are = w.authorizers_are; models_are = models_named x t ms is; compiled = w.compiled; followed = w.followed; sound = w.sound }))))
      (λ no. either (Waits h (seen ++ (x, t) ∷ [])) (bytes_eq x (codes "validators")) _ _ h
      (λ same e. let (vs, is, last) = bind_ok (validators_in x t) _ h e in
      by_name seen x (codes "validators") t h same (subst (λ k. Waits k (seen ++ (codes "validators", t) ∷ [])) (ok_same _ h last)
      (λ none. let w = waits none in
      moved seen (codes "validators") t (record d.parts { validators = vs }) _ _ _ _ refl refl refl refl
      (record { validators_are = validators_named x t vs is; authorizers_are = w.authorizers_are; models_are = w.models_are; compiled = w.compiled; followed = w.followed; sound = w.sound }))))
      (λ no. either (Waits h (seen ++ (x, t) ∷ [])) (bytes_eq x (codes "authorizers")) _ _ h
      (λ same e. let (xs, is, last) = bind_ok (authorizers_in x t) _ h e in
      by_name seen x (codes "authorizers") t h same (subst (λ k. Waits k (seen ++ (codes "authorizers", t) ∷ [])) (ok_same _ h last)
      (λ none. let w = waits (first_none d.waiting (waiting_below x xs.waiting) none).0 in let a = authorizers_named x t xs is in
      moved seen (codes "authorizers") t (record d.parts { authorizers = xs.list }) _ _ _ _ refl refl refl refl
      (record { validators_are = w.validators_are; authorizers_are = a.names; models_are = w.models_are; compiled = a.compiled; followed = w.followed; sound = w.sound }))))
      (λ no. either (Waits h (seen ++ (x, t) ∷ [])) (bytes_eq x (codes "resources")) _ _ h
      (λ same e. let (rs, is, last) = bind_ok (resources_in document x t) _ h e in
      by_name seen x (codes "resources") t h same (subst (λ k. Waits k (seen ++ (codes "resources", t) ∷ [])) (ok_same _ h last)
      (λ none. let n = first_none d.waiting (waiting_below x rs.waiting) none in let w = waits n.0 in let f = resources_followed document x t rs is (below_none x rs.waiting n.1) in
      moved seen (codes "resources") t (record d.parts { resources = rs.list; methods = rs.methods }) _ _ _ _ refl refl refl refl
      (record { validators_are = w.validators_are; authorizers_are = w.authorizers_are; models_are = w.models_are; compiled = w.compiled; followed = f.followed; sound = f.sound }))))
      (λ no. either (Waits h (seen ++ (x, t) ∷ [])) (bytes_eq x (codes "gatewayResponses")) _ _ h
      (λ same e. let (gs, is, last) = bind_ok (gateways_in x t) _ h e in
      by_name seen x (codes "gatewayResponses") t h same (subst (λ k. Waits k (seen ++ (codes "gatewayResponses", t) ∷ [])) (ok_same _ h last)
      (λ none. moved seen (codes "gatewayResponses") t (record d.parts { gateway = gs.list }) _ _ _ _ refl refl refl refl (moved_gateway d.parts gs.list (waits (first_none d.waiting (waiting_below x gs.waiting) none).0)))))
      (λ no e. absurd cc)))))) e
    where
      moved_gateway : {v a m r : Option Tree} (p : Parts) (gs : List (Text × _)) → Holds document v a m r p → Holds document v a m r (record p { gateway = gs })
      moved_gateway p gs w = record { validators_are = w.validators_are; authorizers_are = w.authorizers_are; models_are = w.models_are; compiled = w.compiled; followed = w.followed; sound = w.sound }

-- what a document states

abbrev pub member_of : Tree → List ℕ → Option Tree
member_of t name = member_named (form t) name

abbrev pub StatedOf : Tree → Parts → Type 0
StatedOf t p = Holds t (member_of t (codes "validators")) (member_of t (codes "authorizers")) (member_of t (codes "models")) (member_of t (codes "resources")) p

told : (document : Tree) (seen : List (Text × Tree)) (d : Top) (p : Parts) → Waits document d seen → told_by d ≡ Ok p → HoldsAt document seen p
told document seen d p waits e =
    let (u, one, more) = bind_ok (stands (codes "version") d.version) (λ u. stands (codes "resources") d.listed >>= λ v. settled d.waiting d.parts) p e in
    let (v, two, last) = bind_ok (stands (codes "resources") d.listed) (λ v. settled d.waiting d.parts) p more in
    settles d.waiting refl last
  where
    settles : (w : Waiting) → d.waiting ≡ w → settled w d.parts ≡ Ok p → HoldsAt document seen p
    settles None none is = subst (HoldsAt document seen) (ok_same d.parts p is) (waits none)
    settles (Some fault) none is = absurd cc

named_members : (t : Tree) (p : Parts) → IsDistinct t → HoldsAt t (entries_of (form t)) p → StatedOf t p
named_members t p apart h = record {
  validators_are = h.validators_are ∙ ap names_in (last_named t (codes "validators") apart);
  authorizers_are = h.authorizers_are ∙ ap names_in (last_named t (codes "authorizers") apart);
  models_are = h.models_are ∙ ap names_in (last_named t (codes "models") apart);
  compiled = h.compiled;
  followed = subst (λ o. Followed t p.resources p.methods (members_of o)) (last_named t (codes "resources") apart) h.followed;
  sound = h.sound;
}

pub stated_holds : (t : Tree) (p : Parts) → IsDistinct t → stated_by t ≡ Ok p → StatedOf t p
unfolding stated_by
stated_holds t p apart e =
    let (ms, is, more) = bind_ok (object_in [] t) (λ ms. each (document_member t) nothing_read ms >>= told_by) p e in
    let (d, read, last) = bind_ok (each (document_member t) nothing_read ms) told_by p more in
    let all : Waits t d ms = each_gathers (document_member t) (Waits t) (member_step t) ms [] nothing_read d (λ none. holds_none t) read in
    named_members t p apart (subst (λ es. HoldsAt t es p) (object_is [] t ms is) (told t ms d p all last))

-- a number that is found names its member

number_named : (n : ℕ) (ms : List (Text × Tree)) (x : Text) (k : ℕ) → number_from n ms x ≡ Some k → (j : ℕ) × (k ≡ n + j) × (slice_get (names_of ms) j ≡ Some x)
number_named n [] x k e = absurd cc
number_named n (m ∷ ms) x k e = by_test (bytes_eq m.0 x) refl e (number_named (n + 1) ms x k)
  where
    by_test : (b : Bool) → bytes_eq m.0 x ≡ b → (if b then Some n else number_from (n + 1) ms x) ≡ Some k → (number_from (n + 1) ms x ≡ Some k → (j : ℕ) × (k ≡ (n + 1) + j) × (slice_get (names_of ms) j ≡ Some x))
        → (j : ℕ) × (k ≡ n + j) × (slice_get (names_of (m ∷ ms)) j ≡ Some x)
    by_test true is e more =
        let same : n ≡ k = cc in
        (0, omega (arith, same), ap Some (bytes_same m.0 x is))
    by_test false is e more =
        let (j, at, there) = more e in
        (suc j, omega (arith, at), there)

number_found : (document : Tree) (member x : Text) (k : ℕ) → number_among document member x ≡ Some k → slice_get (names_in (member_of document member)) k ≡ Some x
unfolding number_among
number_found document member x k e =
    let (j, at, there) = number_named 0 (members_of (member_of document member)) x k e in
    let same : j ≡ k = omega (arith, at) in
    subst (λ i. slice_get (names_in (member_of document member)) i ≡ Some x) same there

name_found : {A : Type 0} (name_of : A → Text) (xs : List A) (k : ℕ) (x : Text) → slice_get (map name_of xs) k ≡ Some x → IsSomeAnd (slice_get xs k) (λ v. name_of v ≡ x)
name_found name_of xs k x e = by_option (slice_get xs k) (sym (slice_get-map name_of xs k) ∙ e)
  where
    by_option : (o : Option _) → option_map name_of o ≡ Some x → IsSomeAnd o (λ v. name_of v ≡ x)
    by_option None e = absurd cc
    by_option (Some v) e = cc

-- what has a number that is given

given_named : {A : Type 0} (document : Tree) (member : Text) (name_of : A → Text) (xs : List A) (o : Option Tree) (number : Option ℕ) → map name_of xs ≡ names_in (member_of document member)
    → IsGiven document member o number → IsNamed name_of (text_of o) (numbered xs number)
given_named document member name_of xs None number names given = ap (numbered xs) given
given_named document member name_of xs (Some t) number names given =
    subst (λ q. IsNamed name_of q (numbered xs number)) (sym given.text)
    (subst (λ q. IsSomeAnd (numbered xs q) (λ v. name_of v ≡ given.name)) (sym given.is)
    (name_found name_of xs given.at given.name (ap (λ ns. slice_get ns given.at) names ∙ number_found document member given.name given.at given.found)))

-- and of models, by their media types
media_named : (document : Tree) (models : Models) (ms : List (Text × ℕ)) (es : List (Text × Tree)) (media : Text) → map (λ m. m.0) models ≡ names_in (member_of document (codes "models")) → AreNumbered document ms es
    → IsNamed (λ m. m.0) (text_of (value_at es media)) (numbered models (value_at ms media))
media_named document models [] [] media names all = refl
media_named document models (m ∷ ms) [] media names all = absurd all
media_named document models [] (e ∷ es) media names all = absurd all
media_named document models (m ∷ ms) (e ∷ es) media names all =
    subst (λ x. IsNamed (λ m. m.0) (text_of (value_at (e ∷ es) media)) (numbered models (if bytes_eq x media then Some m.1 else value_at ms media))) (sym all.0.0)
    (by_test (bytes_eq e.0 media) (media_named document models ms es media names all.1))
  where
    by_test : (b : Bool) → IsNamed (λ m. m.0) (text_of (value_at es media)) (numbered models (value_at ms media))
        → IsNamed (λ m. m.0) (text_of (if b then Some e.1 else value_at es media)) (numbered models (if b then Some m.1 else value_at ms media))
    by_test true more = given_named document (codes "models") (λ m. m.0) models (Some e.1) (Some m.1) names all.0.1
    by_test false more = more

models_given_named : (document : Tree) (models : Models) (o : Option Tree) (ms : List (Text × ℕ)) (media : Text) → map (λ m. m.0) models ≡ names_in (member_of document (codes "models")) → ModelsGiven document o ms
    → IsNamed (λ m. m.0) (name_in media o) (numbered models (value_at ms media))
models_given_named document models None ms media names given = ap (λ ns. numbered models (value_at ns media)) given
models_given_named document models (Some t) ms media names given =
    subst (λ o. IsNamed (λ m. m.0) (text_of o) (numbered models (value_at ms media))) (sym (member_is (form t) media)) (media_named document models ms (entries_of (form t)) media names given)

-- what a method names is found

pub record FoundFor (p : Parts) (m : Method) (t : Tree) : Type 0 where
  pub authorizer : IsNamed authorizer_name (name_under (codes "authorizer") t) (numbered p.authorizers m.authorizer)
  pub validator : IsNamed (λ v. v.0) (name_under (codes "validator") t) (numbered p.validators m.validator)
  pub model : (media : Text) → IsNamed (λ m. m.0) (model_under media t) (numbered p.models (value_at m.models media))

found_for : (document : Tree) (p : Parts) (m : Method) (t : Tree) → StatedOf document p → IsDistinct t → Given document (entries_of (form t)) m.authorizer m.validator m.models → FoundFor p m t
found_for document p m t holds apart g = record {
  authorizer = given_named document (codes "authorizers") authorizer_name p.authorizers (member_of t (codes "authorizer")) m.authorizer holds.authorizers_are
      (subst (λ o. IsGiven document (codes "authorizers") o m.authorizer) (last_named t (codes "authorizer") apart) g.authorizer_is);
  validator = given_named document (codes "validators") (λ v. v.0) p.validators (member_of t (codes "validator")) m.validator holds.validators_are
      (subst (λ o. IsGiven document (codes "validators") o m.validator) (last_named t (codes "validator") apart) g.validator_is);
  model = λ media. models_given_named document p.models (member_of t (codes "models")) m.models media holds.models_are
      (subst (λ o. ModelsGiven document o m.models) (last_named t (codes "models") apart) g.models_are);
}

-- the values of the methods repeat no names

abbrev ValuesApart : List (Text × Tree) → Type 0
ValuesApart es = All (λ (e : Text × Tree). IsDistinct e.1) es

methods_apart : (es : List (Text × Tree)) → ValuesApart es → ValuesApart (methods_of es)
methods_apart [] h = All-nil _
methods_apart (e ∷ es) h =
    All-append (λ (m : Text × Tree). IsDistinct m.1) (entries_of (form e.1)) (methods_of es)
    (values_distinct e.1 (All-head (λ (m : Text × Tree). IsDistinct m.1) e es h)) (methods_apart es (All-tail (λ (m : Text × Tree). IsDistinct m.1) e es h))

members_apart : (o : Option Tree) → ((t : Tree) → o ≡ Some t → IsDistinct t) → ValuesApart (members_of o)
members_apart None h = All-nil _
members_apart (Some t) h = values_distinct t (h t refl)

value_apart : (es : List (Text × Tree)) (n : ℕ) (e : Text × Tree) → ValuesApart es → slice_get es n ≡ Some e → IsDistinct e.1
value_apart [] n e h is = absurd cc
value_apart (f ∷ es) zero e h is =
    let same : f ≡ e = cc in
    subst (λ (m : Text × Tree). IsDistinct m.1) same (All-head (λ (m : Text × Tree). IsDistinct m.1) f es h)
value_apart (f ∷ es) (suc n) e h is = value_apart es n e (All-tail (λ (m : Text × Tree). IsDistinct m.1) f es h) is

method_apart : (t : Tree) (n : ℕ) (e : Text × Tree) → IsDistinct t → slice_get (methods_in t) n ≡ Some e → IsDistinct e.1
method_apart t n e apart is =
    value_apart (methods_in t) n e (methods_apart (members_of (member_of t (codes "resources"))) (members_apart (member_of t (codes "resources")) (λ u there. member_distinct t (codes "resources") u apart there))) is

-- the method of a number

pub record FoundAt (p : Parts) (t : Tree) (n : ℕ) (m : Method) : Type 0 where
  pub verb : Text
  pub value : Tree
  pub at : slice_get (methods_in t) n ≡ Some (verb, value)
  pub found : FoundFor p m value

pub found_at : (t : Tree) (p : Parts) (n : ℕ) (m : Method) → IsDistinct t → StatedOf t p → slice_get p.methods n ≡ Some m → FoundAt p t n m
found_at t p n m apart holds at =
    let r = read_at t p.methods (methods_in t) n m holds.followed.read at in
    record {
      verb = r.verb;
      value = r.value;
      at = r.at;
      found = found_for t p m r.value holds (method_apart t n (r.verb, r.value) apart r.at) (method_given t r.path r.verb r.value m r.is.read);
    }
