-- What a method names is defined, where no fault waits.
use Rattle.std.proofs.Common.{◌≡◌, ℕ, Bool, true, false, List, [], ◌∷◌, ◌++◌, Option, Some, None, Result, Ok, refl, sym, ap, ◌∙◌, subst, codes}
use Rattle.std.specs.Prelude.{if◌then◌else◌}
use Rattle.std.specs.Str.{bytes_eq}
use Rattle.json_subset.specs.Documents.{decoded, form}
use Rattle.json_subset.specs.Tree.{Tree}
use Rattle.json_values.specs.Parts.{entries_of}
use Rattle.api_parts.specs.Reading.{Text, Read, ◌>>=◌, each, needed, unknown, Waiting, first_of, waiting_below}
use Rattle.api_parts.specs.declared.parts.Method.{Method}
use Rattle.api_parts.proofs.Each.{bind_ok, either, ok_same, each_gathers}
use Rattle.api_reading.specs.Values.{flag_in, object_in, text_in}
use Rattle.api_reading.proofs.Entries.{bytes_same, last_at, last_push, object_is, text_is}
use Rattle.api_mappings.specs.Mappings.{parameter_of}
use Rattle.api_resources.specs.Integrations.{integration_in}
use Rattle.api_resources.specs.Methods.{inner_member, parameters_member_in, models_member_in, integration_member_in, method_in, method_member, method_of, named_models_in, named_models_member, no_method, no_such, number_among, parameters_in, with_authorizer, with_model, with_validator}
use Rattle.api_resources.specs.declared.methods.MethodRead.{MethodRead}
use Rattle.api_resources.specs.declared.methods.NamedRead.{NamedRead}

-- where nothing waits in the end, nothing waited before
pub first_none : (w later : Waiting) → first_of w later ≡ None → (w ≡ None) × (later ≡ None)
first_none None later e = (refl, e)
first_none (Some f) later e = absurd cc

pub below_none : (x : Text) (w : Waiting) → waiting_below x w ≡ None → w ≡ None
below_none x None e = refl
below_none x (Some f) e = absurd cc

not_such : (w : Waiting) (x name : Text) → no_such w x name ≡ None → ⊥
not_such None x name e = cc
not_such (Some f) x name e = cc

-- the number of what a value names, among what is defined there
pub record IsNumbered (document : Tree) (among : Text) (t : Tree) (number : Option ℕ) : Type 0 where
  pub name : Text
  pub text : decoded (form t) ≡ Some name
  pub at : ℕ
  pub is : number ≡ Some at
  pub found : number_among document among name ≡ Some at

abbrev pub IsGiven : Tree → Text → Option Tree → Option ℕ → Type 0
IsGiven document among None number = number ≡ None
IsGiven document among (Some t) number = IsNumbered document among t number

-- the models of media types, each with the number of the one that its value names
abbrev pub AreNumbered : Tree → List (Text × ℕ) → List (Text × Tree) → Type 0
AreNumbered document [] [] = Unit {0}
AreNumbered document (m ∷ ms) [] = ⊥
AreNumbered document [] (e ∷ es) = ⊥
AreNumbered document (m ∷ ms) (e ∷ es) = ((m.0 ≡ e.0) × IsNumbered document (codes "models") e.1 (Some m.1)) × AreNumbered document ms es

abbrev pub ModelsGiven : Tree → Option Tree → List (Text × ℕ) → Type 0
ModelsGiven document None ms = ms ≡ []
ModelsGiven document (Some t) ms = AreNumbered document ms (entries_of (form t))

numbered_push : (document : Tree) (ms : List (Text × ℕ)) (es : List (Text × Tree)) (m : Text × ℕ) (e : Text × Tree) → AreNumbered document ms es
    → (m.0 ≡ e.0) × IsNumbered document (codes "models") e.1 (Some m.1) → AreNumbered document (ms ++ m ∷ []) (es ++ e ∷ [])
numbered_push document [] [] m e all one = (one, tt)
numbered_push document (n ∷ ms) [] m e all one = absurd all
numbered_push document [] (f ∷ es) m e all one = absurd all
numbered_push document (n ∷ ms) (f ∷ es) m e all one = (all.0, numbered_push document ms es m e all.1 one)

module _ (document : Tree) where
  abbrev Models : NamedRead → List (Text × Tree) → Type 0
  Models r seen = r.waiting ≡ None → AreNumbered document r.list seen

  model_step : (r : NamedRead) (seen : List (Text × Tree)) (x : Text) (t : Tree) (h : NamedRead) → Models r seen → named_models_member document r x t ≡ Ok h → Models h (seen ++ (x, t) ∷ [])
  model_step r seen x t h before e =
      let (name, is, last) = bind_ok (text_in x t) (λ name. Ok (with_model r x name (number_among document (codes "models") name))) h e in
      subst (λ k. Models k (seen ++ (x, t) ∷ [])) (ok_same (with_model r x name (number_among document (codes "models") name)) h last) (by_number name (text_is x t name is) (number_among document (codes "models") name) refl)
    where
      by_number : (name : Text) → decoded (form t) ≡ Some name → (o : Option ℕ) → number_among document (codes "models") name ≡ o → Models (with_model r x name o) (seen ++ (x, t) ∷ [])
      by_number name is (Some n) found none = numbered_push document r.list seen (x, n) (x, t) (before none) (refl, record { name = name; text = is; at = n; is = refl; found = found })
      by_number name is None found none = absurd (not_such r.waiting x name none)

  models_given : (x : Text) (t : Tree) (r : NamedRead) → named_models_in document x t ≡ Ok r → r.waiting ≡ None → AreNumbered document r.list (entries_of (form t))
  models_given x t r e none =
      let start : NamedRead = record { list = []; waiting = None } in
      let (ms, is, last) = bind_ok (object_in x t) (each (named_models_member document) start) r e in
      let all : Models r ms = each_gathers (named_models_member document) Models model_step ms [] start r (λ n. tt) last in
      subst (AreNumbered document r.list) (object_is x t ms is) (all none)

  -- what is given of a method so far
  pub record Given (seen : List (Text × Tree)) (authorizer validator : Option ℕ) (models : List (Text × ℕ)) : Type 0 where
    pub authorizer_is : IsGiven document (codes "authorizers") (last_at seen (codes "authorizer")) authorizer
    pub validator_is : IsGiven document (codes "validators") (last_at seen (codes "validator")) validator
    pub models_are : ModelsGiven document (last_at seen (codes "models")) models

  -- another member changes nothing of these
  other : (seen : List (Text × Tree)) (x : Text) (t : Tree) (a v : Option ℕ) (ms : List (Text × ℕ)) → bytes_eq x (codes "authorizer") ≡ false → bytes_eq x (codes "validator") ≡ false → bytes_eq x (codes "models") ≡ false
      → Given seen a v ms → Given (seen ++ (x, t) ∷ []) a v ms
  other seen x t a v ms no_a no_v no_m g = record {
    authorizer_is = subst (λ o. IsGiven document (codes "authorizers") o a) (sym (last_push seen x t (codes "authorizer") ∙ ap (λ b. if b then Some t else last_at seen (codes "authorizer")) no_a)) g.authorizer_is;
    validator_is = subst (λ o. IsGiven document (codes "validators") o v) (sym (last_push seen x t (codes "validator") ∙ ap (λ b. if b then Some t else last_at seen (codes "validator")) no_v)) g.validator_is;
    models_are = subst (λ o. ModelsGiven document o ms) (sym (last_push seen x t (codes "models") ∙ ap (λ b. if b then Some t else last_at seen (codes "models")) no_m)) g.models_are;
  }

  authorizer_given : (seen : List (Text × Tree)) (t : Tree) (a b v : Option ℕ) (ms : List (Text × ℕ)) → IsNumbered document (codes "authorizers") t b → Given seen a v ms → Given (seen ++ (codes "authorizer", t) ∷ []) b v ms
  authorizer_given seen t a b v ms is g = record {
    authorizer_is = subst (λ o. IsGiven document (codes "authorizers") o b) (sym (last_push seen (codes "authorizer") t (codes "authorizer"))) is;
    validator_is = subst (λ o. IsGiven document (codes "validators") o v) (sym (last_push seen (codes "authorizer") t (codes "validator"))) g.validator_is;
    models_are = subst (λ o. ModelsGiven document o ms) (sym (last_push seen (codes "authorizer") t (codes "models"))) g.models_are;
  }

  validator_given : (seen : List (Text × Tree)) (t : Tree) (a v b : Option ℕ) (ms : List (Text × ℕ)) → IsNumbered document (codes "validators") t b → Given seen a v ms → Given (seen ++ (codes "validator", t) ∷ []) a b ms
  validator_given seen t a v b ms is g = record {
    authorizer_is = subst (λ o. IsGiven document (codes "authorizers") o a) (sym (last_push seen (codes "validator") t (codes "authorizer"))) g.authorizer_is;
    validator_is = subst (λ o. IsGiven document (codes "validators") o b) (sym (last_push seen (codes "validator") t (codes "validator"))) is;
    models_are = subst (λ o. ModelsGiven document o ms) (sym (last_push seen (codes "validator") t (codes "models"))) g.models_are;
  }

  models_now : (seen : List (Text × Tree)) (t : Tree) (a v : Option ℕ) (ms ns : List (Text × ℕ)) → AreNumbered document ns (entries_of (form t)) → Given seen a v ms → Given (seen ++ (codes "models", t) ∷ []) a v ns
  models_now seen t a v ms ns is g = record {
    authorizer_is = subst (λ o. IsGiven document (codes "authorizers") o a) (sym (last_push seen (codes "models") t (codes "authorizer"))) g.authorizer_is;
    validator_is = subst (λ o. IsGiven document (codes "validators") o v) (sym (last_push seen (codes "models") t (codes "validator"))) g.validator_is;
    models_are = subst (λ o. ModelsGiven document o ns) (sym (last_push seen (codes "models") t (codes "models"))) is;
  }

  abbrev pub GivenBy : MethodRead → List (Text × Tree) → Type 0
  GivenBy m seen = m.waiting ≡ None → Given seen m.authorizer m.validator m.models

  -- a member of this name
  named : (seen : List (Text × Tree)) (x y : Text) (t : Tree) (h : MethodRead) → bytes_eq x y ≡ true → GivenBy h (seen ++ (y, t) ∷ []) → GivenBy h (seen ++ (x, t) ∷ [])
  named seen x y t h same g = subst (λ z. GivenBy h (seen ++ (z, t) ∷ [])) (sym (bytes_same x y same)) g

  authorizer_step : (m : MethodRead) (seen : List (Text × Tree)) (x name : Text) (t : Tree) (o : Option ℕ) → decoded (form t) ≡ Some name → number_among document (codes "authorizers") name ≡ o → GivenBy m seen
      → GivenBy (with_authorizer m x name o) (seen ++ (codes "authorizer", t) ∷ [])
  authorizer_step m seen x name t (Some n) text found before none = authorizer_given seen t m.authorizer (Some n) m.validator m.models (record { name = name; text = text; at = n; is = refl; found = found }) (before none)
  authorizer_step m seen x name t None text found before none = absurd (not_such m.waiting x name none)

  validator_step : (m : MethodRead) (seen : List (Text × Tree)) (x name : Text) (t : Tree) (o : Option ℕ) → decoded (form t) ≡ Some name → number_among document (codes "validators") name ≡ o → GivenBy m seen
      → GivenBy (with_validator m x name o) (seen ++ (codes "validator", t) ∷ [])
  validator_step m seen x name t (Some n) text found before none = validator_given seen t m.authorizer m.validator (Some n) m.models (record { name = name; text = text; at = n; is = refl; found = found }) (before none)
  validator_step m seen x name t None text found before none = absurd (not_such m.waiting x name none)

  module _ (path : Text) where
    inner_step : (m : MethodRead) (seen : List (Text × Tree)) (x : Text) (t : Tree) (h : MethodRead) → bytes_eq x (codes "authorizer") ≡ false → bytes_eq x (codes "validator") ≡ false → GivenBy m seen
        → inner_member document path m x t ≡ Ok h → GivenBy h (seen ++ (x, t) ∷ [])
    unfolding parameters_member_in models_member_in integration_member_in
    inner_step m seen x t h no_a no_v before e =
        either (GivenBy h (seen ++ (x, t) ∷ [])) (bytes_eq x (codes "parameters")) _ _ h
        (λ same e. let (ps, is, last) = bind_ok (parameters_in path x t) _ h e in
        subst (λ k. GivenBy k (seen ++ (x, t) ∷ [])) (ok_same _ h last)
        (λ none. other seen x t m.authorizer m.validator m.models no_a no_v (subst (λ y. bytes_eq y (codes "models") ≡ false) (sym (bytes_same x (codes "parameters") same)) refl) (before (first_none m.waiting (waiting_below x ps.waiting) none).0)))
        (λ no_p. either (GivenBy h (seen ++ (x, t) ∷ [])) (bytes_eq x (codes "models")) _ _ h
        (λ same e. let (ms, is, last) = bind_ok (named_models_in document x t) _ h e in
        named seen x (codes "models") t h same
        (subst (λ k. GivenBy k (seen ++ (codes "models", t) ∷ [])) (ok_same _ h last)
        (λ none. let w = first_none m.waiting (waiting_below x ms.waiting) none in models_now seen t m.authorizer m.validator m.models ms.list (models_given x t ms is (below_none x ms.waiting w.1)) (before w.0))))
        (λ no_m. either (GivenBy h (seen ++ (x, t) ∷ [])) (bytes_eq x (codes "integration")) _ _ h
        (λ same e. let (i, is, last) = bind_ok (integration_in path x t) _ h e in
        subst (λ k. GivenBy k (seen ++ (x, t) ∷ [])) (ok_same _ h last)
        (λ none. other seen x t m.authorizer m.validator m.models no_a no_v no_m (before (first_none m.waiting (waiting_below x i.1) none).0)))
        (λ no_i e. absurd cc))) e

    method_step : (m : MethodRead) (seen : List (Text × Tree)) (x : Text) (t : Tree) (h : MethodRead) → GivenBy m seen → method_member document path m x t ≡ Ok h → GivenBy h (seen ++ (x, t) ∷ [])
    method_step m seen x t h before e =
        either (GivenBy h (seen ++ (x, t) ∷ [])) (bytes_eq x (codes "apiKeyRequired")) _ _ h
        (λ same e. let (b, is, last) = bind_ok (flag_in x t) _ h e in
        named seen x (codes "apiKeyRequired") t h same
        (subst (λ k. GivenBy k (seen ++ (codes "apiKeyRequired", t) ∷ [])) (ok_same _ h last)
        (λ none. other seen (codes "apiKeyRequired") t m.authorizer m.validator m.models refl refl refl (before none))))
        (λ no_k. either (GivenBy h (seen ++ (x, t) ∷ [])) (bytes_eq x (codes "authorizer")) _ _ h
        (λ same e. let (name, is, last) = bind_ok (text_in x t) _ h e in
        named seen x (codes "authorizer") t h same
        (subst (λ k. GivenBy k (seen ++ (codes "authorizer", t) ∷ [])) (ok_same _ h last)
        (authorizer_step m seen x name t (number_among document (codes "authorizers") name) (text_is x t name is) refl before)))
        (λ no_a. either (GivenBy h (seen ++ (x, t) ∷ [])) (bytes_eq x (codes "validator")) _ _ h
        (λ same e. let (name, is, last) = bind_ok (text_in x t) _ h e in
        named seen x (codes "validator") t h same
        (subst (λ k. GivenBy k (seen ++ (codes "validator", t) ∷ [])) (ok_same _ h last)
        (validator_step m seen x name t (number_among document (codes "validators") name) (text_is x t name is) refl before)))
        (λ no_v e. inner_step m seen x t h no_a no_v before e))) e

    -- what a method has is what its value names
    pub method_given : (verb : Text) (t : Tree) (m : Method) → method_in document path verb t ≡ Ok (m, None) → Given (entries_of (form t)) m.authorizer m.validator m.models
    method_given verb t m e =
        let (ms, is, more) = bind_ok (object_in verb t) (λ ms. each (method_member document path) no_method ms >>= method_of verb) (m, None) e in
        let (r, read, last) = bind_ok (each (method_member document path) no_method ms) (method_of verb) (m, None) more in
        let all : GivenBy r ms = each_gathers (method_member document path) GivenBy method_step ms [] no_method r (λ none. record { authorizer_is = refl; validator_is = refl; models_are = refl }) read in
        subst (λ es. Given es m.authorizer m.validator m.models) (object_is verb t ms is) (settled r ms last all)
      where
        settled : (r : MethodRead) (ms : List (Text × Tree)) → method_of verb r ≡ Ok (m, None) → GivenBy r ms → Given ms m.authorizer m.validator m.models
        settled r ms e all =
            let (i, is, last) = bind_ok (needed (codes "integration") r.integration) _ (m, None) e in
            let same = ok_same _ (m, None) last in
            subst (λ (k : Method). Given ms k.authorizer k.validator k.models) (ap (λ (p : Method × Waiting). p.0) same) (all (ap (λ (p : Method × Waiting). p.1) same))
