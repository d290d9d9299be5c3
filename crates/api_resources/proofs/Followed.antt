-- The methods of resources are those of the document, where no fault waits.
use Rattle.std.proofs.Common.{◌≡◌, ◌⊎◌, inl, inr, ℕ, zero, suc, ◌+◌, ◌<◌, ◌≤◌, Bool, true, false, List, [], ◌∷◌, ◌++◌, length, length-append, map, Option, Some, None, Result, Ok, refl, sym, ap, ◌∙◌, subst, codes, arith, append_assoc, append-nil, ltb, eqb}
use Rattle.std.specs.Prelude.{nat_le, slice_get}
use Rattle.std.specs.List.{All, flat_map}
use Rattle.std.proofs.lemmas.Grind.{flat_map-append}
use Rattle.std.proofs.lemmas.List.{map-append}
use Rattle.std.proofs.lemmas.List.Elements.{All-nil, All-push, All-weaker}
use borrow.Author.Tests.{ltb-true, ltb-false}
use Rattle.json_subset.specs.Documents.{form}
use Rattle.json_subset.specs.Tree.{Tree}
use Rattle.json_values.specs.Parts.{entries_of}
use Rattle.resource_tree.specs.Faults.{fault_at, HasNoFault}
use Rattle.resource_tree.specs.declared.fault.TreeFault.{TreeFault}
use Rattle.api_parts.specs.Reading.{Text, Read, ◌>>=◌, bad, each, unknown, Waiting, first_of, waiting_below}
use Rattle.api_parts.specs.declared.parts.Method.{Method}
use Rattle.api_parts.specs.declared.parts.Resource.{Resource}
use Rattle.api_parts.proofs.Each.{bind_ok, either, ok_same, each_gathers}
use Rattle.api_reading.specs.Values.{object_in}
use Rattle.api_reading.proofs.Entries.{object_is}
use Rattle.api_resources.specs.Methods.{method_in}
use Rattle.api_resources.specs.Named.{methods_of}
use Rattle.api_resources.specs.Resources.{is_entry, no_resources, path_of, path_waiting, paths_of, resources_from, resources_in, resources_member, verbs_in, verbs_member, with_method, with_resource}
use Rattle.api_resources.specs.declared.resources.ResourcesRead.{ResourcesRead}
use Rattle.api_resources.specs.declared.resources.VerbsRead.{VerbsRead}
use Rattle.api_resources.proofs.Given.{below_none, first_none}

-- one more at the end of a list
at_end : {A : Type 0} (xs : List A) (x : A) → slice_get (xs ++ x ∷ []) (length xs) ≡ Some x
at_end [] x = refl
at_end (y ∷ xs) x = at_end xs x

before_end : {A : Type 0} (xs ys : List A) (i : ℕ) (x : A) → slice_get xs i ≡ Some x → slice_get (xs ++ ys) i ≡ Some x
before_end [] ys i x e = absurd cc
before_end (y ∷ xs) ys zero x e = e
before_end (y ∷ xs) ys (suc i) x e = before_end xs ys i x e

-- what is read of a value as a method of this path, with no fault that waits
pub record IsMethod (document : Tree) (path : Text) (m : Method) (verb : Text) (t : Tree) : Type 0 where
  pub read : method_in document path verb t ≡ Ok (m, None)

abbrev pub AreMethods : Tree → List Method → List (Text × Tree) → Type 0
AreMethods document [] [] = Unit {0}
AreMethods document (m ∷ ms) [] = ⊥
AreMethods document [] (e ∷ es) = ⊥
AreMethods document (m ∷ ms) (e ∷ es) = ((path : Text) × IsMethod document path m e.0 e.1) × AreMethods document ms es

methods_push : (document : Tree) (ms : List Method) (es : List (Text × Tree)) (m : Method) (e : Text × Tree) → AreMethods document ms es → (path : Text) × IsMethod document path m e.0 e.1
    → AreMethods document (ms ++ m ∷ []) (es ++ e ∷ [])
methods_push document [] [] m e all one = (one, tt)
methods_push document (n ∷ ms) [] m e all one = absurd all
methods_push document [] (f ∷ es) m e all one = absurd all
methods_push document (n ∷ ms) (f ∷ es) m e all one = (all.0, methods_push document ms es m e all.1 one)

-- the method of a number, and the value of the same number
pub record ReadAt (document : Tree) (es : List (Text × Tree)) (n : ℕ) (m : Method) : Type 0 where
  pub path : Text
  pub verb : Text
  pub value : Tree
  pub at : slice_get es n ≡ Some (verb, value)
  pub is : IsMethod document path m verb value

pub read_at : (document : Tree) (ms : List Method) (es : List (Text × Tree)) (n : ℕ) (m : Method) → AreMethods document ms es → slice_get ms n ≡ Some m → ReadAt document es n m
read_at document [] es n m all e = absurd cc
read_at document (k ∷ ms) [] n m all e = absurd all
read_at document (k ∷ ms) (f ∷ es) zero m all e =
    let same : k ≡ m = cc in
    subst (λ q. ReadAt document (f ∷ es) zero q) same (record { path = all.0.0; verb = f.0; value = f.1; at = refl; is = all.0.1 })
read_at document (k ∷ ms) (f ∷ es) (suc n) m all e =
    let r = read_at document ms es n m all.1 e in
    record { path = r.path; verb = r.verb; value = r.value; at = r.at; is = r.is }

-- a verb has the number of a method, which is read so
pub record LeadsTo (document : Tree) (path : Text) (methods : List Method) (verb : Text × ℕ) : Type 0 where
  pub method : Method
  pub value : Tree
  pub at : slice_get methods verb.1 ≡ Some method
  pub is : IsMethod document path method verb.0 value

leads_more : (document : Tree) (path : Text) (before more : List Method) (verb : Text × ℕ) → LeadsTo document path before verb → LeadsTo document path (before ++ more) verb
leads_more document path before more verb l = record { method = l.method; value = l.value; at = before_end before more verb.1 l.method l.at; is = l.is }

all_more : (document : Tree) (path : Text) (before more : List Method) (verbs : List (Text × ℕ)) → All (LeadsTo document path before) verbs → All (LeadsTo document path (before ++ more)) verbs
all_more document path before more verbs all = All-weaker (LeadsTo document path before) (LeadsTo document path (before ++ more)) (λ v l. leads_more document path before more v l) verbs all

-- the verbs of one resource, behind the methods of those before it
pub record Behind (document : Tree) (path : Text) (before : List Method) (r : VerbsRead) (values : List (Text × Tree)) : Type 0 where
  pub methods : AreMethods document r.methods values
  pub verbs : All (LeadsTo document path r.methods) r.verbs
  pub more : List Method
  pub longer : r.methods ≡ before ++ more

module _ (document : Tree) (path : Text) (before : List Method) (others : List (Text × Tree)) where
  abbrev Verbs : VerbsRead → List (Text × Tree) → Type 0
  Verbs r seen = r.waiting ≡ None → Behind document path before r (others ++ seen)

  with_one : (r : VerbsRead) (seen : List (Text × Tree)) (x : Text) (t : Tree) (m : Method × Waiting) → method_in document path x t ≡ Ok m → Verbs r seen → Verbs (with_method r x m) (seen ++ (x, t) ∷ [])
  with_one r seen x t m is all none =
      let w = first_none r.waiting (waiting_below x m.1) none in
      let b = all w.0 in
      let read : IsMethod document path m.0 x t = record { read = is ∙ ap (λ f. Ok (m.0, f)) (below_none x m.1 w.1) } in
      record {
        methods = subst (AreMethods document (r.methods ++ m.0 ∷ [])) (append_assoc others seen ((x, t) ∷ [])) (methods_push document r.methods (others ++ seen) m.0 (x, t) b.methods (path, read));
        verbs = All-push (LeadsTo document path (r.methods ++ m.0 ∷ [])) r.verbs (x, length r.methods) (all_more document path r.methods (m.0 ∷ []) r.verbs b.verbs) (record { method = m.0; value = t; at = at_end r.methods m.0; is = read });
        more = b.more ++ m.0 ∷ [];
        longer = ap (λ ms. ms ++ m.0 ∷ []) b.longer ∙ append_assoc before b.more (m.0 ∷ []);
      }

  verb_step : (r : VerbsRead) (seen : List (Text × Tree)) (x : Text) (t : Tree) (h : VerbsRead) → Verbs r seen → verbs_member document path r x t ≡ Ok h → Verbs h (seen ++ (x, t) ∷ [])
  verb_step r seen x t h all e =
      either (Verbs h (seen ++ (x, t) ∷ [])) (is_entry x) (method_in document path x t >>= λ m. Ok (with_method r x m)) (unknown x) h
      (λ is e. let (m, read, last) = bind_ok (method_in document path x t) (λ m. Ok (with_method r x m)) h e in
      subst (λ k. Verbs k (seen ++ (x, t) ∷ [])) (ok_same (with_method r x m) h last) (with_one r seen x t m read all))
      (λ no e. absurd cc) e

  verbs_followed : (t : Tree) (r : VerbsRead) → AreMethods document before others → verbs_in document before path t ≡ Ok r → r.waiting ≡ None → Behind document path before r (others ++ entries_of (form t))
  verbs_followed t r start e none =
      let first : VerbsRead = record { verbs = []; methods = before; waiting = None } in
      let (ms, is, last) = bind_ok (object_in path t) (each (verbs_member document path) first) r e in
      let begins : Verbs first [] = λ n. record { methods = subst (AreMethods document before) (sym (append-nil others)) start; verbs = All-nil _; more = []; longer = sym (append-nil before) } in
      let all : Verbs r ms = each_gathers (verbs_member document path) Verbs verb_step ms [] first r begins last in
      subst (λ es. Behind document path before r (others ++ es)) (object_is path t ms is) (all none)

-- the resources so far
pub record Followed (document : Tree) (resources : List Resource) (methods : List Method) (values : List (Text × Tree)) : Type 0 where
  pub read : AreMethods document methods (methods_of values)
  pub verbs : All (λ (r : Resource). All (LeadsTo document r.path methods) r.verbs) resources

pub followed_none : (document : Tree) → Followed document [] [] []
followed_none document = record { read = tt; verbs = All-nil _ }

path_none : (fault : Option TreeFault) → path_waiting fault ≡ None → fault ≡ None
path_none None e = refl
path_none (Some f) e = absurd cc

methods_more : (seen : List (Text × Tree)) (x : Text) (t : Tree) → methods_of seen ++ entries_of (form t) ≡ methods_of (seen ++ (x, t) ∷ [])
methods_more seen x t = ap (λ es. methods_of seen ++ es) (sym (append-nil (entries_of (form t)))) ∙ sym (flat_map-append (λ (r : Text × Tree). entries_of (form r.1)) seen ((x, t) ∷ []))

module _ (document : Tree) (paths : List Text) where
  pub record Resources (all : ResourcesRead) (seen : List (Text × Tree)) : Type 0 where
    pub followed : Followed document all.list all.methods seen
    pub sound : (at : ℕ) → at < length all.list → fault_at paths at ≡ None
    pub same : map path_of all.list ≡ paths_of seen

  abbrev Waits : ResourcesRead → List (Text × Tree) → Type 0
  Waits all seen = all.waiting ≡ None → Resources all seen

  with_more : (all : ResourcesRead) (seen : List (Text × Tree)) (x : Text) (t : Tree) (fault : Option TreeFault) (r : VerbsRead) → fault_at paths (length all.list) ≡ fault → verbs_in document all.methods x t ≡ Ok r
      → Waits all seen → Waits (with_resource all x fault r) (seen ++ (x, t) ∷ [])
  with_more all seen x t fault r told e waits none =
      let outer = first_none all.waiting (waiting_below x (first_of (path_waiting fault) r.waiting)) none in
      let inner = first_none (path_waiting fault) r.waiting (below_none x (first_of (path_waiting fault) r.waiting) outer.1) in
      let so_far = waits outer.0 in
      let b = verbs_followed document x all.methods (methods_of seen) t r so_far.followed.read e inner.1 in
      let it : Resource = record { path = x; verbs = r.verbs } in
      let before : All (λ (q : Resource). All (LeadsTo document q.path r.methods) q.verbs) all.list =
      All-weaker (λ (q : Resource). All (LeadsTo document q.path all.methods) q.verbs) (λ (q : Resource). All (LeadsTo document q.path r.methods) q.verbs)
      (λ q l. subst (λ ms. All (LeadsTo document q.path ms) q.verbs) (sym b.longer) (all_more document q.path all.methods b.more q.verbs l)) all.list so_far.followed.verbs in
      record {
        followed = record {
          read = subst (AreMethods document r.methods) (methods_more seen x t) b.methods;
          verbs = All-push (λ (q : Resource). All (LeadsTo document q.path r.methods) q.verbs) all.list it before b.verbs;
        };
        sound = λ at less. sound_at at less so_far.sound (told ∙ path_none fault inner.0) (ltb at (length all.list)) refl;
        same = map-append path_of all.list (it ∷ []) ∙ ap (λ ps. ps ++ x ∷ []) so_far.same ∙ sym (map-append (λ (m : Text × Tree). m.0) seen ((x, t) ∷ []));
      }
    where
      sound_at : (at : ℕ) → at < length (all.list ++ record { path = x; verbs = r.verbs } ∷ []) → ((k : ℕ) → k < length all.list → fault_at paths k ≡ None) → fault_at paths (length all.list) ≡ None
          → (b : Bool) → ltb at (length all.list) ≡ b → fault_at paths at ≡ None
      sound_at at less below here true is = below at (ltb-true at (length all.list) is)
      sound_at at less below here false is =
          let count : length (all.list ++ record { path = x; verbs = r.verbs } ∷ []) ≡ length all.list + 1 = length-append all.list (record { path = x; verbs = r.verbs } ∷ []) in
          let past : length all.list ≤ at = ltb-false at (length all.list) is in
          let same : length all.list ≡ at = omega (arith, less, count, past) in
          subst (λ k. fault_at paths k ≡ None) same here

  resource_step : (all : ResourcesRead) (seen : List (Text × Tree)) (x : Text) (t : Tree) (h : ResourcesRead) → Waits all seen → resources_member document paths all x t ≡ Ok h → Waits h (seen ++ (x, t) ∷ [])
  resource_step all seen x t h waits e =
      let fault : Option TreeFault = fault_at paths (length all.list) in
      let (r, is, last) = bind_ok (verbs_in document all.methods x t) (λ r. Ok (with_resource all x fault r)) h e in
      subst (λ k. Waits k (seen ++ (x, t) ∷ [])) (ok_same (with_resource all x fault r) h last) (with_more all seen x t fault r refl is waits)

-- all resources of a document
pub record AllFollowed (document : Tree) (rs : ResourcesRead) (values : List (Text × Tree)) : Type 0 where
  pub followed : Followed document rs.list rs.methods values
  pub sound : HasNoFault (map path_of rs.list)

pub resources_followed : (document : Tree) (x : Text) (t : Tree) (rs : ResourcesRead) → resources_in document x t ≡ Ok rs → rs.waiting ≡ None → AllFollowed document rs (entries_of (form t))
resources_followed document x t rs e none =
    let (ms, is, last) = bind_ok (object_in x t) (resources_from document x) rs e in
    either (AllFollowed document rs (entries_of (form t))) (nat_le (length ms) 300) (each (resources_member document (paths_of ms)) no_resources ms) (bad x) rs
    (λ few e. in_all ms is (each_gathers (resources_member document (paths_of ms)) (Waits document (paths_of ms)) (resource_step document (paths_of ms)) ms [] no_resources rs
    (λ n. record { followed = followed_none document; sound = λ at less. absurd (omega (arith, less)); same = refl }) e none))
    (λ many e. absurd cc) last
  where
    in_all : (ms : List (Text × Tree)) → object_in x t ≡ Ok ms → Resources document (paths_of ms) rs ms → AllFollowed document rs (entries_of (form t))
    in_all ms is all = record {
      followed = subst (Followed document rs.list rs.methods) (object_is x t ms is) all.followed;
      sound = λ at less. subst (λ ps. fault_at ps at ≡ None) (sym all.same) (all.sound at (shorter at less));
    }
      where
        shorter : (at : ℕ) → at < length (map path_of rs.list) → at < length rs.list
        shorter at less = omega (arith, less, length_map rs.list)
          where
            length_map : (rs : List Resource) → length (map path_of rs) ≡ length rs
            length_map [] = refl
            length_map (r ∷ rs) = ap suc (length_map rs)
