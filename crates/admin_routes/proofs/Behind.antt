-- The segments of a target, and the text that joins them.
use Rattle.std.proofs.Common.{◌≡◌, ℕ, ◌+◌, ◌<◌, ◌==◌, Bool, true, false, cond, ◌&&◌, ◌||◌, length, length-append, take, drop, get_or, List, [], ◌∷◌, ◌++◌, Option, Some, None, All, IsUtf8, refl, ap, sym, subst, ◌∙◌, arith}
use Rattle.std.specs.List.{slice_split, join_with_byte, list_all, list_any}
use Rattle.std.specs.Option.{option_and_then}
use Rattle.std.proofs.Math.Seq.{drop-append-add, get_or-append_seam, take-append_seam}
use Rattle.std.proofs.lemmas.Bool.{and_parts}
use Rattle.std.proofs.lemmas.List.Elements.{All-nil, All-cons}
use Rattle.std.proofs.lemmas.List.Splits.{join_with_byte-slice_split, length-slice_split, slice_split_at, slice_split_none}
use Rattle.std.proofs.lemmas.Str.{IsCharBoundary-after_ascii, IsCharBoundary-at_seam, IsUtf8-append, IsUtf8-drop, IsUtf8-take}
use Rattle.record_fields.specs.Coding.{is_utf8, text_of}
use Rattle.record_fields.proofs.Utf8.{told_utf8, utf8_from_told}
use Rattle.admin_paths.specs.Paths.{path_in}
use Rattle.admin_paths.specs.declared.paths.AdminPath.{AdminPath}
use Rattle.admin_routes.specs.Routes.{behind_slash, path_of, route_at_path, route_in, segments_behind}
use Rattle.admin_routes.specs.declared.routes.Route.{Route}
use Rattle.admin_routes.specs.declared.routes.Route.TheVariants.{PutDocument, PutTemplate, Deploy, PutStage, PutCanary, Promote, Flush, PutKey, PutPlan, JoinKey, Grant, Usage, Shutdown}
use Rattle.admin_routes.proofs.Finding.{ascii, routes_are_found}

abbrev is_slash : ℕ → Bool
is_slash b = b == 47

abbrev pub routed : List ℕ → Option AdminPath → Option Route
routed verb found = option_and_then (route_at_path verb) found

abbrev head_of : List (List ℕ) → List ℕ
head_of [] = []
head_of (s ∷ segments) = s

-- no first literal has a slash in it
first_literal : (route : Route) → list_any is_slash (head_of (path_of route)) ≡ false
first_literal (PutDocument api) = refl
first_literal (PutTemplate api) = refl
first_literal (Deploy api) = refl
first_literal (PutStage api stage) = refl
first_literal (PutCanary api stage) = refl
first_literal (Promote api stage) = refl
first_literal (Flush api stage) = refl
first_literal (PutKey key) = refl
first_literal (PutPlan plan) = refl
first_literal (JoinKey plan key) = refl
first_literal (Grant plan key) = refl
first_literal (Usage plan key) = refl
first_literal Shutdown = refl

no_literal : (stage : List ℕ) (more : List (List ℕ)) (route : Route) → list_any is_slash stage ≡ true → stage ∷ more ≡ path_of route → false ≡ true
no_literal stage more route slash e = sym (first_literal route) ∙ (ap (λ s. list_any is_slash (head_of s)) (sym e) ∙ slash)

pub none_with_slash : (verb stage : List ℕ) (more : List (List ℕ)) → list_any is_slash stage ≡ true → route_in verb (stage ∷ more) ≡ None
none_with_slash verb stage more slash = by (route_in verb (stage ∷ more)) refl
  where
    by : (found : Option Route) → route_in verb (stage ∷ more) ≡ found → found ≡ None
    by None e = refl
    by (Some route) e = let false_is_true = no_literal stage more route slash ((routes_are_found verb (stage ∷ more) route).0 e).1 in absurd cc

-- the segments joined are the text
join_cons : (stage : List ℕ) (parts : List (List ℕ)) → 0 < length parts → join_with_byte 47 (stage ∷ parts) ≡ stage ++ 47 ∷ join_with_byte 47 parts
join_cons stage [] some = absurd (omega arith)
join_cons stage (part ∷ parts) some = refl

has_some : (bytes : List ℕ) → 0 < length (slice_split is_slash bytes)
has_some bytes = let n = length-slice_split is_slash bytes in omega arith

joined : (stage path : List ℕ) → join_with_byte 47 (stage ∷ segments_behind path) ≡ behind_slash stage path
joined stage [] = refl
joined stage (slash ∷ rest) = join_cons stage (slice_split is_slash rest) (has_some rest) ∙ ap (λ t. stage ++ 47 ∷ t) (join_with_byte-slice_split 47 rest)

no_slashes : (stage : List ℕ) → list_any is_slash stage ≡ false → All (λ b. is_slash b ≡ false) stage
no_slashes [] h = All-nil (λ b. is_slash b ≡ false)
no_slashes (b ∷ stage) h = by (is_slash b) refl (list_any is_slash stage) refl h (no_slashes stage)
  where
    by : (v : Bool) → is_slash b ≡ v → (w : Bool) → list_any is_slash stage ≡ w → (v || w) ≡ false
        → (list_any is_slash stage ≡ false → All (λ x. is_slash x ≡ false) stage) → All (λ x. is_slash x ≡ false) (b ∷ stage)
    by true e w f g ih = absurd cc
    by false e true f g ih = absurd cc
    by false e false f g ih = All-cons (λ x. is_slash x ≡ false) b stage e (ih f)

-- the text parted gives the segments
pub parted : (stage path : List ℕ) → list_any is_slash stage ≡ false → slice_split is_slash (behind_slash stage path) ≡ stage ∷ segments_behind path
parted stage [] h = slice_split_none is_slash stage (no_slashes stage h)
parted stage (slash ∷ rest) h = slice_split_at is_slash stage 47 rest (no_slashes stage h) refl

-- segments of text are text
abbrev AllUtf8 : List (List ℕ) → Type 0
AllUtf8 [] = Unit {0}
AllUtf8 (s ∷ segments) = IsUtf8 s × AllUtf8 segments

told : (segments : List (List ℕ)) → AllUtf8 segments → list_all is_utf8 segments ≡ true
told [] u = refl
told (s ∷ segments) u = ap (λ v. v && list_all is_utf8 segments) (told_utf8 s s refl u.0) ∙ told segments u.1

-- and joined they are text
join_utf8 : (segments : List (List ℕ)) → list_all is_utf8 segments ≡ true → IsUtf8 (join_with_byte 47 segments)
join_utf8 [] e = ascii [] refl
join_utf8 (s ∷ []) e = utf8_from_told s (and_parts (is_utf8 s) true e).0
join_utf8 (s ∷ t ∷ segments) e =
    let both = and_parts (is_utf8 s) (list_all is_utf8 (t ∷ segments)) e in
    IsUtf8-append s (47 ∷ join_with_byte 47 (t ∷ segments)) (utf8_from_told s both.0)
    (IsUtf8-append (47 ∷ []) (join_with_byte 47 (t ∷ segments)) (ascii (47 ∷ []) refl) (join_utf8 (t ∷ segments) both.1))

-- where the text is none, no route is there
pub none_without_text : (verb stage path : List ℕ) → text_of (behind_slash stage path) ≡ None → route_in verb (stage ∷ segments_behind path) ≡ None
unfolding route_in
none_without_text verb stage path none = by (list_all is_utf8 segments) refl
  where
    segments : List (List ℕ)
    segments = stage ∷ segments_behind path

    untold : (v : Bool) → cond v (Some (behind_slash stage path)) None ≡ None → v ≡ false
    untold true e = absurd cc
    untold false e = refl

    by : (v : Bool) → list_all is_utf8 segments ≡ v → cond v (routed verb (path_in segments)) None ≡ None
    by false e = refl
    by true e =
        let is : is_utf8 (behind_slash stage path) ≡ true = told_utf8 (behind_slash stage path) (join_with_byte 47 segments) (joined stage path) (join_utf8 segments e) in
        let not : is_utf8 (behind_slash stage path) ≡ false = untold (is_utf8 (behind_slash stage path)) none in
        absurd cc

first_utf8 : (x y : List ℕ) → IsUtf8 (x ++ 47 ∷ y) → IsUtf8 x × IsUtf8 y
first_utf8 x y u =
    let n : length (x ++ 47 ∷ y) ≡ length x + length (47 ∷ y) = length-append x (47 ∷ y) in
    let at : get_or (x ++ 47 ∷ y) (length x) 0 ≡ 47 = get_or-append_seam x 47 y 0 in
    let boundary = IsCharBoundary-after_ascii (x ++ 47 ∷ y) (length x) u (omega arith) (omega arith) in
    let second : IsUtf8 y = subst IsUtf8 (drop-append-add x (47 ∷ y) 1) (IsUtf8-drop (x ++ 47 ∷ y) (length x + 1) u boundary) in
    let seam = IsCharBoundary-at_seam (x ++ 47 ∷ y) x (47 ∷ y) refl (IsUtf8-append (47 ∷ []) y (ascii (47 ∷ []) refl) second) in
    (subst IsUtf8 (take-append_seam x (47 ∷ y)) (IsUtf8-take (x ++ 47 ∷ y) (length x) u seam), second)

all_utf8 : (segments : List (List ℕ)) → IsUtf8 (join_with_byte 47 segments) → AllUtf8 segments
all_utf8 [] u = tt
all_utf8 (s ∷ []) u = (u, tt)
all_utf8 (s ∷ t ∷ segments) u = let parts = first_utf8 s (join_with_byte 47 (t ∷ segments)) u in (parts.0, all_utf8 (t ∷ segments) parts.1)

-- the table with the verb of each path is that of the routes
same_table : (verb : List ℕ) (segments : List (List ℕ)) → AllUtf8 segments → routed verb (path_in segments) ≡ route_in verb segments
unfolding route_in
same_table verb segments u = sym (ap (λ v. cond v (routed verb (path_in segments)) None) (told segments u))

-- the path of a target's text gives its route
pub route_of_text : (verb stage path : List ℕ) (text : List ℕ) → list_any is_slash stage ≡ false → text_of (behind_slash stage path) ≡ Some text
    → routed verb (path_in (slice_split is_slash text)) ≡ route_in verb (stage ∷ segments_behind path)
route_of_text verb stage path text none e =
    let bytes = behind_slash stage path in
    let whole : bytes ≡ text = (both (is_utf8 bytes) e).0 in
    let utf8 : IsUtf8 bytes = utf8_from_told bytes (both (is_utf8 bytes) e).1 in
    let segments : slice_split is_slash text ≡ stage ∷ segments_behind path = ap (slice_split is_slash) (sym whole) ∙ parted stage path none in
    ap (λ s. routed verb (path_in s)) segments
    ∙ same_table verb (stage ∷ segments_behind path) (all_utf8 (stage ∷ segments_behind path) (subst IsUtf8 (sym (joined stage path)) utf8))
  where
    both : (v : Bool) → cond v (Some (behind_slash stage path)) None ≡ Some text → (behind_slash stage path ≡ text) × (v ≡ true)
    both true e = (cc, refl)
    both false e = absurd cc
