-- The files that were asked for, and what is rendered of them.
use Rattle.std.proofs.Common.{◌≡◌, ℕ, ◌<◌, ◌≤◌, ◌∙◌, Bool, true, false, nat_lt, List, [], ◌∷◌, length, cond, Option, Some, None, IfSome, IsSomeAnd, refl, sym, ap, arith}
use Rattle.std.proofs.lemmas.Grind.{common_steps}
use borrow.Author.Tests.{lt-ltb}
use Rattle.std.specs.Str.{bytes_eq}
use Rattle.std.proofs.lemmas.Slice.Eq.{bytes_eq-Decides}
use Rattle.gateway_cli.specs.Check.{check_of, checked_file, checked_within, document_limit}
use Rattle.outside_core.specs.Files.{Files, content_of}
use Rattle.gateway_cli.specs.Files.{Holds, within}
use Rattle.gateway_cli.specs.Render.{judged, rendered, rendered_files, render_of, body_limit, template_limit}
use Rattle.gateway_cli.specs.Top.{OfTold}
use Rattle.gateway_cli.proofs.Inputs.{longer}

-- bytes within the limit, and bytes over it
pub kept_whole : (limit : ℕ) (bytes : List ℕ) → length bytes ≤ limit → Some bytes ≡ within limit bytes
unfolding within
kept_whole limit bytes h =
    let small : nat_lt limit (length bytes) ≡ false = grind (arith, common_steps) in
    sym (ap (λ b. cond b None (Some bytes)) small)

over : (limit : ℕ) (bytes : List ℕ) → limit < length bytes → None ≡ within limit bytes
unfolding within
over limit bytes h = sym (ap (λ b. cond b None (Some bytes)) (lt-ltb limit (length bytes) h))

some_over : (held : Option (List ℕ)) (limit : ℕ) → IsSomeAnd held (λ bytes. limit < length bytes) → (content : List ℕ) × (held ≡ Some content) × (None ≡ within limit content)
some_over None limit h = absurd h
some_over (Some content) limit h = (content, refl, over limit content h)

-- the file that is over its limit
pub held_over : (told : Option Files) (name : List ℕ) (limit : ℕ) → IfSome told (λ files. IsSomeAnd (content_of name files) (λ bytes. limit < length bytes))
    → (content : List ℕ) × Holds told name content × (None ≡ within limit content)
held_over None name limit h = let more = longer limit in (more.0, tt, over limit more.0 more.1)
held_over (Some files) name limit h = some_over (content_of name files) limit h

-- files that hold both
at_files : (files : Files) (t b template body : List ℕ) (first second : Option (List ℕ)) → content_of t files ≡ Some template → content_of b files ≡ Some body
    → first ≡ within 307200 template → second ≡ within 10485760 body → judged first second ≡ render_of files t b
unfolding template_limit body_limit
at_files files t b template body first second ht hb hf hs =
    ap (λ o. judged o second) hf ∙ ap (judged (within 307200 template)) hs
    ∙ sym (ap (λ o. rendered_files o (content_of b files)) ht ∙ ap (rendered_files (Some template)) hb)

-- the file of its name stands first
found_first : (name content : List ℕ) (files : Files) → content_of name ((name, content) ∷ files) ≡ Some content
found_first name content files = ap (λ x. cond x (Some content) (content_of name files)) ((bytes_eq-Decides name name).1 refl)

-- files that are asked for by two names
pub of_two : (told : Option Files) (t b template body : List ℕ) (first second : Option (List ℕ)) → bytes_eq t b ≡ false → Holds told t template → Holds told b body
    → first ≡ within 307200 template → second ≡ within 10485760 body → OfTold told (λ files. judged first second ≡ render_of files t b)
of_two None t b template body first second other ht hb hf hs =
    let files : Files = (t, template) ∷ (b, body) ∷ [] in
    let behind : content_of b files ≡ Some body = ap (λ x. cond x (Some template) (content_of b ((b, body) ∷ []))) other ∙ found_first b body [] in (
      files,
      tt,
      at_files files t b template body first second (found_first t template ((b, body) ∷ [])) behind hf hs,
    )
of_two (Some files) t b template body first second other ht hb hf hs = (files, refl, at_files files t b template body first second ht hb hf hs)

-- a file within the template's limit is within the body's, and over it no body is looked at
same_at : (content : List ℕ) (over : Bool) → nat_lt 307200 (length content) ≡ over → judged (within 307200 content) (within 307200 content) ≡ rendered content content
unfolding within template_limit body_limit
same_at content true h = rw h refl
same_at content false h =
    let small : nat_lt 10485760 (length content) ≡ false = grind (arith, common_steps) in
    rw h (rw small refl)

pub of_one : (told : Option Files) (t b template : List ℕ) (first second : Option (List ℕ)) → t ≡ b → Holds told t template → first ≡ within 307200 template → second ≡ first
    → OfTold told (λ files. judged first second ≡ render_of files t b)
of_one None t b template first second same ht hf hs = (
  (t, template) ∷ [],
  tt,
  ap (judged first) hs ∙ ap (λ o. judged o o) hf ∙ same_at template (nat_lt 307200 (length template)) refl
      ∙ sym (ap (λ o. rendered_files o o) (found_first t template [])) ∙ ap (render_of ((t, template) ∷ []) t) same,
)
of_one (Some files) t b template first second same ht hf hs = (
  files,
  refl,
  ap (judged first) hs ∙ ap (λ o. judged o o) hf ∙ same_at template (nat_lt 307200 (length template)) refl
      ∙ sym (ap (λ o. rendered_files o o) ht) ∙ ap (render_of files t) same,
)

-- the limit of a document
document_at : (content : List ℕ) → checked_within (within 1048576 content) ≡ checked_file (Some content)
unfolding document_limit
document_at content = refl

pub of_document : (told : Option Files) (name content : List ℕ) (read : Option (List ℕ)) → Holds told name content → read ≡ within 1048576 content
    → OfTold told (λ files. checked_within read ≡ check_of files name)
of_document None name content read held is = (
  (name, content) ∷ [],
  tt,
  ap checked_within is ∙ document_at content ∙ sym (ap checked_file (found_first name content [])),
)
of_document (Some files) name content read held is = (
  files,
  refl,
  ap checked_within is ∙ document_at content ∙ sym (ap checked_file held),
)
