-- What the faults of a path say of it.
use Rattle.std.proofs.Common.{◌≡◌, ◌↔◌, ℕ, zero, suc, ◌<◌, Bool, true, false, not, ◌||◌, if◌then◌else◌, List, [], ◌∷◌, length, take, get_or, Option, Some, None, refl, ap, sym, ◌∙◌, arith, length-take, get_or-take}
use Rattle.std.specs.List.{list_any, cons_option}
use Rattle.resource_tree.specs.declared.part.Part.{Part}
use Rattle.resource_tree.specs.declared.fault.TreeFault.{TreeFault}
use Rattle.resource_tree.specs.declared.fault.TreeFault.TheVariants.{BadPart, Clash, GreedyNotLast}
use Rattle.resource_tree.specs.Faults.{fault_of_parts, fault_behind, fault_at, parts_of_each}
use Rattle.resource_tree.specs.Laws.{text_at, IsNoPath, IsGreedyEarly, ClashesWithEarlier}
use Rattle.resource_tree.specs.Reading.{parts_of}
use Rattle.resource_tree.specs.Sharing.{clashes, greedy_last}
use Rattle.resource_tree.proofs.Clashing.{clashing, clash_found}
use Rattle.resource_tree.proofs.Spelled.{read_spelled, spelled_read}

none_some : {X : Type 0} {x : X} → None ≡ Some x → ⊥
none_some e = cc

module _ (earlier : List (List Part)) (at : ℕ) where
  abbrev told : List Part → Bool → Bool → Option TreeFault
  told parts last clash = if not last then Some (GreedyNotLast at) else if clash then Some (Clash at) else None

  not_bad : (parts : List Part) → fault_of_parts earlier at parts ≡ Some (BadPart at) → ⊥
  unfolding fault_of_parts
  not_bad parts e = by_tests (greedy_last parts) (list_any (λ other. clashes other parts) earlier) e
    where
      by_tests : (l c : Bool) → told parts l c ≡ Some (BadPart at) → ⊥
      by_tests false c e = cc
      by_tests true true e = cc
      by_tests true false e = cc

  is_early : (parts : List Part) → fault_of_parts earlier at parts ≡ Some (GreedyNotLast at) → greedy_last parts ≡ false
  unfolding fault_of_parts
  is_early parts e = by_tests (greedy_last parts) (list_any (λ other. clashes other parts) earlier) e
    where
      by_tests : (l c : Bool) → told parts l c ≡ Some (GreedyNotLast at) → l ≡ false
      by_tests false c e = refl
      by_tests true true e = absurd (cc)
      by_tests true false e = absurd (cc)

  early : (parts : List Part) → greedy_last parts ≡ false → fault_of_parts earlier at parts ≡ Some (GreedyNotLast at)
  unfolding fault_of_parts
  early parts e = ap (λ l. told parts l (list_any (λ other. clashes other parts) earlier)) e

  is_clash : (parts : List Part) → fault_of_parts earlier at parts ≡ Some (Clash at) → (greedy_last parts ≡ true) × (list_any (λ other. clashes other parts) earlier ≡ true)
  unfolding fault_of_parts
  is_clash parts e = by_tests (greedy_last parts) (list_any (λ other. clashes other parts) earlier) e
    where
      by_tests : (l c : Bool) → told parts l c ≡ Some (Clash at) → (l ≡ true) × (c ≡ true)
      by_tests false c e = absurd (cc)
      by_tests true true e = (refl, refl)
      by_tests true false e = absurd (cc)

  clash : (parts : List Part) → greedy_last parts ≡ true → list_any (λ other. clashes other parts) earlier ≡ true → fault_of_parts earlier at parts ≡ Some (Clash at)
  unfolding fault_of_parts
  clash parts l c = ap (λ x. told parts x (list_any (λ other. clashes other parts) earlier)) l ∙ ap (λ x. told parts true x) c

-- one of the texts is written with parts that clash
record IsClashAmong (texts : List (List ℕ)) (parts : List Part) : Type 0 where
  k : ℕ
  less : k < length texts
  others : List Part
  read : parts_of (get_or texts k []) ≡ Some others
  is : clashes others parts ≡ true

among : (texts : List (List ℕ)) (parts : List Part) → list_any (λ other. clashes other parts) (parts_of_each texts) ≡ true → IsClashAmong texts parts
among [] parts e = absurd (cc)
among (text ∷ texts) parts e = by_read (parts_of text) refl e (among texts parts)
  where
    later : IsClashAmong texts parts → IsClashAmong (text ∷ texts) parts
    later c = record { k = suc c.k; less = omega (arith, c.less); others = c.others; read = c.read; is = c.is }

    by_clash : (other : List Part) → parts_of text ≡ Some other → (t : Bool) → clashes other parts ≡ t → t || list_any (λ other. clashes other parts) (parts_of_each texts) ≡ true
        → (list_any (λ other. clashes other parts) (parts_of_each texts) ≡ true → IsClashAmong texts parts) → IsClashAmong (text ∷ texts) parts
    by_clash other read true is e ih = record { k = 0; less = omega arith; others = other; read = read; is = is }
    by_clash other read false is e ih = later (ih e)

    by_read : (o : Option (List Part)) → parts_of text ≡ o → list_any (λ other. clashes other parts) (cons_option o (parts_of_each texts)) ≡ true
        → (list_any (λ other. clashes other parts) (parts_of_each texts) ≡ true → IsClashAmong texts parts) → IsClashAmong (text ∷ texts) parts
    by_read None read e ih = later (ih e)
    by_read (Some other) read e ih = by_clash other read (clashes other parts) refl e ih

or_true : (x : Bool) → x || true ≡ true
or_true true = refl
or_true false = refl

found_among : (texts : List (List ℕ)) (k : ℕ) (others parts : List Part) → k < length texts → parts_of (get_or texts k []) ≡ Some others → clashes others parts ≡ true → list_any (λ other. clashes other parts) (parts_of_each texts) ≡ true
found_among [] k others parts less read is = absurd (omega arith)
found_among (text ∷ texts) zero others parts less read is =
    ap (λ o. list_any (λ other. clashes other parts) (cons_option o (parts_of_each texts))) read ∙ ap (λ b. b || list_any (λ other. clashes other parts) (parts_of_each texts)) is
found_among (text ∷ texts) (suc k) others parts less read is = by_read (parts_of text) (found_among texts k others parts (omega arith) read is)
  where
    by_read : (o : Option (List Part)) → list_any (λ other. clashes other parts) (parts_of_each texts) ≡ true → list_any (λ other. clashes other parts) (cons_option o (parts_of_each texts)) ≡ true
    by_read None e = e
    by_read (Some other) e = ap (λ b. clashes other parts || b) e ∙ or_true (clashes other parts)

module _ (texts : List (List ℕ)) (at : ℕ) where
  pub no_path : (fault_at texts at ≡ Some (BadPart at)) ↔ IsNoPath (text_at texts at)
  no_path = (λ e parts spelled. not_bad (parts_of_each (take at texts)) at parts (ap (fault_behind (parts_of_each (take at texts)) at) (sym (spelled_read (text_at texts at) parts spelled)) ∙ e), λ none. by_read none (parts_of (text_at texts at)) refl)
    where
      by_read : IsNoPath (text_at texts at) → (o : Option (List Part)) → parts_of (text_at texts at) ≡ o → fault_behind (parts_of_each (take at texts)) at o ≡ Some (BadPart at)
      by_read none None read = refl
      by_read none (Some parts) read = absurd (none parts (read_spelled (text_at texts at) parts read))

  pub greedy_early : (fault_at texts at ≡ Some (GreedyNotLast at)) ↔ IsGreedyEarly (text_at texts at)
  greedy_early = (λ e. by_read (parts_of (text_at texts at)) refl e, λ g. ap (fault_behind (parts_of_each (take at texts)) at) (spelled_read (text_at texts at) g.parts g.spelled) ∙ early (parts_of_each (take at texts)) at g.parts g.early)
    where
      by_read : (o : Option (List Part)) → parts_of (text_at texts at) ≡ o → fault_behind (parts_of_each (take at texts)) at o ≡ Some (GreedyNotLast at) → IsGreedyEarly (text_at texts at)
      by_read None read e = absurd (cc)
      by_read (Some parts) read e = record { parts = parts; spelled = read_spelled (text_at texts at) parts read; early = is_early (parts_of_each (take at texts)) at parts e }

  pub clashes_earlier : at < length texts → (fault_at texts at ≡ Some (Clash at)) ↔ ClashesWithEarlier texts at
  clashes_earlier within = (λ e. by_read (parts_of (text_at texts at)) refl e, λ c. back c)
    where
      long : length (take at texts) ≡ at
      long = length-take at texts ∙ omega arith

      by_read : (o : Option (List Part)) → parts_of (text_at texts at) ≡ o → fault_behind (parts_of_each (take at texts)) at o ≡ Some (Clash at) → ClashesWithEarlier texts at
      by_read None read e = absurd (cc)
      by_read (Some parts) read e =
          let both = is_clash (parts_of_each (take at texts)) at parts e in
          let found = among (take at texts) parts both.1 in
          let less : found.k < at = omega (arith, found.less, long) in
          let text : text_at (take at texts) found.k ≡ text_at texts found.k = get_or-take at texts found.k [] less in
          record {
            parts = parts;
            spelled = read_spelled (text_at texts at) parts read;
            last = both.0;
            earlier = found.k;
            before = less;
            others = found.others;
            written = read_spelled (text_at texts found.k) found.others (ap parts_of (sym text) ∙ found.read);
            clash = clashing found.others parts found.is;
          }

      back : ClashesWithEarlier texts at → fault_at texts at ≡ Some (Clash at)
      back c =
          let text : text_at (take at texts) c.earlier ≡ text_at texts c.earlier = get_or-take at texts c.earlier [] c.before in
          ap (fault_behind (parts_of_each (take at texts)) at) (spelled_read (text_at texts at) c.parts c.spelled)
          ∙ clash (parts_of_each (take at texts)) at c.parts c.last
          (found_among (take at texts) c.earlier c.others c.parts (omega (arith, c.before, long)) (ap parts_of text ∙ spelled_read (text_at texts c.earlier) c.others c.written) (clash_found c.clash))
