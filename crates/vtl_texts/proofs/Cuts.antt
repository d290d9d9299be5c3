-- Where one text first stands in another.
use Rattle.std.proofs.Common.{◌≡◌, ◌≢◌, ℕ, zero, suc, ◌<◌, ◌≤◌, List, [], ◌∷◌, ◌++◌, length, take, drop, Option, Some, None, MatchOption, Bor, refl, sym, ap, subst, arith, eq-eqb, inl, inr}
use Rattle.std.specs.Option.{option_map}
use Rattle.std.specs.Str.Pattern.{FindsText, LacksTextAt, SplitsAroundMatch}
use Rattle.std.proofs.lemmas.Bool.Decides.{eqb_tells}
use Rattle.std.proofs.lemmas.Option.{none-some, same_Some}
use Rattle.vtl_texts.specs.Places.{behind, earliest, cut}

-- a text that begins with s, and the other way
pub behind_front : (s rest : List ℕ) → behind s (s ++ rest) ≡ Some rest
behind_front [] rest = refl
behind_front (c ∷ s) rest = rw (eq-eqb c c refl) (behind_front s rest)

pub behind_splits : (s t rest : List ℕ) → behind s t ≡ Some rest → t ≡ s ++ rest
behind_splits [] t rest e = same_Some t rest e
behind_splits (c ∷ s) [] rest e = absurd (none-some rest e)
behind_splits (c ∷ s) (b ∷ t) rest e = elim (eqb_tells b c) [
  | inl w ↦ let h = behind_splits s t rest (rw w.0 at e) in cc (w.1, h)
  | inr w ↦ absurd (none-some rest (rw w.0 at e))
]

pub behind_of : (s t rest : List ℕ) → t ≡ s ++ rest → behind s t ≡ Some rest
behind_of s t rest e = subst (λ (u : List ℕ). behind s u ≡ Some rest) (sym e) (behind_front s rest)

behind_none_by : (s t : List ℕ) (o : Option (List ℕ)) → behind s t ≡ o → ((rest : List ℕ) → t ≢ s ++ rest) → o ≡ None
behind_none_by s t None e lacks = refl
behind_none_by s t (Some rest) e lacks = absurd (lacks rest (behind_splits s t rest e))

pub behind_none : (s t : List ℕ) → ((rest : List ℕ) → t ≢ s ++ rest) → behind s t ≡ None
behind_none s t lacks = behind_none_by s t (behind s t) refl lacks

-- what a cut says of the text
splits_nil : (s : List ℕ) (o : Option (List ℕ)) (c : List ℕ × List ℕ) → behind s [] ≡ o → option_map (λ rest. ([], rest)) o ≡ Some c → [] ≡ c.0 ++ (s ++ c.1)
splits_nil s None c h e = absurd (none-some c e)
splits_nil s (Some rest) c h e =
    subst (λ (d : List ℕ × List ℕ). [] ≡ d.0 ++ (s ++ d.1)) (same_Some ([], rest) c e) (behind_splits s [] rest h)

splits_cons : (b : ℕ) (t s : List ℕ) (o : Option (List ℕ)) (later : Option (List ℕ × List ℕ)) (c : List ℕ × List ℕ) → behind s (b ∷ t) ≡ o → ((d : List ℕ × List ℕ) → later ≡ Some d → t ≡ d.0 ++ (s ++ d.1)) → earliest b o later ≡ Some c → b ∷ t ≡ c.0 ++ (s ++ c.1)
splits_cons b t s (Some rest) later c h ih e =
    subst (λ (d : List ℕ × List ℕ). b ∷ t ≡ d.0 ++ (s ++ d.1)) (same_Some ([], rest) c e) (behind_splits s (b ∷ t) rest h)
splits_cons b t s None None c h ih e = absurd (none-some c e)
splits_cons b t s None (Some d) c h ih e =
    subst (λ (f : List ℕ × List ℕ). b ∷ t ≡ f.0 ++ (s ++ f.1)) (same_Some (b ∷ d.0, d.1) c e) (ap (λ (u : List ℕ). b ∷ u) (ih d refl))

pub cut_splits : (t s : List ℕ) (c : List ℕ × List ℕ) → cut t s ≡ Some c → t ≡ c.0 ++ (s ++ c.1)
cut_splits [] s c e = splits_nil s (behind s []) c refl e
cut_splits (b ∷ t) s c e = splits_cons b t s (behind s (b ∷ t)) (cut t s) c refl (cut_splits t s) e

-- the first place is where the text is cut
pub cut_at : (t s : List ℕ) (i : ℕ) (rest : List ℕ) → ((k : ℕ) → k < i → LacksTextAt s t k) → drop i t ≡ s ++ rest → i ≤ length t → cut t s ≡ Some (take i t, rest)
cut_at [] s zero rest lacks e fits = rw (behind_of s [] rest e)
cut_at [] s (suc i) rest lacks e fits = absurd (omega arith)
cut_at (b ∷ t) s zero rest lacks e fits = rw (behind_of s (b ∷ t) rest e)
cut_at (b ∷ t) s (suc i) rest lacks e fits =
    let here : behind s (b ∷ t) ≡ None = behind_none s (b ∷ t) (lacks 0 (omega arith)) in
    let later : cut t s ≡ Some (take i t, rest) = cut_at t s i rest (λ k l. lacks (suc k) (omega arith)) e (omega arith) in
    rw (here, later)

pub cut_none : (t s : List ℕ) → ((i : ℕ) → i ≤ length t → LacksTextAt s t i) → cut t s ≡ None
cut_none [] s lacks = rw (behind_none s [] (lacks 0 (omega arith)))
cut_none (b ∷ t) s lacks =
    let here : behind s (b ∷ t) ≡ None = behind_none s (b ∷ t) (lacks 0 (omega arith)) in
    let later : cut t s ≡ None = cut_none t s (λ i l. lacks (suc i) (omega arith)) in
    rw (here, later)

-- what `split_once` gives
pub split_once_cut : (t s : List ℕ) (r : Option (Bor (List ℕ) × Bor (List ℕ))) → MatchOption r (FindsText s t None) (λ x. SplitsAroundMatch (FindsText s) t x.0.now x.1.now) → option_map (λ c. (c.0.now, c.1.now)) r ≡ cut t s
split_once_cut t s None h = sym (cut_none t s h)
split_once_cut t s (Some x) h =
    let found = cut_at t s h.0 (drop h.1 t) h.2.0 h.2.1.split (omega (arith, h.4, ap length h.3)) in
    rw (h.3, h.4) (sym found)
