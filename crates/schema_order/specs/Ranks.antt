-- An order in which each thing comes behind what it stands on.
use Rattle.std.specs.Prelude.{◌≡◌, ◌<◌, ◌+◌, ◌⊎◌, ℕ, suc, List, [], ◌∷◌, length, slice_index, ◌==◌, if◌then◌else◌}
use Rattle.schema_order.specs.Leads.{IsAmong, Leads, edges_of}

-- each thing has a rank below their number, and comes behind those that it stands on
pub record AreRanked (es : List (List ℕ)) (ranks : List ℕ) : Type 0 where
  pub all : length ranks ≡ length es
  pub few : (k : ℕ) → k < length es → slice_index ranks k < length es
  pub after : (k s : ℕ) → k < length es → s < length es → IsAmong s (edges_of es k) → slice_index ranks s < slice_index ranks k

-- a thing stands on what leads back to it
pub record ComesRound (es : List (List ℕ)) : Type 0 where
  pub thing : ℕ
  pub next : ℕ
  pub stands : IsAmong next (edges_of es thing)
  pub back : Leads es next thing

-- how many have no rank yet, which their number stands for
abbrev pub waiting : ℕ → List ℕ → ℕ
waiting n [] = 0
waiting n (r ∷ rs) = if r == n then suc (waiting n rs) else waiting n rs

-- some things are ranked, each behind those that it stands on, and the next rank is this
pub record AreRankedSoFar (es : List (List ℕ)) (ranks : List ℕ) (next : ℕ) : Type 0 where
  pub all : length ranks ≡ length es
  pub count : next + waiting (length es) ranks ≡ length es
  pub low : (k : ℕ) → k < length es → (slice_index ranks k ≡ length es) ⊎ (slice_index ranks k < next)
  pub after : (k s : ℕ) → k < length es → slice_index ranks k < length es → s < length es → IsAmong s (edges_of es k) → slice_index ranks s < slice_index ranks k

-- a thing has no rank
pub record IsWaiting (ranks : List ℕ) (k : ℕ) : Type 0 where
  pub stands : k < length ranks
  pub unranked : slice_index ranks k ≡ length ranks

-- none of these waits
abbrev pub AreReady : List ℕ → List ℕ → Type 0
AreReady ranks ks = (s : ℕ) → IsAmong s ks → IsWaiting ranks s → ⊥

-- one of these waits
pub record IsBlocked (ranks ks : List ℕ) : Type 0 where
  pub by : ℕ
  pub named : IsAmong by ks
  pub waits : IsWaiting ranks by

-- a thing waits, but for none
pub record IsNext (es : List (List ℕ)) (ranks : List ℕ) (k : ℕ) : Type 0 where
  pub waits : IsWaiting ranks k
  pub ready : AreReady ranks (edges_of es k)

-- each that waits does so for one that waits
abbrev pub AreBlocked : List (List ℕ) → List ℕ → Type 0
AreBlocked es ranks = (k : ℕ) → IsWaiting ranks k → IsBlocked ranks (edges_of es k)
