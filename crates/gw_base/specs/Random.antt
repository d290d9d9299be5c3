-- The words of SplitMix64 (Steele, Lea and Flood, "Fast splittable pseudorandom number generators", 2014): sums and products wrap at 64 bits.
use Rattle.std.specs.Prelude.{ℕ, ◌+◌, ◌*◌, ◌/◌, ◌%◌, ◌^◌, bit_xor}

-- the state after a word
abbrev pub next_state : ℕ → ℕ
next_state state = (state + 0x9E3779B97F4A7C15) % 2 ^ 64

-- the bits mixed with those that stand so many places higher, times a factor
abbrev pub mixed : ℕ → ℕ → ℕ → ℕ
mixed places factor z = (bit_xor z (z / 2 ^ places) * factor) % 2 ^ 64

-- the word of a state
abbrev pub word_of : ℕ → ℕ
word_of state =
    let z = mixed 27 0x94D049BB133111EB (mixed 30 0xBF58476D1CE4E5B9 state) in
    bit_xor z (z / 2 ^ 31)
