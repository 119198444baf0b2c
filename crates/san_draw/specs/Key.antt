-- The draws of a seed: words of a ChaCha20 stream.
use Rattle.std.specs.Prelude.{ℕ, ◌+◌, ◌*◌, ◌^◌, List, ◌++◌, replicate}
use Rattle.std.specs.Int.{w64, to_le_bytes}
use Rattle.rand_chacha.specs.ChaCha.{word_at, key_of}

-- the seed as 8 bytes, least first, and 24 zero bytes
abbrev pub key_bytes : ℕ → List ℕ
key_bytes seed = to_le_bytes w64 seed ++ replicate 24 0

-- draw k of a stream: word 2k, and 2^32 times word 2k + 1; ChaCha20 has ten double rounds
abbrev pub draw_of : ℕ → ℕ → ℕ → ℕ
draw_of seed stream k =
    word_at 10 (key_of (key_bytes seed)) stream (2 * k)
    + 2 ^ 32 * word_at 10 (key_of (key_bytes seed)) stream (2 * k + 1)
