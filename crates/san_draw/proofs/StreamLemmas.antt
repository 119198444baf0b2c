-- Generators of streams, of some streams one.
use Rattle.std.proofs.Common.{ℕ, zero, suc, ◌+◌, ◌*◌, ◌^◌, ◌<◌, ◌≡◌, List, [], ◌∷◌, ◌++◌, length, get_or, slice_set, Option, arith, subst}
use Rattle.std.specs.Global.{Box}
use Rattle.rand_chacha.specs.ChaCha.{ChaCha, key_of, word_at}
use Rattle.san_draw.specs.Key.{draw_of, key_bytes}
use Rattle.san_draw.specs.Streams.{AreOf, IsGeneratorOf}

-- one more, of the next stream
pub are_more : (seed stream : ℕ) (gs : List (Option (Box ChaCha))) (g : Option (Box ChaCha))
    → AreOf seed stream gs → IsGeneratorOf seed (stream + length gs) g → AreOf seed stream (gs ++ g ∷ [])
are_more seed stream [] g a i = (subst (λ s. IsGeneratorOf seed s g) (omega arith) i, tt)
are_more seed stream (x ∷ gs) g a i = (a.0, are_more seed (suc stream) gs g a.1 (subst (λ s. IsGeneratorOf seed s g) (omega arith) i))

-- each is of its stream
pub are_at : (seed stream : ℕ) (gs : List (Option (Box ChaCha))) (i : ℕ) (d : Option (Box ChaCha)) → AreOf seed stream gs → i < length gs → IsGeneratorOf seed (stream + i) (get_or gs i d)
are_at seed stream [] i d a h = absurd (omega arith)
are_at seed stream (g ∷ gs) zero d a h = subst (λ s. IsGeneratorOf seed s g) (omega arith) a.0
are_at seed stream (g ∷ gs) (suc i) d a h = subst (λ s. IsGeneratorOf seed s (get_or gs i d)) (omega arith) (are_at seed (suc stream) gs i d a.1 (omega arith))

-- one that went on in its stream
pub are_set : (seed stream : ℕ) (gs : List (Option (Box ChaCha))) (i : ℕ) (g : Option (Box ChaCha))
    → AreOf seed stream gs → IsGeneratorOf seed (stream + i) g → AreOf seed stream (slice_set gs i g)
are_set seed stream [] i g a k = tt
are_set seed stream (x ∷ gs) zero g a k = (subst (λ s. IsGeneratorOf seed s g) (omega arith) k, a.1)
are_set seed stream (x ∷ gs) (suc i) g a k = (a.0, are_set seed (suc stream) gs i g a.1 (subst (λ s. IsGeneratorOf seed s g) (omega arith) k))

-- a draw of the same key and stream is the same
pub draw_is : (seed s : ℕ) (key : List ℕ) (stream k : ℕ) → key ≡ key_of (key_bytes seed) → stream ≡ s
    → word_at 10 key stream (2 * k) + 2 ^ 32 * word_at 10 key stream (2 * k + 1) ≡ draw_of seed s k
draw_is seed s key stream k e f = cc
