-- A generator for each of the first streams that is drawn from.
use Rattle.std.specs.Prelude.{ℕ, suc, ◌≡◌, List, [], ◌∷◌, Option, Some, None}
use Rattle.std.specs.Global.{Box}
use Rattle.rand_chacha.specs.ChaCha.{ChaCha, key_of}
use Rattle.san_draw.specs.Key.{key_bytes}

-- the seed, and how many streams there are
pub record Seeded : Type 0 where
  pub seed : ℕ
  pub streams : ℕ

-- the generator that is kept of a stream, if one is, is of this seed and this stream
abbrev pub IsGeneratorOf : ℕ → ℕ → Option (Box ChaCha) → Type 0
IsGeneratorOf seed stream None = Unit {0}
IsGeneratorOf seed stream (Some g) = (g.value.key ≡ key_of (key_bytes seed)) × (g.value.stream ≡ stream)

-- the generators are of this seed, and of the streams from a number on
abbrev pub AreOf : ℕ → ℕ → List (Option (Box ChaCha)) → Type 0
AreOf seed stream [] = Unit {0}
AreOf seed stream (g ∷ gs) = IsGeneratorOf seed stream g × AreOf seed (suc stream) gs
