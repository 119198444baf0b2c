-- Lists in which nothing stands twice.
use Rattle.std.specs.Prelude.{ℕ, ◌≡◌, List, Some, slice_get}

-- what stands at two places stands at one
abbrev pub AreApart : {X : Type 0} → List X → Type 0
AreApart {X} xs = (i j : ℕ) (x : X) → slice_get xs i ≡ Some x → slice_get xs j ≡ Some x → i ≡ j
