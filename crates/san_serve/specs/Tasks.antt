-- What a program means to do with the bytes that it reads.
use Rattle.std.specs.Prelude.{ℕ, List, Option}
use Rattle.san_text.specs.declared.text.Refusal.{Refusal}
use Rattle.san_serve.specs.declared.bound.Bound.{Bound}
use Rattle.san_serve.specs.declared.task.Served.{Served}

-- how many bytes it serves; which it refuses, and why; by what serving them came to, what holds of them, and of what the sink held and holds
pub record TaskMeaning : Type 1 where
  pub bound : Bound
  pub refuses : List ℕ → Refusal → Type 0
  pub says : Served → List ℕ → Option (List ℕ) → Option (List ℕ) → Type 0
