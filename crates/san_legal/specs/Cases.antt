-- The cases that some draw chooses in a marking.
use Rattle.std.specs.Prelude.{ℕ, ◌^◌, ◌<◌, ◌≡◌, ◌↔◌, true, List, sum, slice_index, Option, Some, Ok, Err}
use Rattle.san_base.specs.declared.ending.Trap.{Trap}
use Rattle.san_net.specs.Choice.{all_natural, case_of, is_total, weights_of}
use Rattle.san_net.specs.declared.activity.Case.{Case}

-- some draw chooses a case
abbrev pub IsChosen : List Case → List ℕ → ℕ → Type 0
IsChosen cases values k = (u : ℕ) × (u < 2 ^ 64) × ((case_of u cases values).answer ≡ Ok k)

-- its weight is positive; all weights are natural numbers, whose sum is in its bounds
pub record IsWeighted (cases : List Case) (values : List ℕ) (k : ℕ) : Type 0 where
  pub answers : List (Option ℕ)
  pub weights : List ℕ
  pub evaluated : (weights_of cases values).answer ≡ Ok answers
  pub natural : all_natural answers ≡ Some weights
  pub total : is_total (sum weights) ≡ true
  pub some : 0 < slice_index weights k

abbrev pub CasesAreDrawn : List Case → Type 0
CasesAreDrawn cases = (values : List ℕ) (k : ℕ) → IsChosen cases values k ↔ IsWeighted cases values k

-- a choice traps whatever the draw
abbrev pub ChoicesTrapAlike : List Case → Type 0
ChoicesTrapAlike cases = (values : List ℕ) (u w : ℕ) (trap : Trap) → (case_of u cases values).answer ≡ Err trap → (case_of w cases values).answer ≡ Err trap
