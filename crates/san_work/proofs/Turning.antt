-- How a pass's numbers move over several turns.
use Rattle.std.proofs.Common.{ℕ, ◌+◌, ◌-◌, ◌^◌, ◌≤◌, ◌<◌, ◌⊎◌, inl, inr, arith}
use Rattle.std.proofs.lemmas.Bool.{cases_lt}
use Rattle.san_speculation.specs.Boards.{risen}
use Rattle.san_work.specs.Turns.{IsRaisedBy}

-- one more, after so many
pub raised_more : (a n b : ℕ) → IsRaisedBy a n b → IsRaisedBy a (n + 1) (risen b)
raised_more a n b (inl e) = by_case (cases_lt (a + n) (2 ^ 64 - 1))
  where
    by_case : (a + n < 2 ^ 64 - 1) ⊎ (2 ^ 64 - 1 ≤ a + n) → IsRaisedBy a (n + 1) (risen b)
    by_case (inl l) = inl (omega (arith, e, l))
    by_case (inr l) = inr (omega (arith, e, l), omega (arith, l))
raised_more a n b (inr h) = let g = h.0 in let l = h.1 in inr (omega (arith, g), omega (arith, l))
