-- How many pieces stand in the chains, how many claims are held, what a journal counts.
use Rattle.std.proofs.Common.{ℕ, zero, suc, ◌+◌, ◌*◌, ◌<◌, ◌≤◌, ◌≡◌, List, [], ◌∷◌, ◌++◌, length, Option, Some, None, arith, slice_set}
use Rattle.std.proofs.Math.Nat.{suc-mul}
use Rattle.san_base.specs.declared.limits.TheConstants.{MAX_CELLS}
use Rattle.san_book.specs.Chains.{Chain, chain_of}
use Rattle.san_book.specs.Cores.{Pending, Step}
use Rattle.san_book.specs.Journals.{counted}
use Rattle.san_book.specs.Bounds.{claims_by, claims_in, pieces_in, steps_of}

pub pieces_set : {P : Type 0} (chains : List (Chain P)) (j : ℕ) (c : Chain P) → j < length chains → pieces_in (slice_set chains j c) + length (chain_of chains j) ≡ pieces_in chains + length c
pieces_set [] j c h = absurd (omega (arith, h))
pieces_set (x ∷ xs) zero c h = omega arith
pieces_set (x ∷ xs) (suc j) c h = omega (arith, pieces_set xs j c (omega (arith, h)))

pub pieces_short : {P : Type 0} (chains : List (Chain P)) (w : ℕ) → ((j : ℕ) → length (chain_of chains j) ≤ w) → pieces_in chains ≤ length chains * w
pieces_short [] w h = omega arith
pieces_short (x ∷ xs) w h = let k : length x ≤ w = h 0 in let r : pieces_in xs ≤ length xs * w = pieces_short xs w (λ j. h (suc j)) in omega (arith, k, r, suc-mul (length xs) w)

pub claims_short : (claims : List (Option Pending)) → claims_in claims ≤ length claims
claims_short [] = omega arith
claims_short (None ∷ os) = omega (arith, claims_short os)
claims_short (Some p ∷ os) = omega (arith, claims_short os)

pub steps_short : (claims : List (Option Pending)) → claims_by steps_of claims ≤ (MAX_CELLS + 2) * length claims
steps_short [] = omega arith
steps_short (None ∷ os) = let r : claims_by steps_of os ≤ (MAX_CELLS + 2) * length os = steps_short os in omega (arith, r)
steps_short (Some p ∷ os) = let r : claims_by steps_of os ≤ (MAX_CELLS + 2) * length os = steps_short os in omega (arith, r)

pub counted_more : (f : Step → ℕ) (ss : List Step) (s : Step) → counted f (ss ++ s ∷ []) ≡ counted f ss + f s
counted_more f [] s = omega arith
counted_more f (x ∷ xs) s = let r : counted f (xs ++ s ∷ []) ≡ counted f xs + f s = counted_more f xs s in omega (arith, r)
