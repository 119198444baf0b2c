-- Draws that are free, and draws that aren't.
use Rattle.std.proofs.Common.{ℕ, ◌≤◌, ◌≡◌, refl, arith, List, [], ◌∷◌, true, Ok, Err}
use Rattle.std.specs.Prelude.{nat_eq, if◌then◌else◌}
use Rattle.san_base.specs.declared.ending.Trap.TheVariants as trap
use Rattle.san_legal.proofs.Computed.{no_trap, same_ticks}
use Rattle.san_legal.specs.Examples.{twice, undecided}
use Rattle.san_legal.specs.Free.{AreDelays, IsFree}
use Rattle.san_legal.specs.FreeRuns.{HasOwnStreams}

pub three_ticks : AreDelays (λ u v. Ok 3)
three_ticks = record {
  some = λ u ticks v h e. (let is = same_ticks 3 ticks e in omega (arith, is));
  traps = λ u w v t hu hw e. absurd (no_trap 3 t e);
}

pub zero_ticks : AreDelays (λ u v. Ok 0) → ⊥
zero_ticks are = let some : 1 ≤ 0 = are.some 0 0 [] (omega arith) refl in absurd (omega (arith, some))

pub one_draw_traps : AreDelays (λ u v. if nat_eq u 0 then Err trap.Delay else Ok 3) → ⊥
one_draw_traps are = no_trap 3 trap.Delay (are.traps 0 1 [] trap.Delay (omega arith) (omega arith) refl)

zero_is_one : (let vs : List ℕ = 0 ∷ [] in vs) ≡ 1 ∷ [] → ⊥
zero_is_one e = cc

pub undecided_not_free : IsFree undecided → ⊥
undecided_not_free free =
    let same : (let vs : List ℕ = 0 ∷ [] in vs) ≡ (1 ∷ []) = free.cases 0 1 [] (record { case = 0; values = 0 ∷ []; sets = λ p. true }) (record { case = 0; values = 1 ∷ []; sets = λ p. true }) refl refl refl in
    zero_is_one same

pub twice_not_own : HasOwnStreams twice → ⊥
twice_not_own own =
    let first : own.leaf_of 0 ≡ 0 = own.leaf 0 0 (omega arith) in
    let second : own.leaf_of 0 ≡ 1 = own.leaf 1 0 (omega arith) in
    absurd (omega (arith, first, second))
