-- Worked rows, by computation.
use Rattle.std.proofs.Common.{◌≡◌, refl, None, Some}
use Rattle.std.specs.Prelude.{pos}
use Rattle.san_law.specs.Reward.{Beyond, Faulted, Mean, Sum}
use Rattle.san_reward.specs.Examples.{counting_to, three_ticks, two_ticks, with_rates, worth_at}

pub sum_and_impulses : worth_at (three_ticks (counting_to 10)) 0 ≡ Sum (pos 27)
sum_and_impulses = refl

pub mean_of_ten : worth_at (three_ticks (counting_to 10)) 1 ≡ Mean (pos 27) 10
mean_of_ten = refl

pub one_tick : worth_at (three_ticks (counting_to 10)) 2 ≡ Sum (pos 2)
one_tick = refl

pub beyond : worth_at (two_ticks (counting_to 8)) 0 ≡ Beyond
beyond = refl

pub one_tick_within : worth_at (two_ticks (counting_to 8)) 2 ≡ Sum (pos 2)
one_tick_within = refl

pub faulted : worth_at (three_ticks (with_rates (counting_to 10) None (Some (pos 0)))) 0 ≡ Faulted
faulted = refl

pub others_stay : worth_at (three_ticks (with_rates (counting_to 10) None (Some (pos 0)))) 1 ≡ Mean (pos 27) 10
others_stay = refl

pub beyond_before_fault : worth_at (two_ticks (with_rates (counting_to 8) None (Some (pos 0)))) 0 ≡ Beyond
beyond_before_fault = refl
