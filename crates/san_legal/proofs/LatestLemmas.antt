-- The latest due time.
use Rattle.std.proofs.Common.{ℕ, ◌+◌, ◌<◌, ◌≤◌, ◌≡◌, ◌⊎◌, inl, inr, refl, subst, arith, Some, Ok}
use Rattle.std.proofs.lemmas.Bool.{cases_lt}
use Rattle.san_delay.proofs.LongestLemmas.{longest_is}
use Rattle.san_delay.specs.Longest.{IsLongest, IsNoLonger}
use Rattle.san_expr.specs.Delay.{Ticks, delay_of}
use Rattle.san_expr.specs.declared.dist.Dist.{Dist}
use Rattle.san_law.specs.Activity.{Timed}
use Rattle.san_law.specs.Renewal.{Due}
use Rattle.san_legal.specs.Kept.{HasOne, IsLater}
use Rattle.san_legal.specs.Latest.{LatestDecides}

-- later still
still_later : (b : Due) (j i due last : ℕ) → due ≤ last → IsLater b j i due → IsLater b j i last
still_later b j i due last h (inl l) = inl (omega (arith, h, l))
still_later b j i due last h (inr l) = by_order (cases_lt b.time last)
  where
    by_order : (b.time < last) ⊎ (last ≤ b.time) → IsLater b j i last
    by_order (inl g) = inl g
    by_order (inr g) = let e : b.time ≡ due = l.0 in inr (omega (arith, h, e, g), l.1)

pub latest_decides : (d : Dist) → LatestDecides d
latest_decides d sound b j i pair x longest is = (to, from)
  where
    longer : IsLongest (λ u. (delay_of d u x.values).answer) (Ok longest)
    longer = subst (IsLongest (λ u. (delay_of d u x.values).answer)) is (longest_is d x.values sound)

    to : HasOne b j i (Timed (λ u v. (delay_of d u v).answer) pair) (Some x) → IsLater b j i (x.since + longest)
    to has =
        let may = has.1 in
        let most : may.ticks ≤ longest = subst (λ (t : Ticks). IsNoLonger t (Ok longest)) may.given.2 (longer.most may.given.0 may.given.1) in
        still_later b j i has.0 (x.since + longest) (omega (arith, may.is, most)) may.later

    from : IsLater b j i (x.since + longest) → HasOne b j i (Timed (λ u v. (delay_of d u v).answer) pair) (Some x)
    from later = (x.since + longest, record { ticks = longest; given = longer.given; is = refl; later = later })
