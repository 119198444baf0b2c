use Rattle.std.proofs.Common.{arith, refl, sym, subst, ◌<◌, ◌≡◌, ◌∷◌, [], List, Bool, length}
use Rattle.san_seq.specs.inner.Known.{IsTouched}
use Rattle.san_seq.proofs.TouchLemmas.{touched_itself, touched_raised}
use Rattle.san_seq.proofs.stale.touch_place.Goals as goal

pub returns-then-was-is-clause-touched : goal.returns-then-was-is-clause-touched
returns-then-was-is-clause-touched c =
    let place = c.args.place.0 in
    let stable = c.args.stable.now in
    let m = c.args.marking.now in
    let h : place < length c.args.stale.now.places = omega (arith, c.requires.place, c.requires.stable) in
    record {
      settled = refl;
      timers = touched_raised c.args.wakes.now.timers place stable m c.timers.result.now c.args.stale.now.timers c.raise_bands.new.flags c.timers.ensures c.raise_bands.ensures;
      places = subst (λ (fs : List Bool). IsTouched (λ q weight j. (q ≡ j) × (weight ≡ 0)) (place ∷ []) stable m c.args.stale.now.places fs) (sym c.raise.ensures) (touched_itself place stable m c.args.stale.now.places h);
    }
