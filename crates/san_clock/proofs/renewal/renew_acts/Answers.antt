use Rattle.std.proofs.Common.{arith, ◌∙◌, ap, sym, refl, not, ℕ, List, ◌+◌, ◌*◌, slice_index, slice_index_or, None}
use Rattle.std.proofs.lemmas.List.{length-set}
use Rattle.san_draw.specs.Key.{draw_of}
use Rattle.san_law.specs.Clocks.{same_list}
use Rattle.san_net.specs.Instants.{Named}
use Rattle.san_clock.specs.inner.Clocks.{clock_by, renewed_in}
use Rattle.san_clock.proofs.RenewalLemmas.{at_any, left_one, more_by, numbered, renewed}
use Rattle.san_clock.proofs.renewal.renew_acts.Goals as goal

pub returns-in-Err-clause-numbers : goal.returns-in-Err-clause-numbers
returns-in-Err-clause-numbers g c = λ most all k d h.
    omega (arith, at_any c.acts.delays k d h, c.acts.invariant.numbers most (λ j b. all j 0 b) k h)

pub returns-clause-numbers : goal.returns-clause-numbers
returns-clause-numbers g c = λ most all k d h.
    omega (arith, at_any c.acts.delays k d h, c.acts.invariant.numbers most (λ j b. all j 0 b) k h)

pub acts-preserved : goal.acts-preserved
acts-preserved g c =
    let seed = g.D.DrawSource.seed c.args.draws.now in
    let values = g.V.PlainView.values c.args.view.now in
    let sized = c.acts.invariant.delays ∙ sym c.requires.delays in
    let a : Named = c.index-acts-k.result in
    let t = slice_index_or c.acts.timers c.acts.k None in
    let n = slice_index c.acts.delays c.acts.k in
    record {
      clocks = λ seen e. c.acts.invariant.clocks seen e ∙ renewed (draw_of seed) c.args.first c.args.renewal.now.time seen values c.args.acts.now c.acts.timers c.acts.delays c.acts.k
          a t n _ None c.acts-test.true (omega (arith, c.acts-test.true, c.acts.invariant.timers)) (omega (arith, c.acts-test.true, c.acts.invariant.delays)) c.index-acts-k.is refl refl c.in-Ok.clock
          (ap clock_by (sym c.in-Ok.is) ∙ c.renew_act.ensures.clock seen (e ∙ ap (λ (v : List ℕ). not (same_list seen v)) (sym c.acts.invariant.same))
          ∙ ap (λ (v : List ℕ). renewed_in (draw_of (g.D.DrawSource.seed c.acts.draws) (2 * (c.args.first + c.acts.k))) c.args.renewal.now.time seen v a.1 (t, n)) c.acts.invariant.same
          ∙ ap (λ (s : ℕ). renewed_in (draw_of s (2 * (c.args.first + c.acts.k))) c.args.renewal.now.time seen values a.1 (t, n)) (ap g.D.DrawSource.seed c.acts.invariant.draws));
      left = left_one c.args.delays.now c.acts.delays c.acts.k _ c.acts.invariant.left;
      numbers = λ most before. numbered c.args.delays.now c.acts.delays c.acts.k _ most (omega (arith, c.acts-test.true, c.acts.invariant.delays)) c.acts.invariant.left sized (more_by c.renew_act.result c.in-Ok.clock _ c.in-Ok.is c.renew_act.ensures.number) before (c.acts.invariant.numbers most before);
      timers = length-set c.acts.timers c.acts.k _ ∙ c.acts.invariant.timers;
      delays = length-set c.acts.delays c.acts.k _ ∙ c.acts.invariant.delays;
      same = c.renew_act.ensures.same ∙ c.acts.invariant.same;
      draws = c.renew_act.ensures.draws ∙ c.acts.invariant.draws;
    }
