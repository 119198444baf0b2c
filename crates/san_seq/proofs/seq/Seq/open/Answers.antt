use Rattle.std.proofs.Common.{arith, length, ap, sym, ◌∙◌}
use Rattle.san_clock.proofs.DrawnLemmas.{two_of_all}
use Rattle.san_draw.specs.Key.{draw_of}
use Rattle.san_net.specs.Runs.{limits_in}
use Rattle.san_seq.proofs.KnownLemmas.{all_are_stale}
use Rattle.san_seq.proofs.OpenLemmas.{begun_is, state_is, state_runs}
use Rattle.san_seq.proofs.seq.Seq.open.Goals as goal

pub invariant_of-result : goal.invariant_of-result
invariant_of-result c =
    let many = ap (λ s. s.streams) c.in_ok-streams.ensures ∙ ap length c.deref.ensures.value ∙ ap length c.in_ok-drawn.ensures ∙ two_of_all c.args.flat.now.parts in
    record {
      range = c.requires;
      draws = omega (arith, many);
      run_phase = (
        state_runs c.args.flat.now c.args.limits c.in_ok-marking.marking.items c.in_ok-stable.stable.items c.in_ok-rows.rows c.in_ok-marking.ensures c.in_ok-stable.ensures c.in_ok-rows.ensures,
        all_are_stale c.args.flat.now c.in_ok-wakes.wakes c.in_ok-stale.stale _ c.in_ok-wakes.ensures c.in_ok-stale.ensures.settled c.in_ok-stale.ensures.timers c.in_ok-stale.ensures.places c.in_ok-stale.ensures.awake (c.in_ok-stable.ensures ∙ sym c.in_ok-marking.ensures),
      );
    }

pub returns : goal.returns
returns c =
    begun_is c.args.flat.now c.args.limits c.in_ok-streams.streams.seed c.args.seed _
    (ap (λ s. s.seed) c.in_ok-streams.ensures)
    (state_is c.args.flat.now (draw_of c.args.seed) (limits_in c.args.limits) c.in_ok-marking.marking.items c.in_ok-stable.stable.items c.in_ok-rows.rows c.in_ok-marking.ensures c.in_ok-stable.ensures c.in_ok-rows.ensures)
