use Rattle.std.proofs.Common.{◌≡◌, ◌≤◌, ◌<◌, ◌+◌, ℕ, List, length, map, not, take, drop, slice_index}
use Rattle.std.specs.Option.{option_map}
use Rattle.san_draw.specs.Key.{draw_of}
use Rattle.san_law.specs.Clocks.{same_list}
use Rattle.san_clock.specs.Rows.{timer_in}
use Rattle.san_clock.specs.inner.Renewals.{renewed_named}
use Rattle.san_clock.proofs.RenewalLemmas.{behind}
use Rattle.san_clock.proofs.renewal.renew_acts.Given as goal

abbrev pub invariant-acts : goal.invariant-acts
invariant-acts g l = record {
  clocks : (seen : List ℕ) → l.renewal.changed ≡ not (same_list seen (g.V.PlainView.values l.fn.view))
      → renewed_named (draw_of (g.D.DrawSource.seed l.fn.draws)) l.first l.renewal.time seen (g.V.PlainView.values l.fn.view) 0 l.acts (map (option_map timer_in) l.fn.timers) l.fn.delays
      ≡ behind (map (option_map timer_in) (take l.k l.timers)) (take l.k l.delays)
      (renewed_named (draw_of (g.D.DrawSource.seed l.fn.draws)) l.first l.renewal.time seen (g.V.PlainView.values l.fn.view) l.k (drop l.k l.acts) (map (option_map timer_in) (drop l.k l.timers)) (drop l.k l.delays));
  left : (i : ℕ) → l.k ≤ i → slice_index l.delays i ≡ slice_index l.fn.delays i;
  numbers : (most : ℕ) → ((j : ℕ) → j < length l.fn.delays → slice_index l.fn.delays j ≤ most) → (i : ℕ) → i < length l.delays → slice_index l.delays i ≤ most + 1;
  timers : length l.timers ≡ length l.acts;
  delays : length l.delays ≡ length l.acts;
  same : g.V.PlainView.values l.view ≡ g.V.PlainView.values l.fn.view;
  draws : l.draws ≡ l.fn.draws;
}
