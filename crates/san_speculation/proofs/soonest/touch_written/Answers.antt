use Rattle.std.proofs.Common.{ℕ, List, Option, ap, arith, drop, length, sym, ◌+◌, ◌<◌, ◌∙◌}
use Rattle.san_base.specs.declared.numbers.LeafId.{LeafId}
use Rattle.san_base.specs.declared.numbers.PlaceId.{PlaceId}
use Rattle.san_speculation.specs.inner.Soonest.{touched, touched_all}
use Rattle.san_speculation.proofs.Soonests.{all_next, touched_all_next, touched_long}
use Rattle.san_speculation.proofs.soonest.touch_written.Goals as goal

pub written-preserved : goal.written-preserved
written-preserved c =
    let keys = c.written.soonest in let i = c.written.write-index in let writes = c.args.written.now in let parts = c.args.network.now.parts in
    let is = c.touch_leaves.ensures ∙ ap (λ (leaves : List LeafId). touched leaves keys) c.importers.ensures in
    record {
      places = all_next (λ (w : PlaceId × ℕ). w.0.0 < length c.args.network.now.initial) writes i (i + 1) (omega arith) c.written.invariant.places;
      keys = ap (λ (ks : List (Option ℕ)). length ks) c.touch_leaves.ensures ∙ (touched_long c.importers.result.now keys ∙ c.written.invariant.keys);
      done = ap (touched_all parts (drop (i + 1) writes)) is ∙ (sym (touched_all_next parts writes i (i + 1) _ keys (omega arith) (omega (arith, c.written-test.true))) ∙ c.written.invariant.done);
    }
