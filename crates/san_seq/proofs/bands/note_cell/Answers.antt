use Rattle.std.proofs.Common.{take}
use Rattle.std.proofs.lemmas.List.Elements.{All-more}
use Rattle.san_net.specs.Instants.{Named}
use Rattle.san_seq.specs.inner.Wakes.{EachOfAct, Stands}
use Rattle.san_seq.proofs.BandLemmas.{gains_both}
use Rattle.san_seq.proofs.WeightLemmas.{each_weaker}
use Rattle.san_seq.proofs.bands.note_cell.Goals as goal

pub acts-preserved : goal.acts-preserved
acts-preserved c =
    let cell = c.args.cell in
    let j = c.args.leaf.0 in
    let x = c.args.concern in
    let mid = c.acts.bands.items in
    let new = c.note_act.new.bands.items in
    let gains = c.in_ok-note_act.ensures.gains in
    record {
      gains = gains_both c.args.leaf c.args.bands.now.items mid new c.acts.invariant.gains gains;
      there = All-more (λ (a : Named). EachOfAct x a.1 cell (λ w. Stands new w j)) c.args.acts.now c.acts.k c.index-acts-k.result c.acts-test.true
          (each_weaker cell (λ w. Stands mid w j) (λ w. Stands new w j) (λ w s. gains.kept w j s) x (take c.acts.k c.args.acts.now) c.acts.invariant.there)
          c.in_ok-note_act.ensures.there;
    }
