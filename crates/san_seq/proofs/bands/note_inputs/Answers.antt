use Rattle.std.proofs.Common.{subst, take}
use Rattle.std.specs.Prelude.{IfSome}
use Rattle.std.proofs.lemmas.List.Elements.{All-more}
use Rattle.san_net.specs.declared.activity.Input.{Input}
use Rattle.san_seq.specs.inner.Wakes.{Stands, weight_at}
use Rattle.san_seq.proofs.BandLemmas.{gains_both}
use Rattle.san_seq.proofs.WeightLemmas.{inputs_weaker}
use Rattle.san_seq.proofs.bands.note_inputs.Goals as goal

pub inputs-preserved : goal.inputs-preserved
inputs-preserved c =
    let cell = c.args.cell in
    let j = c.args.leaf.0 in
    let mid = c.inputs.bands.items in
    let new = c.note_input.new.bands.items in
    let gains = c.in_ok-note_input.ensures.gains in
    record {
      gains = gains_both c.args.leaf c.args.bands.now.items mid new c.inputs.invariant.gains gains;
      there = All-more (λ (i : Input). IfSome (weight_at i cell) (λ w. Stands new w j)) c.args.inputs.now c.inputs.k c.index-inputs-k.result c.inputs-test.true
          (inputs_weaker cell (λ w. Stands mid w j) (λ w. Stands new w j) (λ w s. gains.kept w j s) (take c.inputs.k c.args.inputs.now) c.inputs.invariant.there)
          (subst (λ (i : Input). IfSome (weight_at i cell) (λ w. Stands new w j)) c.index-inputs-k.is c.in_ok-note_input.ensures.there);
    }
