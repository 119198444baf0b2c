use Rattle.std.proofs.Common.{take}
use Rattle.san_seq.specs.inner.Wakes.{EachOf, Gains, Stands}
use Rattle.san_seq.proofs.bands.note_inputs.Given as goal

abbrev pub invariant-inputs : goal.invariant-inputs
invariant-inputs l = record {
  gains : Gains l.leaf l.initial.bands.items l.bands.items;
  there : EachOf (take l.k l.inputs) l.cell (λ w. Stands l.bands.items w l.leaf.0);
}
