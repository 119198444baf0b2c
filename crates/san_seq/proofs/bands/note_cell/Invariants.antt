use Rattle.std.proofs.Common.{take}
use Rattle.san_seq.specs.inner.Wakes.{EachWeight, Gains, Stands}
use Rattle.san_seq.proofs.bands.note_cell.Given as goal

abbrev pub invariant-acts : goal.invariant-acts
invariant-acts l = record {
  gains : Gains l.leaf l.initial.bands.items l.bands.items;
  there : EachWeight l.concern (take l.k l.acts) l.cell (λ w. Stands l.bands.items w l.leaf.0);
}
