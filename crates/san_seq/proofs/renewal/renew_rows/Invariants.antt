use Rattle.std.proofs.Common.{◌≡◌, ◌+◌, ℕ, length}
use Rattle.san_draw.specs.Key.{draw_of}
use Rattle.san_law.specs.Network.{Limits}
use Rattle.san_law.specs.State.{State}
use Rattle.san_net.specs.Network.{net_of}
use Rattle.san_seq.specs.inner.Renewals.{AreRenewed}
use Rattle.san_seq.specs.inner.Rows.{AreDrawn, IsLike, row_at}
use Rattle.san_seq.proofs.RenewalLemmas.{AreLeft}
use Rattle.san_seq.proofs.renewal.renew_rows.Given as goal

abbrev pub invariant-leaves : goal.invariant-leaves
invariant-leaves l = record {
  renewed : (limits : Limits) (s : State) → s.time ≡ l.time → s.stable ≡ l.markings.stable.now → s.marking ≡ l.markings.present.now
      → AreRenewed (net_of l.flat (draw_of l.fn.streams.seed) limits) s l.fn.rows l.rows l.leaves l.k l.fault;
  left : AreLeft l.fn.rows l.rows l.leaves l.k;
  numbers : (most : ℕ) → AreDrawn most l.fn.rows → AreDrawn (most + 1) l.rows;
  like : (i : ℕ) → IsLike (row_at l.rows i) (row_at l.fn.rows i);
  sized : length l.rows ≡ length l.fn.rows;
  streams : l.streams ≡ l.fn.streams;
}
