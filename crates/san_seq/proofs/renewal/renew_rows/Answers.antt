use Rattle.std.proofs.Common.{arith, ◌∙◌, ◌+◌, ◌<◌, ◌≡◌, refl, sym, ap, subst, length, List, Result, ℕ, slice_index_or}
use Rattle.std.proofs.lemmas.List.{length-set}
use Rattle.std.proofs.lemmas.Option.{slice_get-get_or, slice_get_within}
use Rattle.san_base.specs.declared.limits.TheConstants.{MAX_DRAWS}
use Rattle.san_draw.specs.Key.{draw_of}
use Rattle.san_law.specs.Net.{Row, no_row}
use Rattle.san_law.specs.Renewal.{renewed_at}
use Rattle.san_net.specs.Network.{net_of}
use Rattle.san_seq.specs.inner.Renewals.{AreRenewed, FirstTrap, sooner_fault}
use Rattle.san_seq.specs.inner.Rows.{AreDrawn, IsLike, row_at}
use Rattle.san_seq.proofs.RenewalLemmas.{AreLeft, each_renewed, left_more, not_before, renewed_more, renewed_whole}
use Rattle.san_seq.proofs.RowLemmas.{drawn_set, like_set, rows_like}
use Rattle.san_seq.proofs.renewal.renew_rows.Goals as goal

pub overflow_cast-leaf : goal.overflow_cast-leaf
overflow_cast-leaf c =
    let here = slice_get-get_or c.list-leaves.result.now c.leaves.k 0 c.leaves-test.true in
    omega (arith, slice_get_within c.args.stale.now _ _ (c.list-leaves.ensures.up c.leaves.k _ here), c.requires.flags, c.is_network.ensures.network.small.leaves)

pub renew-done-requires-clause-leaf : goal.renew-done-requires-clause-leaf
renew-done-requires-clause-leaf c =
    let here = slice_get-get_or c.list-leaves.result.now c.leaves.k 0 c.leaves-test.true in
    omega (arith, slice_get_within c.args.stale.now _ _ (c.list-leaves.ensures.up c.leaves.k _ here), c.requires.flags)

pub renew-done-requires-clause-rows : goal.renew-done-requires-clause-rows
renew-done-requires-clause-rows c = rows_like c.args.flat.now.parts c.args.rows.now c.leaves.rows c.requires.rows c.leaves.invariant.sized c.leaves.invariant.like

pub renew-done-requires-clause-numbers : goal.renew-done-requires-clause-numbers
renew-done-requires-clause-numbers c =
    let at = slice_index_or c.list-leaves.result.now c.leaves.k 0 in
    let here = slice_get-get_or c.list-leaves.result.now c.leaves.k 0 c.leaves-test.true in
    let left = c.leaves.invariant.left at (not_before c.list-leaves.result.now c.args.stale.now c.list-leaves.ensures c.leaves.k at here) in
    subst (λ (r : Row). Rattle.std.proofs.Common.All (λ n. n + 1 < MAX_DRAWS) r.delays) (sym left) (c.requires.numbers at)

pub leaves-preserved : goal.leaves-preserved
leaves-preserved c =
    let n = c.args.flat.now in
    let draw = draw_of c.args.streams.now.seed in
    let leaves = c.list-leaves.result.now in
    let at = slice_index_or leaves c.leaves.k 0 in
    let here = slice_get-get_or leaves c.leaves.k 0 c.leaves-test.true in
    let h : at < length c.leaves.rows = omega (arith, slice_get_within c.args.stale.now _ _ (c.list-leaves.ensures.up c.leaves.k _ here), c.requires.flags, c.leaves.invariant.sized, c.requires.rows.each) in
    let r = row_at c.leaves.rows at in
    let new = row_at c.renew-done.new.self at in
    let left = c.leaves.invariant.left at (not_before leaves c.args.stale.now c.list-leaves.ensures c.leaves.k at here) in
    let others = c.renew-done.ensures.others in
    record {
      renewed = λ limits s clock seen now.
          let net = net_of n draw limits in
          let did =
          c.renew-done.ensures.row limits s clock seen now
          ∙ ap (λ (seed : ℕ). renewed_at (net_of n (draw_of seed) limits) s at r) (ap (λ x. x.seed) c.leaves.invariant.streams) in
          subst (λ (f : FirstTrap). AreRenewed net s c.args.rows.now c.renew-done.new.self leaves (c.leaves.k + 1) f) (sym c.first_fault-fault.ensures)
          (subst (λ (rs : List Row). AreRenewed net s c.args.rows.now rs leaves (c.leaves.k + 1) (sooner_fault c.leaves.fault (record { 0 = at }) c.renew-done.result)) (sym others)
          (renewed_more net s c.args.rows.now c.leaves.rows leaves c.leaves.k c.leaves.fault (record { 0 = at }) new c.renew-done.result h c.leaves.invariant.sized here
          (λ i e. c.list-leaves.ensures.once i c.leaves.k at e here) left did (c.leaves.invariant.renewed limits s clock seen now)));
      left = subst (λ (rs : List Row). AreLeft c.args.rows.now rs leaves (c.leaves.k + 1)) (sym others) (left_more c.args.rows.now c.leaves.rows leaves c.leaves.k at new here c.leaves.invariant.left);
      numbers = λ most before. subst (λ (rs : List Row). AreDrawn (most + 1) rs) (sym others)
          (drawn_set c.args.rows.now c.leaves.rows at r no_row new h refl left most before (c.leaves.invariant.numbers most before) (c.renew-done.ensures.numbers most));
      like = subst (λ (rs : List Row). (i : ℕ) → IsLike (row_at rs i) (row_at c.args.rows.now i)) (sym others)
          (like_set c.args.rows.now c.leaves.rows at r no_row new h refl left c.leaves.invariant.like c.renew-done.ensures.like);
      sized = ap length others ∙ length-set c.leaves.rows at new ∙ c.leaves.invariant.sized;
      streams = c.renew-done.ensures.streams ∙ c.leaves.invariant.streams;
    }

pub returns-clause-rows : goal.returns-clause-rows
returns-clause-rows c = λ limits s clock seen now.
    let n = c.args.flat.now in
    let draw = draw_of c.args.streams.now.seed in
    let so = c.leaves.invariant.renewed limits s clock seen now in
    renewed_whole (net_of n draw limits) s c.args.rows.now c.leaves.rows c.leaves.fault c.leaves.invariant.sized
    (each_renewed n draw limits s c.args.stale.now c.list-leaves.result.now c.args.time c.args.markings.now.stable.now c.args.markings.now.present.now c.args.rows.now c.leaves.rows c.leaves.k c.leaves.fault
    clock seen now c.requires.idle c.list-leaves.ensures c.requires.flags c.leaves-test.false c.requires.rows.each c.leaves.invariant.left so)
    so.first
