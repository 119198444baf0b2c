use Rattle.std.proofs.Common.{arith, ◌≡◌, ◌∙◌, ◌<◌, ap, sym, subst, length, take, false, replicate, Bool, List, slice_index_or}
use Rattle.std.proofs.lemmas.List.{length-set}
use Rattle.std.proofs.lemmas.Option.{slice_get-get_or, slice_get_within}
use Rattle.san_seq.specs.inner.Flagged.{IsListed}
use Rattle.san_seq.proofs.FlaggedLemmas.{front_sized, left_first, left_less, none_left, none_listed}
use Rattle.san_seq.proofs.stale.take_down.Goals as goal

pub slice_bounds-up-end : goal.slice_bounds-up-end
slice_bounds-up-end c = front_sized c.args.flags.now c.args.list.now c.args.count c.requires

pub list-init : goal.list-init
list-init c = record { sized = Rattle.std.proofs.Common.refl; left = left_first c.args.flags.now (take c.args.count c.args.list.now) c.requires.listed }

pub bounds-flags-at : goal.bounds-flags-at
bounds-flags-at c =
    let here = slice_get-get_or (take c.args.count c.args.list.now) c.list.k 0 c.list-test.true in
    omega (arith, slice_get_within c.args.flags.now _ _ (c.requires.listed.up c.list.k _ here), c.list.invariant.sized)

pub list-preserved : goal.list-preserved
list-preserved c =
    let up = take c.args.count c.args.list.now in
    let at = slice_index_or up c.list.k 0 in
    let here = slice_get-get_or up c.list.k 0 c.list-test.true in
    let h : at < length c.list.flags = omega (arith, slice_get_within c.args.flags.now _ _ (c.requires.listed.up c.list.k _ here), c.list.invariant.sized) in
    record {
      sized = length-set c.list.flags at false ∙ c.list.invariant.sized;
      left = left_less c.list.flags up c.list.k at h here c.list.invariant.left;
    }

pub returns-clause-flags : goal.returns-clause-flags
returns-clause-flags c = none_left c.list.flags (take c.args.count c.args.list.now) c.list.k c.list-test.false c.list.invariant.left ∙ ap (λ n. replicate n false) c.list.invariant.sized

pub returns-clause-listed : goal.returns-clause-listed
returns-clause-listed c =
    let down = none_left c.list.flags (take c.args.count c.args.list.now) c.list.k c.list-test.false c.list.invariant.left ∙ ap (λ n. replicate n false) c.list.invariant.sized in
    subst (λ (fs : List Bool). IsListed fs c.args.list.now 0) (sym down) (none_listed (length c.args.flags.now) c.args.list.now c.requires.room)
