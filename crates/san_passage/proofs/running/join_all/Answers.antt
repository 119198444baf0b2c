use Rattle.std.proofs.Common.{◌+◌, ◌-◌, subst, arith, ℕ}
use Rattle.san_share.specs.Shares.{first_of}
use Rattle.san_share.proofs.ShareLemmas.{first_next}
use Rattle.san_summary.specs.declared.batch.TheConstants.{MAX_RUNS}
use Rattle.san_passage.specs.inner.Joined.{IsShare}
use Rattle.san_passage.proofs.TotalLemmas.{at_most, runs_joined}
use Rattle.san_passage.proofs.running.join_all.Goals as goal

pub and-all-requires-clause-first : goal.and-all-requires-clause-first
and-all-requires-clause-first g c =
    let e = first_next c.args.each c.args.seeds.runs c.shares.share-index in
    at_most c.args.flat.now c.args.limits (g.C.Condition.holds c.args.condition) c.args.seeds.first (first_of c.args.each c.args.seeds.runs c.shares.share-index) MAX_RUNS c.shares.all (omega (arith, e.0, e.1, c.requires.runs)) c.shares.invariant

pub and-all-requires-clause-second : goal.and-all-requires-clause-second
and-all-requires-clause-second g c =
    let e = first_next c.args.each c.args.seeds.runs c.shares.share-index in
    let x = first_of c.args.each c.args.seeds.runs c.shares.share-index in
    let is = c.requires.shares.is c.shares.share-index c.in-Ok.share _ (omega (arith, c.shares-test.true)) c.in-Ok.is in
    at_most c.args.flat.now c.args.limits (g.C.Condition.holds c.args.condition) (c.args.seeds.first + x) (first_of c.args.each c.args.seeds.runs (c.shares.share-index + 1) - x) MAX_RUNS c.in-Ok.share (omega (arith, e.0, e.1, c.requires.runs)) is

pub shares-preserved : goal.shares-preserved
shares-preserved g c =
    let e = first_next c.args.each c.args.seeds.runs c.shares.share-index in
    let x = first_of c.args.each c.args.seeds.runs c.shares.share-index in
    let is = c.requires.shares.is c.shares.share-index c.in-Ok.share _ (omega (arith, c.shares-test.true)) c.in-Ok.is in
    subst (λ (k : ℕ). IsShare c.args.flat.now c.args.limits (g.C.Condition.holds c.args.condition) c.args.seeds.first k c.and-all.result) e.0
    (runs_joined c.args.flat.now c.args.limits (g.C.Condition.holds c.args.condition) c.args.seeds.first x (first_of c.args.each c.args.seeds.runs (c.shares.share-index + 1) - x) c.shares.all c.in-Ok.share c.and-all.result c.shares.invariant is c.and-all.ensures)
