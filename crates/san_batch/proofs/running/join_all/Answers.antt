use Rattle.std.proofs.Common.{◌∙◌, ◌+◌, ◌-◌, subst, sym, arith, ℕ}
use Rattle.san_batch.specs.inner.Shares.{IsBatch}
use Rattle.san_share.specs.Shares.{first_of}
use Rattle.san_share.proofs.ShareLemmas.{first_next}
use Rattle.san_batch.proofs.OutcomeLemmas.{can_join, runs_joined}
use Rattle.san_batch.proofs.running.join_all.Goals as goal

pub join-requires : goal.join-requires
join-requires c =
    let is = c.requires.shares.is c.shares.share-index c.in-Ok.share c.share-item.result (omega (arith, c.shares-test.true)) (sym c.share-item.is ∙ c.in-Ok.is) in
    let e = first_next c.args.each c.args.runs c.shares.share-index in
    can_join c.args.flat.now c.args.limits c.args.seed (first_of c.args.each c.args.runs c.shares.share-index) (first_of c.args.each c.args.runs (c.shares.share-index + 1) - first_of c.args.each c.args.runs c.shares.share-index)
    c.shares.all c.in-Ok.share c.shares.invariant is (omega (arith, e.0, e.1, c.requires.runs))

pub shares-preserved : goal.shares-preserved
shares-preserved c =
    let is = c.requires.shares.is c.shares.share-index c.in-Ok.share c.share-item.result (omega (arith, c.shares-test.true)) (sym c.share-item.is ∙ c.in-Ok.is) in
    let e = first_next c.args.each c.args.runs c.shares.share-index in
    subst (λ (k : ℕ). IsBatch c.args.flat.now c.args.limits c.args.seed k c.join.new.self) e.0
    (runs_joined c.args.flat.now c.args.limits c.args.seed (first_of c.args.each c.args.runs c.shares.share-index) (first_of c.args.each c.args.runs (c.shares.share-index + 1) - first_of c.args.each c.args.runs c.shares.share-index)
    c.shares.all c.in-Ok.share c.join.new.self c.shares.invariant is c.join.ensures)
