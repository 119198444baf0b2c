use Rattle.std.proofs.Common.{ℕ, ◌+◌, ◌∙◌, ap}
use Rattle.san_passage.specs.Passages.{passage_of}
use Rattle.san_passage.proofs.TotalLemmas.{no_run, run_after}
use Rattle.san_passage.proofs.worker.sum_up.Goals as goal

pub runs-init : goal.runs-init
runs-init g c = no_run c.args.flat.now c.args.limits (g.M.Condition.holds c.args.until.now.0) c.args.seed c.none-all.result c.none-all.ensures

pub runs-preserved : goal.runs-preserved
runs-preserved g c =
    run_after c.args.flat.now c.args.limits (g.M.Condition.holds c.args.until.now.0) c.args.seed c.runs.k c.runs.all c.with-all.result c.in_ok-passage.passage c.runs.invariant
    (c.in_ok-passage.ensures ∙ ap (λ (k : ℕ). passage_of c.args.flat.now (c.args.seed + k) c.args.limits (g.M.Condition.holds c.args.until.now.0)) c.from.ensures)
    c.with-all.ensures.value c.with-all.ensures.sum
