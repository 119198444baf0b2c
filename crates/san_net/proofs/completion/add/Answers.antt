use Rattle.std.proofs.Common.{ℤ, pos}
use Rattle.std.specs.Prelude.{◌+ℤ◌}
use Rattle.std.proofs.lemmas.Result.{err_from_is_err_and}
use Rattle.san_net.proofs.CompletionLemmas.{meets_arc, meets_arc_trap}
use Rattle.san_net.proofs.completion.add.Goals as goal

pub returns : goal.returns
returns g c =
    let view_state = g.V.Marked.view_state in
    meets_arc (view_state c.args.view.now) (view_state c.read.new.self) (view_state c.set.new.self) c.args.place c.read.result c.in_ok-count.count (λ (x : ℤ). x +ℤ pos c.args.weight) c.more.result
    c.requires c.read.ensures c.more.ensures c.in_ok-count.was c.set.ensures

pub returns-in_err-count : goal.returns-in_err-count
returns-in_err-count g c =
    let view_state = g.V.Marked.view_state in
    let p = err_from_is_err_and c.from_residual.result c.from_residual.ensures.1 in
    rw (p.1, p.2) (meets_arc_trap (view_state c.args.view.now) (view_state c.read.new.self) c.args.place c.read.result c.in_err-count.field-0.0 (λ (x : ℤ). x +ℤ pos c.args.weight) c.more.result
    c.requires c.read.ensures c.more.ensures c.in_err-count.was)
