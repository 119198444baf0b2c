use Rattle.std.proofs.Common.{subst}
use Rattle.san_law.specs.Trajectory.{trajectory}
use Rattle.san_plain.specs.Reports.{Opened, net_by, summary_of}
use Rattle.san_plain.specs.inner.Progress.{RunsOut, left_after}
use Rattle.san_plain.proofs.SummaryLemmas.{summary_over, summary_sent}
use Rattle.san_plain.proofs.run.Run.summarize.Goals as goal

pub finish-requires-clause-within : goal.finish-requires-clause-within
finish-requires-clause-within g c =
    let o = c.args.self in
    let held = g.K.Sink.held c.args.sink.now in
    let run = c.run_out-out.new.self in
    let out = c.run_out-out.result in
    let ran : RunsOut o out run = subst (λ (p : Opened). RunsOut p out run) c.self.view_is c.run_out-out.ensures in
    let left = left_after o ran.events (trajectory (net_by o) ran.state) in
    let before = summary_sent o out run ran held c.self.inside.progress.pages c.self.invariant.page in
    (summary_over o out run ran c.put_last.new.progress.run held (g.K.Sink.held c.put_last.new.sink) c.put_last.new.progress.pages c.in-Ok.ensures.run (c.in-Ok.ensures.report (summary_of o) left held before)).within

pub returns-in-Ok-clause-report : goal.returns-in-Ok-clause-report
returns-in-Ok-clause-report g c =
    let o = c.args.self in
    let held = g.K.Sink.held c.args.sink.now in
    let run = c.run_out-out.new.self in
    let out = c.run_out-out.result in
    let ran : RunsOut o out run = subst (λ (p : Opened). RunsOut p out run) c.self.view_is c.run_out-out.ensures in
    let left = left_after o ran.events (trajectory (net_by o) ran.state) in
    let before = summary_sent o out run ran held c.self.inside.progress.pages c.self.invariant.page in
    c.finish.ensures.report o (summary_of o) held (summary_over o out run ran c.put_last.new.progress.run held (g.K.Sink.held c.put_last.new.sink) c.put_last.new.progress.pages c.in-Ok.ensures.run (c.in-Ok.ensures.report (summary_of o) left held before))

pub returns-clause-report : goal.returns-clause-report
returns-clause-report g c =
    let o = c.args.self in
    let held = g.K.Sink.held c.args.sink.now in
    let run = c.run_out-out.new.self in
    let out = c.run_out-out.result in
    let ran : RunsOut o out run = subst (λ (p : Opened). RunsOut p out run) c.self.view_is c.run_out-out.ensures in
    let left = left_after o ran.events (trajectory (net_by o) ran.state) in
    let before = summary_sent o out run ran held c.self.inside.progress.pages c.self.invariant.page in
    c.in-Err.ensures.report (summary_of o) left held before
