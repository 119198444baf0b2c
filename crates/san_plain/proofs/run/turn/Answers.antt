use Rattle.std.proofs.Common.{sym, ◌∙◌, [], ◌∷◌, ◌++◌}
use Rattle.san_law.specs.Step as law
use Rattle.san_law.specs.Trajectory.{trajectory}
use Rattle.san_plain.specs.Reports.{net_by, report_of}
use Rattle.san_plain.specs.inner.Progress.{left_after}
use Rattle.san_plain.proofs.EndLemmas.{is_over}
use Rattle.san_plain.proofs.TurnLemmas.{sent_line}
use Rattle.san_plain.proofs.run.turn.Goals as goal

pub put-requires : goal.put-requires
put-requires g c = let r = c.requires in (c.in-Ok.ensures r.0 r.1 r.2 r.3).inside

pub returns-then-put-clause-report : goal.returns-then-put-clause-report
returns-then-put-clause-report g c = λ o first under.
    let old = c.args.progress.now in
    let h = c.in-Ok.ensures o under.0 under.1 under.2 in
    let t = (law.step (net_by o) under.1).1 in (
      (
        under.0 ++ h.happened ∷ [],
        t,
        h.stands,
        c.if-put.ensures.bytes (report_of o) (left_after o (under.0 ++ h.happened ∷ []) (trajectory (net_by o) t)) first
            (sent_line o under.0 under.1 old.run under.2 c.in-Ok.event h.happened h.happens h.event_is c.step.new.self.flat.now first (g.K.Sink.held c.args.sink.now) old.pages (h.stands.of_network ∙ sym under.2.of_network) under.3),
      ),
      h.fewer,
    )

pub returns-else-put-clause-report : goal.returns-else-put-clause-report
returns-else-put-clause-report g c = λ o first under.
    let old = c.args.progress.now in
    let h = c.in-Ok.ensures o under.0 under.1 under.2 in
    let t = (law.step (net_by o) under.1).1 in
    c.if-put.ensures.bytes (report_of o) (left_after o (under.0 ++ h.happened ∷ []) (trajectory (net_by o) t)) first
    (sent_line o under.0 under.1 old.run under.2 c.in-Ok.event h.happened h.happens h.event_is c.step.new.self.flat.now first (g.K.Sink.held c.args.sink.now) old.pages (h.stands.of_network ∙ sym under.2.of_network) under.3)

pub returns-in-Err-clause-report : goal.returns-in-Err-clause-report
returns-in-Err-clause-report g c = λ o first under.
    is_over o under.0 under.1 c.args.progress.now.run under.2 (report_of o) first (g.K.Sink.held c.args.sink.now) c.args.progress.now.pages c.in-Err.ending c.step.new.self (c.in-Err.ensures o under.0 under.1 under.2) under.3
