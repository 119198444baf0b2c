use Rattle.std.proofs.Common.{◌≡◌, rules, Some}
use Rattle.san_plain.proofs.SummaryLemmas.{line_put}
use Rattle.san_plain.proofs.run.put_last.Goals as goal

pub returns-else-put-clause-report : goal.returns-else-put-clause-report
returns-else-put-clause-report g c = λ text rest first sent.
    let old = c.args.progress.now in
    let is : c.args.last ≡ Some (c.in-Some.number, c.in-Some.event) = first_of (cc, search rules) in
    c.if-put.ensures.bytes text rest first (line_put old.run.flat.now c.args.last c.in-Some.number c.in-Some.event first (g.K.Sink.held c.args.sink.now) old.pages text rest is sent)
