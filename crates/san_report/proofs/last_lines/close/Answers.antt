use Rattle.std.proofs.Common.{[]}
use Rattle.san_report.specs.Closings.{worths_by}
use Rattle.san_report.specs.Lines.{reward_lines}
use Rattle.san_report.proofs.LastLineLemmas.{flushed, sent_last}
use Rattle.san_report.proofs.last_lines.close.Goals as goal

pub returns-then-not-put-clause-bytes : goal.returns-then-not-put-clause-bytes
returns-then-not-put-clause-bytes g c = λ whole first sent.
    c.if-not-put.ensures.bytes whole (reward_lines c.args.flat.now.rewards 0 (worths_by c.args.tally.now c.args.ending)) first sent

pub returns-then-not-put_rewards-clause-bytes : goal.returns-then-not-put_rewards-clause-bytes
returns-then-not-put_rewards-clause-bytes g c = λ whole first sent.
    let lines = reward_lines c.args.flat.now.rewards 0 (worths_by c.args.tally.now c.args.ending) in
    c.if-not-put_rewards.ensures.bytes whole [] first
    (sent_last first (g.K.Sink.held c.put.new.sink) c.put.new.self whole lines (c.if-not-put.ensures.bytes whole lines first sent))

pub returns-clause-bytes : goal.returns-clause-bytes
returns-clause-bytes g c = λ whole first sent.
    let lines = reward_lines c.args.flat.now.rewards 0 (worths_by c.args.tally.now c.args.ending) in
    flushed c.flush.result first (g.K.Sink.held c.flush.new.sink) whole
    (c.flush.ensures.bytes whole [] first
    (c.if-not-put_rewards.ensures.bytes whole [] first
    (sent_last first (g.K.Sink.held c.put.new.sink) c.put.new.self whole lines (c.if-not-put.ensures.bytes whole lines first sent))))
