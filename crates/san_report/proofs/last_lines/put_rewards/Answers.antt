use Rattle.std.proofs.Common.{arith, ◌++◌, ◌+◌, drop}
use Rattle.san_report.specs.Closings.{worths_by}
use Rattle.san_report.specs.Lines.{reward_lines}
use Rattle.san_report.proofs.LastLineLemmas.{sent_next, sent_rewards}
use Rattle.san_report.proofs.last_lines.put_rewards.Goals as goal

pub returns-then-not-put-clause-bytes : goal.returns-then-not-put-clause-bytes
returns-then-not-put-clause-bytes g c = λ whole rest first sent.
    c.if-not-put.ensures.bytes whole (reward_lines (drop (c.rewards.at + 1) c.args.flat.now.rewards) (c.rewards.at + 1) (worths_by c.args.tally.now c.args.ending) ++ rest) first
    (sent_next first (g.K.Sink.held c.rewards.sink) c.rewards.pages whole rest c.rewards-reward-items.result.now c.args.flat.now.rewards c.rewards.at c.reward-item.result (worths_by c.args.tally.now c.args.ending) c.worth_at-worth.result c.rewards-reward-items.ensures c.rewards-test.true c.reward-item.is c.worth_at-worth.ensures
    (c.rewards.invariant.sent whole rest first sent))

pub rewards-preserved : goal.rewards-preserved
rewards-preserved g c = record {
  sent = λ whole rest first sent.
      c.if-not-put.ensures.bytes whole (reward_lines (drop (c.rewards.at + 1) c.args.flat.now.rewards) (c.rewards.at + 1) (worths_by c.args.tally.now c.args.ending) ++ rest) first
      (sent_next first (g.K.Sink.held c.rewards.sink) c.rewards.pages whole rest c.rewards-reward-items.result.now c.args.flat.now.rewards c.rewards.at c.reward-item.result (worths_by c.args.tally.now c.args.ending) c.worth_at-worth.result c.rewards-reward-items.ensures c.rewards-test.true c.reward-item.is c.worth_at-worth.ensures
      (c.rewards.invariant.sent whole rest first sent));
  later = omega (arith, c.rewards.invariant.later, c.put.ensures.later);
}

pub returns-clause-bytes : goal.returns-clause-bytes
returns-clause-bytes g c = λ whole rest first sent.
    sent_rewards first (g.K.Sink.held c.rewards.sink) c.rewards.pages whole rest c.rewards-reward-items.result.now c.args.flat.now.rewards c.rewards.at (worths_by c.args.tally.now c.args.ending) c.rewards-reward-items.ensures c.rewards-test.false
    (c.rewards.invariant.sent whole rest first sent)
