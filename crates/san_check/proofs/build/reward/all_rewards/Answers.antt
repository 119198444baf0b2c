use Rattle.san_check.specs.build.Reward.{reward_of}
use Rattle.san_check.proofs.LoopLemmas.{map_turn}
use Rattle.san_check.proofs.build.reward.all_rewards.Goals as goal

pub rewards-preserved : goal.rewards-preserved
rewards-preserved c =
    map_turn (reward_of c.args.atomics.now) c.args.decls.now c.rewards.decl-index c.decl-item.result c.rewards.made.items c.push.new.self.items c.in_ok-next.next c.rewards-test.true c.decl-item.is c.in_ok-push.ensures.items c.in_ok-next.ensures c.rewards.invariant
