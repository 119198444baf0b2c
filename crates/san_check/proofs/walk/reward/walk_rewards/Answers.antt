use Rattle.std.proofs.Common.{List, [], ◌∷◌, refl, ap, ◌∙◌}
use Rattle.san_check.specs.inner.Walks.{seen, seen_all}
use Rattle.san_check.proofs.LoopLemmas.{entries_turn}
use Rattle.san_check.specs.Tables.{declared}
use Rattle.san_check.specs.walk.Activity.{ActNames}
use Rattle.san_check.specs.walk.Reward.{reward_code, reward_entries, rewards_entries}
use Rattle.san_text.specs.declared.syntax.RewardDecl.{RewardDecl}
use Rattle.san_check.proofs.walk.reward.walk_rewards.Goals as goal

pub rewards-preserved : goal.rewards-preserved
rewards-preserved c =
    let d = c.index-decls-n.result in
    let models = c.args.models.now in
    entries_turn (λ (t : ActNames) n (rs : List RewardDecl). rewards_entries models t n rs) (λ (t : ActNames) n more (r : RewardDecl). reward_code t n r.name ∷ reward_entries models r) (λ (t : ActNames) (r : RewardDecl). declared t r.name tt) (λ t n d ds. refl)
    c.args.decls.now c.rewards.n d c.rewards.rewards c.declare.new.self c.rewards.walk c.walk_reward.new.walk (seen_all c.args.walk.now (rewards_entries models [] 0 c.args.decls.now))
    c.rewards-test.true c.index-decls-n.is
    (c.walk_reward.ensures ∙ ap (λ x. seen_all x (reward_entries models d)) (c.see.ensures ∙ ap (seen c.rewards.walk) c.reward_code.ensures))
    (c.in_ok-declare.ensures ∙ ap (λ n. declared c.rewards.rewards n tt) c.as_bytes.ensures.value) c.rewards.invariant
