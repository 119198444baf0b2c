use Rattle.std.proofs.Common.{All, ℕ, List, Option, Some, ap, arith, drop, length, subst, sym, ◌+◌, ◌<◌, ◌≡◌, ◌∙◌}
use Rattle.std.proofs.lemmas.List.{length-set}
use Rattle.san_base.specs.declared.numbers.LeafId.{LeafId}
use Rattle.san_speculation.specs.inner.Soonest.{touched}
use Rattle.san_speculation.proofs.Soonests.{all_next, touched_next}
use Rattle.san_speculation.proofs.soonest.touch_leaves.Goals as goal

pub leaves-preserved : goal.leaves-preserved
leaves-preserved c =
    let keys = c.leaves.soonest in let i = c.leaves.leaf-index in let leaves = c.args.leaves.now in
    let long : length keys ≡ length c.touch.new.soonest = sym (ap (λ (ks : List (Option ℕ)). length ks) c.touch.ensures ∙ length-set keys _ (Some 0)) in
    record {
      there = subst (λ (n : ℕ). All (λ (leaf : LeafId). leaf.0 < n) (drop (i + 1) leaves)) long (all_next (λ (leaf : LeafId). leaf.0 < length keys) leaves i (i + 1) (omega arith) c.leaves.invariant.there);
      done = ap (touched (drop (i + 1) leaves)) c.touch.ensures ∙ (sym (touched_next leaves i (i + 1) _ keys (omega arith) (omega (arith, c.leaves-test.true))) ∙ c.leaves.invariant.done);
    }
