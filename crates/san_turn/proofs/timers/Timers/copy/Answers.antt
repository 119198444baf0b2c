use Rattle.std.proofs.Common.{ℕ, List, ◌≡◌, ◌∙◌, ap, arith, None}
use Rattle.std.proofs.lemmas.List.{ext_get_or}
use Rattle.san_turn.proofs.Timed.{value}
use Rattle.san_turn.proofs.timers.Timers.copy.Goals as goal

pub returns : goal.returns
returns c =
    let keys : c.leaves.keys ≡ c.self.inside.keys = ext_get_or None c.leaves.keys c.self.inside.keys c.leaves.invariant.sized
    (λ i h. c.leaves.invariant.same i (omega (arith, h, c.leaves.invariant.sized, c.leaves-test.false, c.leaves.auto.leaf-end, c.len-leaf-end.ensures))) in
    ap (value c.in_ok-firsts.firsts.items c.in_ok-acts.acts.items) keys
    ∙ ap (λ (xs : List ℕ). value xs c.in_ok-acts.acts.items c.self.inside.keys) (c.in_ok-firsts.ensures.items_if_clones_equal (λ x y e. e) ∙ c.deref.ensures.value)
    ∙ ap (λ (xs : List ℕ). value c.self.inside.firsts.items xs c.self.inside.keys) (c.in_ok-acts.ensures.items_if_clones_equal (λ x y e. e) ∙ c.deref-2.ensures.value)
    ∙ c.self.view_is
