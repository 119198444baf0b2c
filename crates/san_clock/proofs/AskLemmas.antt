-- What a leaf's values are asked for, over a plain view.
use Rattle.std.proofs.Common.{ℕ, ℤ, ◌≡◌, ◌∙◌, ap, sym, refl, subst, List, Result, Ok, Err, Bool}
use Rattle.san_base.specs.declared.ending.Trap.{Trap}
use Rattle.san_clock.specs.inner.Asking.{truth}
use Rattle.san_expr.specs.Concerns.{AssignsNothing}
use Rattle.san_expr.specs.Delay.{delay_of}
use Rattle.san_expr.specs.Meaning.{Meaning}
use Rattle.san_expr.specs.Meets.{Evaluates, Meets}
use Rattle.san_expr.specs.Value.{value_of}
use Rattle.san_expr.specs.View.{ViewState, plain}
use Rattle.san_expr.specs.declared.dist.Dist.{Dist}
use Rattle.san_expr.specs.declared.expr.Expr.{Expr}
use Rattle.san_expr.proofs.WholeLemmas.{delay_reads, plain_meets, value_reads}
use Rattle.san_net.specs.Enabled.{enabled_of, truth_of}
use Rattle.san_net.specs.Leaf.{answer_by, enabled_in, holds_in}
use Rattle.san_net.specs.declared.activity.Activity.{Activity}
use Rattle.san_net.proofs.ConcernLemmas.{enabling_reads}

module _ (s t : ViewState) (values left : List ℕ) (was : s ≡ plain values) (now : t ≡ plain left) where
  asked : {T : Type 0} (a : Meaning T) (r : Result T Trap) → AssignsNothing a → Evaluates s t a r → ((a values).answer ≡ r) × (left ≡ values)
  asked a r nothing did =
      let met = plain_meets values left a r (subst (λ (x : ViewState). Meets (plain values) x a r) now (subst (λ (x : ViewState). Meets x t a r) was did.meets)) in
      (met.0, met.1 ∙ (nothing values).0)

  pub enabled_is : (a : Activity) (r : Result Bool Trap) → Evaluates s t (enabled_of a) r → (answer_by r ≡ enabled_in a values) × (left ≡ values)
  enabled_is a r did = let l = asked (enabled_of a) r (enabling_reads a) did in (ap answer_by (sym l.0), l.1)

  truth_by : (e : Expr) (v : List ℕ) (r : Result ℤ Trap) → (value_of e v).answer ≡ r → (truth_of e v).answer ≡ truth r
  truth_by e v r is = go ((value_of e v).answer) r is refl
    where
      go : (q r : Result ℤ Trap) → q ≡ r → (value_of e v).answer ≡ q → (truth_of e v).answer ≡ truth r
      go q (Ok x) same at = rw (at ∙ same) refl
      go q (Err trap) same at = rw (at ∙ same) refl

  pub truth_is : (e : Expr) (r : Result ℤ Trap) → Evaluates s t (value_of e) r → (answer_by (truth r) ≡ holds_in e values) × (left ≡ values)
  truth_is e r did = let l = asked (value_of e) r (value_reads e) did in (ap answer_by (sym (truth_by e values r l.0)), l.1)

  pub delay_is : (d : Dist) (u : ℕ) (r : Result ℕ Trap) → Evaluates s t (delay_of d u) r → (r ≡ (delay_of d u values).answer) × (left ≡ values)
  delay_is d u r did = let l = asked (delay_of d u) r (delay_reads d u) did in (sym l.0, l.1)
